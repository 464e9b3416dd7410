-- What contracts see of a turnstile and of its passes.
use Rattle.std.specs.Prelude.{◌≡◌, ℕ, ◌+◌, List, [], Option, Some, true}
use Rattle.esa_turnstile.specs.declared.view.Member.{Member}
use Rattle.esa_turnstile.specs.declared.view.Stage.TheVariants.{Outside}
use Rattle.esa_turnstile.specs.declared.view.View.{View}
use Rattle.atomic_table.specs.declared.shared.Seat.{Seat}
use Rattle.esa_turnstile.specs.declared.pass.Pass.{Pass}
use Rattle.esa_turnstile.specs.declared.turnstile.Turnstile.{Turnstile}
use Rattle.esa_turnstile.specs.Views.{held, first_added, is_inside, latest}

abbrev pub Place : Type 0 → Type 0
Place T = Seat (Option T) (View T)

module _ {T : Type 0} where
  abbrev pub number_of : Pass T → ℕ
  number_of p = p.number

  -- the entries that it has seen
  abbrev pub seen_of : Pass T → List ℕ
  seen_of p = p.seat.me.0.seen.entries

  -- the mark that it has seen
  abbrev pub mark_of : Pass T → ℕ
  mark_of p = p.seat.me.0.seen.mark.number

  -- the trail that it has seen
  abbrev pub trail_of : Pass T → List (List ℕ)
  trail_of p = p.seat.me.0.seen.mark.trail

  -- how often it has added its number
  abbrev pub added_of : Pass T → ℕ
  added_of p = first_added p.seat.me.0.members

  -- the tickets left to it. The one with which it is inside counts until it leaves
  abbrev pub left_of : Pass T → ℕ
  left_of p = p.seat.me.0.left + held p.seat.me.0.stage

  abbrev pub IsOutside : Pass T → Type 0
  IsOutside p = p.seat.me.0.stage ≡ Outside

  abbrev pub IsInside : Pass T → Type 0
  IsInside p = is_inside p.seat.me.0.stage ≡ true

  -- the entries that it found when it entered, the mark, and the trail
  abbrev pub found_of : Pass T → List ℕ
  found_of p = (latest p.seat.me.0).entries

  abbrev pub found_mark_of : Pass T → ℕ
  found_mark_of p = (latest p.seat.me.0).mark.number

  abbrev pub found_trail_of : Pass T → List (List ℕ)
  found_trail_of p = (latest p.seat.me.0).mark.trail

  -- a seat is the same one
  abbrev pub IsSameSeat : Place T → Place T → Type 0
  IsSameSeat old new = (new.table_id ≡ old.table_id) × (new.id ≡ old.id)

  abbrev pub member_of : Pass T → Member
  member_of p = record { number = number_of p; added = added_of p }

  -- a pass that has not entered yet, with its tickets and the mark of the first value
  pub record IsNewPass (tickets mark : ℕ) (p : Pass T) : Type 0 where
    pub outside : IsOutside p
    pub nothing_seen : seen_of p ≡ []
    pub mark_seen : mark_of p ≡ mark
    pub nothing_added : added_of p ≡ 0
    pub all_left : left_of p ≡ tickets

module _ {T O : Type 0} where
  -- how many passes it was made with
  abbrev pub passes_of : Turnstile T O → ℕ
  passes_of t = t.table.shared.key.passes

  -- how many tickets each of them got
  abbrev pub tickets_of : Turnstile T O → ℕ
  tickets_of t = t.table.shared.key.tickets

  -- the value that it was made with
  abbrev pub opened_of : Turnstile T O → T
  opened_of t = t.table.shared.key.opened.value

  abbrev pub IsSeatOf : Turnstile T O → Place T → Type 0
  IsSeatOf t s = (s.table_id ≡ t.table.shared.table_id) × (s.me.0.about ≡ Some t.table.shared.key)

  abbrev pub IsPassOf : Turnstile T O → Pass T → Type 0
  IsPassOf t p = IsSeatOf t p.seat
