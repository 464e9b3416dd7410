-- What each step tells its caller.
use Rattle.std.specs.Prelude.{◌≡◌, ◌≢◌, ℕ, ◌*◌, ◌<◌, ◌≤◌, List, [], ◌∷◌, length, Option, Some, All}
use mathlib.Core.List.{IsPrefix}
use Rattle.atomic_table.specs.Table.{Me, Step}
use Rattle.esa_turnstile.specs.declared.view.About.{About}
use Rattle.esa_turnstile.specs.declared.view.Mark.{Mark}
use Rattle.esa_turnstile.specs.declared.view.Sight.{Sight}
use Rattle.esa_turnstile.specs.declared.view.View.{View}
use Rattle.esa_turnstile.specs.Entries.{times}
use Rattle.esa_turnstile.specs.Marks.{IsBelow}
use Rattle.esa_turnstile.specs.Views.{ticket, with_ticket, entered, gone}

abbrev Place : Type 0 → Type 0
Place T = Me (Option T) (View T)

-- what was heard of begins what was seen, with no greater mark and no other trail
pub record WasHeard (seen heard : Sight) : Type 0 where
  pub begins : IsPrefix heard.entries seen.entries
  pub mark : IsBelow heard.mark seen.mark

module _ {T : Type 0} where
  -- the ticket is the number found
  abbrev pub Draws : Step (Option T) → Place T → ℕ → Place T → Type 0
  Draws st m n m' = m' ≡ (with_ticket m.0 n, m.1)

  -- what was heard of begins what was seen, and the numbers of its passes stand there as often as they left them
  pub record HasHeard (v : View T) : Type 0 where
    pub heard : All (WasHeard v.seen) v.heard
    pub counts : All (λ m. times m.number v.seen.entries ≡ m.added) v.members

  abbrev pub Hears : Step (Option T) → Place T → ℕ → Place T → Type 0
  Hears st m n m' = (m' ≡ m) × HasHeard m.0

abbrev pub sight_of : {T : Type 0} → (T → List ℕ) → (T → Mark) → T → Sight
sight_of log_of mark x = record { entries = log_of x; mark = mark x }

module _ {T O : Type 0} (log_of : T → List ℕ) (origin : T → O) (IsSound : T → Type 0) (mark : T → Mark) where
  -- what a seat finds when it is its turn
  pub record IsFound (about : About T) (v : View T) (x : T) : Type 0 where
    pub begins : IsPrefix v.seen.entries (log_of x)
    pub own : All (λ m. times m.number (log_of x) ≡ m.added) v.members
    pub origin_is : origin x ≡ origin about.opened.value
    pub sound : IsSound x
    pub mark_above : IsBelow v.seen.mark (mark x)
    pub mark_same : length (log_of x) ≡ length v.seen.entries → mark x ≡ v.seen.mark
    pub named : All (λ n. n < about.passes) (log_of x)
    pub bounded : (n : ℕ) → times n (log_of x) ≤ about.tickets
    pub room : length (log_of x) < about.passes * about.tickets

  -- it is its turn where the serving word is its ticket
  abbrev pub Looks : Step (Option T) → Place T → ℕ → Place T → Type 0
  Looks st m n m' =
      (n ≡ ticket m.0.stage → (x : T) × (m' ≡ (entered m.0 (sight_of log_of mark x), (0, Some x) ∷ m.1)) × ((about : About T) → m.0.about ≡ Some about → IsFound about m.0 x))
      × (n ≢ ticket m.0.stage → m' ≡ m)

module _ {T : Type 0} (log_of : T → List ℕ) (mark : T → Mark) where
  -- the seat has seen the value that it gives back
  abbrev pub Advances : Step (Option T) → Place T → ℕ → Place T → Type 0
  Advances st m n m' = (x : T) → m.1 ≡ (0, Some x) ∷ [] → m' ≡ (gone m.0 (sight_of log_of mark x), [])
