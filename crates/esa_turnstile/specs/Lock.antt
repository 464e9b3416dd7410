-- The rule of the lock: what holds between any two steps, of the two words, the slot and what all seats know.
-- Word 0 is the next ticket to be drawn, and word 1 the ticket that is served.
use Rattle.std.specs.Prelude.{◌≡◌, ℕ, ◌+◌, ◌*◌, ◌^◌, ◌<◌, ◌≤◌, ◌⊎◌, true, false, List, [], ◌∷◌, length, Option, Some, IfSome, All, sum_by}
use mathlib.Core.List.{IsPrefix}
use mathlib.Core.Option.{none, some}
use lib.ListN.{get_elem?}
use Rattle.atomic_table.specs.Table.{State}
use Rattle.esa_turnstile.specs.declared.view.About.{About}
use Rattle.esa_turnstile.specs.declared.view.Mark.{Mark}
use Rattle.esa_turnstile.specs.declared.view.Member.{Member}
use Rattle.esa_turnstile.specs.declared.view.Sight.{Sight}
use Rattle.esa_turnstile.specs.declared.view.Stage.{Stage}
use Rattle.esa_turnstile.specs.declared.view.Stage.TheVariants.{Outside, Waiting, Inside}
use Rattle.esa_turnstile.specs.declared.view.View.{View}
use Rattle.esa_turnstile.specs.Entries.{times}
use Rattle.esa_turnstile.specs.Marks.{IsBelow}
use Rattle.esa_turnstile.specs.Views.{held, ticket, is_inside, added, left_in, held_in, members_in, bearers}

-- the number stands in the entries, and in what its seat has seen, as often as its pass has left it
pub record IsCounted (passes : ℕ) (log seen : List ℕ) (m : Member) : Type 0 where
  pub below : m.number < passes
  pub in_log : times m.number log ≡ m.added
  pub in_seen : times m.number seen ≡ m.added

-- what was seen begins these entries, with the mark that there was at so many entries
pub record IsEarlier (marks : ℕ → Mark) (entries : List ℕ) (s : Sight) : Type 0 where
  pub begins : IsPrefix s.entries entries
  pub marked : s.mark ≡ marks (length s.entries)

-- a ticket that waits was drawn and is not served yet; who is inside has the ticket that is served, and saw all entries
abbrev pub InStage : List ℕ → (ℕ → Mark) → ℕ → Stage → Type 0
InStage log marks drawn Outside = Unit {0}
InStage log marks drawn (Waiting t) = (length log ≤ t) × (t < drawn)
InStage log marks drawn (Inside s) = (length log < drawn) × (s.entries ≡ log) × (s.mark ≡ marks (length log))

-- what one seat knows is so
pub record Fits {T : Type 0} (about : About T) (log : List ℕ) (marks : ℕ → Mark) (drawn : ℕ) (v : View T) : Type 0 where
  pub told : IfSome v.about (λ a. (a ≡ about) × (v.seen.mark ≡ marks (length v.seen.entries)))
  pub begins : IsPrefix v.seen.entries log
  pub heard : All (IsEarlier marks v.seen.entries) v.heard
  pub share : (v.left + held v.stage) + sum_by added v.members ≡ about.tickets * length v.members
  pub counts : All (IsCounted about.passes log v.seen.entries) v.members
  pub single : held v.stage ≡ 1 → length v.members ≡ 1
  pub stage : InStage log marks drawn v.stage

module _ {T O : Type 0} (log_of : T → List ℕ) (origin : T → O) (IsSound : T → Type 0) (mark : T → Mark) where
  -- the slot is at home, with a sound value of these entries, and nobody is inside
  pub record IsHome (about : About T) (log : List ℕ) (marks : ℕ → Mark) (s : State (Option T) (View T)) : Type 0 where
    pub value : T
    pub there : s.homes ≡ some (Some value) ∷ []
    pub log_is : log_of value ≡ log
    pub origin_is : origin value ≡ origin about.opened.value
    pub sound : IsSound value
    pub mark_is : mark value ≡ marks (length log)
    pub nobody : (i : ℕ) (v : View T) → get_elem? s.views i ≡ some v → is_inside v.stage ≡ false

  -- the slot is away, with a seat that is inside
  pub record IsAway (s : State (Option T) (View T)) : Type 0 where
    pub gone : s.homes ≡ none ∷ []
    pub who : ℕ
    pub with_view : View T
    pub at : get_elem? s.views who ≡ some with_view
    pub inside : is_inside with_view.stage ≡ true

  -- The entries are log, marks k is the mark that there was at k entries, and drawn tickets were drawn
  pub record Kept (about : About T) (s : State (Option T) (View T)) : Type 0 where
    pub log : List ℕ
    pub marks : ℕ → Mark
    pub drawn : ℕ
    -- tickets
    pub words : s.words ≡ drawn ∷ length log ∷ []
    pub queue : drawn ≡ length log + sum_by held_in s.views
    pub alone : (i j : ℕ) (v w : View T) → get_elem? s.views i ≡ some v → get_elem? s.views j ≡ some w → held v.stage ≡ 1 → held w.stage ≡ 1 → ticket v.stage ≡ ticket w.stage → i ≡ j
    pub supply : drawn + sum_by left_in s.views ≡ about.passes * about.tickets
    pub small : about.passes * about.tickets < 2 ^ 64
    -- entries
    pub named : All (λ x. x < about.passes) log
    pub bounded : (x : ℕ) → times x log ≤ about.tickets
    -- numbers: each pass is one seat's, and no two have one number
    pub whole : sum_by members_in s.views ≡ about.passes
    pub once : (x : ℕ) → sum_by (bearers x) s.views ≤ 1
    -- marks
    pub rises : (i j : ℕ) → i ≤ j → IsBelow (marks i) (marks j)
    pub fits : (i : ℕ) (v : View T) → get_elem? s.views i ≡ some v → Fits about log marks drawn v
    pub slot : IsHome about log marks s ⊎ IsAway s
