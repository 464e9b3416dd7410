-- What is seen of a run, and the words in which its ends are told.
use Rattle.std.specs.Prelude.{◌≡◌, ℕ, ◌+◌, ◌<◌, Bool, true, false, List, [], ◌∷◌, ◌++◌, filter_map, flat_map, length, slice_get, slice_index_or, take, Some}
use Rattle.esa_outside.specs.Cause.{Rose}
use Rattle.esa_params.specs.Sizes.{Sizes}
use Rattle.esa_params.specs.declared.slot.Access.{Access}
use Rattle.esa_params.specs.declared.slot.Op.{Op}
use Rattle.esa_params.specs.declared.slot.Op.TheVariants.{Read, Write}
use Rattle.esa_params.specs.declared.slot.Region.{Region}
use Rattle.esa_params.specs.declared.slot.Region.TheVariants.{Input, Mid}
use Rattle.esa_spec.specs.Draws.{Draw}
use Rattle.esa_spec.specs.Fronts.{Begins}
use Rattle.esa_spec.specs.Histories.{lists}
use Rattle.esa_spec.specs.Places.{places}
use Rattle.esa_spec.specs.Traces.{asked}
use Rattle.esa_spec.specs.Turns.{next}
use Rattle.esa_spec.specs.Verdicts.{verdict}
use Rattle.esa_spec.specs.declared.event.Verdict.{Verdict}

-- a count of faults, before the run and after it
pub record Faults : Type 0 where
  pub before : ℕ
  pub now : ℕ

-- the accesses that were stored, the history that was stored, and what the device and the batch file count
pub record Seen : Type 0 where
  pub trace : List Access
  pub history : List ℕ
  pub device : Faults
  pub batch : Faults

-- something failed: the count rose, or stands at the last value of a u64
abbrev pub Rises : Faults → Type 0
Rises faults = Rose faults.before faults.now

-- the count is as it was
abbrev pub Stays : Faults → Type 0
Stays faults = faults.now ≡ faults.before

-- neither the device nor the batch file failed
abbrev pub IsCalm : Seen → Type 0
IsCalm seen = Stays seen.device × Stays seen.batch

-- the turns of each attempt that was made
abbrev pub stored : Sizes → Seen → List (List ℕ)
stored p seen = lists p.workers seen.history

-- the history of attempts with these turns: the owner's entry, and then the turns of each attempt with the owner's entry
-- behind them
abbrev pub history_of : Sizes → List (List ℕ) → List ℕ
history_of p hs = p.workers ∷ flat_map (λ (h : List ℕ). h ++ p.workers ∷ []) hs

-- the stored history has the stored turns and the owner's entries, and nothing else
abbrev pub HasHistory : Sizes → Seen → Type 0
HasHistory p seen = seen.history ≡ history_of p (stored p seen)

-- the turns of a run that was cut short: the lists of the attempts before the last are whole, and the last is a front
abbrev pub AreCut : List (List ℕ) → List (List ℕ) → Type 0
AreCut [] whole = Unit {0}
AreCut (h ∷ made) [] = ⊥
AreCut (h ∷ []) (g ∷ whole) = Begins h g
AreCut (h ∷ other ∷ made) (g ∷ whole) = (h ≡ g) × AreCut (other ∷ made) whole

-- the turns of attempt a
abbrev pub turns_in : List (List ℕ) → ℕ → List ℕ
turns_in hs a = slice_index_or hs a []

-- the last of the turns h of attempt a made this access
pub record EndsWithTurn (p : Sizes) (a : ℕ) (h : List ℕ) (access : Access) : Type 0 where
  pub before : List ℕ
  pub worker : ℕ
  pub turns : h ≡ before ++ worker ∷ []
  pub made : asked p a (next p.b before worker) ≡ Some access

-- the turns of the attempts up to that of this access were stored, and the last of them made it
abbrev pub EndWithTurn : Sizes → List (List ℕ) → Access → Type 0
EndWithTurn p made access = (length made ≡ access.attempt + 1) × EndsWithTurn p access.attempt (turns_in made access.attempt) access

-- the turns that were stored, by the operation and the region of the access that cut the run: a write of the input was made
-- before any turn, and a read of the input or a write of Mid by the last one. Each other access comes behind all turns of
-- its attempt
abbrev pub EndBy : Op → Region → Sizes → (made hs : List (List ℕ)) → Access → Type 0
EndBy Write Input p made hs access = made ≡ []
EndBy Write Mid p made hs access = EndWithTurn p made access
EndBy Read Input p made hs access = EndWithTurn p made access
EndBy op region p made hs access = made ≡ take (access.attempt + 1) hs

-- the stored turns of a run that took the turns hs one after another end with this access, which cut it
abbrev pub HistoryEnds : Sizes → (made hs : List (List ℕ)) → Access → Type 0
HistoryEnds p made hs access = EndBy access.op access.region p made hs access

-- neither the load nor a turn makes such accesses
abbrev pub is_behind : Op → Region → Bool
is_behind Write Input = false
is_behind Write Mid = false
is_behind Read Input = false
is_behind op region = true

-- the access comes behind the turns of attempt a
abbrev pub IsBehind : ℕ → Access → Type 0
IsBehind a access = (access.attempt ≡ a) × (is_behind access.op access.region ≡ true)

-- how attempt a ends
abbrev pub verdict_in : Sizes → (ℕ → Draw) → List (List ℕ) → ℕ → Verdict
verdict_in p ds hs a = verdict p (ds a) (turns_in hs a)

-- the records of a batch in the order in which an attempt with these turns puts them out
abbrev pub come_out : {X : Type 0} → Sizes → Draw → List ℕ → List X → List X
come_out p d h records = filter_map (slice_get records) (places p d h)

-- the draws agree on the targets of each bucket
abbrev pub SameTargets : Sizes → Draw → Draw → Type 0
SameTargets p d e = (j : ℕ) → j < p.b → d.targets j ≡ e.targets j

-- the draws agree on the order of each target
abbrev pub SameOrders : Sizes → Draw → Draw → Type 0
SameOrders p d e = (i : ℕ) → i < p.b → d.order i ≡ e.order i
