-- How an attempt of a run ends, and what it adds to the history.
use Rattle.std.specs.Prelude.{◌≡◌, ◌⊎◌, ℕ, List, [], ◌∷◌, ◌++◌, take, true, Option, Some, None, Result, Ok, Err, OnOk}
use Rattle.esa_params.specs.Sizes.{Sizes}
use Rattle.esa_params.specs.declared.slot.Access.{Access}
use Rattle.esa_ending.specs.Seen.{EndsWithTurn, IsBehind}
use Rattle.esa_spec.specs.Draws.{Draw}
use Rattle.esa_spec.specs.Fronts.{EndsWith}
use Rattle.esa_spec.specs.Verdicts.{is_finished, verdict}
use Rattle.esa_spec.specs.declared.event.Verdict.{Verdict}
use Rattle.esa_spec.specs.declared.event.Verdict.TheVariants as verdicts
use Rattle.esa_vault.specs.declared.fault.VaultFault.{VaultFault}
use Rattle.esa_vault.specs.declared.fault.VaultFault.TheVariants as fault
use Rattle.esa_floor.specs.Ends.{IsOver}
use Rattle.esa_floor.specs.Parts.{Parts, ended_as}
use Rattle.esa_floor.specs.Standing.{Stands, turns_made}
use Rattle.esa_floor.specs.declared.turn.Outcome.{Outcome}
use Rattle.esa_floor.specs.declared.turn.Outcome.TheVariants as outcome
use Rattle.esa_floor.specs.declared.turn.Stop.{Stop}
use Rattle.esa_floor.specs.declared.turn.Stop.TheVariants as stop
use Rattle.esa_press.specs.declared.halt.Halt.{Halt}
use Rattle.esa_press.specs.declared.halt.Halt.TheVariants as halt

-- the outcome of a run in which a block was not put or got
abbrev pub outcome_of : VaultFault → Outcome
outcome_of (fault.Device number) = outcome.DeviceFault number
outcome_of (fault.Tampered number) = outcome.Tampered number

-- how an attempt ends whose rest was not done
abbrev pub end_of : Halt → Result Verdict VaultFault
end_of (halt.Verdict v) = Ok v
end_of (halt.Fault fault) = Err fault

-- attempt a is over and ends with this verdict. Or a block of it was not put or got, and the run may end with that
abbrev pub AttemptEnd : {V : Type 0} → (V → ℕ) → Sizes → (ℕ → Draw) → ℕ → Parts V → Result Verdict VaultFault → Type 0
AttemptEnd faults p ds a f (Ok v) =
    IsOver faults p ds f a × (is_finished f.plan (ds a) (turns_made f) ≡ true) × (verdict f.plan (ds a) (turns_made f) ≡ v)
AttemptEnd faults p ds a f (Err fault) = Stands faults p ds (ended_as f (outcome_of fault))

-- what a stop of its turns makes of an attempt. Without one its turns don't decide
abbrev pub EndsByStop : Option Stop → Result Verdict VaultFault → Type 0
EndsByStop None result = Unit {0}
EndsByStop (Some (stop.StashOverflow j)) result = result ≡ Ok (verdicts.StashOverflow j)
EndsByStop (Some (stop.DeviceFault number)) result = result ≡ Err (fault.Device number)
EndsByStop (Some (stop.Tampered number)) result = result ≡ Err (fault.Tampered number)

-- an attempt added the owner's entry to the history, and the first of these turns: all of them, where it is over
pub record AddsAttempt (p : Sizes) (h old new : List ℕ) (result : Result Verdict VaultFault) : Type 0 where
  pub count : ℕ
  pub history : new ≡ (old ++ p.workers ∷ []) ++ take count h
  pub whole : OnOk result (take count h ≡ h)

-- where an access cut attempt a after all of its turns, it comes behind them
abbrev pub EndsBehind : ℕ → List Access → Result Verdict VaultFault → Type 0
EndsBehind a accesses (Ok v) = Unit {0}
EndsBehind a accesses (Err fault) = (access : Access) → EndsWith accesses access → IsBehind a access

-- where an access cut attempt a, the last of its turns that was made made that access. Or all of its turns h were made, and
-- the access comes behind them
abbrev pub StopsShort : {V : Type 0} → Sizes → ℕ → List ℕ → Parts V → Result Verdict VaultFault → Type 0
StopsShort p a h f (Ok v) = Unit {0}
StopsShort p a h f (Err fault) =
    (access : Access) → EndsWith f.recorder.trace access → EndsWithTurn p a (turns_made f) access ⊎ ((turns_made f ≡ h) × IsBehind a access)
