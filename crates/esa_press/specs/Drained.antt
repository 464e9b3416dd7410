-- The drain of a target: what it makes of the floor and of the press.
use Rattle.std.specs.Prelude.{◌≡◌, ℕ, ◌+◌, ◌<◌, ◌≤◌, List, [], ◌∷◌, ◌++◌, length, map, find, slice_set, Option, Some, None, Result, Ok, Err}
use Rattle.esa_device.specs.Logs.{Carried, Took}
use Rattle.esa_device.specs.Recording.{Recorded}
use Rattle.esa_floor.specs.Parts.{Parts}
use Rattle.esa_outside.specs.Cause.{Rose}
use Rattle.esa_params.specs.Sizes.{below}
use Rattle.esa_params.specs.Slots.{at, number_of}
use Rattle.esa_params.specs.declared.slot.Op.{Op}
use Rattle.esa_params.specs.declared.slot.Region.TheVariants.{Tail}
use Rattle.esa_spec.specs.Draws.{Draw}
use Rattle.esa_spec.specs.Traces.{written_tail}
use Rattle.esa_spec.specs.Verdicts.{is_left, left}
use Rattle.esa_spec.specs.declared.event.Verdict.TheVariants.{StashLeft}
use Rattle.esa_stash.specs.Stash.{queue_at, without}
use Rattle.esa_vault.specs.Traffic.{IsWritten}
use Rattle.esa_vault.specs.declared.fault.VaultFault.TheVariants.{Device, Tampered}
use Rattle.esa_press.specs.Records.{sealed_records}
use Rattle.esa_press.specs.declared.halt.Halt.{Halt}
use Rattle.esa_press.specs.declared.halt.Halt.TheVariants.{Verdict, Fault}

-- the tail of the target i on a floor: the block of what is queued for it
abbrev pub tail_block : {V : Type 0} → Parts V → ℕ → ℕ → List ℕ
tail_block f attempt i = sealed_records f.plan f.run (at Tail i) attempt f.plan.k (queue_at f.stash i)

-- what the log has of the write of that block, and of one that failed
abbrev pub stored_tail : {V : Type 0} → Parts V → ℕ → ℕ → Carried
stored_tail f attempt i = record { access = written_tail f.plan attempt i; bytes = Some (tail_block f attempt i) }

abbrev pub failed_tail : {V : Type 0} → Parts V → ℕ → ℕ → Carried
failed_tail f attempt i = record { access = written_tail f.plan attempt i; bytes = None }

-- a floor whose queue of the target i was emptied, with this recorder
abbrev pub spilled : {V : Type 0} → Parts V → ℕ → Recorded V → Parts V
spilled f i recorder = record f { recorder = recorder; stash = without f.stash i }

-- the drain of the target i, and how many items each tail is noted to have: more is left exactly where its queue is longer than a tail, and then nothing is done
abbrev pub DrainAnswer : {V T : Type 0} → (V → Option (List (List ℕ))) → (V → ℕ) → (V → Option (Op × ℕ)) → ℕ → ℕ → Parts V → Parts V → List ℕ → List ℕ → Result T Halt → Type 0
DrainAnswer told faults last_call attempt i old new tails noted (Ok done) =
    (length (queue_at old.stash i) ≤ old.plan.k) × (new ≡ spilled old i new.recorder) × (noted ≡ slice_set tails i (length (queue_at old.stash i)))
    × IsWritten told faults last_call old.plan (at Tail i) attempt (tail_block old attempt i) old.recorder new.recorder (Ok done)
DrainAnswer told faults last_call attempt i old new tails noted (Err (Verdict v)) =
    (old.plan.k < length (queue_at old.stash i)) × (v ≡ StashLeft i) × (new ≡ old) × (noted ≡ tails)
DrainAnswer told faults last_call attempt i old new tails noted (Err (Fault fault)) =
    (length (queue_at old.stash i) ≤ old.plan.k) × (new ≡ spilled old i new.recorder) × (noted ≡ slice_set tails i (length (queue_at old.stash i)))
    × IsWritten {T = Unit {0}} told faults last_call old.plan (at Tail i) attempt (tail_block old attempt i) old.recorder new.recorder (Err fault)

-- the first t targets are drained: none had more left than a tail, their tails are written, and nothing waits for them.
-- Nothing else has changed
pub record AreDrained {V : Type 0} (faults : V → ℕ) (attempt t : ℕ) (old new : Parts V) : Type 0 where
  pub few : (i : ℕ) → i < t → length (queue_at old.stash i) ≤ old.plan.k
  pub others : new ≡ record old { recorder = new.recorder; stash = new.stash }
  pub empty : (i : ℕ) → i < t → queue_at new.stash i ≡ []
  pub waits : (i : ℕ) → t ≤ i → queue_at new.stash i ≡ queue_at old.stash i
  pub trace : new.recorder.trace ≡ old.recorder.trace ++ map (written_tail old.plan attempt) (below t)
  pub log : new.recorder.log ≡ old.recorder.log ++ map (stored_tail old attempt) (below t)
  pub room : old.recorder.room ≡ new.recorder.room + t
  pub ready : new.recorder.plan ≡ old.recorder.plan
  pub calm : faults new.recorder.device ≡ faults old.recorder.device
  pub stored : (i : ℕ) → i < t → Took old.plan (number_of old.plan (at Tail i)) (tail_block old attempt i) new.recorder.log

-- a write of the tail of the target i failed, which is the last access, where the targets before it are drained: their
-- tails are written, and nothing waits for them. Nor does anything wait for the target i
pub record FailsAt {V : Type 0} (faults : V → ℕ) (attempt i number : ℕ) (old new : Parts V) : Type 0 where
  pub slot : number ≡ number_of old.plan (at Tail i)
  pub trace : new.recorder.trace ≡ old.recorder.trace ++ map (written_tail old.plan attempt) (below (i + 1))
  pub log : new.recorder.log ≡ old.recorder.log ++ (map (stored_tail old attempt) (below i) ++ failed_tail old attempt i ∷ [])
  pub room : old.recorder.room ≡ new.recorder.room + (i + 1)
  pub ready : new.recorder.plan ≡ old.recorder.plan
  pub others : new ≡ record old { recorder = new.recorder; stash = new.stash }
  pub stored : (x : ℕ) → x < i → Took old.plan (number_of old.plan (at Tail x)) (tail_block old attempt x) new.recorder.log
  pub empty : (x : ℕ) → x ≤ i → queue_at new.stash x ≡ []
  pub waits : (x : ℕ) → i < x → queue_at new.stash x ≡ queue_at old.stash x
  pub cause : Rose (faults old.recorder.device) (faults new.recorder.device)

-- how a drain ends, by the target for which too much is left: the tails are written up to the one before it. A write may fail
-- before
abbrev pub DrainEnd : {V T : Type 0} → (V → ℕ) → Draw → List ℕ → ℕ → Parts V → Parts V → Result T Halt → Type 0
DrainEnd faults d o attempt old new (Ok done) = (left old.plan d o ≡ None) × AreDrained faults attempt old.plan.b old new
DrainEnd faults d o attempt old new (Err (Verdict v)) =
    (i : ℕ) × (left old.plan d o ≡ Some i) × (v ≡ StashLeft i) × AreDrained faults attempt i old new
DrainEnd faults d o attempt old new (Err (Fault (Device number))) =
    (i : ℕ) × (i < old.plan.b) × (find (is_left old.plan d o) (below (i + 1)) ≡ None) × FailsAt faults attempt i number old new
DrainEnd faults d o attempt old new (Err (Fault (Tampered number))) = ⊥
