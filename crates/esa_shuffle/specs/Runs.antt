-- How a run ends, by its outcome, and what it leaves.
use Rattle.std.specs.Prelude.{◌≡◌, ℕ, ◌+◌, ◌-◌, ◌<◌, ◌≤◌, ◌==◌, Bool, Some, List, [], ◌∷◌, ◌++◌, length, take, map, sum_by, count_by}
use Rattle.esa_device.specs.Recording.{Recorded}
use Rattle.esa_envelope.specs.declared.keys.Keys.{Keys}
use Rattle.esa_outside.specs.Cause.{Rose}
use Rattle.esa_params.specs.Sizes.{Sizes, below}
use Rattle.esa_params.specs.Slots.{writes_number}
use Rattle.esa_params.specs.declared.slot.Access.{Access}
use Rattle.esa_params.specs.declared.slot.Slot.{Slot}
use Rattle.esa_spec.specs.Completion.{completed}
use Rattle.esa_spec.specs.Draws.{Draw}
use Rattle.esa_spec.specs.Fronts.{EndsWith}
use Rattle.esa_spec.specs.Histories.{lists}
use Rattle.esa_spec.specs.Traces.{good_attempt, shuffle_trace, writes_in, written_nonces}
use Rattle.esa_spec.specs.declared.event.Verdict.{Verdict}
use Rattle.esa_vault.specs.Seals.{opens}
use Rattle.esa_ending.specs.Endings.{BatchFails, BlockIsTampered, DeviceFails, Overflows}
use Rattle.esa_ending.specs.Seen.{AreCut, HasHistory, HistoryEnds, IsCalm, Seen, history_of, stored, verdict_in}
use Rattle.esa_floor.specs.Parts.{Parts, ended_as}
use Rattle.esa_floor.specs.Standing.{Stands}
use Rattle.esa_floor.specs.declared.turn.Outcome.{Outcome}
use Rattle.esa_floor.specs.declared.turn.Outcome.TheVariants as outcome
use Rattle.esa_model.specs.Forecast.{handed_in}

-- attempt a is the first that is finished and good, and all accesses of the shuffle were made. Two scans of its output are
-- what the computed trace has behind them
pub record IsShuffled (p : Sizes) (ds : ℕ → Draw) (hs : List (List ℕ)) (seen : Seen) (a : ℕ) : Type 0 where
  pub planned : a < p.attempts
  pub good : good_attempt p ds 0 (stored p seen) ≡ Some a
  pub made : seen.trace ≡ shuffle_trace p ds (stored p seen)
  -- the turns of the attempts up to this one were stored
  pub turns : stored p seen ≡ take (a + 1) hs
  pub history : HasHistory p seen
  pub calm : IsCalm seen

-- what is seen of a run that ended so, where hs are the turns of its attempts
abbrev pub HasOutcome : Sizes → (ℕ → Draw) → List (List ℕ) → Seen → (Slot → ℕ → ℕ → Bool) → List Verdict → Outcome → Type 0
HasOutcome p ds hs seen opens failures (outcome.Shuffled a) = IsShuffled p ds hs seen a
HasOutcome p ds hs seen opens failures outcome.Overflow = Overflows p ds hs seen failures
HasOutcome p ds hs seen opens failures (outcome.DeviceFault number) = DeviceFails p ds hs seen number
HasOutcome p ds hs seen opens failures (outcome.Tampered number) = BlockIsTampered p ds hs seen opens number
HasOutcome p ds hs seen opens failures outcome.BatchFailed = BatchFails p seen (length seen.trace)

-- how many of the attempts that were begun have failed: all, where the run overflowed, and otherwise all but the last
abbrev pub failed_of : Outcome → ℕ → ℕ
failed_of outcome.Overflow begun = begun
failed_of (outcome.Shuffled a) begun = begun - 1
failed_of (outcome.DeviceFault number) begun = begun - 1
failed_of (outcome.Tampered number) begun = begun - 1
failed_of outcome.BatchFailed begun = begun - 1

-- how a run ends, where hs are the turns of its attempts: what is seen of it is as its outcome says, and the failures are the
-- verdicts of the attempts that failed, in order
pub record EndsRun (p : Sizes) (ds : ℕ → Draw) (hs : List (List ℕ)) (seen : Seen) (opens : Slot → ℕ → ℕ → Bool) (failures : List Verdict) (o : Outcome) : Type 0 where
  pub outcome : HasOutcome p ds hs seen opens failures o
  pub failures_are : failures ≡ map (verdict_in p ds hs) (below (failed_of o (length (stored p seen))))

-- no two writes among these accesses have the same nonce. So no slot of the input is written twice, and no slot twice in an
-- attempt
pub record AreFresh (p : Sizes) (accesses : List Access) : Type 0 where
  pub nonces : (nonce : ℕ) → count_by (λ n. n == nonce) (written_nonces accesses) ≤ 1
  pub input : (number : ℕ) → number < p.b → count_by (writes_number p number) accesses ≤ 1
  pub attempt : (a number : ℕ) → count_by (writes_in p a number) accesses ≤ 1

-- what is seen of a run by its recorder and its history, where device and batch counted so many faults before it, and the
-- batch counts so many now
abbrev pub seen_of : {V : Type 0} → (V → ℕ) → ℕ → ℕ → Recorded V → List ℕ → ℕ → Seen
seen_of faults device batch recorder history now = record {
  trace = recorder.trace;
  history = history;
  device = record { before = device; now = faults recorder.device };
  batch = record { before = batch; now = now };
}

-- whether the bytes that were read last open for a slot, an attempt and a number of items before the dummies
abbrev pub opens_last : Sizes → Keys → List ℕ → Slot → ℕ → ℕ → Bool
opens_last p run last slot attempt count = opens p run slot attempt count last

-- the turns of an attempt, completed, with the owner's entry
abbrev pub entries_in : Sizes → List (List ℕ) → ℕ → ℕ
entries_in p turns a = length (completed p (handed_in turns a)) + 1

-- how many entries a history has at most in which the attempts up to this one are stored, without the last one of the owner
abbrev pub entries_before : Sizes → List (List ℕ) → ℕ → ℕ
entries_before p turns a = sum_by (entries_in p turns) (below a)

-- the turns that were stored of those of the attempts, by the outcome: those of the attempts up to the one that succeeded, or
-- of all. A failing access cut them short, and where the batch failed none were made
abbrev pub AreStored : List (List ℕ) → List (List ℕ) → Outcome → Type 0
AreStored made hs (outcome.Shuffled a) = made ≡ take (a + 1) hs
AreStored made hs outcome.Overflow = made ≡ hs
AreStored made hs (outcome.DeviceFault number) = AreCut made hs
AreStored made hs (outcome.Tampered number) = AreCut made hs
AreStored made hs outcome.BatchFailed = made ≡ []

-- where an access cut a run that took the turns hs one after another, the turns that were stored end with it
abbrev pub EndWithCut : Sizes → (made hs : List (List ℕ)) → List Access → Outcome → Type 0
EndWithCut p made hs accesses (outcome.DeviceFault number) = (access : Access) → EndsWith accesses access → HistoryEnds p made hs access
EndWithCut p made hs accesses (outcome.Tampered number) = (access : Access) → EndsWith accesses access → HistoryEnds p made hs access
EndWithCut p made hs accesses (outcome.Shuffled a) = Unit {0}
EndWithCut p made hs accesses outcome.Overflow = Unit {0}
EndWithCut p made hs accesses outcome.BatchFailed = Unit {0}

-- what the batch counted of its faults, before the run and after it, by the outcome: its count rose where it failed, which is
-- before the last block of the input was written
abbrev pub IsCounted : ℕ → ℕ → ℕ → ℕ → Outcome → Type 0
IsCounted b accesses before now (outcome.Shuffled a) = now ≡ before
IsCounted b accesses before now outcome.Overflow = now ≡ before
IsCounted b accesses before now (outcome.DeviceFault number) = now ≡ before
IsCounted b accesses before now (outcome.Tampered number) = now ≡ before
IsCounted b accesses before now outcome.BatchFailed = (accesses < b) × Rose before now

-- the lists of a floor's history with the owner's last entry
abbrev pub lists_ended : {V : Type 0} → Sizes → Parts V → List (List ℕ)
lists_ended p f = lists p.workers (f.history ++ p.workers ∷ [])

-- a floor with room for the owner's last entry on which a run may end with this outcome, where hs are the turns of its attempts
-- and these attempts failed
pub record MayEnd {V : Type 0} (faults : V → ℕ) (p : Sizes) (ds : ℕ → Draw) (hs : List (List ℕ)) (before now : ℕ) (f : Parts V) (failures : List Verdict) (o : Outcome) : Type 0 where
  pub stands : Stands faults p ds (ended_as f o)
  pub room : length f.history < f.room
  pub history : f.history ++ p.workers ∷ [] ≡ history_of p (lists_ended p f)
  pub turns : AreStored (lists_ended p f) hs o
  pub failed : failures ≡ map (verdict_in p ds hs) (below (failed_of o (length (lists_ended p f))))
  pub batch : IsCounted p.b (length f.recorder.trace) before now o
