-- How a run ends. Its sizes p, what each attempt draws (ds) and the turns of each attempt (hs) give one list of
-- accesses, its computed trace. A record says of each ending what is seen.
use Rattle.std.specs.Prelude.{◌≡◌, ℕ, ◌+◌, ◌<◌, true, false, Bool, Some, List, [], length, take, map}
use Rattle.esa_params.specs.Sizes.{Sizes, below}
use Rattle.esa_params.specs.Slots.{at, slot_number}
use Rattle.esa_params.specs.declared.slot.Access.{Access}
use Rattle.esa_params.specs.declared.slot.Op.TheVariants.{Read}
use Rattle.esa_params.specs.declared.slot.Slot.{Slot}
use Rattle.esa_spec.specs.Draws.{Draw}
use Rattle.esa_spec.specs.Traces.{all_failed, good_attempt, trace, written_input}
use Rattle.esa_spec.specs.Turns.{order}
use Rattle.esa_spec.specs.declared.event.Verdict.{Verdict}
use Rattle.esa_ending.specs.Seen.{Seen, Rises, Stays, IsCalm, stored, HasHistory, AreCut, turns_in, verdict_in, come_out}
use Rattle.esa_spec.specs.Fronts.{Begins, EndsWith, items_in}

-- attempt a succeeds: it is the first that is finished and good
pub record Succeeds (p : Sizes) (ds : ℕ → Draw) (hs : List (List ℕ)) (seen : Seen) (a : ℕ) : Type 0 where
  pub planned : a < p.attempts
  pub good : good_attempt p ds 0 hs ≡ Some a
  -- each access of the computed trace was made, and no other
  pub whole : seen.trace ≡ trace p ds hs
  -- the turns of the attempts up to this one were stored
  pub turns : stored p seen ≡ take (a + 1) hs
  pub history : HasHistory p seen
  pub calm : IsCalm seen

-- the records of the batch come out in the order of attempt a
pub record ComesOut {X : Type 0} (p : Sizes) (ds : ℕ → Draw) (hs : List (List ℕ)) (a : ℕ) (records out : List X) : Type 0 where
  pub all : length records ≡ p.n
  pub order : out ≡ come_out p (ds a) (turns_in hs a) records

-- each planned attempt is finished and none is good. The failures are their verdicts, in order
pub record Overflows (p : Sizes) (ds : ℕ → Draw) (hs : List (List ℕ)) (seen : Seen) (failures : List Verdict) : Type 0 where
  pub planned : length hs ≡ p.attempts
  pub failed : all_failed p ds 0 hs ≡ true
  pub verdicts : failures ≡ map (verdict_in p ds hs) (below p.attempts)
  pub whole : seen.trace ≡ trace p ds hs
  pub turns : stored p seen ≡ hs
  pub history : HasHistory p seen
  pub calm : IsCalm seen

-- the run was cut short at an access
pub record IsCutAt (p : Sizes) (ds : ℕ → Draw) (hs : List (List ℕ)) (seen : Seen) (access : Access) : Type 0 where
  -- the accesses are a front of the computed trace, and end with this one
  pub front : Begins seen.trace (trace p ds hs)
  pub last : EndsWith seen.trace access
  -- the stored turns were cut short too, and each access that was made is one of theirs
  pub turns : AreCut (stored p seen) hs
  pub of_stored : Begins seen.trace (trace p ds (stored p seen))
  pub history : HasHistory p seen

-- the device failed at the last access, which is to the slot of this number
pub record DeviceFails (p : Sizes) (ds : ℕ → Draw) (hs : List (List ℕ)) (seen : Seen) (number : ℕ) : Type 0 where
  pub access : Access
  pub cut : IsCutAt p ds hs seen access
  pub slot : slot_number p access ≡ number
  -- its count of faults rose, and that of the batch file didn't
  pub cause : Rises seen.device
  pub batch : Stays seen.batch

-- the last access is a read of the slot of this number, and the block that it gave doesn't open. `opens` says whether
-- it opens for a slot, an attempt and a number of items before the dummies
pub record BlockIsTampered (p : Sizes) (ds : ℕ → Draw) (hs : List (List ℕ)) (seen : Seen) (opens : Slot → ℕ → ℕ → Bool) (number : ℕ) : Type 0 where
  pub access : Access
  pub cut : IsCutAt p ds hs seen access
  pub slot : slot_number p access ≡ number
  pub reads : access.op ≡ Read
  pub closed : opens (at access.region access.index) access.attempt
      (items_in p (ds access.attempt) (order p.b (turns_in (stored p seen) access.attempt)) access) ≡ false
  pub calm : IsCalm seen

-- the records of this bucket couldn't be read: those of the buckets before it were written, and no attempt was begun
pub record BatchFails (p : Sizes) (seen : Seen) (bucket : ℕ) : Type 0 where
  pub there : bucket < p.b
  pub written : seen.trace ≡ map (written_input p) (below bucket)
  pub turns : stored p seen ≡ []
  pub history : HasHistory p seen
  -- the count of the batch file rose, and that of the device didn't
  pub cause : Rises seen.batch
  pub device : Stays seen.device
