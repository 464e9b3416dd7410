-- The load of a run: a floor on which nothing was done, and how the load ends.
use Rattle.std.specs.Prelude.{◌≡◌, ℕ, ◌*◌, ◌<◌, ◌≤◌, ◌++◌, List, [], flat_map, length, take, Option, Some, None, Result, Ok, Err, OnOk}
use Rattle.std.specs.List.{concat}
use Rattle.esa_device.specs.Logs.{Carried, IsFaithful, NoneFailed}
use Rattle.esa_load.specs.Loads.{bucket_text}
use Rattle.esa_outside.specs.Heard.{Event}
use Rattle.esa_params.specs.Form.{envelope_length}
use Rattle.esa_params.specs.Sizes.{ArePlanned, Sizes, below, first}
use Rattle.esa_spec.specs.Draws.{Draw}
use Rattle.esa_floor.specs.Keeping.{HasInput}
use Rattle.esa_spec.specs.Histories.{begun}
use Rattle.esa_floor.specs.Parts.{Parts, begun_as, ended_as}
use Rattle.esa_floor.specs.Standing.{Stands}
use Rattle.esa_floor.specs.declared.turn.Outcome.{Outcome}
use Rattle.esa_floor.specs.declared.turn.Outcome.TheVariants as outcome
use Rattle.esa_shuffle.specs.Records.{FailedByOutcome, IsWrittenFrom, inputs_written, record_at}
use Rattle.esa_shuffle.specs.Runs.{IsCounted}

-- a floor on which nothing was done, with room for an entry more
pub record IsNewFloor {V : Type 0} (faults : V → ℕ) (p : Sizes) (ds : ℕ → Draw) (f : Parts V) : Type 0 where
  pub stands : Stands faults p ds f
  pub planned : ArePlanned p
  pub history : f.history ≡ []
  pub room : 0 < f.room
  pub outcome : f.outcome ≡ None
  pub trace : f.recorder.trace ≡ []
  pub calm : faults f.recorder.device ≡ f.faults

-- a floor on which nothing was done but that workers may have had turns in no attempt, with room for an entry more
pub record IsUnbegun {V : Type 0} (faults : V → ℕ) (p : Sizes) (ds : ℕ → Draw) (f : Parts V) : Type 0 where
  pub stands : Stands faults p ds f
  pub planned : ArePlanned p
  pub none_begun : begun f.plan.workers f.history ≡ 0
  pub room : length f.history < f.room
  pub outcome : f.outcome ≡ None
  pub trace : f.recorder.trace ≡ []
  pub calm : faults f.recorder.device ≡ f.faults

-- the batch or the device failed
abbrev pub IsOfLoad : Outcome → Type 0
IsOfLoad (outcome.DeviceFault number) = Unit {0}
IsOfLoad outcome.BatchFailed = Unit {0}
IsOfLoad (outcome.Shuffled a) = ⊥
IsOfLoad outcome.Overflow = ⊥
IsOfLoad (outcome.Tampered number) = ⊥

-- how the load ends, by what the batch counted of its faults before it and after it: the first attempt may begin, or the run
-- may end so
abbrev pub EndsLoad : {V T : Type 0} → (V → ℕ) → Sizes → (ℕ → Draw) → Parts V → ℕ → ℕ → Result T Outcome → Type 0
EndsLoad faults p ds f before now (Ok done) = Stands faults p ds (begun_as f 0) × (now ≡ before)
EndsLoad faults p ds f before now (Err o) =
    Stands faults p ds (ended_as f o) × IsCounted f.plan.b (length f.recorder.trace) before now o × IsOfLoad o

-- a batch gave these bytes in the load: the records of its first buckets, one after another. They are the told ones, where
-- they are told, and just these reads were heard. They are those of all buckets where this is so
pub record IsGiven (p : Sizes) (told : Option (List (List ℕ))) (part : ℕ → List ℕ → List Event) (before after : List Event) (all : Type 0) (given : List ℕ) : Type 0 where
  pub count : ℕ
  pub few : count ≤ p.b
  pub bytes : length given ≡ envelope_length p.form * first p count
  pub as_told : (records : List (List ℕ)) → told ≡ Some records → given ≡ concat (take (first p count) records)
  pub heard : after ≡ before ++ flat_map (λ j. part (first p j) (bucket_text p given j)) (below count)
  pub whole : all → count ≡ p.b

-- a batch gave bytes in the load, and of them that became
pub record HasGiven (p : Sizes) (told : Option (List (List ℕ))) (part : ℕ → List ℕ → List Event) (before after : List Event) (all : Type 0) (Became : List ℕ → Type 0) : Type 0 where
  pub given : List ℕ
  pub load : IsGiven p told part before after all given
  pub became : Became given

-- which accesses failed in a load: none, or the last one alone, where it ended the run
abbrev pub FailedByLoad : {T : Type 0} → Result T Outcome → List Carried → Type 0
FailedByLoad (Ok done) log = NoneFailed log
FailedByLoad (Err o) log = FailedByOutcome o log

-- a floor has what a batch gave as its input, where its log is faithful
abbrev pub TakesInput : {V : Type 0} → Parts V → List ℕ → Type 0
TakesInput f given = IsFaithful f.plan f.recorder.log → HasInput f (record_at f.plan f.outer given)

-- what a load made of the bytes that a batch gave, on a floor with no log: the input was written from them. Where all of
-- it was written, the floor has them as its input
pub record TakesBatch {V T : Type 0} (old now : Parts V) (result : Result T Outcome) (given : List ℕ) : Type 0 where
  pub written : old.recorder.log ≡ [] → IsWrittenFrom now.plan now.run given now.recorder.log
  pub whole : old.recorder.log ≡ [] → OnOk result (inputs_written now.recorder.log ≡ now.plan.b)
  pub input : OnOk result (TakesInput now given)
