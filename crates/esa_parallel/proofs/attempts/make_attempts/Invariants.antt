-- The attempts before this one have failed, and the posts rest.
use Rattle.std.proofs.Common.{◌≡◌, ℕ, ◌+◌, ◌-◌, ◌<◌, ◌≤◌, [], length}
use Rattle.std.specs.Prelude.{slice_index_or}
use Rattle.esa_device.specs.Logs.{IsFaithful, NoneFailed}
use Rattle.esa_floor.specs.Keeping.{HasInput}
use Rattle.esa_floor.specs.Marks.{roots_of}
use Rattle.esa_floor.specs.Written.{AreItems, EachGaveItsBlock, EachTookItsBlock}
use Rattle.esa_params.specs.Slots.{item_length}
use Rattle.esa_report.specs.declared.item.Item.{Item}
use Rattle.esa_spec.specs.Fronts.{Begins}
use Rattle.esa_turnstile.specs.Passes.{added_of, left_of}
use Rattle.esa_workers.specs.Distributions.{HasFloor, Rests}
use Rattle.esa_parallel.proofs.Between.{IsBetween}
use Rattle.esa_parallel.proofs.attempts.make_attempts.Given as goal

abbrev pub invariant-loop-attempt : goal.invariant-loop-attempt
invariant-loop-attempt g l = record {
  between : IsBetween g.V.Device.faults g.G.Told.plan g.G.Told.draws l.fn.held.value.history l.attempt l.held.value l.failures;
  floor : HasFloor g.G.Told.plan l.turnstile l.owner l.held.value;
  tickets : g.G.Told.plan.attempts + 1 - l.attempt ≤ left_of l.owner;
  each : length l.posts ≡ g.G.Told.plan.workers;
  posts : (k : ℕ) (d : _) → k < length l.posts → Rests g.V.Device.faults g.G.Told.draws g.C.Coins.target_list g.G.Told.plan l.turnstile l.held.value k (slice_index_or l.posts k d);
  first : l.attempt ≡ 0 → l.held.value.history ≡ l.fn.held.value.history;
  unused : l.attempt ≡ 0 → (k : ℕ) (d : _) → k < length l.posts → added_of (slice_index_or l.posts k d).pass ≡ 0;
  alone : 1 ≤ l.attempt → l.fn.held.value.history ≡ [];
  plan : l.press.plan ≡ g.G.Told.plan;
  run : l.press.run ≡ l.held.value.run;
  log : Begins l.fn.held.value.recorder.log l.held.value.recorder.log;
  input : (record_of : ℕ → Item) → IsFaithful g.G.Told.plan l.held.value.recorder.log → HasInput l.fn.held.value record_of → HasInput l.held.value record_of;
  took : (record_of : ℕ → Item) → AreItems (item_length g.G.Told.plan.form) record_of → EachTookItsBlock g.G.Told.draws record_of l.held.value;
  failed : NoneFailed l.held.value.recorder.log;
  reads : EachGaveItsBlock g.G.Told.draws l.held.value;
  origin : roots_of l.held.value ≡ roots_of l.fn.held.value;
}
