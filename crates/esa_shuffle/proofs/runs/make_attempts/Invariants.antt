-- The attempts before this one have failed, and the crew stands ready.
use Rattle.std.proofs.Common.{◌≡◌, ℕ, ◌<◌, length}
use Rattle.esa_device.specs.Logs.{IsFaithful, NoneFailed}
use Rattle.esa_floor.specs.Keeping.{HasInput}
use Rattle.esa_floor.specs.Written.{AreItems, EachGaveItsBlock, EachTookItsBlock}
use Rattle.esa_params.specs.Slots.{item_length}
use Rattle.esa_report.specs.declared.item.Item.{Item}
use Rattle.esa_spec.specs.Fronts.{Begins}
use Rattle.esa_crew.specs.Posts.{AreMembers}
use Rattle.esa_floor.specs.Marks.{roots_of}
use Rattle.esa_shuffle.specs.Runs.{entries_before}
use Rattle.esa_shuffle.proofs.Running.{IsBefore}
use Rattle.esa_shuffle.proofs.runs.make_attempts.Given as goal

abbrev pub invariant-loop-attempt : goal.invariant-loop-attempt
invariant-loop-attempt g l = record {
  before : IsBefore g.V.Device.faults g.G.Told.plan g.G.Told.draws l.turns l.attempt l.floor l.failures;
  room : entries_before g.G.Told.plan l.turns g.G.Told.plan.attempts < l.floor.room;
  members : AreMembers g.G.Told.draws g.C.Coins.target_list l.floor l.workers;
  each : length l.workers ≡ g.G.Told.plan.workers;
  plan : l.press.plan ≡ l.floor.plan;
  run : l.press.run ≡ l.floor.run;
  log : Begins l.initial.floor.recorder.log l.floor.recorder.log;
  input : (record_of : ℕ → Item) → IsFaithful g.G.Told.plan l.floor.recorder.log → HasInput l.initial.floor record_of → HasInput l.floor record_of;
  took : (record_of : ℕ → Item) → AreItems (item_length g.G.Told.plan.form) record_of → EachTookItsBlock g.G.Told.draws record_of l.initial.floor → EachTookItsBlock g.G.Told.draws record_of l.floor;
  failed : NoneFailed l.initial.floor.recorder.log → NoneFailed l.floor.recorder.log;
  reads : EachGaveItsBlock g.G.Told.draws l.initial.floor → EachGaveItsBlock g.G.Told.draws l.floor;
  origin : roots_of l.floor ≡ roots_of l.initial.floor;
}
