-- The targets before this one are imported.
use Rattle.std.proofs.Common.{◌≡◌, ◌+◌, ◌-◌, ◌*◌, ◌≤◌, Ok, length, map, ℕ}
use Rattle.std.specs.List.{range_with_len}
use Rattle.esa_floor.specs.Standing.{turns_made}
use Rattle.esa_params.specs.Sizes.{first, ArePlanned}
use Rattle.esa_spec.specs.Turns.{order}
use Rattle.esa_spec.specs.Verdicts.{Import, reached}
use Rattle.esa_press.specs.Stepped.{AreMade}
use Rattle.esa_press.specs.Contents.{AreOrders, GoesOnGiving, HoldsDistribution, waiting_items}
use Rattle.esa_press.specs.Fetched.{GoesOnReading}
use Rattle.esa_device.specs.Logs.{IsFaithful, NoneFailed}
use Rattle.esa_report.specs.declared.item.Item.{Item}
use Rattle.esa_press.proofs.press.Press.import_ahead.Given as goal

abbrev pub invariant-loop-target : goal.invariant-loop-target
invariant-loop-target g l = record {
  from : l.from ≤ l.target;
  floor : l.floor ≡ record l.fn.floor { recorder = l.floor.recorder };
  others : l.self ≡ record l.fn.self { queue = l.self.queue; counts = l.self.counts };
  ready : l.floor.recorder.plan ≡ l.fn.floor.recorder.plan;
  total : length l.floor.recorder.trace + l.floor.recorder.room ≡ length l.fn.floor.recorder.trace + l.fn.floor.recorder.room;
  used : l.fn.floor.recorder.room ≤ l.floor.recorder.room + (l.target - l.from) * (l.fn.floor.plan.b + 1);
  waits : length l.self.queue ≡ reached l.fn.floor.plan (g.G.Told.draws l.attempt) l.target - first l.fn.floor.plan l.output;
  made : AreMade {T = Unit {0}} g.V.Device.faults l.fn.floor.plan l.fn.floor.run (g.G.Told.draws l.attempt) (order l.fn.floor.plan.b (turns_made l.fn.floor)) l.attempt
      (map (Import l.output) (range_with_len l.from (l.target - l.from))) l.fn.floor.recorder l.floor.recorder (Ok tt);
  log : GoesOnReading l.fn.floor.recorder.log l.floor.recorder.log;
  failed : NoneFailed l.fn.floor.recorder.log → NoneFailed l.floor.recorder.log;
  reads : GoesOnGiving {T = Unit {0}} g.G.Told.draws l.attempt l.fn.floor l.floor (Ok tt);
  keeps : (record_of : ℕ → Item) → ArePlanned l.fn.floor.plan → AreOrders l.fn.floor.plan (g.G.Told.draws l.attempt) (g.C.Coins.order_list l.coins l.attempt)
      → HoldsDistribution l.fn.floor.plan l.fn.floor.run (g.G.Told.draws l.attempt) (turns_made l.fn.floor) l.attempt record_of l.fn.floor.recorder.log
      → IsFaithful l.fn.floor.plan l.floor.recorder.log
      → l.fn.self.queue ≡ waiting_items l.fn.floor.plan (g.G.Told.draws l.attempt) (turns_made l.fn.floor) record_of l.output l.from
      → l.self.queue ≡ waiting_items l.fn.floor.plan (g.G.Told.draws l.attempt) (turns_made l.fn.floor) record_of l.output l.target;
}
