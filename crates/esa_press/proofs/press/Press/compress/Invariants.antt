-- The output buckets before this one are put out.
use Rattle.std.proofs.Common.{◌≡◌, ◌+◌, ◌-◌, ◌*◌, ◌≤◌, Ok, length, ℕ}
use Rattle.std.specs.List.{flat_map}
use Rattle.esa_floor.specs.Standing.{turns_made}
use Rattle.esa_params.specs.Sizes.{below, first}
use Rattle.esa_spec.specs.Turns.{order}
use Rattle.esa_spec.specs.Verdicts.{imported, reached, steps_of}
use Rattle.esa_press.specs.Stepped.{AreMade}
use Rattle.esa_press.specs.Contents.{AreOrders, ArePut, GoesOnGiving, GoesOnPressing, HoldsDistribution, waiting_items}
use Rattle.esa_device.specs.Logs.{IsFaithful, NoneFailed}
use Rattle.esa_report.specs.declared.item.Item.{Item}
use Rattle.esa_press.proofs.press.Press.compress.Given as goal

abbrev pub invariant-loop-output : goal.invariant-loop-output
invariant-loop-output g l = record {
  from : l.from ≡ imported l.fn.floor.plan l.output;
  floor : l.floor ≡ record l.fn.floor { recorder = l.floor.recorder };
  others : l.self ≡ record l.fn.self { queue = l.self.queue; counts = l.self.counts };
  ready : l.floor.recorder.plan ≡ l.fn.floor.recorder.plan;
  total : length l.floor.recorder.trace + l.floor.recorder.room ≡ length l.fn.floor.recorder.trace + l.fn.floor.recorder.room;
  used : l.fn.floor.recorder.room ≤ l.floor.recorder.room + (l.from * (l.fn.floor.plan.b + 1) + l.output);
  put : first l.fn.floor.plan l.output ≤ reached l.fn.floor.plan (g.G.Told.draws l.attempt) l.from;
  waits : length l.self.queue ≡ reached l.fn.floor.plan (g.G.Told.draws l.attempt) l.from - first l.fn.floor.plan l.output;
  made : AreMade {T = Unit {0}} g.V.Device.faults l.fn.floor.plan l.fn.floor.run (g.G.Told.draws l.attempt) (order l.fn.floor.plan.b (turns_made l.fn.floor)) l.attempt
      (flat_map (steps_of l.fn.floor.plan) (below l.output)) l.fn.floor.recorder l.floor.recorder (Ok tt);
  log : GoesOnPressing l.fn.floor.recorder.log l.floor.recorder.log;
  failed : NoneFailed l.fn.floor.recorder.log → NoneFailed l.floor.recorder.log;
  reads : GoesOnGiving {T = Unit {0}} g.G.Told.draws l.attempt l.fn.floor l.floor (Ok tt);
  puts : (record_of : ℕ → Item) → AreOrders l.fn.floor.plan (g.G.Told.draws l.attempt) (g.C.Coins.order_list l.coins l.attempt)
      → HoldsDistribution l.fn.floor.plan l.fn.floor.run (g.G.Told.draws l.attempt) (turns_made l.fn.floor) l.attempt record_of l.fn.floor.recorder.log
      → IsFaithful l.fn.floor.plan l.floor.recorder.log
      → ArePut l.fn.floor.plan l.fn.floor.run (g.G.Told.draws l.attempt) (turns_made l.fn.floor) l.attempt record_of l.output l.fn.floor.recorder.log l.floor.recorder.log
      × (l.self.queue ≡ waiting_items l.fn.floor.plan (g.G.Told.draws l.attempt) (turns_made l.fn.floor) record_of l.output l.from);
}
