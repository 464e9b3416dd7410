use Rattle.std.proofs.Common.{◌≡◌, ◌+◌, ◌-◌, ◌*◌, ◌≤◌, map}
use Rattle.std.specs.List.{range_with_len}
use Rattle.esa_spec.specs.Draws.{Draw}
use Rattle.esa_spec.specs.Verdicts.{Import}
use Rattle.esa_spec.specs.declared.event.Verdict.TheVariants.{Good}
use Rattle.esa_model.specs.Walked.{HaveArrived, IsReached, IsWithin, AreMade, Grows}
use Rattle.esa_model.proofs.compression.import_ahead.Given as goal

abbrev pub invariant-loop-ahead : goal.invariant-loop-ahead
invariant-loop-ahead l = record {
  within : IsWithin l.plan l.window;
  from : l.initial.window.imported ≤ l._ahead;
  imported : l.window.imported ≡ l._ahead;
  reached : (d : Draw) → HaveArrived l.plan d l.arrived → IsReached l.plan d l.initial.window → IsReached l.plan d l.window;
  made : (d : Draw) → HaveArrived l.plan d l.arrived → IsReached l.plan d l.initial.window
      → AreMade l.plan d l.attempt (map (Import l.output) (range_with_len l.initial.window.imported (l._ahead - l.initial.window.imported))) Good l.initial.trace l.trace;
  grows : Grows l.initial.trace l.trace ((l._ahead - l.initial.window.imported) * (l.plan.b + 1));
}
