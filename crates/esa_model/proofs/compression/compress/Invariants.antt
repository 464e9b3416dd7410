use Rattle.std.proofs.Common.{◌≡◌, ◌+◌, ◌*◌}
use Rattle.std.specs.List.{flat_map}
use Rattle.esa_params.specs.Sizes.{below}
use Rattle.esa_spec.specs.Draws.{Draw}
use Rattle.esa_spec.specs.Verdicts.{imported, steps_of}
use Rattle.esa_spec.specs.declared.event.Verdict.TheVariants.{Good}
use Rattle.esa_model.specs.Walked.{HaveArrived, IsReached, IsWithin, AreMade, Grows}
use Rattle.esa_model.proofs.compression.compress.Given as goal

abbrev pub invariant-loop-output : goal.invariant-loop-output
invariant-loop-output l = record {
  within : IsWithin l.plan l.window;
  imported_so_far : l.window.imported ≡ imported l.plan l.output;
  reached : (d : Draw) → HaveArrived l.plan d l.arrived → IsReached l.plan d l.window;
  made : (d : Draw) → HaveArrived l.plan d l.arrived → AreMade l.plan d l.attempt (flat_map (steps_of l.plan) (below l.output)) Good l.initial.trace l.trace;
  grows : Grows l.initial.trace l.trace (imported l.plan l.output * (l.plan.b + 1) + l.output);
}
