use Rattle.std.proofs.Common.{◌≡◌, map, None}
use Rattle.std.specs.Prelude.{find}
use Rattle.esa_params.specs.Sizes.{below}
use Rattle.esa_spec.specs.Traces.{written_tail}
use Rattle.esa_model.specs.Recorded.{with_accesses}
use Rattle.esa_model.specs.Walked.{is_over}
use Rattle.esa_model.proofs.compression.drain.Given as goal

abbrev pub invariant-loop-target : goal.invariant-loop-target
invariant-loop-target l = record {
  none : find (is_over l.lines) (below l.target) ≡ None;
  traced : l.trace ≡ with_accesses l.initial.trace (map (written_tail l.lines.p l.attempt) (below l.target));
}
