use Rattle.std.proofs.Common.{ap, sym, ◌∙◌}
use Rattle.std.specs.Prelude.{filter_map, slice_get}
use Rattle.esa_running.proofs.HandedIn.{handed-failed, handed-good, handed-places, handed-trace, handed-trace-failed}
use Rattle.esa_running.proofs.handed_in.turns_can_be_handed_in_again.Goals as goal

pub returns-clause-good : goal.returns-clause-good
returns-clause-good g c = handed-good

pub returns-clause-trace : goal.returns-clause-trace
returns-clause-trace g c = handed-trace

pub returns-clause-output : goal.returns-clause-output
returns-clause-output g c = λ p ds hs a records out few good comes.
    record { all = comes.all; order = comes.order ∙ ap (filter_map (slice_get records)) (sym (handed-places p ds hs a few good)) }

pub returns-clause-failed : goal.returns-clause-failed
returns-clause-failed g c = handed-failed

pub returns-clause-trace_failed : goal.returns-clause-trace_failed
returns-clause-trace_failed g c = handed-trace-failed
