use Rattle.esa_running.proofs.SameFailures.{fail-alike}
use Rattle.esa_running.proofs.SameOutput.{given-the-same, leave-the-same}
use Rattle.esa_running.proofs.replays.crews_output_is_replayed.Goals as goal

pub returns-clause-output : goal.returns-clause-output
returns-clause-output g c = λ purpose one other is back back_again well well_again. leave-the-same one other is back back_again well well_again

pub returns-clause-overflow : goal.returns-clause-overflow
returns-clause-overflow g c = λ purpose one other failures others is failed failed_again. fail-alike one other failures others is failed failed_again

pub returns-clause-given : goal.returns-clause-given
returns-clause-given g c = λ purpose one other records sizes begun begun_again told told_again. given-the-same one other records sizes begun begun_again told told_again
