use Rattle.esa_laws.proofs.WindowLaws.{put-verdict, window-output, window-put}
use Rattle.esa_laws.proofs.windows.one_output.Goals as goal

pub returns-clause-verdict : goal.returns-clause-verdict
returns-clause-verdict c = put-verdict

pub returns-clause-places : goal.returns-clause-places
returns-clause-places c = window-output

pub returns-clause-queue : goal.returns-clause-queue
returns-clause-queue c = window-put
