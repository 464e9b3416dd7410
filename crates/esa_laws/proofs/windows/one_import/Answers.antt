use Rattle.esa_laws.proofs.WindowLaws.{import-verdict, length-window, reached-le, window-import}
use Rattle.esa_laws.proofs.windows.one_import.Goals as goal

pub returns-clause-held : goal.returns-clause-held
returns-clause-held c = length-window

pub returns-clause-verdict : goal.returns-clause-verdict
returns-clause-verdict c = import-verdict

pub returns-clause-queue : goal.returns-clause-queue
returns-clause-queue c = window-import

pub returns-clause-more : goal.returns-clause-more
returns-clause-more c = reached-le
