use Rattle.esa_compress.proofs.ImportLaws.{queue-front, queue-put}
use Rattle.esa_compress.proofs.imports.one_output_held.Goals as goal

pub returns-clause-front : goal.returns-clause-front
returns-clause-front c = queue-front

pub returns-clause-queue : goal.returns-clause-queue
returns-clause-queue c = queue-put
