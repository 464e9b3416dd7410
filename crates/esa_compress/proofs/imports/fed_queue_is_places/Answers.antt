use Rattle.esa_compress.proofs.FedLaws.{fed-ends, fed-gives}
use Rattle.esa_compress.proofs.imports.fed_queue_is_places.Goals as goal

pub returns-clause-verdict : goal.returns-clause-verdict
returns-clause-verdict c = fed-ends

pub returns-clause-outputs : goal.returns-clause-outputs
returns-clause-outputs c = fed-gives
