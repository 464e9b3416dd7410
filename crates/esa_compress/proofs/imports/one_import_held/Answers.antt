use Rattle.esa_compress.proofs.ImportLaws.{import-answer, queue-import}
use Rattle.esa_compress.proofs.imports.one_import_held.Goals as goal

pub returns-clause-verdict : goal.returns-clause-verdict
returns-clause-verdict c = λ p d h drawn all fits record_of held. import-answer p d h drawn all fits record_of held

pub returns-clause-queue : goal.returns-clause-queue
returns-clause-queue c = λ p d h drawn all fits record_of held. queue-import p d h drawn all fits record_of held
