use Rattle.esa_laws.proofs.MapLaws.{waiting-map, leaving-map, queue-map}
use Rattle.esa_laws.proofs.queues.mapped_batches.Goals as goal

pub returns-clause-waiting : goal.returns-clause-waiting
returns-clause-waiting g c = λ f k es. waiting-map f k es

pub returns-clause-leaving : goal.returns-clause-leaving
returns-clause-leaving g c = λ f k es. leaving-map f k es

pub returns-clause-queue : goal.returns-clause-queue
returns-clause-queue g c = λ f k es. queue-map f k es
