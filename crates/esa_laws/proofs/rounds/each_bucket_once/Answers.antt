use Rattle.esa_laws.proofs.TotalLaws.{all-exchanged, once, order-permutes}
use Rattle.esa_laws.proofs.rounds.each_bucket_once.Goals as goal

pub returns-clause-once : goal.returns-clause-once
returns-clause-once c = once

pub returns-clause-count : goal.returns-clause-count
returns-clause-count c = all-exchanged

pub returns-clause-permutes : goal.returns-clause-permutes
returns-clause-permutes c = order-permutes
