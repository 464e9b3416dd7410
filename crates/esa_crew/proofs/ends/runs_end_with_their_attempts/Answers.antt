use Rattle.esa_crew.proofs.Finishing.{ends_failed, ends_shuffled}
use Rattle.esa_crew.proofs.ends.runs_end_with_their_attempts.Goals as goal

pub returns-clause-shuffled : goal.returns-clause-shuffled
returns-clause-shuffled g c = λ p ds f a over finished good. ends_shuffled g.V.Device.faults p ds f a over finished good

pub returns-clause-overflow : goal.returns-clause-overflow
returns-clause-overflow g c = λ p ds f a over failed last. ends_failed g.V.Device.faults p ds f a over failed last
