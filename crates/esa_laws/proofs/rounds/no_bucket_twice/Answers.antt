use Rattle.esa_laws.proofs.TotalLaws.{at-most-once}
use Rattle.esa_laws.proofs.rounds.no_bucket_twice.Goals as goal

pub returns : goal.returns
returns c = at-most-once
