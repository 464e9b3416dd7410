use Rattle.esa_laws.proofs.NonceLaws.{nonces-fresh}
use Rattle.esa_laws.proofs.nonces.nonces_are_fresh.Goals as goal

pub returns : goal.returns
returns c = nonces-fresh
