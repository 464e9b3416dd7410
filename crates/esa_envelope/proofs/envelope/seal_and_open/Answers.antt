use Rattle.std.proofs.Common.{arith}
use Rattle.esa_envelope.proofs.EnvelopeLemmas.{came_back, opened-sealed_as}
use Rattle.esa_envelope.proofs.envelope.seal_and_open.Goals as goal

pub returns-clause-opens : goal.returns-clause-opens
returns-clause-opens c =
    (came_back c.args.keys.now c.args.label c.args.nonce c.args.plain.now c.seal.new.out c.unseal.new.out c.unseal.result
    (omega arith) c.seal.ensures c.unseal.ensures.value).0

pub returns-clause-back : goal.returns-clause-back
returns-clause-back c =
    (came_back c.args.keys.now c.args.label c.args.nonce c.args.plain.now c.seal.new.out c.unseal.new.out c.unseal.result
    (omega arith) c.seal.ensures c.unseal.ensures.value).1

pub returns-clause-round_trip : goal.returns-clause-round_trip
returns-clause-round_trip c = opened-sealed_as c.args.keys.now c.args.label c.args.nonce c.args.plain.now (omega arith)
