use Rattle.esa_vault.proofs.BlockLaws.{opens-other_attempt, opens-other_nonce, opens-other_slot}
use Rattle.esa_vault.proofs.laws.other_nonces_do_not_open.Goals as goal

pub returns-clause-nonce : goal.returns-clause-nonce
returns-clause-nonce c = opens-other_nonce

pub returns-clause-slot : goal.returns-clause-slot
returns-clause-slot c = opens-other_slot

pub returns-clause-attempt : goal.returns-clause-attempt
returns-clause-attempt c = opens-other_attempt
