use Rattle.esa_laws.proofs.SlotLaws.{input-once, slot-once}
use Rattle.esa_laws.proofs.nonces.slots_are_written_once.Goals as goal

pub returns-clause-input : goal.returns-clause-input
returns-clause-input c = λ p ds hs number planned number_in. input-once p number number_in ds hs planned

pub returns-clause-attempt : goal.returns-clause-attempt
returns-clause-attempt c = slot-once
