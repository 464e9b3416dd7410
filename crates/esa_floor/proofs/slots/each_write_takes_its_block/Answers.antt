use Rattle.esa_floor.proofs.Writing.{took-begun, took-ended, took-input}
use Rattle.esa_floor.proofs.slots.each_write_takes_its_block.Goals as goal

pub returns-clause-input : goal.returns-clause-input
returns-clause-input g c = λ ds record_of f. took-input ds record_of f

pub returns-clause-begun : goal.returns-clause-begun
returns-clause-begun g c = λ ds record_of f attempt. took-begun ds record_of f attempt

pub returns-clause-ended : goal.returns-clause-ended
returns-clause-ended g c = λ ds record_of f outcome. took-ended ds record_of f outcome
