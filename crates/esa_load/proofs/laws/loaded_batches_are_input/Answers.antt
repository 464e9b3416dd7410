use Rattle.esa_load.proofs.Input.{is_input}
use Rattle.esa_load.proofs.laws.loaded_batches_are_input.Goals as goal

pub returns : goal.returns
returns c = is_input
