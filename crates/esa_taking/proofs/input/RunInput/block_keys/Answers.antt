use Rattle.std.proofs.Common.{refl}
use Rattle.esa_job.specs.declared.keys.KeyField.TheVariants as key
use Rattle.esa_taking.proofs.Needed.{has_key}
use Rattle.esa_taking.proofs.input.RunInput.block_keys.Goals as goal

pub run-requires : goal.run-requires
run-requires c = has_key c.args.self.now c.requires key.Run refl refl
