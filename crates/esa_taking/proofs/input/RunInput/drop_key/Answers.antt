use Rattle.std.proofs.Common.{refl}
use Rattle.esa_job.specs.declared.keys.KeyField.TheVariants as key
use Rattle.esa_taking.proofs.Needed.{has_key}
use Rattle.esa_taking.proofs.input.RunInput.drop_key.Goals as goal

pub drop_key-requires : goal.drop_key-requires
drop_key-requires c = has_key c.args.self.now c.requires key.Drop refl refl
