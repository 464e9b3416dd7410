use Rattle.std.proofs.Common.{refl}
use Rattle.esa_job.specs.declared.keys.KeyField.TheVariants as key
use Rattle.esa_taking.proofs.Needed.{has_key}
use Rattle.esa_taking.proofs.input.RunInput.outer_keys.Goals as goal

pub outer-master-requires : goal.outer-master-requires
outer-master-requires c = has_key c.args.self.now c.requires key.Outer refl refl
