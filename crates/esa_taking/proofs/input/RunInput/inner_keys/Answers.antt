use Rattle.std.proofs.Common.{ap}
use Rattle.esa_job.specs.Keys.{needs_key}
use Rattle.esa_job.specs.declared.keys.KeyField.TheVariants as key
use Rattle.std.specs.Prelude.{false}
use Rattle.esa_taking.proofs.input.RunInput.inner_keys.Goals as goal

pub inner-master-requires : goal.inner-master-requires
inner-master-requires c = c.requires.taken.keys key.Inner (ap (λ command. needs_key command false key.Inner) c.requires.command)
