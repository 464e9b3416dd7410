use Rattle.std.proofs.Common.{◌≡◌}
use Rattle.esa_recovery.specs.declared.refused.RecoverRefused.TheVariants.{OutOfMemory}
use Rattle.esa_recovery.proofs.RecoveredLaws.{total-kept}
use Rattle.esa_recovery.proofs.recovered.Recovered.make.Goals as goal

pub returns-clause-whole : goal.returns-clause-whole
returns-clause-whole c = total-kept c.args.db.now c.recovered_from.result (λ refused. refused ≡ OutOfMemory) c.recovered_from.ensures
