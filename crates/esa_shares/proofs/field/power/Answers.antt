use Rattle.esa_shares.proofs.TableLaws.{power_at}
use Rattle.esa_shares.proofs.field.power.Goals as goal

pub returns : goal.returns
returns c = power_at c.args.exponent c.requires
