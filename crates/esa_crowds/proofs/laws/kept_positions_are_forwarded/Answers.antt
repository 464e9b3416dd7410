use Rattle.esa_crowds.specs.Kept.{drops_in}
use Rattle.esa_crowds.proofs.SentLaws.{sent-forwarded}
use Rattle.esa_crowds.proofs.laws.kept_positions_are_forwarded.Goals as goal

pub returns : goal.returns
returns c = λ form key drops t items. sent-forwarded form key (drops_in key drops) t items
