use Rattle.esa_compress.proofs.Orders.{two}
use Rattle.esa_compress.proofs.tests.starved.Goals as goal

pub import-requires : goal.import-requires
import-requires g c = record { each_once = two }
