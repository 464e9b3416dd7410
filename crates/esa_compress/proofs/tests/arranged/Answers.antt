use Rattle.esa_compress.proofs.Orders.{four}
use Rattle.esa_compress.proofs.tests.arranged.Goals as goal

pub import-requires : goal.import-requires
import-requires g c = record { each_once = four }
