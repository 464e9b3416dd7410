use Rattle.std.proofs.Common.{length}
use Rattle.esa_shares.proofs.newton.+interpolate.Given as goal

abbrev pub decreases-interpolate : goal.decreases-interpolate
decreases-interpolate l = length l.points.now
