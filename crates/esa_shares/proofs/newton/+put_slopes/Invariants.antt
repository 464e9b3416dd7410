use Rattle.std.proofs.Common.{length}
use Rattle.esa_shares.proofs.newton.+put_slopes.Given as goal

abbrev pub decreases-put_slopes : goal.decreases-put_slopes
decreases-put_slopes l = length l.points.now
