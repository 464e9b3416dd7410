use Rattle.esa_shares.proofs.newton.+expand.Given as goal

abbrev pub decreases-expand : goal.decreases-expand
decreases-expand l = l.behind
