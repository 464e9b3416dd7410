use Rattle.esa_shares.proofs.shaper.+put_pieces.Given as goal

abbrev pub decreases-put_pieces : goal.decreases-put_pieces
decreases-put_pieces l = l.count
