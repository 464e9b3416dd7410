use Rattle.std.proofs.Common.{◌∙◌, ◌++◌, List, ℕ, ap₂}
use Rattle.esa_shares.specs.Share.{piece_of}
use Rattle.esa_shares.proofs.ShareSteps.{pieces_more}
use Rattle.esa_shares.proofs.shaper.+put_pieces.Goals as goal

pub returns : goal.returns
returns t c = λ key begins.
    ap₂ (λ (a b : List ℕ). a ++ b) (c.put_piece.ensures key begins) (c.put_pieces.ensures key begins)
    ∙ pieces_more (piece_of key c.args.value.now) c.args.power c.args.count c.if-count-eq0.false
