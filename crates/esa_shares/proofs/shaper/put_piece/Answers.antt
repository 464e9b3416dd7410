use Rattle.std.proofs.Common.{◌≡◌, ◌∙◌, ◌<◌, length, arith}
use Rattle.esa_shares.proofs.ColumnLaws.{listed}
use Rattle.esa_shares.proofs.shaper.put_piece.Goals as goal

pub returns : goal.returns
returns c = λ key begins.
    let size : length c.loop-y.out ≡ length c.args.value.now = c.loop-y.auto.out ∙ c.requires.room in
    listed _ (length c.args.value.now) c.loop-y.out size
    (λ y less.
    let inside : y < c.loop-y.y = omega (arith, less, size, c.loop-y-test.false, c.requires.room) in
    (c.loop-y.invariant key begins).done y inside)
