use Rattle.std.proofs.Common.{◌≡◌, ◌<◌, ◌/◌, length, arith}
use Rattle.esa_shares.proofs.ColumnLaws.{listed, value_on, value_end}
use Rattle.esa_shares.proofs.polynomial.evaluate.Goals as goal

pub loop-left-preserved : goal.loop-left-preserved
loop-left-preserved c =
    let size = length c.args.secret.now in
    let i = c.loop-left.invariant in
    record {
      within = omega (arith, i.within);
      done = λ y below.
          let inside : y < length c.loop-left.out = omega (arith, below, c.requires.room, c.fill.ensures.len, c.loop-left.auto.out) in
          value_on size y c.loop-left.left (length c.args.coefs.now / size) c.args.coefs.now c.args.x _ _ c.loop-left-test.true i.within below (i.done y below) (c.scale_and_add.ensures y inside);
    }

pub returns : goal.returns
returns c =
    let size = length c.args.secret.now in
    let whole : length c.scale_and_add-2.new.out ≡ size = omega (arith, c.requires.room, c.fill.ensures.len, c.loop-left.auto.out, c.scale_and_add-2.auto.out) in
    let none : c.loop-left.left ≡ 0 = omega (arith, c.loop-left-test.false) in
    listed _ size _ whole
    (λ y below.
    let inside : y < length c.loop-left.out = omega (arith, below, c.requires.room, c.fill.ensures.len, c.loop-left.auto.out) in
    value_end size y c.loop-left.left (length c.args.coefs.now / size) c.args.coefs.now c.args.x _ _ _ none (c.loop-left.invariant.done y below) (c.scale_and_add-2.ensures y inside))
