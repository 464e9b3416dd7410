use Rattle.std.proofs.Common.{◌≡◌, ◌∙◌, ◌<◌, ◌-◌, ◌*◌, length, get_or, rules, refl, sym, arith, ap, ap₂}
use Rattle.esa_shares.specs.Polynomial.{recovered}
use Rattle.esa_shares.proofs.ColumnLaws.{listed, combined_on, combined_none}
use Rattle.esa_shares.proofs.SecretLaws.{gives_back}
use Rattle.esa_shares.proofs.polynomial.recover.Goals as goal

pub loop-z-init : goal.loop-z-init
loop-z-init c = λ y below.
    let zero : get_or c.fill.new.self y 0 ≡ 0 = search rules in
    let all : length c.args.points.now - 0 ≡ length c.args.points.now = omega arith in
    let start : 0 * length c.args.out.now ≡ 0 = omega arith in
    rw (zero, all, start) refl

pub loop-z-preserved : goal.loop-z-preserved
loop-z-preserved c = λ y below.
    let size = length c.args.out.now in
    let inside : y < length c.loop-z.out = omega (arith, below, c.fill.ensures.len, c.loop-z.auto.out) in
    combined_on c.args.points.now c.args.shares.now size y c.loop-z.z _ _ _ _ c.loop-z-test.true below c.weight_of.ensures (c.loop-z.invariant y below) (c.add_scaled.ensures y inside)

pub returns-clause-value : goal.returns-clause-value
returns-clause-value c =
    let size = length c.args.out.now in
    let whole : length c.loop-z.out ≡ size = omega (arith, c.fill.ensures.len, c.loop-z.auto.out) in
    listed _ size _ whole
    (λ y below. combined_none c.args.points.now c.args.shares.now size y c.loop-z.z _ _ c.loop-z-test.false (c.loop-z.invariant y below))

pub returns-clause-secret : goal.returns-clause-secret
returns-clause-secret c = λ secret coefs bytes more same whole are.
    returns-clause-value c
    ∙ ap₂ (λ size shares. recovered size c.args.points.now shares) (sym same) are
    ∙ gives_back c.args.points.now secret coefs c.requires.points (λ i. (c.type_inv.points i).fits) bytes more (whole ∙ c.requires.whole ∙ ap (λ n. length c.args.points.now * n) (sym same))
