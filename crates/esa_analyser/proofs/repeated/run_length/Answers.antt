use Rattle.std.proofs.Common.{sym, ◌∙◌, arith}
use Rattle.std.specs.Prelude.{bytes_eq}
use Rattle.std.proofs.lemmas.List.{get_or_default}
use Rattle.esa_analyser.proofs.Repeats.{run_in}
use Rattle.esa_analyser.proofs.repeated.run_length.Goals as goal

pub returns-else-eq-clause-run : goal.returns-else-eq-clause-run
returns-else-eq-clause-run g c = λ first.
    let list = c.args.list.now in
    let n = c.loop-equal.equal in
    let here = get_or_default list n first c.index-list-equal.result c.loop-equal-test.true in
    let start = get_or_default list 0 first c.index-list-0.result c.requires.some in
    run_in list n first c.requires.each c.loop-equal.invariant.some c.loop-equal.invariant.inside c.loop-equal.invariant.same
    (λ _. (λ i. bytes_eq (here i).key (start i).key) ∙ sym c.if-eq.ensures)

pub returns-after-loop-equal-clause-run : goal.returns-after-loop-equal-clause-run
returns-after-loop-equal-clause-run g c = λ first.
    run_in c.args.list.now c.loop-equal.equal first c.requires.each c.loop-equal.invariant.some c.loop-equal.invariant.inside c.loop-equal.invariant.same
    (λ below. absurd (omega (arith, c.loop-equal-test.false)))
