use Rattle.std.proofs.Common.{◌≡◌, ◌∙◌, arith, length-set}
use Rattle.esa_job.proofs.DropLemmas.{one_more, bad_line, another_line, whole_table}
use Rattle.esa_job.proofs.drops.Drops.read.Goals as goal

pub loop-place-preserved : goal.loop-place-preserved
loop-place-preserved c =
    let so = c.loop-place.invariant in
    record {
      full = length-set c.loop-place.entries c.loop-place.place c.in-Some.number ∙ so.full;
      so_far = one_more _ _ _ _ _ _ c.loop-place-test.true so.full so.so_far c.in-Some.ensures.value c.in-Some.ensures.rest;
    }

pub returns-in-None-clause-err : goal.returns-in-None-clause-err
returns-in-None-clause-err c =
    let so = c.loop-place.invariant in
    bad_line _ _ _ _ c.loop-place-test.true so.full so.so_far c.in-None.ensures.value

pub returns-in-Some-split_line-clause-err : goal.returns-in-Some-split_line-clause-err
returns-in-Some-split_line-clause-err c =
    let so = c.loop-place.invariant in
    let last : c.loop-place.place ≡ 256 = omega arith in
    another_line _ _ _ _ _ _ last so.full so.so_far c.in-Some-split_line.ensures.lines

pub returns-in-None-split_line-clause-ok : goal.returns-in-None-split_line-clause-ok
returns-in-None-split_line-clause-ok c =
    let so = c.loop-place.invariant in
    let last : c.loop-place.place ≡ 256 = omega arith in
    whole_table _ _ _ _ last so.full so.so_far c.in-None-split_line.ensures.last
