use Rattle.std.proofs.Common.{◌≡◌, ◌+◌, ◌-◌, ◌++◌, Some, length, take, drop, ap, ◌∙◌, refl, arith, length-drop, length-take-le, le_of_eq, take_all}
use Rattle.std.specs.FinMap as finite
use Rattle.esa_recovery.specs.Recovered.{summed}
use Rattle.esa_recovery.specs.Sums.{plain}
use Rattle.esa_recovery.proofs.MergeLaws.{merging-all, merging-step, positive-sorted, run-fits}
use Rattle.esa_recovery.proofs.sums.merged.Goals as goal

pub total-requires : goal.total-requires
total-requires c =
    let all = c.deref.result.now in
    let start = c.loop-start.start in
    let rest = take (length all - start) (drop start all) in
    let is : rest ≡ drop start c.sort.new.sums.items = take_all (length all - start) (drop start all) (le_of_eq (length-drop start all)) ∙ ap (drop start) c.deref.ensures.value in
    run-fits c.args.sums.items c.sort.new.sums.items start c.run_length.result rest is c.in_ok-sort.ensures.same c.requires.fits

pub loop-start-preserved : goal.loop-start-preserved
loop-start-preserved c =
    let sums = c.sort.new.sums.items in
    let all = c.deref.result.now in
    let start = c.loop-start.start in
    let n = c.run_length.result in
    let rest = take (length all - start) (drop start all) in
    let is : rest ≡ drop start sums = take_all (length all - start) (drop start all) (le_of_eq (length-drop start all)) ∙ ap (drop start) c.deref.ensures.value in
    record {
      inside = omega (arith, c.loop-start.invariant.inside, c.run_length.ensures.inside, length-take-le n rest c.run_length.ensures.inside, ap length is, length-drop start sums);
      all = ap (λ items. plain items ++ finite.entries (summed Some (plain (drop (start + length (take n rest)) sums)))) c.in_ok-push.ensures.items
          ∙ merging-step sums start n rest is c.in_ok-sort.ensures.sorted (positive-sorted c.args.sums.items sums c.in_ok-sort.ensures.same c.requires.some)
          _ c.run_length.ensures.some c.run_length.ensures.inside c.run_length.ensures.one c.run_length.ensures.end c.loop-start.merged.items _ _ refl c.total.ensures c.loop-start.invariant.all;
    }

pub returns : goal.returns
returns c =
    merging-all c.args.sums.items c.sort.new.sums.items c.loop-start.merged.items c.loop-start.start c.in_ok-sort.ensures.same c.requires.some (omega (arith, c.loop-start-test.false, c.len.ensures)) c.loop-start.invariant.all
