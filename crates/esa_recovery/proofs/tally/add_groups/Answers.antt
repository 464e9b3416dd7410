use Rattle.std.proofs.Common.{◌≡◌, ◌<◌, true, None, Some, option_map, slice_index, sym, ap, subst, ◌∙◌, arith}
use Rattle.std.specs.Prelude.{All}
use Rattle.esa_recovery.specs.Groups.{given}
use Rattle.esa_recovery.specs.Sums.{counted, tested, plain}
use Rattle.esa_recovery.proofs.SumsLaws.{counted-add, groups-at}
use Rattle.esa_recovery.proofs.TallyLaws.{given-at}
use Rattle.esa_recovery.proofs.tally.add_groups.Goals as goal
use Rattle.esa_recovery.proofs.tally.add_groups.Goals.{in-Some+in_ok-put-in-Some, in-None}

pub overflow_add-lost : goal.overflow_add-lost
overflow_add-lost c =
    let groups = c.args.groups.now in
    let k = c.loop-number.number in
    let at = given-at groups k c.index.result.now (omega (arith, c.loop-number-test.true, c.requires.each)) c.index.ensures in
    omega (arith, c.loop-number.invariant.counted (λ _. true), c.requires.fits, groups-at (λ _. true) (given groups) c.args.counts.now k (option_map (λ value. value.items) c.index.result.now) at c.loop-number-test.true)

pub loop-number-preserved : goal.loop-number-preserved
loop-number-preserved c =
    let groups = c.args.groups.now in
    let k = c.loop-number.number in
    let count = slice_index c.args.counts.now k in
    let value = option_map (λ value. value.items) c.index.result.now in
    let at = given-at groups k c.index.result.now (omega (arith, c.loop-number-test.true, c.requires.each)) c.index.ensures in
    elim c.match-index.branch [
      | in-Some+in_ok-put-in-Some w ↦ record {
        some = subst (λ sums. All (λ row. 0 < row.1) (plain sums.items)) (sym w.sums-is) (w.in_ok-put-in-Some.ensures.some c.loop-number.invariant.some);
        counted = λ test.
            let meant : value ≡ Some w.deref.result.now = ap (option_map (λ value. value.items)) w.in-Some.is ∙ ap Some (sym w.deref.ensures.value) in
            omega (
              arith,
              c.loop-number.invariant.counted test,
              groups-at test (given groups) c.args.counts.now k value at c.loop-number-test.true,
              w.in_ok-put-in-Some.ensures.counted test,
              ap (λ m. counted test m count) meant,
              ap (λ sums. tested test Some (plain sums.items)) w.sums-is,
              ap (counted test None) w.lost-is,
            );
      }
      | in-None w ↦ record {
        some = subst (λ sums. All (λ row. 0 < row.1) (plain sums.items)) (sym w.sums-is) c.loop-number.invariant.some;
        counted = λ test.
            let meant : value ≡ None = ap (option_map (λ value. value.items)) w.in-None.is in
            omega (
              arith,
              c.loop-number.invariant.counted test,
              groups-at test (given groups) c.args.counts.now k value at c.loop-number-test.true,
              counted-add (test None) c.loop-number.lost count,
              ap (λ m. counted test m count) meant,
              ap (λ sums. tested test Some (plain sums.items)) w.sums-is,
              ap (counted test None) w.lost-is,
            );
      }
    ]
