use Rattle.std.proofs.Common.{◌<◌, ◌≤◌, length, get_or, refl, sym, arith}
use Rattle.esa_coins.proofs.Marks.{none_marked, one_marked, all_marked, no_place, marked_before}
use Rattle.esa_coins.proofs.orders.mark_each.Goals as goal
use Rattle.esa_coins.proofs.orders.mark_each.Goals.{then-number-seen-via-then-number-seen, then-number-seen-via-else-number-seen+then-seen-number}

pub loop-number-init : goal.loop-number-init
loop-number-init c = none_marked c.args.numbers.now c.args.seen.now c.requires.none_seen

pub returns-then-number-seen : goal.returns-then-number-seen
returns-then-number-seen c =
    let numbers = c.args.numbers.now in
    let place = get_or numbers c.loop-number.number-index 0 in
    let so = c.loop-number.invariant in
    let inside = c.loop-number-test.true in
    elim c.then-number-seen.branch [
      | then-number-seen-via-then-number-seen w ↦
          let over : length c.args.seen.now ≤ place = omega (arith, so.places, w.if-number-seen.true) in
          sym (no_place _ numbers c.loop-number.number-index inside over)
      | then-number-seen-via-else-number-seen+then-seen-number w ↦
          let within : place < length c.args.seen.now = omega (arith, so.places, w.if-number-seen.false) in
          sym (marked_before _ numbers c.loop-number.number-index place _ c.loop-number.seen inside refl within w.if-seen-number.true so)
    ]

pub loop-number-preserved : goal.loop-number-preserved
loop-number-preserved c =
    let numbers = c.args.numbers.now in
    let place = get_or numbers c.loop-number.number-index 0 in
    let so = c.loop-number.invariant in
    let within : place < length c.args.seen.now = omega (arith, so.places, c.if-number-seen.false) in
    one_marked _ numbers c.loop-number.number-index place _ c.loop-number.seen c.loop-number-test.true refl within c.if-seen-number.false so

pub returns : goal.returns
returns c =
    let numbers = c.args.numbers.now in
    let whole : length numbers ≤ c.loop-number.number-index = omega (arith, c.loop-number-test.false) in
    sym (all_marked _ numbers c.loop-number.number-index c.loop-number.seen c.requires.as_many whole c.loop-number.invariant)
