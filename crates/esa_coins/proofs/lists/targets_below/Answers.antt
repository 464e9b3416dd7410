use Rattle.std.proofs.Common.{◌<◌, ◌≤◌, nat_lt, get_or, Ok, inr, sym, ap, ◌∙◌, arith}
use Rattle.std.proofs.lemmas.Bool.{le-ltb, lt-ltb}
use Rattle.std.proofs.lemmas.List.{get_or_default}
use Rattle.esa_coins.specs.Table.{only_if}
use Rattle.esa_coins.specs.declared.refused.CoinsRefused.TheVariants.{Target}
use Rattle.esa_coins.proofs.EachLaws.{each_more, each_refused}
use Rattle.esa_coins.proofs.lists.targets_below.Goals as goal

pub returns-then-number-from : goal.returns-then-number-from
returns-then-number-from c =
    let numbers = c.args.numbers.now in
    let place = c.loop-place.place in
    let target = get_or numbers place 0 in
    let refused = Target c.args.attempt place in
    let over : c.args.buckets ≤ target = omega arith in
    inr (each_refused (λ x y. only_if (nat_lt y c.args.buckets) y (Target c.args.attempt x)) numbers place target c.loop-place.targets.items refused c.loop-place-test.true (sym (get_or_default numbers place target 0 c.loop-place-test.true)) c.loop-place.invariant
    (ap (λ test. only_if test target refused) (le-ltb target c.args.buckets over)))

pub loop-place-preserved : goal.loop-place-preserved
loop-place-preserved c =
    let numbers = c.args.numbers.now in
    let place = c.loop-place.place in
    let target = get_or numbers place 0 in
    let below : target < c.args.buckets = omega arith in
    each_more (λ x y. only_if (nat_lt y c.args.buckets) y (Target c.args.attempt x)) numbers place target c.loop-place.targets.items target c.loop-place-test.true (sym (get_or_default numbers place target 0 c.loop-place-test.true)) c.loop-place.invariant
    (ap (λ test. only_if test target (Target c.args.attempt place)) (lt-ltb target c.args.buckets below))
    ∙ ap (λ list. Ok list) (sym c.in_ok-push.ensures.items)
