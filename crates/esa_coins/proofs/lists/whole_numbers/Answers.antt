use Rattle.std.proofs.Common.{ℕ, Ok, inr, sym, ap, ◌∙◌}
use Rattle.std.specs.Option.{ok_or}
use Rattle.serde_json.specs.Data.{Data}
use Rattle.serde_json.specs.View.{view}
use Rattle.esa_json.specs.Values.{number_in}
use Rattle.esa_coins.proofs.EachLaws.{each_more, seen_refused, seen_all}
use Rattle.esa_coins.proofs.lists.whole_numbers.Goals as goal

pub returns-in_default : goal.returns-in_default
returns-in_default c =
    let refused = c.args.refused in
    let read = λ (n : ℕ) (number : Data). ok_or (number_in number) refused in
    inr (seen_refused read view c.args.values.now c.loop-value.value-index c.value-item.result c.loop-value.numbers.items refused c.loop-value-test.true c.value-item.is c.loop-value.invariant
    (ap (λ found. ok_or found refused) (sym c.in_default.ensures)))

pub loop-value-preserved : goal.loop-value-preserved
loop-value-preserved c =
    let refused = c.args.refused in
    each_more (λ n value. ok_or (number_in (view value)) refused) c.args.values.now c.loop-value.value-index c.value-item.result c.loop-value.numbers.items c.in-Some.number c.loop-value-test.true c.value-item.is c.loop-value.invariant
    (ap (λ found. ok_or found refused) (sym c.in-Some.ensures))
    ∙ ap (λ list. Ok list) (sym c.in_ok-push.ensures.items)

pub returns : goal.returns
returns c =
    let read = λ (n : ℕ) (number : Data). ok_or (number_in number) c.args.refused in
    seen_all read view c.args.values.now c.loop-value.value-index c.loop-value.numbers.items c.loop-value-test.false c.loop-value.invariant
