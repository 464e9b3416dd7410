use Rattle.std.proofs.Common.{Ok, map, sym, ap, ◌∙◌}
use Rattle.std.proofs.lemmas.List.{map-append}
use Rattle.std.proofs.lemmas.Result.{err_from_is_err_and}
use Rattle.serde_json.specs.View.{view}
use Rattle.esa_coins.specs.Table.{order_in}
use Rattle.esa_coins.proofs.EachLaws.{each_more, seen_stops, seen_all}
use Rattle.esa_coins.proofs.lists.each_order.Goals as goal

pub returns-in_err-order : goal.returns-in_err-order
returns-in_err-order c =
    let p = err_from_is_err_and c.from_residual-in_err-order.result c.from_residual-in_err-order.ensures.1 in
    rw (p.1, p.2) (seen_stops (order_in c.args.plan.now c.args.attempt) view c.args.values.now c.loop-bucket.bucket c.index-values-bucket.result _ c.in_err-order.field-0.0 c.loop-bucket-test.true c.index-values-bucket.is c.loop-bucket.invariant c.in_err-order.ensures)

pub loop-bucket-preserved : goal.loop-bucket-preserved
loop-bucket-preserved c =
    each_more (λ bucket value. order_in c.args.plan.now c.args.attempt bucket (view value)) c.args.values.now c.loop-bucket.bucket c.index-values-bucket.result _ c.in_ok-order.order.items c.loop-bucket-test.true c.index-values-bucket.is c.loop-bucket.invariant c.in_ok-order.ensures
    ∙ ap (λ list. Ok list) (sym (ap (map (λ order. order.items)) c.in_ok-push.ensures.items ∙ map-append (λ order. order.items) _ _))

pub returns : goal.returns
returns c =
    seen_all (order_in c.args.plan.now c.args.attempt) view c.args.values.now c.loop-bucket.bucket _ c.loop-bucket-test.false c.loop-bucket.invariant
