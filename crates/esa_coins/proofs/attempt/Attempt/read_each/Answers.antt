use Rattle.std.proofs.Common.{Ok, map, sym, ap, ◌∙◌}
use Rattle.std.proofs.lemmas.List.{map-append}
use Rattle.std.proofs.lemmas.Result.{err_from_is_err_and}
use Rattle.serde_json.specs.View.{view}
use Rattle.esa_coins.specs.Attempt.{table_of}
use Rattle.esa_coins.specs.Table.{table_in}
use Rattle.esa_coins.proofs.EachLaws.{each_more, seen_stops, seen_all}
use Rattle.esa_coins.proofs.attempt.Attempt.read_each.Goals as goal

pub returns-in_err-lists : goal.returns-in_err-lists
returns-in_err-lists c =
    let p = err_from_is_err_and c.from_residual-in_err-lists.result c.from_residual-in_err-lists.ensures.1 in
    rw (p.1, p.2) (seen_stops (table_in c.args.plan.now) view c.args.objects.now c.loop-attempt.attempt c.index-objects-attempt.result _ c.in_err-lists.field-0.0 c.loop-attempt-test.true c.index-objects-attempt.is c.loop-attempt.invariant c.in_err-lists.ensures)

pub loop-attempt-preserved : goal.loop-attempt-preserved
loop-attempt-preserved c =
    each_more (λ attempt object. table_in c.args.plan.now attempt (view object)) c.args.objects.now c.loop-attempt.attempt c.index-objects-attempt.result _ (table_of c.in_ok-lists.lists) c.loop-attempt-test.true c.index-objects-attempt.is c.loop-attempt.invariant c.in_ok-lists.ensures
    ∙ ap (λ list. Ok list) (sym (ap (map table_of) c.in_ok-push.ensures.items ∙ map-append table_of _ _))

pub returns : goal.returns
returns c =
    seen_all (table_in c.args.plan.now) view c.args.objects.now c.loop-attempt.attempt _ c.loop-attempt-test.false c.loop-attempt.invariant
