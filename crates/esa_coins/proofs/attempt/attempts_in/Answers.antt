use Rattle.std.proofs.Common.{sym, ap, ◌∙◌, map}
use Rattle.serde_json.specs.View.{view}
use Rattle.esa_coins.specs.Table.{only_if}
use Rattle.esa_coins.specs.declared.refused.CoinsRefused.TheVariants.{Shape}
use Rattle.esa_coins.proofs.ListLemmas.{attempts_in-values}
use Rattle.esa_coins.proofs.attempt.attempts_in.Goals as goal

pub returns-then-are_objects : goal.returns-then-are_objects
returns-then-are_objects c =
    attempts_in-values view c.args.count (view c.args.object.now) _ c.in_ok-values.values.now c.get.ensures c.in_ok-values.ensures
    ∙ ap (λ objects. only_if objects (map view c.in_ok-values.values.now) Shape) (sym c.are_objects.ensures ∙ c.if-are_objects.true)

pub returns-else-are_objects : goal.returns-else-are_objects
returns-else-are_objects c =
    attempts_in-values view c.args.count (view c.args.object.now) _ c.in_ok-values.values.now c.get.ensures c.in_ok-values.ensures
    ∙ ap (λ objects. only_if objects (map view c.in_ok-values.values.now) Shape) (sym c.are_objects.ensures ∙ c.if-are_objects.false)
