use Rattle.std.proofs.Common.{◌∙◌, map, Some, ap, sym}
use Rattle.serde_json.specs.View.{view}
use Rattle.esa_json.proofs.ValueLemmas.{values_in-items}
use Rattle.esa_json.proofs.values.values_in.Goals as goal

pub returns-in-Some : goal.returns-in-Some
returns-in-Some c =
    ap (λ list. Some (map view list)) c.as_slice.ensures.value ∙ sym (values_in-items (view c.args.value.now) (map view c.in-Some.values.now.items) c.in-Some.ensures)
