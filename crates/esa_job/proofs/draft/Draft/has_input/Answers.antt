use Rattle.std.proofs.Common.{sym, ap, ◌∙◌, bytes_eq}
use Rattle.std.specs.List.{list_any, filter_map}
use Rattle.serde_json.specs.View.{view}
use Rattle.esa_job.specs.Values.{name_in}
use Rattle.esa_job.proofs.ValueLemmas.{any_name}
use Rattle.esa_job.proofs.draft.Draft.has_input.Goals as goal

pub returns : goal.returns
returns c =
    c.is_among.ensures
    ∙ sym (any_name view c.args.name.now c.inputs.result.now)
    ∙ ap (λ values. list_any (bytes_eq c.args.name.now) (filter_map name_in values)) c.inputs.ensures
