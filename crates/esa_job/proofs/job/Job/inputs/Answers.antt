use Rattle.std.proofs.Common.{refl, sym, ap, ◌∙◌, slice_get, Some, option_map}
use Rattle.std.specs.String.{string_bytes}
use Rattle.std.proofs.lemmas.Option.{slice_get_read, slice_get_past, slice_get-map}
use Rattle.esa_job.proofs.job.Job.inputs.Goals as goal

pub returns-in-Some : goal.returns-in-Some
returns-in-Some c =
    ap Some c.as_str.ensures.value
    ∙ ap (option_map string_bytes) (sym (slice_get_read c.input_names.result.now _ c.args.place _ refl c.in-Some.ensures.lookup.3.0 c.in-Some.ensures.lookup.1))
    ∙ sym (slice_get-map string_bytes c.input_names.result.now c.args.place)
    ∙ ap (λ names. slice_get names c.args.place) c.input_names.ensures

pub returns-in-None : goal.returns-in-None
returns-in-None c =
    ap (option_map string_bytes) (sym (slice_get_past c.input_names.result.now c.args.place c.in-None.ensures.lookup.3))
    ∙ sym (slice_get-map string_bytes c.input_names.result.now c.args.place)
    ∙ ap (λ names. slice_get names c.args.place) c.input_names.ensures
