use Rattle.std.proofs.Common.{refl, sym, ap, ◌∙◌, slice_get, option_map, option_and_then}
use Rattle.std.proofs.lemmas.Option.{slice_get_read, slice_get_past}
use Rattle.esa_job.specs.Decoded.{seen}
use Rattle.esa_job.specs.Seen.{request_of}
use Rattle.esa_job.proofs.KeptLemmas.{kept_at, in_two}
use Rattle.esa_job.proofs.job.Job.decoded.Goals as goal

pub returns-in-Some : goal.returns-in-Some
returns-in-Some c =
    in_two seen (λ found. found.now) c.as_ref.result
    ∙ ap (option_map seen) c.as_ref.ensures.value
    ∙ ap (option_and_then (option_map seen)) (sym (slice_get_read c.deref.result.now _ c.place.result _ refl c.in-Some.ensures.lookup.3.0 c.in-Some.ensures.lookup.1))
    ∙ ap (λ all. option_and_then (option_map seen) (slice_get all c.place.result)) c.deref.ensures.value
    ∙ kept_at (request_of c.args.self.now) c.args.self.now.decoded.items c.place.result c.args.field c.args.self.now.kept c.place.ensures

pub returns-in-None : goal.returns-in-None
returns-in-None c =
    ap (option_and_then (option_map seen)) (sym (slice_get_past c.deref.result.now c.place.result c.in-None.ensures.lookup.3))
    ∙ ap (λ all. option_and_then (option_map seen) (slice_get all c.place.result)) c.deref.ensures.value
    ∙ kept_at (request_of c.args.self.now) c.args.self.now.decoded.items c.place.result c.args.field c.args.self.now.kept c.place.ensures
