use Rattle.std.proofs.Common.{sym, ap, ◌∙◌}
use Rattle.std.specs.List.{concat, flat_map}
use Rattle.std.proofs.lemmas.List.Concat.{concat_is}
use Rattle.esa_batcher.specs.Envelopes.{list_of}
use Rattle.esa_batcher.proofs.envelopes.Envelopes.bytes.Goals as goal

pub returns-in-One : goal.returns-in-One
returns-in-One c = c.as_flattened.ensures.value ∙ ap (λ list. flat_map (λ x. x) list) c.deref.ensures.value ∙ sym (concat_is c.in-One.list.items) ∙ ap (λ envelopes. concat (list_of envelopes)) (sym c.in-One.is)

pub returns-in-Two : goal.returns-in-Two
returns-in-Two c = c.as_flattened-in-Two.ensures.value ∙ ap (λ list. flat_map (λ x. x) list) c.deref-in-Two.ensures.value ∙ sym (concat_is c.in-Two.list.items) ∙ ap (λ envelopes. concat (list_of envelopes)) (sym c.in-Two.is)
