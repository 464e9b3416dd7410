use Rattle.std.proofs.Common.{sym, ap, subst, ◌∙◌}
use Rattle.std.specs.List.Sorted.{IsPermutation}
use Rattle.std.proofs.lemmas.List.Sorted.{IsPermutation-sym}
use Rattle.esa_lists.specs.Ordered.{ordered}
use Rattle.esa_lists.proofs.OrderedLaws.{IsPermutation-ordered}
use Rattle.esa_bytes.specs.Lines.{text_lines}
use Rattle.esa_batcher.specs.Rising.{by_bytes}
use Rattle.esa_batcher.specs.Finishing.{envelopes_of}
use Rattle.esa_gathering.proofs.Gathered.{accepted}
use Rattle.esa_gathering.proofs.merging.text_batch.Goals as goal

pub returns : goal.returns
returns c =
    let form = c.args.form in
    let lines = text_lines c.args.text.now in
    let list = c.in-Ok.batcher.list in
    let batch = c.in-Ok-finish.ensures.batch in
    record {
      form_is = ap (λ batch. batch.form) batch ∙ c.in-Ok.ensures.form;
      accepted = accepted form c.args.text.now list c.in-Ok.ensures.gathered;
      same =
          subst (λ list. IsPermutation list (envelopes_of form lines)) (sym (ap (λ batch. batch.list) batch))
          (subst (IsPermutation (ordered by_bytes list)) c.in-Ok.ensures.envelopes (IsPermutation-sym list (ordered by_bytes list) (IsPermutation-ordered by_bytes list)));
    }
