use Rattle.std.proofs.Common.{◌/◌, length, refl, ap, ◌∙◌}
use Rattle.esa_params.specs.Form.{inner_length}
use Rattle.esa_analyser.proofs.Counting.{Steps, steps-counted}
use Rattle.esa_analyser.proofs.analysis.Analysis.recount.Goals as goal

pub returns : goal.returns
returns c =
    let number = length c.args.envelopes.now / c.inner.result in
    let steps : Steps c.args.inner.now c.prepare.result c.self.inside.kept c.count-self-inside.new.self c.inner.result number c.args.envelopes.now = record {
      keys = c.prepare.ensures;
      size_is = c.inner.ensures ∙ ap inner_length c.form.ensures;
      number_is = refl;
      form = c.count-self-inside.ensures.form;
      rows = c.count-self-inside.ensures.rows;
      kept = c.count-self-inside.ensures.number;
    } in
    steps-counted c.args.inner.now c.prepare.result c.self.inside.kept c.count-self-inside.new.self c.inner.result number c.count-self-inside.result c.self.inside.room c.args.envelopes.now c.args.self.now steps (ap (λ v. v.form) c.self.view_is) (ap (λ v. v.room) c.self.view_is)
