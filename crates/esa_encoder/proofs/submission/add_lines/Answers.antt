use Rattle.std.proofs.Common.{◌∙◌, ◌+◌, ◌++◌, sym, ap, arith, ⊎_elim, inl, inr, append-nil}
use Rattle.std.specs.Prelude.{option_map}
use Rattle.std.proofs.lemmas.Result.{err_from_is_err_and}
use Rattle.esa_bytes.specs.Lines.{text_lines}
use Rattle.esa_encoder.specs.declared.submission.EncodeRefused.TheVariants.{Line}
use Rattle.esa_encoder.specs.Encoded.{submissions, first_refused}
use Rattle.esa_encoder.proofs.LineSteps.{refused_on, refused_here, refused_none, submissions_on, submissions_none, grown}
use Rattle.esa_encoder.proofs.submission.add_lines.Goals as goal

pub returns-in_err-add_line-clause-refused : goal.returns-in_err-add_line-clause-refused
returns-in_err-add_line-clause-refused g c =
    let p = err_from_is_err_and c.from_residual.result c.from_residual.ensures.1 in
    let step = c.loop-line.invariant.refusals ∙ ap (first_refused (g.H.Shaper.shape c.args.shaper.now) c.args.form c.args.base (c.loop-line.number + 1)) c.in-Some.ensures.lines in
    rw (p.1, p.2) (⊎_elim (λ memory. inl memory) (λ here. inr (ap (option_map Line) step ∙ refused_here _ _ _ _ _ _ _ here)) c.in_err-add_line.ensures.refused)

pub loop-line-preserved : goal.loop-line-preserved
loop-line-preserved g c =
    let i = c.loop-line.invariant in
    let number = c.loop-line.number + 1 in
    let sealed = submissions (g.H.Shaper.shape c.args.shaper.now) c.args.form c.args.outer.now c.args.inner.now c.args.base in
    let more = ap (sealed number) c.in-Some.ensures.lines in
    record {
      few = omega (arith, i.few, c.in-Some.ensures.shorter);
      refusals = i.refusals ∙ ap (first_refused (g.H.Shaper.shape c.args.shaper.now) c.args.form c.args.base number) c.in-Some.ensures.lines ∙ refused_on _ _ _ _ _ _ c.in_ok-add_line.ensures.accepted;
      written = grown c.args.out.now.items (sealed 1 (text_lines c.args.reports.now)) c.loop-line.out.items _ _ _ _ i.written (more ∙ submissions_on _ _ _ _ _ _ _ _) c.in_ok-add_line.ensures.added;
    }

pub returns-clause-added : goal.returns-clause-added
returns-clause-added g c =
    let i = c.loop-line.invariant in
    let none = ap (submissions (g.H.Shaper.shape c.args.shaper.now) c.args.form c.args.outer.now c.args.inner.now c.args.base (c.loop-line.number + 1)) c.in_default.ensures.last ∙ submissions_none _ _ _ _ _ _ in
    sym (i.written ∙ ap (λ bytes. c.loop-line.out.items ++ bytes) none ∙ append-nil c.loop-line.out.items)

pub returns-clause-accepted : goal.returns-clause-accepted
returns-clause-accepted g c =
    c.loop-line.invariant.refusals ∙ ap (first_refused (g.H.Shaper.shape c.args.shaper.now) c.args.form c.args.base (c.loop-line.number + 1)) c.in_default.ensures.last ∙ refused_none _ _ _ _
