use Rattle.std.proofs.Common.{◌+◌, ◌<◌, length, arith, sym, ap, ◌∙◌, ⊎_elim, inl, inr}
use Rattle.std.proofs.lemmas.Result.{err_from_is_err_and}
use Rattle.esa_bytes.specs.Lines.{text_lines}
use Rattle.esa_batcher.specs.Finishing.{envelopes_of}
use Rattle.esa_batcher.specs.Submitted.{joined_to}
use Rattle.esa_batcher.proofs.LinesLaws.{line_added, line_off, form_kept, longer_by_one, joined_err, lines_end}
use Rattle.esa_gathering.specs.Together.{first_refused}
use Rattle.esa_gathering.proofs.Lines.{lines_are, lines_added, lines_off}
use Rattle.esa_gathering.proofs.together.add_text.Goals as goal

pub returns-in_err-add-clause-refused : goal.returns-in_err-add-clause-refused
returns-in_err-add-clause-refused c =
    let p = err_from_is_err_and c.from_residual.result c.from_residual.ensures.1 in
    let i = c.loop-line.invariant in
    let form = c.args.batcher.now.form in
    let lines = text_lines c.args.text.now in
    let few : length c.loop-line.batcher.list < 262144 = omega (arith, i.room, ap length c.in-Some.ensures.lines) in
    rw (p.1, p.2) (⊎_elim (λ memory. inl memory)
    (λ why. inr (lines_off (first_refused form 1 lines) (envelopes_of form lines) _
    (sym (lines_are form 1 lines) ∙ joined_err _ _ _ (line_off form c.loop-line.number _ c.loop-line.batcher _ _ _ i.form c.in-Some.ensures.lines i.lines few _ why))))
    c.in_err-add.ensures.refused)

pub loop-line-preserved : goal.loop-line-preserved
loop-line-preserved c =
    let i = c.loop-line.invariant in
    let few : length c.loop-line.batcher.list < 262144 = omega (arith, i.room, ap length c.in-Some.ensures.lines) in
    let added = c.in_ok-add.ensures.added in
    let longer = longer_by_one c.args.batcher.now.form c.loop-line.number _ c.loop-line.batcher _ _ _ i.form c.in-Some.ensures.lines i.lines few c.add.new.self added in
    record {
      few = omega (arith, i.few, c.in-Some.ensures.shorter);
      form = form_kept c.args.batcher.now.form c.loop-line.number _ c.loop-line.batcher _ _ _ i.form c.in-Some.ensures.lines i.lines few c.add.new.self added;
      room = omega (arith, i.room, ap length c.in-Some.ensures.lines, longer);
      lines = line_added c.args.batcher.now.form c.loop-line.number _ c.loop-line.batcher _ _ _ i.form c.in-Some.ensures.lines i.lines few c.add.new.self added;
    }

pub returns-clause-accepted : goal.returns-clause-accepted
returns-clause-accepted c =
    let form = c.args.batcher.now.form in
    let lines = text_lines c.args.text.now in
    (lines_added (first_refused form 1 lines) c.args.batcher.now.list (envelopes_of form lines) c.loop-line.batcher.list
    (ap (joined_to c.args.batcher.now.list) (sym (lines_are form 1 lines)) ∙ lines_end form (c.loop-line.number + 1) _ c.loop-line.batcher.list _ c.in_default.ensures.last c.loop-line.invariant.lines)).0

pub returns-clause-added : goal.returns-clause-added
returns-clause-added c =
    let form = c.args.batcher.now.form in
    let lines = text_lines c.args.text.now in
    (lines_added (first_refused form 1 lines) c.args.batcher.now.list (envelopes_of form lines) c.loop-line.batcher.list
    (ap (joined_to c.args.batcher.now.list) (sym (lines_are form 1 lines)) ∙ lines_end form (c.loop-line.number + 1) _ c.loop-line.batcher.list _ c.in_default.ensures.last c.loop-line.invariant.lines)).1
