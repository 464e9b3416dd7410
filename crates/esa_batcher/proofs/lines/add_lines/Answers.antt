use Rattle.std.proofs.Common.{◌+◌, ◌<◌, length, arith, ap, ⊎_elim, inl, inr}
use Rattle.std.proofs.lemmas.Result.{err_from_is_err_and}
use Rattle.esa_batcher.proofs.LinesLaws.{line_added, line_off, form_kept, longer_by_one, joined_err, lines_end}
use Rattle.esa_batcher.proofs.lines.add_lines.Goals as goal

pub returns-in_err-add-clause-refused : goal.returns-in_err-add-clause-refused
returns-in_err-add-clause-refused c =
    let p = err_from_is_err_and c.from_residual.result c.from_residual.ensures.1 in
    let i = c.loop-line.invariant in
    let few : length c.loop-line.batcher.list < 262144 = omega (arith, i.room, ap length c.in-Some.ensures.lines) in
    rw (p.1, p.2) (⊎_elim (λ memory. inl memory)
    (λ why. inr (joined_err _ _ _ (line_off c.args.batcher.now.form c.loop-line.number _ c.loop-line.batcher _ _ _ i.form c.in-Some.ensures.lines i.lines few _ why)))
    c.in_err-add.ensures.refused)

pub loop-line-preserved : goal.loop-line-preserved
loop-line-preserved c =
    let i = c.loop-line.invariant in
    let few : length c.loop-line.batcher.list < 262144 = omega (arith, i.room, ap length c.in-Some.ensures.lines) in
    let added = c.in_ok-add.ensures.added in
    let longer = longer_by_one c.args.batcher.now.form c.loop-line.number _ c.loop-line.batcher _ _ _ i.form c.in-Some.ensures.lines i.lines few c.add.new.self added in
    record {
      few = omega (arith, i.few, c.in-Some.ensures.shorter);
      form = form_kept c.args.batcher.now.form c.loop-line.number _ c.loop-line.batcher _ _ _ i.form c.in-Some.ensures.lines i.lines few c.add.new.self added;
      room = omega (arith, i.room, ap length c.in-Some.ensures.lines, longer);
      lines = line_added c.args.batcher.now.form c.loop-line.number _ c.loop-line.batcher _ _ _ i.form c.in-Some.ensures.lines i.lines few c.add.new.self added;
    }

pub returns-clause-added : goal.returns-clause-added
returns-clause-added c =
    lines_end c.args.batcher.now.form (c.loop-line.number + 1) _ c.loop-line.batcher.list _ c.in_default.ensures.last c.loop-line.invariant.lines
