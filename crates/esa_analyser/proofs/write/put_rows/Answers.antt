use Rattle.std.proofs.Common.{◌++◌, [], refl, ap, ◌∙◌, arith}
use Rattle.std.specs.Prelude.{flat_map}
use Rattle.std.proofs.lemmas.List.{drop_all}
use Rattle.std.proofs.lemmas.Result.{err_from_is_err_and}
use Rattle.esa_analyser.specs.Rows.{row_bytes}
use Rattle.esa_page.proofs.HeardLaws.{writing_none, writing_more, writing_all, broken_whole}
use Rattle.esa_page.proofs.WritingLaws.{underway_none, underway_more, left_whole}
use Rattle.esa_analyser.proofs.RunWriting.{row_step}
use Rattle.esa_analyser.proofs.write.put_rows.Goals as goal

pub loop-row-init : goal.loop-row-init
loop-row-init g c = (
  [],
  refl,
  λ before text under. (underway_none before c.args.name.now text c.args.page.now (g.K.Cabinet.told c.args.cabinet.now) under, refl),
  λ before text writing. writing_none before c.args.name.now text c.args.page.now (g.K.Cabinet.heard c.args.cabinet.now) writing,
)

pub returns-in_err-put_row-clause-heard_broken : goal.returns-in_err-put_row-clause-heard_broken
returns-in_err-put_row-clause-heard_broken g c = λ before text writing.
    let p = err_from_is_err_and c.from_residual.result c.from_residual.ensures.1 in
    let done = c.loop-row.invariant.0 in
    rw p.1 (broken_whole before c.args.name.now text done _ _ (g.K.Cabinet.heard c.put_row.new.cabinet) c.loop-row.invariant.1 (c.in_err-put_row.ensures.heard_broken before (text ++ done) (c.loop-row.invariant.3 before text writing)))

pub returns-in_err-put_row-clause-failed : goal.returns-in_err-put_row-clause-failed
returns-in_err-put_row-clause-failed g c = λ before text under.
    let p = err_from_is_err_and c.from_residual.result c.from_residual.ensures.1 in
    let done = c.loop-row.invariant.0 in
    let so_far = c.loop-row.invariant.2 before text under in
    rw p.1 (left_whole before c.args.name.now text done _ _ (g.K.Cabinet.told c.put_row.new.cabinet) c.loop-row.invariant.1 (c.in_err-put_row.ensures.failed before (text ++ done) so_far.0))

pub loop-row-preserved : goal.loop-row-preserved
loop-row-preserved g c =
    let done = c.loop-row.invariant.0 in
    let row = row_bytes (c.value.result.now, c.count.result) in (
      done ++ row,
      row_step _ c.args.db.now.database.rows c.loop-row.row c.value.result.now c.count.result done c.loop-row.invariant.1 (rw (← c.rows-row-end.ensures) c.loop-row-test.true) c.value.ensures.value c.count.ensures,
      λ before text under.
          let so_far = c.loop-row.invariant.2 before text under in (
            underway_more before c.args.name.now text done row c.put_row.new.page (g.K.Cabinet.told c.put_row.new.cabinet) (c.in_ok-put_row.ensures.added before (text ++ done) so_far.0),
            (c.in_ok-put_row.ensures.cause before (text ++ done) so_far.0).kept ∙ so_far.1,
          ),
      λ before text writing.
          writing_more before c.args.name.now text done row c.put_row.new.page (g.K.Cabinet.heard c.put_row.new.cabinet) (c.in_ok-put_row.ensures.heard before (text ++ done) (c.loop-row.invariant.3 before text writing)),
    )

pub returns-clause-heard : goal.returns-clause-heard
returns-clause-heard g c = λ before text writing.
    writing_all before c.args.name.now text c.loop-row.invariant.0 _ _ c.loop-row.page (g.K.Cabinet.heard c.loop-row.cabinet) c.loop-row.invariant.1
    (ap (flat_map row_bytes) (drop_all c.loop-row.row c.args.db.now.database.rows (omega (arith, c.loop-row-test.false, c.rows-row-end.ensures)))) (c.loop-row.invariant.3 before text writing)
