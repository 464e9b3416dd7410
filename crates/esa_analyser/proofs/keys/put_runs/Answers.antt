use Rattle.std.proofs.Common.{◌≡◌, [], ◌∷◌, ◌++◌, length, take, get_or, refl, sym, ap, ◌∙◌, arith}
use Rattle.std.proofs.lemmas.Result.{err_from_is_err_and}
use Rattle.esa_header.proofs.HeaderLaws.{same_number}
use Rattle.esa_analyser.specs.Rows.{row_bytes}
use Rattle.esa_lists.specs.Tally.{runs}
use Rattle.esa_analyser.specs.Repeated.{all_keys, IsRepeated}
use Rattle.esa_analyser.specs.RunBytes.{run_bytes}
use Rattle.esa_page.proofs.HeardLaws.{writing_none, writing_more, writing_all, broken_whole}
use Rattle.esa_page.proofs.WritingLaws.{underway_none, underway_more, underway_all, left_whole}
use Rattle.esa_analyser.proofs.KeyRuns.{by_bytes}
use Rattle.esa_analyser.proofs.Repeats.{length-front, length-back}
use Rattle.esa_analyser.proofs.RunWriting.{all_behind, run_step, no_rows}
use Rattle.esa_analyser.proofs.keys.put_runs.Goals as goal

pub loop-rest-init : goal.loop-rest-init
loop-rest-init g c = record {
  each = c.requires.each;
  few = omega arith;
  so_far = (
    [],
    refl,
    λ before text under. (underway_none before c.args.name.now text c.args.page.now (g.K.Cabinet.told c.args.cabinet.now) under, refl),
    λ before text writing. writing_none before c.args.name.now text c.args.page.now (g.K.Cabinet.heard c.args.cabinet.now) writing,
  );
}

pub returns-in_err-put_row-clause-failed : goal.returns-in_err-put_row-clause-failed
returns-in_err-put_row-clause-failed g c = λ before text under.
    let p = err_from_is_err_and c.from_residual.result c.from_residual.ensures.1 in
    let done = c.loop-rest.invariant.so_far.0 in
    let so_far = c.loop-rest.invariant.so_far.2 before text under in
    rw p.1 (left_whole before c.args.name.now text done _ _ (g.K.Cabinet.told c.put_row.new.cabinet) c.loop-rest.invariant.so_far.1 (c.in_err-put_row.ensures.failed before (text ++ done) so_far.0))

pub returns-in_err-put_row-clause-heard_broken : goal.returns-in_err-put_row-clause-heard_broken
returns-in_err-put_row-clause-heard_broken g c = λ before text writing.
    let p = err_from_is_err_and c.from_residual.result c.from_residual.ensures.1 in
    let done = c.loop-rest.invariant.so_far.0 in
    rw p.1 (broken_whole before c.args.name.now text done _ _ (g.K.Cabinet.heard c.put_row.new.cabinet) c.loop-rest.invariant.so_far.1 (c.in_err-put_row.ensures.heard_broken before (text ++ done) (c.loop-rest.invariant.so_far.3 before text writing)))

pub returns-clause-heard : goal.returns-clause-heard
returns-clause-heard g c = λ before text writing.
    writing_all before c.args.name.now text c.loop-rest.invariant.so_far.0 _ _ c.loop-rest.page (g.K.Cabinet.heard c.loop-rest.cabinet) c.loop-rest.invariant.so_far.1
    (no_rows c.loop-rest.rest.now (same_number _ _ (sym c.loop-rest-test.ensures))) (c.loop-rest.invariant.so_far.3 before text writing)

pub returns-clause-added : goal.returns-clause-added
returns-clause-added g c = λ before text under.
    let so_far = c.loop-rest.invariant.so_far.2 before text under in
    underway_all before c.args.name.now text c.loop-rest.invariant.so_far.0 _ _ c.loop-rest.page (g.K.Cabinet.told c.loop-rest.cabinet) c.loop-rest.invariant.so_far.1
    (no_rows c.loop-rest.rest.now (same_number _ _ (sym c.loop-rest-test.ensures))) so_far.0

pub reports-requires : goal.reports-requires
reports-requires g c =
    omega (arith, c.requires.few, c.loop-rest.invariant.few, length-front c.loop-rest.rest.now c.run_length.result, ap (λ keys. length (all_keys keys)) c.split_at.ensures.front)

pub loop-rest-preserved : goal.loop-rest-preserved
loop-rest-preserved g c =
    let rest = c.loop-rest.rest.now in
    let others = c.split_at.result.1.now in
    let number = c.run_length.result in
    let value = c.value.result.now in
    let first = get_or rest 0 c.index-rest-0.result in
    let done = c.loop-rest.invariant.so_far.0 in
    let row = row_bytes (value, c.reports.result) in
    let reports : c.reports.result ≡ length (all_keys (take number rest)) = c.reports.ensures ∙ ap (λ keys. length (all_keys keys)) c.split_at.ensures.front in
    let run = c.run_length.ensures.run c.index-rest-0.result ∙ (λ i. (first.key, sym reports i) ∷ runs by_bytes (all_keys (sym c.split_at.ensures.back i))) in
    record {
      each = all_behind IsRepeated number rest others c.split_at.ensures.back c.loop-rest.invariant.each;
      few = omega (arith, ap (λ keys. length (all_keys keys)) c.split_at.ensures.back, length-back rest number, c.loop-rest.invariant.few);
      so_far = (
        done ++ row,
        run_step (run_bytes (all_keys c.args.keys.now)) (all_keys rest) (all_keys others) value first.key c.reports.result done c.loop-rest.invariant.so_far.1 run c.value.ensures,
        λ before text under.
            let so_far = c.loop-rest.invariant.so_far.2 before text under in (
              underway_more before c.args.name.now text done row c.put_row.new.page (g.K.Cabinet.told c.put_row.new.cabinet) (c.in_ok-put_row.ensures.added before (text ++ done) so_far.0),
              (c.in_ok-put_row.ensures.cause before (text ++ done) so_far.0).kept ∙ so_far.1,
            ),
        λ before text writing.
            writing_more before c.args.name.now text done row c.put_row.new.page (g.K.Cabinet.heard c.put_row.new.cabinet) (c.in_ok-put_row.ensures.heard before (text ++ done) (c.loop-rest.invariant.so_far.3 before text writing)),
      );
    }
