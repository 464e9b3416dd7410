use Rattle.std.proofs.Common.{◌≡◌, ◌+◌, ◌++◌, [], drop, refl, ap, sym, subst, ◌∙◌, arith}
use Rattle.std.specs.Prelude.{flat_map}
use Rattle.std.proofs.lemmas.List.{drop_all}
use Rattle.std.proofs.lemmas.Result.{err_from_is_err_and}
use Rattle.esa_page.proofs.HeardLaws.{writing_none, writing_more, writing_all, broken_whole}
use Rattle.esa_page.proofs.WritingLaws.{underway_none, underway_more, left_whole}
use Rattle.esa_taking.specs.StoredTurns.{entry_line}
use Rattle.esa_taking.proofs.TurnsLaws.{entry_step}
use Rattle.esa_taking.proofs.stored_turns.put_entries.Goals as goal

pub returns-in_err-put-clause-failed : goal.returns-in_err-put-clause-failed
returns-in_err-put-clause-failed g c = λ before text under.
    let p = err_from_is_err_and c.from_residual.result c.from_residual.ensures.1 in
    let done = c.loop-entry.invariant.0 in
    let so_far = c.loop-entry.invariant.2 before text under in
    rw p.1 (left_whole before c.args.name.now text done _ _ (g.K.Cabinet.told c.put.new.cabinet) c.loop-entry.invariant.1 (c.in_err-put.ensures.failed before (text ++ done) so_far.0))

pub returns-in_err-put-clause-heard_broken : goal.returns-in_err-put-clause-heard_broken
returns-in_err-put-clause-heard_broken g c = λ before text writing.
    let p = err_from_is_err_and c.from_residual.result c.from_residual.ensures.1 in
    let done = c.loop-entry.invariant.0 in
    rw p.1 (broken_whole before c.args.name.now text done _ _ (g.K.Cabinet.heard c.put.new.cabinet) c.loop-entry.invariant.1 (c.in_err-put.ensures.heard_broken before (text ++ done) (c.loop-entry.invariant.3 before text writing)))

pub loop-entry-init : goal.loop-entry-init
loop-entry-init g c = (
  [],
  refl,
  λ before text under. (underway_none before c.args.name.now text c.args.page.now (g.K.Cabinet.told c.args.cabinet.now) under, refl),
  λ before text writing. writing_none before c.args.name.now text c.args.page.now (g.K.Cabinet.heard c.args.cabinet.now) writing,
)

pub loop-entry-preserved : goal.loop-entry-preserved
loop-entry-preserved g c =
    let done = c.loop-entry.invariant.0 in
    let bytes = c.as_bytes.result.now in
    let spelled = c.as_bytes.ensures ∙ c.line_of_entry.ensures in (
      done ++ bytes,
      subst (λ line. flat_map (entry_line c.args.owner) c.args.entries.now ≡ (done ++ line) ++ flat_map (entry_line c.args.owner) (drop (c.loop-entry.entry-index + 1) c.args.entries.now)) (sym spelled)
          (entry_step c.args.owner _ c.args.entries.now c.loop-entry.entry-index _ _ done c.loop-entry.invariant.1 c.loop-entry-test.true refl),
      λ before text under.
          let so_far = c.loop-entry.invariant.2 before text under in (
            underway_more before c.args.name.now text done bytes c.put.new.self (g.K.Cabinet.told c.put.new.cabinet) (c.in_ok-put.ensures.added before (text ++ done) so_far.0),
            (c.in_ok-put.ensures.cause before (text ++ done) so_far.0).kept ∙ so_far.1,
          ),
      λ before text writing.
          writing_more before c.args.name.now text done bytes c.put.new.self (g.K.Cabinet.heard c.put.new.cabinet) (c.in_ok-put.ensures.heard before (text ++ done) (c.loop-entry.invariant.3 before text writing)),
    )

pub returns-clause-heard : goal.returns-clause-heard
returns-clause-heard g c = λ before text writing.
    writing_all before c.args.name.now text c.loop-entry.invariant.0 _ _ c.loop-entry.page (g.K.Cabinet.heard c.loop-entry.cabinet) c.loop-entry.invariant.1
    (ap (flat_map (entry_line c.args.owner)) (drop_all c.loop-entry.entry-index c.args.entries.now (omega (arith, c.loop-entry-test.false)))) (c.loop-entry.invariant.3 before text writing)
