use Rattle.std.proofs.Common.{[], ◌++◌, subst}
use Rattle.std.specs.Prelude.{OnOk, OnErr}
use Rattle.std.proofs.lemmas.Result.{err_from_is_err_and}
use Rattle.esa_page.specs.Underway.{IsWhole, IsLeft}
use Rattle.esa_page.specs.Writing.{HasWritten, HasBroken}
use Rattle.esa_page.proofs.HeardLaws.{HasBroken-longer}
use Rattle.esa_page.proofs.UnderwayLaws.{IsLeft-longer}
use Rattle.esa_analyser.specs.RunBytes.{run_bytes}
use Rattle.esa_analyser.specs.Kept.{keys_of}
use Rattle.esa_analyser.specs.KeptBytes.{kept_bytes}
use Rattle.esa_analyser.proofs.KeptWriting.{kept_parts}
use Rattle.esa_analyser.proofs.kept.write_kept.Goals as goal

pub returns-in_err-put-clause-left : goal.returns-in_err-put-clause-left
returns-in_err-put-clause-left g c =
    let p = err_from_is_err_and c.from_residual-in_err-put.result c.from_residual-in_err-put.ensures.1 in
    let before = g.K.Cabinet.told c.args.cabinet.now in
    rw p.1 (IsLeft-longer before c.args.name.now [] (kept_bytes c.args.kept.now c.args.unopened) (g.K.Cabinet.told c.put.new.cabinet) (c.in_err-put.ensures.failed before [] c.in_ok-page.ensures.started))

pub returns-in_err-put-2-clause-left : goal.returns-in_err-put-2-clause-left
returns-in_err-put-2-clause-left g c =
    let p = err_from_is_err_and c.from_residual-in_err-put-2.result c.from_residual-in_err-put-2.ensures.1 in
    let before = g.K.Cabinet.told c.args.cabinet.now in
    let parts = kept_parts c.args.kept.now c.form.result c.front.result c.args.rows c.args.unopened c.requires.sorted c.form.ensures c.front.ensures c.requires.rows in
    let left = c.in_err-put-2.ensures.failed before c.front.result (c.in_ok-put.ensures.added before [] c.in_ok-page.ensures.started) in
    rw p.1 (subst (λ text. IsLeft before c.args.name.now text (g.K.Cabinet.told c.put-2.new.cabinet)) parts left)

pub returns-clause-whole : goal.returns-clause-whole
returns-clause-whole g c =
    let before = g.K.Cabinet.told c.args.cabinet.now in
    let parts = kept_parts c.args.kept.now c.form.result c.front.result c.args.rows c.args.unopened c.requires.sorted c.form.ensures c.front.ensures c.requires.rows in
    let under = c.in_ok-put-2.ensures.added before c.front.result (c.in_ok-put.ensures.added before [] c.in_ok-page.ensures.started) in
    subst (λ text. OnOk c.finish.result (IsWhole before c.args.name.now text (g.K.Cabinet.told c.finish.new.cabinet))) parts
    (c.finish.ensures.whole before (c.front.result ++ run_bytes (keys_of c.args.kept.now)) under)

pub returns-clause-left : goal.returns-clause-left
returns-clause-left g c =
    let before = g.K.Cabinet.told c.args.cabinet.now in
    let parts = kept_parts c.args.kept.now c.form.result c.front.result c.args.rows c.args.unopened c.requires.sorted c.form.ensures c.front.ensures c.requires.rows in
    let under = c.in_ok-put-2.ensures.added before c.front.result (c.in_ok-put.ensures.added before [] c.in_ok-page.ensures.started) in
    subst (λ text. OnErr c.finish.result (IsLeft before c.args.name.now text (g.K.Cabinet.told c.finish.new.cabinet))) parts
    (c.finish.ensures.failed before (c.front.result ++ run_bytes (keys_of c.args.kept.now)) under)

pub returns-in_err-put-clause-heard_broken : goal.returns-in_err-put-clause-heard_broken
returns-in_err-put-clause-heard_broken g c =
    let p = err_from_is_err_and c.from_residual-in_err-put.result c.from_residual-in_err-put.ensures.1 in
    let before = g.K.Cabinet.heard c.args.cabinet.now in
    rw p.1 (HasBroken-longer before c.args.name.now [] (kept_bytes c.args.kept.now c.args.unopened) (g.K.Cabinet.heard c.put.new.cabinet) (c.in_err-put.ensures.heard_broken before [] c.in_ok-page.ensures.heard))

pub returns-in_err-put-2-clause-heard_broken : goal.returns-in_err-put-2-clause-heard_broken
returns-in_err-put-2-clause-heard_broken g c =
    let p = err_from_is_err_and c.from_residual-in_err-put-2.result c.from_residual-in_err-put-2.ensures.1 in
    let before = g.K.Cabinet.heard c.args.cabinet.now in
    let parts = kept_parts c.args.kept.now c.form.result c.front.result c.args.rows c.args.unopened c.requires.sorted c.form.ensures c.front.ensures c.requires.rows in
    let broken = c.in_err-put-2.ensures.heard_broken before c.front.result (c.in_ok-put.ensures.heard before [] c.in_ok-page.ensures.heard) in
    rw p.1 (subst (λ text. HasBroken before c.args.name.now text (g.K.Cabinet.heard c.put-2.new.cabinet)) parts broken)

pub returns-clause-heard : goal.returns-clause-heard
returns-clause-heard g c =
    let before = g.K.Cabinet.heard c.args.cabinet.now in
    let parts = kept_parts c.args.kept.now c.form.result c.front.result c.args.rows c.args.unopened c.requires.sorted c.form.ensures c.front.ensures c.requires.rows in
    let writing = c.in_ok-put-2.ensures.heard before c.front.result (c.in_ok-put.ensures.heard before [] c.in_ok-page.ensures.heard) in
    subst (λ text. OnOk c.finish.result (HasWritten before c.args.name.now text (g.K.Cabinet.heard c.finish.new.cabinet))) parts
    (c.finish.ensures.heard before (c.front.result ++ run_bytes (keys_of c.args.kept.now)) writing)

pub returns-clause-heard_broken : goal.returns-clause-heard_broken
returns-clause-heard_broken g c =
    let before = g.K.Cabinet.heard c.args.cabinet.now in
    let parts = kept_parts c.args.kept.now c.form.result c.front.result c.args.rows c.args.unopened c.requires.sorted c.form.ensures c.front.ensures c.requires.rows in
    let writing = c.in_ok-put-2.ensures.heard before c.front.result (c.in_ok-put.ensures.heard before [] c.in_ok-page.ensures.heard) in
    subst (λ text. OnErr c.finish.result (HasBroken before c.args.name.now text (g.K.Cabinet.heard c.finish.new.cabinet))) parts
    (c.finish.ensures.heard_broken before (c.front.result ++ run_bytes (keys_of c.args.kept.now)) writing)

pub returns-in_err-page-clause-heard_broken : goal.returns-in_err-page-clause-heard_broken
returns-in_err-page-clause-heard_broken g c =
    let p = err_from_is_err_and c.from_residual.result c.from_residual.ensures.1 in
    rw p.1 (HasBroken-longer (g.K.Cabinet.heard c.args.cabinet.now) c.args.name.now [] (kept_bytes c.args.kept.now c.args.unopened) (g.K.Cabinet.heard c.start.new.cabinet) c.in_err-page.ensures.heard_broken)
