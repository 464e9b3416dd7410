use Rattle.std.proofs.Common.{[], ◌++◌, refl, subst}
use Rattle.std.specs.Prelude.{OnOk, OnErr, flat_map}
use Rattle.std.proofs.lemmas.Result.{err_from_is_err_and}
use Rattle.esa_page.specs.Underway.{IsLeft}
use Rattle.esa_page.specs.Writing.{HasWritten, HasBroken}
use Rattle.esa_page.proofs.HeardLaws.{HasBroken-longer}
use Rattle.esa_page.proofs.UnderwayLaws.{IsLeft-longer}
use Rattle.esa_analyser.specs.Rows.{row_bytes, database_bytes}
use Rattle.esa_analyser.proofs.RunWriting.{file_parts}
use Rattle.esa_analyser.proofs.write.write_db.Goals as goal

pub returns-in_err-put-clause-left : goal.returns-in_err-put-clause-left
returns-in_err-put-clause-left g c =
    let p = err_from_is_err_and c.from_residual-in_err-put.result c.from_residual-in_err-put.ensures.1 in
    let before = g.K.Cabinet.told c.args.cabinet.now in
    rw p.1 (IsLeft-longer before c.args.name.now [] (database_bytes c.args.form c.args.db.now.database) (g.K.Cabinet.told c.put.new.cabinet) (c.in_err-put.ensures.failed before [] c.in_ok-page.ensures.started))

pub returns-in_err-put_rows-clause-left : goal.returns-in_err-put_rows-clause-left
returns-in_err-put_rows-clause-left g c =
    let p = err_from_is_err_and c.from_residual-in_err-put_rows.result c.from_residual-in_err-put_rows.ensures.1 in
    let before = g.K.Cabinet.told c.args.cabinet.now in
    let now = g.K.Cabinet.told c.put_rows.new.cabinet in
    let left = c.in_err-put_rows.ensures.failed before c.front.result (c.in_ok-put.ensures.added before [] c.in_ok-page.ensures.started) in
    rw p.1 (subst (λ text. IsLeft before c.args.name.now text now) (file_parts c.args.form c.args.db.now.database c.front.result c.rows.result c.unopened.result _ c.front.ensures c.rows.ensures c.unopened.ensures refl) left)

pub returns-in_err-page-clause-heard_broken : goal.returns-in_err-page-clause-heard_broken
returns-in_err-page-clause-heard_broken g c =
    let p = err_from_is_err_and c.from_residual.result c.from_residual.ensures.1 in
    rw p.1 (HasBroken-longer (g.K.Cabinet.heard c.args.cabinet.now) c.args.name.now [] (database_bytes c.args.form c.args.db.now.database) (g.K.Cabinet.heard c.start.new.cabinet) c.in_err-page.ensures.heard_broken)

pub returns-in_err-put-clause-heard_broken : goal.returns-in_err-put-clause-heard_broken
returns-in_err-put-clause-heard_broken g c =
    let p = err_from_is_err_and c.from_residual-in_err-put.result c.from_residual-in_err-put.ensures.1 in
    let before = g.K.Cabinet.heard c.args.cabinet.now in
    rw p.1 (HasBroken-longer before c.args.name.now [] (database_bytes c.args.form c.args.db.now.database) (g.K.Cabinet.heard c.put.new.cabinet) (c.in_err-put.ensures.heard_broken before [] c.in_ok-page.ensures.heard))

pub returns-in_err-put_rows-clause-heard_broken : goal.returns-in_err-put_rows-clause-heard_broken
returns-in_err-put_rows-clause-heard_broken g c =
    let p = err_from_is_err_and c.from_residual-in_err-put_rows.result c.from_residual-in_err-put_rows.ensures.1 in
    let before = g.K.Cabinet.heard c.args.cabinet.now in
    let now = g.K.Cabinet.heard c.put_rows.new.cabinet in
    let broken = c.in_err-put_rows.ensures.heard_broken before c.front.result (c.in_ok-put.ensures.heard before [] c.in_ok-page.ensures.heard) in
    rw p.1 (subst (λ text. HasBroken before c.args.name.now text now) (file_parts c.args.form c.args.db.now.database c.front.result c.rows.result c.unopened.result _ c.front.ensures c.rows.ensures c.unopened.ensures refl) broken)

pub returns-clause-heard : goal.returns-clause-heard
returns-clause-heard g c =
    let before = g.K.Cabinet.heard c.args.cabinet.now in
    let writing = c.in_ok-put_rows.ensures.heard before c.front.result (c.in_ok-put.ensures.heard before [] c.in_ok-page.ensures.heard) in
    subst (λ text. OnOk c.finish.result (HasWritten before c.args.name.now text (g.K.Cabinet.heard c.finish.new.cabinet)))
    (file_parts c.args.form c.args.db.now.database c.front.result c.rows.result c.unopened.result _ c.front.ensures c.rows.ensures c.unopened.ensures refl) (c.finish.ensures.heard before (c.front.result ++ flat_map row_bytes c.args.db.now.database.rows) writing)

pub returns-clause-heard_broken : goal.returns-clause-heard_broken
returns-clause-heard_broken g c =
    let before = g.K.Cabinet.heard c.args.cabinet.now in
    let writing = c.in_ok-put_rows.ensures.heard before c.front.result (c.in_ok-put.ensures.heard before [] c.in_ok-page.ensures.heard) in
    subst (λ text. OnErr c.finish.result (HasBroken before c.args.name.now text (g.K.Cabinet.heard c.finish.new.cabinet)))
    (file_parts c.args.form c.args.db.now.database c.front.result c.rows.result c.unopened.result _ c.front.ensures c.rows.ensures c.unopened.ensures refl) (c.finish.ensures.heard_broken before (c.front.result ++ flat_map row_bytes c.args.db.now.database.rows) writing)
