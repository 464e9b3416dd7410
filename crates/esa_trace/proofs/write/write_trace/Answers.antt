use Rattle.std.proofs.Common.{[], ◌++◌, length, refl, subst}
use Rattle.std.specs.Prelude.{OnOk, OnErr, flat_map}
use Rattle.std.proofs.lemmas.Result.{err_from_is_err_and}
use Rattle.esa_page.specs.Writing.{HasWritten, HasBroken}
use Rattle.esa_page.proofs.HeardLaws.{HasBroken-longer}
use Rattle.esa_page.proofs.UnderwayLaws.{IsLeft-longer}
use Rattle.esa_spec.specs.Files.{access_bytes, trace_bytes}
use Rattle.esa_trace.proofs.TraceLaws.{file_parts}
use Rattle.esa_trace.proofs.write.write_trace.Goals as goal

pub returns-in_err-page-clause-heard_broken : goal.returns-in_err-page-clause-heard_broken
returns-in_err-page-clause-heard_broken g c =
    let p = err_from_is_err_and c.from_residual.result c.from_residual.ensures.1 in
    rw p.1 (HasBroken-longer (g.K.Cabinet.heard c.args.cabinet.now) c.args.name.now [] (trace_bytes c.args.accesses.now) (g.K.Cabinet.heard c.start.new.cabinet) c.in_err-page.ensures.heard_broken)

pub returns-in_err-put-clause-left : goal.returns-in_err-put-clause-left
returns-in_err-put-clause-left g c =
    let p = err_from_is_err_and c.from_residual-in_err-put.result c.from_residual-in_err-put.ensures.1 in
    let before = g.K.Cabinet.told c.args.cabinet.now in
    rw p.1 (IsLeft-longer before c.args.name.now [] (trace_bytes c.args.accesses.now) (g.K.Cabinet.told c.put.new.cabinet) (c.in_err-put.ensures.failed before [] c.in_ok-page.ensures.started))

pub returns-in_err-put-clause-heard_broken : goal.returns-in_err-put-clause-heard_broken
returns-in_err-put-clause-heard_broken g c =
    let p = err_from_is_err_and c.from_residual-in_err-put.result c.from_residual-in_err-put.ensures.1 in
    let before = g.K.Cabinet.heard c.args.cabinet.now in
    rw p.1 (HasBroken-longer before c.args.name.now [] (trace_bytes c.args.accesses.now) (g.K.Cabinet.heard c.put.new.cabinet) (c.in_err-put.ensures.heard_broken before [] c.in_ok-page.ensures.heard))

pub returns-in_err-put_accesses-clause-heard_broken : goal.returns-in_err-put_accesses-clause-heard_broken
returns-in_err-put_accesses-clause-heard_broken g c =
    let p = err_from_is_err_and c.from_residual-in_err-put_accesses.result c.from_residual-in_err-put_accesses.ensures.1 in
    let before = g.K.Cabinet.heard c.args.cabinet.now in
    let broken = c.in_err-put_accesses.ensures.heard_broken before c.header.result (c.in_ok-put.ensures.heard before [] c.in_ok-page.ensures.heard) in
    rw p.1 (subst (λ text. HasBroken before c.args.name.now text (g.K.Cabinet.heard c.put_accesses.new.cabinet)) (file_parts c.args.accesses.now c.header.result (length c.args.accesses.now) c.header.ensures refl) broken)

pub returns-clause-heard : goal.returns-clause-heard
returns-clause-heard g c =
    let before = g.K.Cabinet.heard c.args.cabinet.now in
    let writing = c.in_ok-put_accesses.ensures.heard before c.header.result (c.in_ok-put.ensures.heard before [] c.in_ok-page.ensures.heard) in
    subst (λ text. OnOk c.finish.result (HasWritten before c.args.name.now text (g.K.Cabinet.heard c.finish.new.cabinet))) (file_parts c.args.accesses.now c.header.result (length c.args.accesses.now) c.header.ensures refl)
    (c.finish.ensures.heard before (c.header.result ++ flat_map access_bytes c.args.accesses.now) writing)

pub returns-clause-heard_broken : goal.returns-clause-heard_broken
returns-clause-heard_broken g c =
    let before = g.K.Cabinet.heard c.args.cabinet.now in
    let writing = c.in_ok-put_accesses.ensures.heard before c.header.result (c.in_ok-put.ensures.heard before [] c.in_ok-page.ensures.heard) in
    subst (λ text. OnErr c.finish.result (HasBroken before c.args.name.now text (g.K.Cabinet.heard c.finish.new.cabinet))) (file_parts c.args.accesses.now c.header.result (length c.args.accesses.now) c.header.ensures refl)
    (c.finish.ensures.heard_broken before (c.header.result ++ flat_map access_bytes c.args.accesses.now) writing)
