use Rattle.std.proofs.Common.{[], ◌++◌, Err, inl, subst, ◌∙◌}
use Rattle.std.proofs.lemmas.Result.{err_from_is_err_and}
use Rattle.esa_outside.specs.Cause.{HasCause}
use Rattle.esa_page.proofs.UnderwayLaws.{IsUnderway-started, IsLeft-started, IsLeft-longer}
use Rattle.esa_page.proofs.HeardLaws.{IsWriting-started, IsWriting-added, HasBroken-kept, HasBroken-longer}
use Rattle.esa_page.proofs.PartLaws.{whole_ok, written_ok, broken_err}
use Rattle.esa_page.proofs.parts.write_parts.Goals as goal

pub returns-in_err-start-clause-left : goal.returns-in_err-start-clause-left
returns-in_err-start-clause-left g c =
    let p = err_from_is_err_and c.from_residual.result c.from_residual.ensures.1 in
    let before = g.K.Cabinet.told c.args.cabinet.now in
    let now = g.K.Cabinet.told c.start.new.self in
    rw p.1 (IsLeft-longer before c.args.name.now [] (c.args.front.now ++ c.args.rest.now) now (IsLeft-started before c.args.name.now now c.in_err-start.ensures.failed c.in_err-start.ensures.silent))

pub returns-in_err-add_part-clause-left : goal.returns-in_err-add_part-clause-left
returns-in_err-add_part-clause-left g c =
    let p = err_from_is_err_and c.from_residual-in_err-add_part.result c.from_residual-in_err-add_part.ensures.1 in
    let before = g.K.Cabinet.told c.args.cabinet.now in
    let under = IsUnderway-started before c.args.name.now (g.K.Cabinet.told c.start.new.self) c.in_ok-start.ensures.started c.in_ok-start.ensures.silent in
    rw p.1 (IsLeft-longer before c.args.name.now c.args.front.now c.args.rest.now (g.K.Cabinet.told c.add_part.new.cabinet) (c.in_err-add_part.ensures.failed before [] under))

pub returns-in_err-add_part-clause-cause : goal.returns-in_err-add_part-clause-cause
returns-in_err-add_part-clause-cause g c =
    let p = err_from_is_err_and c.from_residual-in_err-add_part.result c.from_residual-in_err-add_part.ensures.1 in
    let before = g.K.Cabinet.told c.args.cabinet.now in
    let now = g.K.Cabinet.faults c.add_part.new.cabinet in
    let under = IsUnderway-started before c.args.name.now (g.K.Cabinet.told c.start.new.self) c.in_ok-start.ensures.started c.in_ok-start.ensures.silent in
    rw (p.1, p.2) (subst (λ count. HasCause {T = Unit {0}} count now ⊥ (Err c.in_err-add_part.field-0.0)) c.in_ok-start.ensures.cause.kept (c.in_err-add_part.ensures.cause before [] under))

pub returns-clause-whole : goal.returns-clause-whole
returns-clause-whole g c =
    let before = g.K.Cabinet.told c.args.cabinet.now in
    let under = IsUnderway-started before c.args.name.now (g.K.Cabinet.told c.start.new.self) c.in_ok-start.ensures.started c.in_ok-start.ensures.silent in
    whole_ok before c.args.name.now (c.args.front.now ++ c.args.rest.now) (g.K.Cabinet.told c.add_part-2.new.cabinet) c.add_part-2.result (c.add_part-2.ensures.added before c.args.front.now (c.in_ok-add_part.ensures.added before [] under))

pub returns-clause-left : goal.returns-clause-left
returns-clause-left g c =
    let before = g.K.Cabinet.told c.args.cabinet.now in
    let under = IsUnderway-started before c.args.name.now (g.K.Cabinet.told c.start.new.self) c.in_ok-start.ensures.started c.in_ok-start.ensures.silent in
    c.add_part-2.ensures.failed before c.args.front.now (c.in_ok-add_part.ensures.added before [] under)

pub returns-clause-cause : goal.returns-clause-cause
returns-clause-cause g c =
    let before = g.K.Cabinet.told c.args.cabinet.now in
    let now = g.K.Cabinet.faults c.add_part-2.new.cabinet in
    let under = IsUnderway-started before c.args.name.now (g.K.Cabinet.told c.start.new.self) c.in_ok-start.ensures.started c.in_ok-start.ensures.silent in
    let kept = (c.in_ok-add_part.ensures.cause before [] under).kept ∙ c.in_ok-start.ensures.cause.kept in
    subst (λ count. HasCause count now ⊥ c.add_part-2.result) kept (c.add_part-2.ensures.cause before c.args.front.now (c.in_ok-add_part.ensures.added before [] under))

pub returns-in_err-start-clause-heard_broken : goal.returns-in_err-start-clause-heard_broken
returns-in_err-start-clause-heard_broken g c =
    let p = err_from_is_err_and c.from_residual.result c.from_residual.ensures.1 in
    rw p.1 (inl c.in_err-start.ensures.heard)

pub returns-in_err-add_part-clause-heard_broken : goal.returns-in_err-add_part-clause-heard_broken
returns-in_err-add_part-clause-heard_broken g c =
    let p = err_from_is_err_and c.from_residual-in_err-add_part.result c.from_residual-in_err-add_part.ensures.1 in
    let before = g.K.Cabinet.heard c.args.cabinet.now in
    let started = IsWriting-started before c.args.name.now (g.K.Cabinet.heard c.start.new.self) c.in_ok-start.ensures.heard in
    rw p.1 (HasBroken-longer before c.args.name.now [] (c.args.front.now ++ c.args.rest.now) (g.K.Cabinet.heard c.add_part.new.cabinet)
    (HasBroken-kept before c.args.name.now [] [] (g.K.Cabinet.heard c.start.new.self) (g.K.Cabinet.heard c.add_part.new.cabinet) c.in_err-add_part.ensures.heard started))

pub returns-clause-heard : goal.returns-clause-heard
returns-clause-heard g c =
    let before = g.K.Cabinet.heard c.args.cabinet.now in
    let started = IsWriting-started before c.args.name.now (g.K.Cabinet.heard c.start.new.self) c.in_ok-start.ensures.heard in
    let first = IsWriting-added before c.args.name.now [] c.args.front.now (g.K.Cabinet.heard c.start.new.self) (g.K.Cabinet.heard c.add_part.new.cabinet) c.in_ok-add_part.ensures.heard started in
    written_ok before c.args.name.now c.args.front.now c.args.rest.now (g.K.Cabinet.heard c.add_part.new.cabinet) (g.K.Cabinet.heard c.add_part-2.new.cabinet) c.add_part-2.result first c.add_part-2.ensures.heard

pub returns-clause-heard_broken : goal.returns-clause-heard_broken
returns-clause-heard_broken g c =
    let before = g.K.Cabinet.heard c.args.cabinet.now in
    let started = IsWriting-started before c.args.name.now (g.K.Cabinet.heard c.start.new.self) c.in_ok-start.ensures.heard in
    let first = IsWriting-added before c.args.name.now [] c.args.front.now (g.K.Cabinet.heard c.start.new.self) (g.K.Cabinet.heard c.add_part.new.cabinet) c.in_ok-add_part.ensures.heard started in
    broken_err before c.args.name.now c.args.front.now c.args.rest.now (g.K.Cabinet.heard c.add_part.new.cabinet) (g.K.Cabinet.heard c.add_part-2.new.cabinet) c.add_part-2.result first c.add_part-2.ensures.heard
