use Rattle.std.proofs.Common.{[], Err, inl, refl, subst}
use Rattle.std.proofs.lemmas.Result.{err_from_is_err_and}
use Rattle.esa_outside.specs.Cause.{HasCause}
use Rattle.esa_outside.specs.declared.Failed.{Failed}
use Rattle.esa_page.proofs.HeardLaws.{IsWriting-started, IsWriting-added, HasBroken-kept, HasBroken-longer, HasWritten-writing}
use Rattle.esa_page.proofs.UnderwayLaws.{IsUnderway-started, IsUnderway-more, IsUnderway-sent, IsWhole-underway, IsLeft-started, IsLeft-longer, IsLeft-sent, HasCause-underway}
use Rattle.esa_command.proofs.writing.write_bytes.Goals as goal

pub returns-in_err-start-clause-left : goal.returns-in_err-start-clause-left
returns-in_err-start-clause-left g c =
    let p = err_from_is_err_and c.from_residual.result c.from_residual.ensures.1 in
    let before = g.K.Cabinet.told c.args.cabinet.now in
    let now = g.K.Cabinet.told c.start.new.self in
    rw p.1 (IsLeft-longer before c.args.name.now [] c.args.bytes.now now (IsLeft-started before c.args.name.now now c.in_err-start.ensures.failed c.in_err-start.ensures.silent))

pub returns-in_err-append-clause-left : goal.returns-in_err-append-clause-left
returns-in_err-append-clause-left g c =
    let p = err_from_is_err_and c.from_residual-in_err-append.result c.from_residual-in_err-append.ensures.1 in
    let before = g.K.Cabinet.told c.args.cabinet.now in
    let begun = g.K.Cabinet.told c.start.new.self in
    let under = IsUnderway-more before c.args.name.now [] [] c.args.bytes.now begun (IsUnderway-started before c.args.name.now begun c.in_ok-start.ensures.started c.in_ok-start.ensures.silent) in
    rw p.1 (IsLeft-sent before c.args.name.now c.args.bytes.now c.args.bytes.now c.args.bytes.now begun (g.K.Cabinet.told c.append.new.self) refl under c.in_err-append.ensures.failed c.in_err-append.ensures.silent)

pub returns-in_err-append-clause-cause : goal.returns-in_err-append-clause-cause
returns-in_err-append-clause-cause g c =
    let p = err_from_is_err_and c.from_residual-in_err-append.result c.from_residual-in_err-append.ensures.1 in
    let before = g.K.Cabinet.told c.args.cabinet.now in
    let begun = g.K.Cabinet.told c.start.new.self in
    let now = g.K.Cabinet.faults c.append.new.self in
    let under = IsUnderway-more before c.args.name.now [] [] c.args.bytes.now begun (IsUnderway-started before c.args.name.now begun c.in_ok-start.ensures.started c.in_ok-start.ensures.silent) in
    let cause = HasCause-underway before c.args.name.now c.args.bytes.now c.args.bytes.now begun (g.K.Cabinet.faults c.start.new.self) now (Err c.in_err-append.field-0.0) under c.in_err-append.ensures.cause in
    rw (p.1, p.2) (subst (λ count. HasCause {T = Unit {0}} {E = Failed} count now ⊥ (Err c.in_err-append.field-0.0)) c.in_ok-start.ensures.cause.kept cause)

pub returns-clause-whole : goal.returns-clause-whole
returns-clause-whole g c =
    let before = g.K.Cabinet.told c.args.cabinet.now in
    let begun = g.K.Cabinet.told c.start.new.self in
    let now = g.K.Cabinet.told c.append.new.self in
    let bytes = c.args.bytes.now in
    let under = IsUnderway-more before c.args.name.now [] [] bytes begun (IsUnderway-started before c.args.name.now begun c.in_ok-start.ensures.started c.in_ok-start.ensures.silent) in
    IsWhole-underway before c.args.name.now bytes [] now refl (IsUnderway-sent before c.args.name.now bytes bytes bytes begun now refl under c.in_ok-append.ensures.added c.in_ok-append.ensures.silent)

pub returns-in_err-start-clause-heard_broken : goal.returns-in_err-start-clause-heard_broken
returns-in_err-start-clause-heard_broken g c =
    let p = err_from_is_err_and c.from_residual.result c.from_residual.ensures.1 in
    rw p.1 (inl c.in_err-start.ensures.heard)

pub returns-in_err-append-clause-heard_broken : goal.returns-in_err-append-clause-heard_broken
returns-in_err-append-clause-heard_broken g c =
    let p = err_from_is_err_and c.from_residual-in_err-append.result c.from_residual-in_err-append.ensures.1 in
    let before = g.K.Cabinet.heard c.args.cabinet.now in
    let started = IsWriting-started before c.args.name.now (g.K.Cabinet.heard c.start.new.self) c.in_ok-start.ensures.heard in
    rw p.1 (HasBroken-longer before c.args.name.now [] c.args.bytes.now (g.K.Cabinet.heard c.append.new.self)
    (HasBroken-kept before c.args.name.now [] [] (g.K.Cabinet.heard c.start.new.self) (g.K.Cabinet.heard c.append.new.self) c.in_err-append.ensures.heard started))

pub returns-clause-heard : goal.returns-clause-heard
returns-clause-heard g c =
    let before = g.K.Cabinet.heard c.args.cabinet.now in
    let started = IsWriting-started before c.args.name.now (g.K.Cabinet.heard c.start.new.self) c.in_ok-start.ensures.heard in
    HasWritten-writing before c.args.name.now c.args.bytes.now [] (g.K.Cabinet.heard c.append.new.self) refl
    (IsWriting-added before c.args.name.now [] c.args.bytes.now (g.K.Cabinet.heard c.start.new.self) (g.K.Cabinet.heard c.append.new.self) c.in_ok-append.ensures.heard started)
