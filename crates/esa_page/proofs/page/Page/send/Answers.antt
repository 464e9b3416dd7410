use Rattle.std.proofs.Common.{Err}
use Rattle.std.proofs.lemmas.Result.{err_from_is_err_and}
use Rattle.esa_page.proofs.HeardLaws.{IsWriting-sent, HasBroken-kept}
use Rattle.esa_page.proofs.UnderwayLaws.{IsUnderway-sent, IsLeft-sent, HasCause-underway}
use Rattle.esa_page.proofs.page.Page.send.Goals as goal

pub returns-in_err-append-clause-failed : goal.returns-in_err-append-clause-failed
returns-in_err-append-clause-failed g c = λ before text under.
    let p = err_from_is_err_and c.from_residual.result c.from_residual.ensures.1 in
    rw p.1 (IsLeft-sent before c.args.name.now text c.args.self.now c.waiting.result.now (g.K.Cabinet.told c.args.cabinet.now) (g.K.Cabinet.told c.append.new.self) c.waiting.ensures under c.in_err-append.ensures.failed c.in_err-append.ensures.silent)

pub returns-in_err-append-clause-cause : goal.returns-in_err-append-clause-cause
returns-in_err-append-clause-cause g c = λ before text under.
    let p = err_from_is_err_and c.from_residual.result c.from_residual.ensures.1 in
    rw (p.1, p.2) (HasCause-underway before c.args.name.now text c.args.self.now (g.K.Cabinet.told c.args.cabinet.now) (g.K.Cabinet.faults c.args.cabinet.now) (g.K.Cabinet.faults c.append.new.self) (Err c.in_err-append.field-0.0) under c.in_err-append.ensures.cause)

pub returns-in_err-append-clause-heard_broken : goal.returns-in_err-append-clause-heard_broken
returns-in_err-append-clause-heard_broken g c = λ before text writing.
    let p = err_from_is_err_and c.from_residual.result c.from_residual.ensures.1 in
    rw p.1 (HasBroken-kept before c.args.name.now text c.args.self.now (g.K.Cabinet.heard c.args.cabinet.now) (g.K.Cabinet.heard c.append.new.self) c.in_err-append.ensures.heard writing)

pub returns-clause-sent : goal.returns-clause-sent
returns-clause-sent g c = λ before text under.
    rw c.clear.ensures (IsUnderway-sent before c.args.name.now text c.args.self.now c.waiting.result.now (g.K.Cabinet.told c.args.cabinet.now) (g.K.Cabinet.told c.append.new.self) c.waiting.ensures under c.in_ok-append.ensures.added c.in_ok-append.ensures.silent)

pub returns-clause-heard : goal.returns-clause-heard
returns-clause-heard g c = λ before text writing.
    rw c.clear.ensures (IsWriting-sent before c.args.name.now text c.args.self.now c.waiting.result.now (g.K.Cabinet.heard c.args.cabinet.now) (g.K.Cabinet.heard c.append.new.self) c.waiting.ensures writing c.in_ok-append.ensures.heard)
