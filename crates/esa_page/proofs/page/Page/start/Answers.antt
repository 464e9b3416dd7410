use Rattle.std.proofs.lemmas.Result.{err_from_is_err_and}
use Rattle.esa_page.proofs.UnderwayLaws.{IsLeft-started}
use Rattle.esa_page.proofs.page.Page.start.Goals as goal

pub returns-in_err-start-clause-failed : goal.returns-in_err-start-clause-failed
returns-in_err-start-clause-failed g c =
    let p = err_from_is_err_and c.from_residual.result c.from_residual.ensures.1 in
    rw p.1 (IsLeft-started (g.K.Cabinet.told c.args.cabinet.now) c.args.name.now (g.K.Cabinet.told c.start.new.self) c.in_err-start.ensures.failed c.in_err-start.ensures.silent)
