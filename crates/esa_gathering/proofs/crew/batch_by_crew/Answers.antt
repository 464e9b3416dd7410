use Rattle.std.proofs.Common.{◌<◌, ◌≤◌, length, Ok, IfSome, refl, sym, ap, subst, ◌∙◌, arith}
use Rattle.std.proofs.lemmas.Result.{err_from_is_err_and}
use Rattle.esa_batcher.specs.Finishing.{envelopes_of, batch_of}
use Rattle.esa_gathering.specs.Crew.{HasAll}
use Rattle.esa_gathering.specs.Together.{texts_of, all_lines}
use Rattle.esa_gathering.proofs.Gathered.{crew_few, crew_batch}
use Rattle.esa_gathering.proofs.crew.batch_by_crew.Goals as goal

pub returns-in_err-finish-in-Some-clause-err : goal.returns-in_err-finish-in-Some-clause-err
returns-in_err-finish-in-Some-clause-err g c =
    let p = err_from_is_err_and c.from_residual-in_err-finish-in-Some.result c.from_residual-in_err-finish-in-Some.ensures.1 in
    let form = c.args.form in
    let texts = texts_of c.args.texts.now in
    let few : length (all_lines texts) ≤ 262144 = omega (arith, c.line_total-total.ensures, c.if-total-from.false, c.from.ensures) in
    let has : HasAll form texts c.in-Some.batcher = subst (λ answer. IfSome answer (HasAll form texts)) c.in-Some.is c.in_ok-batcher.ensures.ok in
    let less = (c.in_err-finish-in-Some.ensures.few).0 refl in
    rw (p.1, p.2, c.in_err-finish-in-Some.ensures.refused) (crew_few form c.args.epoch c.args.m texts few c.in-Some.batcher has less, tt)

pub returns-in_ok-finish-in-Some-clause-ok : goal.returns-in_ok-finish-in-Some-clause-ok
returns-in_ok-finish-in-Some-clause-ok g c =
    let form = c.args.form in
    let texts = texts_of c.args.texts.now in
    let few : length (all_lines texts) ≤ 262144 = omega (arith, c.line_total-total.ensures, c.if-total-from.false, c.from.ensures) in
    let has : HasAll form texts c.in-Some.batcher = subst (λ answer. IfSome answer (HasAll form texts)) c.in-Some.is c.in_ok-batcher.ensures.ok in
    let enough : length c.in-Some.batcher.list < c.args.m → ⊥ = λ less. let never = (c.in_ok-finish-in-Some.ensures.few).1 less in cc in
    let batch = c.in_ok-finish-in-Some.ensures.any_order (envelopes_of form (all_lines texts)) has.same in
    crew_batch form c.args.epoch c.args.m texts few c.in-Some.batcher has enough ∙ sym (ap Ok (batch ∙ ap (λ form. batch_of form c.args.epoch (envelopes_of c.args.form (all_lines texts))) has.form_is))
