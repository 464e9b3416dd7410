use Rattle.std.proofs.Common.{[], ◌≡◌, ◌∙◌, ◌+◌, ◌≤◌, ◌++◌, sym, ap, subst, arith}
use Rattle.std.proofs.lemmas.Result.{err_from_is_err_and}
use Rattle.esa_page.specs.Underway.{IsUnderway}
use Rattle.esa_page.specs.Writing.{IsWriting}
use Rattle.esa_page.proofs.HeardLaws.{HasBroken-longer}
use Rattle.esa_encoding.specs.Generate.{next_state, state_at, report_line, generated}
use Rattle.esa_encoding.proofs.Generating.{state_first, state_next, generated_none, generated_next, left_all, broken_all}
use Rattle.esa_encoding.proofs.generate_command.write_reports.Goals as goal

pub loop-done-init : goal.loop-done-init
loop-done-init g c = record {
  state = sym (state_first c.args.number);
  under = subst (λ text. IsUnderway (g.K.Cabinet.told c.args.cabinet.now) c.args.name.now text c.in_ok-page.page (g.K.Cabinet.told c.start.new.cabinet))
      (sym (generated_none c.args.number c.args.crowds)) c.in_ok-page.ensures.started;
  writing = subst (λ text. IsWriting (g.K.Cabinet.heard c.args.cabinet.now) c.args.name.now text c.in_ok-page.page (g.K.Cabinet.heard c.start.new.cabinet))
      (sym (generated_none c.args.number c.args.crowds)) c.in_ok-page.ensures.heard;
  kept = c.in_ok-page.ensures.cause.kept;
}

pub returns-in_err-put-clause-left : goal.returns-in_err-put-clause-left
returns-in_err-put-clause-left g c =
    let p = err_from_is_err_and c.from_residual-in_err-put.result c.from_residual-in_err-put.ensures.1 in
    let before = g.K.Cabinet.told c.args.cabinet.now in
    let done = c.loop-done.done in
    let few : done ≤ c.args.records = omega arith in
    rw p.1 (left_all c.args.number c.args.crowds done c.args.records before c.args.name.now (g.K.Cabinet.told c.put.new.cabinet) few
    (c.in_err-put.ensures.failed before (generated c.args.number c.args.crowds done) c.loop-done.invariant.under))

pub loop-done-preserved : goal.loop-done-preserved
loop-done-preserved g c =
    let i = c.loop-done.invariant in
    let before = g.K.Cabinet.told c.args.cabinet.now in
    let number = c.args.number in
    let crowds = c.args.crowds in
    let done = c.loop-done.done in
    let so_far = generated number crowds done in
    let state : c.next_state-state.result ≡ state_at number (done + 1) = c.next_state-state.ensures ∙ ap next_state i.state ∙ sym (state_next number done) in
    let text = report_line crowds (done + 1) (state_at number (done + 1)) in
    let line : c.as_bytes.result.now ≡ text = c.as_bytes.ensures ∙ c.report_line-line.ensures ∙ ap (report_line crowds (done + 1)) state in
    let all : so_far ++ c.as_bytes.result.now ≡ generated number crowds (done + 1) = ap (λ bytes. so_far ++ bytes) line ∙ sym (generated_next number crowds done) in
    record {
      state = state;
      under = subst (λ text. IsUnderway before c.args.name.now text c.put.new.self (g.K.Cabinet.told c.put.new.cabinet))
          all (c.in_ok-put.ensures.added before so_far i.under);
      writing = subst (λ text. IsWriting (g.K.Cabinet.heard c.args.cabinet.now) c.args.name.now text c.put.new.self (g.K.Cabinet.heard c.put.new.cabinet))
          all (c.in_ok-put.ensures.heard (g.K.Cabinet.heard c.args.cabinet.now) so_far i.writing);
      kept = (c.in_ok-put.ensures.cause before so_far i.under).kept ∙ i.kept;
    }

pub returns-in_err-page-clause-heard_broken : goal.returns-in_err-page-clause-heard_broken
returns-in_err-page-clause-heard_broken g c =
    let p = err_from_is_err_and c.from_residual.result c.from_residual.ensures.1 in
    rw p.1 (HasBroken-longer (g.K.Cabinet.heard c.args.cabinet.now) c.args.name.now [] (generated c.args.number c.args.crowds c.args.records) (g.K.Cabinet.heard c.start.new.cabinet) c.in_err-page.ensures.heard_broken)

pub returns-in_err-put-clause-heard_broken : goal.returns-in_err-put-clause-heard_broken
returns-in_err-put-clause-heard_broken g c =
    let p = err_from_is_err_and c.from_residual-in_err-put.result c.from_residual-in_err-put.ensures.1 in
    let before = g.K.Cabinet.heard c.args.cabinet.now in
    let done = c.loop-done.done in
    let few : done ≤ c.args.records = omega arith in
    rw p.1 (broken_all c.args.number c.args.crowds done c.args.records before c.args.name.now (g.K.Cabinet.heard c.put.new.cabinet) few
    (c.in_err-put.ensures.heard_broken before (generated c.args.number c.args.crowds done) c.loop-done.invariant.writing))
