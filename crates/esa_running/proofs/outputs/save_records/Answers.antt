use Rattle.std.proofs.Common.{◌∙◌, ap, sym, subst}
use Rattle.std.specs.Prelude.{All, ◌<◌, ◌^◌, length}
use Rattle.std.proofs.lemmas.Result.{err_from_is_err_and}
use Rattle.esa_params.specs.declared.slot.Access.{Access}
use Rattle.esa_spec.specs.Histories.{lists}
use Rattle.esa_job.specs.Request.{name_at}
use Rattle.esa_job.specs.declared.field.JobField.TheVariants as field
use Rattle.esa_command.specs.Doing.{AreWritten, AreBroken, WritesAll}
use Rattle.esa_command.specs.Stand.{stand}
use Rattle.esa_command.proofs.Written.{broken_before, writes_then}
use Rattle.esa_shuffling.specs.Plan.{trace_writes}
use Rattle.esa_taking.specs.RunTaken.{run_taken}
use Rattle.esa_running.specs.RunWork.{turns_writes}
use Rattle.esa_taking.specs.StoredTurns.{IsHistory}
use Rattle.esa_taking.specs.Wanted.{sizes_in}
use Rattle.esa_running.proofs.outputs.save_records.Goals as goal

pub save_trace-requires-clause-attempts : goal.save_trace-requires-clause-attempts
save_trace-requires-clause-attempts g c = subst (All (λ (access : Access). access.attempt < 256)) (sym c.trace-2.ensures.trace) c.requires.fits.attempts

pub save_trace-requires-clause-number : goal.save_trace-requires-clause-number
save_trace-requires-clause-number g c = subst (λ xs. length xs < 2 ^ 32) (sym c.trace-2.ensures.trace) c.requires.fits.number

pub save_turns-requires : goal.save_turns-requires
save_turns-requires g c = subst (λ owner. IsHistory owner c.args.history.now) (sym (c.workers.ensures.value ∙ ap (λ p. p.workers) c.requires.taken.plan)) c.requires.fits.turns

pub returns-in_err-save_trace : goal.returns-in_err-save_trace
returns-in_err-save_trace g c =
    let p = err_from_is_err_and c.from_residual.result c.from_residual.ensures.1 in
    let cabinet = stand g.K.Cabinet.told g.K.Cabinet.faults g.K.Cabinet.heard in
    let before = cabinet c.args.cabinet.now in
    let now = cabinet c.save_trace.new.cabinet in
    let asked = run_taken c.args.input.now in
    let sink = c.in_err-save_trace.field-0.0 in
    rw (p.1, p.2) (broken_before sink (trace_writes (name_at asked.job field.Trace) c.args.recorder.now.trace) (turns_writes (name_at asked.job field.TurnsOut) (lists (sizes_in asked).workers c.args.history.now)) before now
    (subst (λ writes. AreBroken sink writes before now) (λ i. trace_writes (c.trace.ensures i) (c.trace-2.ensures.trace i)) c.in_err-save_trace.ensures))

pub returns : goal.returns
returns g c =
    let cabinet = stand g.K.Cabinet.told g.K.Cabinet.faults g.K.Cabinet.heard in
    let before = cabinet c.args.cabinet.now in
    let middle = cabinet c.save_trace.new.cabinet in
    let now = cabinet c.save_turns.new.cabinet in
    let asked = run_taken c.args.input.now in
    let owner = c.workers.ensures.value ∙ ap (λ p. p.workers) c.requires.taken.plan in
    writes_then (trace_writes (name_at asked.job field.Trace) c.args.recorder.now.trace) (turns_writes (name_at asked.job field.TurnsOut) (lists (sizes_in asked).workers c.args.history.now)) before middle now
    (subst (λ writes. AreWritten writes before middle) (λ i. trace_writes (c.trace.ensures i) (c.trace-2.ensures.trace i)) c.in_ok-save_trace.ensures) c.save_turns.result
    (subst (λ writes. WritesAll writes middle now c.save_turns.result) (λ i. turns_writes (c.turns_out.ensures i) (lists (owner i) c.args.history.now)) c.save_turns.ensures)
