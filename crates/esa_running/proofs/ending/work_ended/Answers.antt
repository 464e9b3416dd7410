use Rattle.std.proofs.Common.{◌+◌, ◌*◌, ◌≤◌, length, inl, inr, sym, subst}
use Rattle.esa_params.specs.Slots.{greatest_trace}
use Rattle.esa_shuffle.specs.Runs.{seen_of}
use Rattle.esa_running.specs.ComingOut.{IsMadeOf}
use Rattle.esa_taking.specs.RunTaken.{run_taken}
use Rattle.esa_taking.specs.Wanted.{sizes_in, turns_by}
use Rattle.esa_running.proofs.ComingOut.{made_opens}
use Rattle.esa_running.proofs.RanEnds.{Ended, overflowed, failed_at, tampered_at, unloaded, few_failures}
use Rattle.esa_running.proofs.Rooms.{scans_room}
use Rattle.esa_running.proofs.ending.work_ended.Goals as goal

pub work_shuffled-requires-clause-shuffled : goal.work_shuffled-requires-clause-shuffled
work_shuffled-requires-clause-shuffled g c =
    let met = c.requires.ends in
    let seen = seen_of g.V.Device.faults met.0 met.1 c.args.recorder.now c.args.history.now (g.K.Cabinet.faults c.args.cabinet.now) in
    (met.0, met.1, (subst (Ended (run_taken c.args.input.now) seen c.args.recorder.now.last c.args.failures.now) c.in-Shuffled.is met.2).run.outcome)

pub work_shuffled-requires-clause-room : goal.work_shuffled-requires-clause-room
work_shuffled-requires-clause-room g c =
    let asked = run_taken c.args.input.now in
    let met = c.requires.ends in
    let recorder = c.args.recorder.now in
    let seen = seen_of g.V.Device.faults met.0 met.1 recorder c.args.history.now (g.K.Cabinet.faults c.args.cabinet.now) in
    let shuffled = (subst (Ended asked seen recorder.last c.args.failures.now) c.in-Shuffled.is met.2).run.outcome in
    let plan = c.requires.taken.plan in
    subst (λ p. 2 * p.b ≤ recorder.room) (sym plan)
    (scans_room (sizes_in asked) asked.draws (turns_by asked c.args.history.now) seen c.in-Shuffled.attempt recorder.room shuffled (subst (λ p. greatest_trace p ≤ length recorder.trace + recorder.room) plan c.requires.room))

pub returns-in-Shuffled-clause-works : goal.returns-in-Shuffled-clause-works
returns-in-Shuffled-clause-works g c = λ device batch given met made.
    let seen = seen_of g.V.Device.faults device batch c.args.recorder.now c.args.history.now (g.K.Cabinet.faults c.args.cabinet.now) in
    c.work_shuffled.ensures.works device batch given (subst (Ended (run_taken c.args.input.now) seen c.args.recorder.now.last c.args.failures.now) c.in-Shuffled.is met).run.outcome
    (subst (λ o. IsMadeOf (run_taken c.args.input.now) c.args.history.now c.args.recorder.now.log o given) c.in-Shuffled.is made)

pub failures_of-requires : goal.failures_of-requires
failures_of-requires g c =
    let asked = run_taken c.args.input.now in
    let met = c.requires.ends in
    let seen = seen_of g.V.Device.faults met.0 met.1 c.args.recorder.now c.args.history.now (g.K.Cabinet.faults c.args.cabinet.now) in
    let last = c.args.recorder.now.last in
    let few = few_failures asked seen last c.args.failures.now (subst (Ended asked seen last c.args.failures.now) c.in-Overflow.is met.2) in
    subst (λ p. length c.args.failures.now ≤ p.attempts) (sym c.requires.taken.plan) few

pub returns-in-Overflow-clause-works : goal.returns-in-Overflow-clause-works
returns-in-Overflow-clause-works g c = λ device batch given met made.
    let asked = run_taken c.args.input.now in
    let seen = seen_of g.V.Device.faults device batch c.args.recorder.now c.args.history.now (g.K.Cabinet.faults c.args.cabinet.now) in
    let last = c.args.recorder.now.last in
    let e = subst (Ended asked seen last c.args.failures.now) c.in-Overflow.is met in
    let m = subst (λ o. IsMadeOf asked c.args.history.now c.args.recorder.now.log o given) c.in-Overflow.is made in
    (_, inr (inl (overflowed asked seen last c.args.failures.now c.failures_of.result c.failures_of.ensures e)), record { took = m.shuffled.took; failed = m.shuffled.failed; written = m.shuffled.written; gave = made_opens asked given c.args.history.now c.args.recorder.now.log _ m }, m.crew, c.work_failed.ensures)

pub returns-in-DeviceFault-clause-works : goal.returns-in-DeviceFault-clause-works
returns-in-DeviceFault-clause-works g c = λ device batch given met made.
    let asked = run_taken c.args.input.now in
    let seen = seen_of g.V.Device.faults device batch c.args.recorder.now c.args.history.now (g.K.Cabinet.faults c.args.cabinet.now) in
    let last = c.args.recorder.now.last in
    let e = subst (Ended asked seen last c.args.failures.now) c.in-DeviceFault.is met in
    let m = subst (λ o. IsMadeOf asked c.args.history.now c.args.recorder.now.log o given) c.in-DeviceFault.is made in
    (_, inr (inr (inl (failed_at asked seen last c.args.failures.now c.in-DeviceFault.slot e))), record { took = m.shuffled.took; failed = m.shuffled.failed; written = m.shuffled.written; gave = made_opens asked given c.args.history.now c.args.recorder.now.log _ m }, m.crew, c.work_failed-in-DeviceFault.ensures)

pub returns-in-Tampered-clause-works : goal.returns-in-Tampered-clause-works
returns-in-Tampered-clause-works g c = λ device batch given met made.
    let asked = run_taken c.args.input.now in
    let seen = seen_of g.V.Device.faults device batch c.args.recorder.now c.args.history.now (g.K.Cabinet.faults c.args.cabinet.now) in
    let last = c.args.recorder.now.last in
    let e = subst (Ended asked seen last c.args.failures.now) c.in-Tampered.is met in
    let m = subst (λ o. IsMadeOf asked c.args.history.now c.args.recorder.now.log o given) c.in-Tampered.is made in
    (_, inr (inr (inr (inl (tampered_at asked seen last c.args.failures.now c.in-Tampered.slot e)))), record { took = m.shuffled.took; failed = m.shuffled.failed; written = m.shuffled.written; gave = made_opens asked given c.args.history.now c.args.recorder.now.log _ m }, m.crew, c.work_failed-in-Tampered.ensures)

pub returns-in-BatchFailed-clause-works : goal.returns-in-BatchFailed-clause-works
returns-in-BatchFailed-clause-works g c = λ device batch given met made.
    let asked = run_taken c.args.input.now in
    let seen = seen_of g.V.Device.faults device batch c.args.recorder.now c.args.history.now (g.K.Cabinet.faults c.args.cabinet.now) in
    let last = c.args.recorder.now.last in
    let e = subst (Ended asked seen last c.args.failures.now) c.in-BatchFailed.is met in
    let m = subst (λ o. IsMadeOf asked c.args.history.now c.args.recorder.now.log o given) c.in-BatchFailed.is made in
    (_, inr (inr (inr (inr (inl (unloaded asked seen last c.args.failures.now e))))), record { took = m.shuffled.took; failed = m.shuffled.failed; written = m.shuffled.written; gave = made_opens asked given c.args.history.now c.args.recorder.now.log _ m }, m.crew, c.work_unloaded.ensures)
