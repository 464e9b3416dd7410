use Rattle.std.proofs.Common.{◌<◌, inl, inr, Some, sym, ap, ◌∙◌, subst}
use Rattle.esa_floor.specs.declared.turn.Outcome.TheVariants.{Shuffled}
use Rattle.esa_spec.specs.Draws.{IsDrawn}
use Rattle.esa_command.specs.Doing.{failed_work}
use Rattle.esa_command.specs.Settled.{Settles}
use Rattle.esa_command.specs.Stand.{stand}
use Rattle.esa_running.specs.Forwarding.{AreJoined}
use Rattle.esa_running.specs.Outlets.{HasRoom}
use Rattle.esa_taking.specs.RunTaken.{run_taken}
use Rattle.esa_running.specs.RunWork.{records_of}
use Rattle.esa_running.proofs.ByCrew.{broken_by_crew}
use Rattle.esa_running.proofs.ComingOut.{drawn_for, forwarded_failed, forwarded_on, forwarded_opens, broken_failed, broken_on, broken_opens, became_well, became_broken, made_opens}
use Rattle.esa_running.proofs.RunEnds.{succeeded, success_fits, broken_off, broken_fits}
use Rattle.esa_running.proofs.working.work_shuffled.Goals as goal

pub work_forwarded-requires-clause-joined : goal.work_forwarded-requires-clause-joined
work_forwarded-requires-clause-joined g c =
    let f = c.in-Ok.ensures.forwarded in
    (f.0, subst (AreJoined (run_taken c.args.input.now) f.0) (sym c.forward.ensures) f.2)

pub work_forwarded-requires-clause-room : goal.work_forwarded-requires-clause-room
work_forwarded-requires-clause-room g c = subst (λ p. HasRoom p c.args.store.outlet) c.requires.taken.plan c.requires.outlet

pub work_forwarded-requires-clause-fits : goal.work_forwarded-requires-clause-fits
work_forwarded-requires-clause-fits g c =
    let s = c.requires.shuffled in
    let f = c.in-Ok.ensures.forwarded in
    success_fits g.V.Device.told g.V.Device.faults (run_taken c.args.input.now) s.0 s.1 (g.K.Cabinet.faults c.args.cabinet.now) c.args.history.now c.args.attempt c.args.recorder.now c.forward_output.new.recorder s.2
    c.requires.taken.limits f.0 f.1

pub work_failed-requires-clause-fits : goal.work_failed-requires-clause-fits
work_failed-requires-clause-fits g c =
    let s = c.requires.shuffled in
    broken_fits g.V.Device.told g.V.Device.faults (run_taken c.args.input.now) s.0 s.1 (g.K.Cabinet.faults c.args.cabinet.now) c.args.history.now c.args.attempt c.args.recorder.now c.forward_output.new.recorder s.2
    c.requires.taken.limits c.in-Err.fault c.in-Err.ensures.broken

pub returns-in-Ok-clause-works : goal.returns-in-Ok-clause-works
returns-in-Ok-clause-works g c = λ device batch given s made.
    let f = c.in-Ok.ensures.forwarded in
    let asked = run_taken c.args.input.now in
    let attempt = c.args.attempt in
    let old = c.args.recorder.now in
    let new = c.forward_output.new.recorder in
    let taken = c.requires.taken in
    let drawn = subst (λ p. attempt < p.attempts → IsDrawn p (asked.draws attempt)) taken.coins (drawn_for c.args.input.now.coins attempt) s.planned in (
      _,
      inl (succeeded g.V.Device.told g.V.Device.faults asked device batch (g.K.Cabinet.faults c.args.cabinet.now) c.args.history.now attempt old new s taken.limits drawn given made
          (record { plan = c.requires.ready ∙ ap Some taken.plan; trace = s.made; logged = c.keeps_its_log.ensures.accesses }) _ f.0 f.1),
      became_well asked given c.args.history.now old.log new.log (forwarded_on g.V.Device.told g.V.Device.faults asked attempt old new f.0 f.1) (Shuffled attempt) made
          (forwarded_failed g.V.Device.told g.V.Device.faults asked attempt old new made.shuffled.failed f.0 f.1)
          (forwarded_opens asked c.args.history.now attempt g.V.Device.told g.V.Device.faults old new (made_opens asked given c.args.history.now old.log (Shuffled attempt) made) f.0 f.1),
      made.crew,
      c.work_forwarded.ensures f.0 (subst (AreJoined (run_taken c.args.input.now) f.0) (sym c.forward.ensures) f.2),
    )

pub returns-clause-works : goal.returns-clause-works
returns-clause-works g c = λ device batch given s made.
    let asked = run_taken c.args.input.now in
    let cabinet = stand g.K.Cabinet.told g.K.Cabinet.faults g.K.Cabinet.heard in
    let printer = stand g.P.Printer.told g.P.Printer.faults g.P.Printer.heard in (
      _,
      broken_off g.V.Device.told g.V.Device.faults asked device batch (g.K.Cabinet.faults c.args.cabinet.now) c.args.history.now c.args.attempt c.args.recorder.now c.forward_output.new.recorder s
          _ given c.in-Err.fault c.in-Err.ensures.broken,
      became_broken asked given c.args.history.now c.args.recorder.now.log c.forward_output.new.recorder.log
          (broken_on g.V.Device.told g.V.Device.faults asked c.args.attempt c.args.recorder.now c.forward_output.new.recorder c.in-Err.fault c.in-Err.ensures.broken)
          (Shuffled c.args.attempt) made c.in-Err.fault
          (broken_failed g.V.Device.told g.V.Device.faults asked c.args.attempt c.args.recorder.now c.forward_output.new.recorder made.shuffled.failed c.in-Err.fault c.in-Err.ensures.broken)
          (broken_opens asked c.args.history.now c.args.attempt g.V.Device.told g.V.Device.faults c.args.recorder.now c.forward_output.new.recorder
          (made_opens asked given c.args.history.now c.args.recorder.now.log (Shuffled c.args.attempt) made) c.in-Err.fault c.in-Err.ensures.broken),
      broken_by_crew asked c.args.history.now c.args.attempt c.in-Err.fault made.crew,
      subst (λ status. Settles (failed_work status (records_of asked c.forward_output.new.recorder.trace c.args.history.now)) (cabinet c.args.cabinet.now) (cabinet c.work_failed.new.cabinet) (printer c.args.printer.now) (printer c.work_failed.new.printer) c.work_failed.result)
          c.status_of_fault-status.ensures c.work_failed.ensures,
    )

pub returns-in-Ok-clause-plan : goal.returns-in-Ok-clause-plan
returns-in-Ok-clause-plan g c = c.in-Ok.ensures.forwarded.1.forwarded.plan

pub returns-clause-plan : goal.returns-clause-plan
returns-clause-plan g c = elim c.in-Err.ensures.broken.1 [
  | inl fails ↦ fails.plan
  | inr fails ↦ fails.plan
]
