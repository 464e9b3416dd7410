use Rattle.std.proofs.Common.{◌∙◌, sym, subst}
use Rattle.esa_device.specs.Logs.{IsBacked}
use Rattle.esa_shuffle.specs.Runs.{seen_of}
use Rattle.esa_running.specs.ByCrew.{IsByCrew, uncut_by}
use Rattle.esa_running.specs.ComingOut.{Became, IsMadeOf}
use Rattle.esa_running.specs.Outlets.{purpose_of}
use Rattle.esa_running.specs.RunOwes.{EndsShuffle, HasEnded}
use Rattle.esa_taking.specs.RunTaken.{run_taken}
use Rattle.esa_running.specs.RunWork.{FitFiles}
use Rattle.esa_taking.specs.Wanted.{sizes_in}
use Rattle.esa_running.proofs.RanEnds.{ended_fits}
use Rattle.esa_running.proofs.run_command.end_ran.Goals as goal

pub work_ended-end-requires-clause-ends : goal.work_ended-end-requires-clause-ends
work_ended-end-requires-clause-ends g c =
    let ran = c.args.ran in
    let now = g.K.Cabinet.faults c.args.cabinet.now in
    let met = c.requires.ends in (
      met.0,
      met.1,
      subst (λ history. EndsShuffle (run_taken c.args.input.now) (seen_of g.V.Device.faults met.0 met.1 ran.recorder history now) ran.recorder.last ran.failures ran.outcome) (sym c.entries.ensures) met.2,
    )

pub work_ended-end-requires-clause-fits : goal.work_ended-end-requires-clause-fits
work_ended-end-requires-clause-fits g c =
    let ran = c.args.ran in
    let asked = run_taken c.args.input.now in
    let met = c.requires.ends in
    let seen = seen_of g.V.Device.faults met.0 met.1 ran.recorder ran.history (g.K.Cabinet.faults c.args.cabinet.now) in
    subst (FitFiles (sizes_in asked).workers ran.recorder.trace) (sym c.entries.ensures) (ended_fits asked seen ran.recorder.last ran.failures c.requires.taken.limits c.requires.few ran.outcome met.2)

pub returns-clause-works : goal.returns-clause-works
returns-clause-works g c = λ device batch given met made.
    let ran = c.args.ran in
    let asked = run_taken c.args.input.now in
    let now = g.K.Cabinet.faults c.args.cabinet.now in
    let new = c.work_ended-end.new.recorder in
    let done =
    c.work_ended-end.ensures.works device batch given
    (subst (λ history. EndsShuffle asked (seen_of g.V.Device.faults device batch ran.recorder history now) ran.recorder.last ran.failures ran.outcome) (sym c.entries.ensures) met)
    (subst (λ history. IsMadeOf asked history ran.recorder.log ran.outcome given) (sym c.entries.ensures) made) in
    record {
      work = done.0;
      ends = subst (λ history. HasEnded (purpose_of c.args.store.outlet) g.V.Device.told g.V.Device.faults asked given (seen_of g.V.Device.faults device batch new history now) new done.0) c.entries.ensures done.1;
      became = subst (λ history. Became asked given history new.log done.0.ended) c.entries.ensures done.2;
      crew = subst (λ history. IsByCrew asked history (uncut_by done.0.ended)) c.entries.ensures done.3;
      settles = done.4;
    }

pub returns-clause-recorder : goal.returns-clause-recorder
returns-clause-recorder g c =
    let ran = c.args.ran in
    let new = c.work_ended-end.new.recorder in
    let plan = c.work_ended-end.ensures.plan ∙ c.requires.ready in
    record {
      plan = λ some. plan;
      logged = c.keeps_its_log.ensures.accesses;
      last = c.keeps_its_log.ensures.gave;
      backed = subst (λ p. IsBacked p (g.V.Device.told new.device) new.log) plan c.keeps_its_log.ensures.backed;
    }
