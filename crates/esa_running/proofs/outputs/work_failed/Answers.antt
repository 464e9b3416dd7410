use Rattle.esa_command.specs.Stand.{stand}
use Rattle.esa_taking.specs.RunTaken.{run_taken}
use Rattle.esa_running.specs.RunWork.{records_of}
use Rattle.esa_running.proofs.outputs.work_failed.Goals as goal

pub returns : goal.returns
returns g c =
    let cabinet = stand g.K.Cabinet.told g.K.Cabinet.faults g.K.Cabinet.heard in
    c.settle_failed.ensures (records_of (run_taken c.args.input.now) c.args.recorder.now.trace c.args.history.now)
    (cabinet c.args.cabinet.now) (cabinet c.save_records-saved.new.cabinet) c.save_records-saved.ensures
