use Rattle.std.proofs.Common.{◌∷◌}
use Rattle.esa_command.specs.Stand.{stand}
use Rattle.esa_taking.specs.RunTaken.{run_taken}
use Rattle.esa_running.specs.RunWork.{records_of}
use Rattle.esa_running.proofs.outputs.work_saved.Goals as goal

pub returns : goal.returns
returns g c = λ before output sink it.
    let now = stand g.K.Cabinet.told g.K.Cabinet.faults g.K.Cabinet.heard c.save_behind-saved.new.cabinet in
    c.settle_well.ensures (output ∷ records_of (run_taken c.args.input.now) c.args.recorder.now.trace c.args.history.now) before now (c.save_behind-saved.ensures before output sink it)
