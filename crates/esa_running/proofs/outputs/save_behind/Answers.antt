use Rattle.std.proofs.Common.{◌∷◌, [], subst}
use Rattle.esa_refusal.specs.declared.source.Sink.{Sink}
use Rattle.esa_refusal.specs.declared.source.Sink.TheVariants.{Output}
use Rattle.esa_command.specs.Doing.{WritesIt, AreBroken}
use Rattle.esa_command.specs.Stand.{stand}
use Rattle.esa_command.proofs.Written.{broken_before, writes_then}
use Rattle.esa_taking.specs.RunTaken.{run_taken}
use Rattle.esa_running.specs.RunWork.{records_of}
use Rattle.esa_running.proofs.outputs.save_behind.Goals as goal

pub returns-in-Ok : goal.returns-in-Ok
returns-in-Ok g c = λ before output sink it.
    let cabinet = stand g.K.Cabinet.told g.K.Cabinet.faults g.K.Cabinet.heard in
    let middle = cabinet c.args.cabinet.now in
    writes_then (output ∷ []) (records_of (run_taken c.args.input.now) c.args.recorder.now.trace c.args.history.now) before middle (cabinet c.save_records.new.cabinet)
    (subst (WritesIt output before middle) c.in-Ok.is it) c.save_records.result c.save_records.ensures

pub returns-in-Err : goal.returns-in-Err
returns-in-Err g c = λ before output sink it.
    let middle = stand g.K.Cabinet.told g.K.Cabinet.faults g.K.Cabinet.heard c.args.cabinet.now in
    broken_before Output (output ∷ []) (records_of (run_taken c.args.input.now) c.args.recorder.now.trace c.args.history.now) before middle
    (subst (λ (s : Sink). AreBroken s (output ∷ []) before middle) sink (subst (WritesIt output before middle) c.in-Err.is it))
