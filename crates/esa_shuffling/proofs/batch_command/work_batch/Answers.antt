use Rattle.std.proofs.Common.{refl, subst}
use Rattle.esa_refusal.specs.declared.source.Sink.TheVariants.{Output}
use Rattle.esa_command.specs.Doing.{one_of_each}
use Rattle.esa_command.specs.Settled.{Settles}
use Rattle.esa_command.specs.Stand.{stand}
use Rattle.esa_command.specs.Work.{Write}
use Rattle.esa_command.proofs.Settling.{writes_whole}
use Rattle.esa_batcher.specs.Batched.{batch_bytes}
use Rattle.esa_shuffling.proofs.batch_command.work_batch.Goals as goal

pub returns : goal.returns
returns g c =
    let cabinet = stand g.K.Cabinet.told g.K.Cabinet.faults g.K.Cabinet.heard in
    let printer = stand g.P.Printer.told g.P.Printer.faults g.P.Printer.heard in
    let before = cabinet c.args.cabinet.now in
    let now = cabinet c.write-saved.new.cabinet in
    let write : Write = record { sink = Output; name = c.args.output.now; bytes = batch_bytes c.args.batch.now } in
    let all = c.write-saved.ensures in
    subst (λ line. Settles (one_of_each write line) before now (printer c.args.printer.now) (printer c.settle_one.new.printer) c.settle_one.result) c.batched_line.ensures
    (c.settle_one.ensures write before now refl (writes_whole c.write-saved.result write before now all.cause all.whole all.left all.heard all.heard_broken))
