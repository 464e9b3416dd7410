use Rattle.std.proofs.Common.{◌≡◌, ◌++◌, codes, refl, subst, ◌∙◌}
use Rattle.esa_analyser.specs.Rows.{database_bytes}
use Rattle.esa_refusal.specs.Refusal.{numbered}
use Rattle.esa_refusal.specs.declared.source.Sink.TheVariants.{Output}
use Rattle.esa_command.specs.Doing.{one_of_each}
use Rattle.esa_command.specs.Settled.{Settles}
use Rattle.esa_command.specs.Stand.{stand}
use Rattle.esa_command.specs.Work.{Write}
use Rattle.esa_command.proofs.Settling.{writes_whole}
use Rattle.esa_analysing.specs.Analyse.{counted_text}
use Rattle.esa_analysing.proofs.recover_command.work_recover.Goals as goal

pub returns : goal.returns
returns g c =
    let cabinet = stand g.K.Cabinet.told g.K.Cabinet.faults g.K.Cabinet.heard in
    let printer = stand g.P.Printer.told g.P.Printer.faults g.P.Printer.heard in
    let before = cabinet c.args.cabinet.now in
    let now = cabinet c.write-saved.new.cabinet in
    let stored = c.args.recovered.now in
    let write : Write = record { sink = Output; name = c.args.output.now; bytes = database_bytes stored.form stored.database } in
    let text : c.counted_line-line.result ≡ counted_text stored.database =
    c.counted_line-line.ensures ∙ (λ i. numbered (codes "rows ") (c.rows.ensures i) ++ numbered (codes " unopened ") (c.unopened.ensures i)) in
    let all = c.write-saved.ensures in
    subst (λ line. Settles (one_of_each write line) before now (printer c.args.printer.now) (printer c.settle_one.new.printer) c.settle_one.result) text
    (c.settle_one.ensures write before now refl (writes_whole c.write-saved.result write before now all.cause all.whole all.left all.heard all.heard_broken))
