use Rattle.std.proofs.Common.{◌≡◌, Some, None, ap, sym, subst}
use Rattle.std.specs.Prelude.{option_map}
use Rattle.esa_spec.specs.Files.{trace_bytes}
use Rattle.esa_refusal.specs.declared.source.Sink.TheVariants.{Trace}
use Rattle.esa_command.specs.Doing.{WritesIt, AreWritten, AreBroken}
use Rattle.esa_command.specs.Stand.{stand}
use Rattle.esa_command.specs.Work.{Write}
use Rattle.esa_command.proofs.Settling.{none_written, writes_whole}
use Rattle.esa_shuffling.specs.Plan.{trace_writes}
use Rattle.esa_running.proofs.outputs.save_trace.Goals as goal

pub returns-in-None : goal.returns-in-None
returns-in-None g c =
    let before = stand g.K.Cabinet.told g.K.Cabinet.faults g.K.Cabinet.heard c.args.cabinet.now in
    let none : option_map (λ name. name.now) c.args.name ≡ None = ap (option_map (λ name. name.now)) c.in-None.is in
    subst (λ name. AreWritten (trace_writes name c.args.accesses.now) before before) (sym none) (none_written before)

pub returns-in-Ok : goal.returns-in-Ok
returns-in-Ok g c =
    let cabinet = stand g.K.Cabinet.told g.K.Cabinet.faults g.K.Cabinet.heard in
    let before = cabinet c.args.cabinet.now in
    let now = cabinet c.write_trace.new.cabinet in
    let write : Write = record { sink = Trace; name = c.in-Some.name.now; bytes = trace_bytes c.args.accesses.now } in
    let all = c.write_trace.ensures in
    let named : option_map (λ name. name.now) c.args.name ≡ Some c.in-Some.name.now = ap (option_map (λ name. name.now)) c.in-Some.is in
    subst (λ name. AreWritten (trace_writes name c.args.accesses.now) before now) (sym named)
    (subst (WritesIt write before now) c.in-Ok.is (writes_whole c.write_trace.result write before now all.cause all.whole all.left all.heard all.heard_broken))

pub returns-in-Err : goal.returns-in-Err
returns-in-Err g c =
    let cabinet = stand g.K.Cabinet.told g.K.Cabinet.faults g.K.Cabinet.heard in
    let before = cabinet c.args.cabinet.now in
    let now = cabinet c.write_trace.new.cabinet in
    let write : Write = record { sink = Trace; name = c.in-Some.name.now; bytes = trace_bytes c.args.accesses.now } in
    let all = c.write_trace.ensures in
    let named : option_map (λ name. name.now) c.args.name ≡ Some c.in-Some.name.now = ap (option_map (λ name. name.now)) c.in-Some.is in
    subst (λ name. AreBroken Trace (trace_writes name c.args.accesses.now) before now) (sym named)
    (subst (WritesIt write before now) c.in-Err.is (writes_whole c.write_trace.result write before now all.cause all.whole all.left all.heard all.heard_broken))
