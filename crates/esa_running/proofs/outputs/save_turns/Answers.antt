use Rattle.std.proofs.Common.{◌≡◌, Some, None, ap, sym, subst}
use Rattle.std.specs.Prelude.{option_map}
use Rattle.esa_spec.specs.Files.{turns_bytes}
use Rattle.esa_spec.specs.Histories.{lists}
use Rattle.esa_refusal.specs.declared.source.Sink.TheVariants.{TurnsOut}
use Rattle.esa_command.specs.Doing.{WritesIt, AreWritten, AreBroken}
use Rattle.esa_command.specs.Stand.{stand}
use Rattle.esa_command.specs.Work.{Write}
use Rattle.esa_command.proofs.Settling.{none_written, writes_whole}
use Rattle.esa_running.specs.RunWork.{turns_writes}
use Rattle.esa_running.proofs.outputs.save_turns.Goals as goal

pub returns-in-None : goal.returns-in-None
returns-in-None g c =
    let before = stand g.K.Cabinet.told g.K.Cabinet.faults g.K.Cabinet.heard c.args.cabinet.now in
    let none : option_map (λ name. name.now) c.args.name ≡ None = ap (option_map (λ name. name.now)) c.in-None.is in
    subst (λ name. AreWritten (turns_writes name (lists c.args.owner c.args.history.now)) before before) (sym none) (none_written before)

pub returns-in-Ok : goal.returns-in-Ok
returns-in-Ok g c =
    let cabinet = stand g.K.Cabinet.told g.K.Cabinet.faults g.K.Cabinet.heard in
    let before = cabinet c.args.cabinet.now in
    let now = cabinet c.write_turns.new.cabinet in
    let write : Write = record { sink = TurnsOut; name = c.in-Some.name.now; bytes = turns_bytes (lists c.args.owner c.args.history.now) } in
    let all = c.write_turns.ensures in
    let named : option_map (λ name. name.now) c.args.name ≡ Some c.in-Some.name.now = ap (option_map (λ name. name.now)) c.in-Some.is in
    subst (λ name. AreWritten (turns_writes name (lists c.args.owner c.args.history.now)) before now) (sym named)
    (subst (WritesIt write before now) c.in-Ok.is (writes_whole c.write_turns.result write before now all.cause all.whole all.left all.heard all.heard_broken))

pub returns-in-Err : goal.returns-in-Err
returns-in-Err g c =
    let cabinet = stand g.K.Cabinet.told g.K.Cabinet.faults g.K.Cabinet.heard in
    let before = cabinet c.args.cabinet.now in
    let now = cabinet c.write_turns.new.cabinet in
    let write : Write = record { sink = TurnsOut; name = c.in-Some.name.now; bytes = turns_bytes (lists c.args.owner c.args.history.now) } in
    let all = c.write_turns.ensures in
    let named : option_map (λ name. name.now) c.args.name ≡ Some c.in-Some.name.now = ap (option_map (λ name. name.now)) c.in-Some.is in
    subst (λ name. AreBroken TurnsOut (turns_writes name (lists c.args.owner c.args.history.now)) before now) (sym named)
    (subst (WritesIt write before now) c.in-Err.is (writes_whole c.write_turns.result write before now all.cause all.whole all.left all.heard all.heard_broken))
