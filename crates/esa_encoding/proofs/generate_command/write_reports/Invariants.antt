use Rattle.std.proofs.Common.{◌≡◌}
use Rattle.esa_page.specs.Underway.{IsUnderway}
use Rattle.esa_page.specs.Writing.{IsWriting}
use Rattle.esa_encoding.specs.Generate.{state_at, generated}
use Rattle.esa_encoding.proofs.generate_command.write_reports.Given as goal

abbrev pub invariant-loop-done : goal.invariant-loop-done
invariant-loop-done g l = record {
  state : l.state ≡ state_at l.number l.done;
  under : IsUnderway (g.K.Cabinet.told l.fn.cabinet) l.name (generated l.number l.crowds l.done) l.page (g.K.Cabinet.told l.cabinet);
  writing : IsWriting (g.K.Cabinet.heard l.fn.cabinet) l.name (generated l.number l.crowds l.done) l.page (g.K.Cabinet.heard l.cabinet);
  kept : g.K.Cabinet.faults l.cabinet ≡ g.K.Cabinet.faults l.fn.cabinet;
}
