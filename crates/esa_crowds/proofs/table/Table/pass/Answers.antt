use Rattle.std.proofs.Common.{◌+◌, ap, arith}
use Rattle.esa_crowds.specs.Gathered.{Gathered}
use Rattle.esa_crowds.specs.Rows.{entries_in}
use Rattle.esa_crowds.proofs.TableLaws.{RiseWithin-higher}
use Rattle.esa_crowds.proofs.table.Table.pass.Goals as goal

pub invariant_of-self : goal.invariant_of-self
invariant_of-self c =
    let now = c.self.inside in
    record {
      rise = RiseWithin-higher 0 now.next (now.next + 1) (entries_in now.form now.rows.items) (omega arith) c.self.invariant.rise;
      padded = c.self.invariant.padded;
      within = omega (arith, c.requires.room, ap (λ (held : Gathered). held.next) c.self.view_is, ap (λ (held : Gathered). held.room) c.self.view_is);
      rows = c.self.invariant.rows;
      places = c.self.invariant.places;
      marks = c.self.invariant.marks;
      small = c.self.invariant.small;
    }
