use Rattle.std.proofs.Common.{◌≤◌, ◌+◌, arith, subst, sym, ap, ◌∙◌}
use Rattle.std.specs.Prelude.{All}
use Rattle.esa_params.specs.Form.{inner_length}
use Rattle.esa_crowds.specs.Gathered.{Gathered}
use Rattle.esa_crowds.specs.Rows.{RiseWithin, IsPadded, entries_in, entry_row}
use Rattle.esa_crowds.proofs.TableLaws.{RiseWithin-push, All-push, entries-push, rows_fit}
use Rattle.esa_crowds.proofs.table.Table.add.Goals as goal

pub push_reserved-requires : goal.push_reserved-requires
push_reserved-requires c =
    omega (arith, rows_fit c.self.inside.form 0 c.self.inside.next c.self.inside.rows.items c.self.invariant.rise, c.self.invariant.rows, c.requires.room, ap (λ (held : Gathered). held.next) c.self.view_is, ap (λ (held : Gathered). held.room) c.self.view_is)

pub invariant_of-self : goal.invariant_of-self
invariant_of-self c =
    let now = c.self.inside in
    let row = c.row_of.result in
    let rise = RiseWithin-push 0 now.next (entries_in now.form now.rows.items) (entry_row now.form row) c.row_of.ensures.position c.self.invariant.rise in
    record {
      rise = subst (λ rows. RiseWithin 0 (now.next + 1) (entries_in now.form rows)) (sym c.push_reserved.ensures.items)
          (subst (RiseWithin 0 (now.next + 1)) (sym (entries-push now.form now.rows.items row)) rise);
      padded = subst (All (IsPadded now.form)) (sym c.push_reserved.ensures.items) (All-push now.form now.rows.items row c.self.invariant.padded (c.row_of.ensures.padded now.form (c.requires.whole ∙ ap (λ (held : Gathered). 32 + inner_length held.form) (sym c.self.view_is))));
      within = omega (arith, c.requires.room, ap (λ (held : Gathered). held.next) c.self.view_is, ap (λ (held : Gathered). held.room) c.self.view_is);
      rows = subst (λ n. now.room ≤ n) (sym c.push_reserved.ensures.capacity) c.self.invariant.rows;
      places = c.self.invariant.places;
      marks = c.self.invariant.marks;
      small = c.self.invariant.small;
    }
