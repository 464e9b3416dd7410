use Rattle.std.proofs.Common.{◌≡◌, length, ap, subst, sym, ◌∙◌, arith}
use Rattle.std.specs.Prelude.{All, false, slice_index_or}
use Rattle.esa_crowds.specs.Gathered.{Gathered}
use Rattle.esa_crowds.specs.Kept.{drops_in}
use Rattle.esa_crowds.specs.Rows.{IsPadded, RiseWithin, entries_in, kept_at}
use Rattle.esa_crowds.proofs.TableLaws.{rows_fit, RiseWithin-higher, written_back}
use Rattle.esa_crowds.proofs.table.Table.decide.Goals as goal

pub sort-requires-clause-few : goal.sort-requires-clause-few
sort-requires-clause-few c =
    let now = c.self.inside in
    omega (arith, ap length c.deref.ensures.value, rows_fit now.form 0 now.next now.rows.items c.self.invariant.rise, c.self.invariant.within, c.self.invariant.small)

pub sort-requires-clause-room : goal.sort-requires-clause-room
sort-requires-clause-room c =
    let now = c.self.inside in
    omega (arith, ap length c.deref.ensures.value, rows_fit now.form 0 now.next now.rows.items c.self.invariant.rise, c.self.invariant.within, c.self.invariant.places)

pub mark_kept-requires-clause-form : goal.mark_kept-requires-clause-form
mark_kept-requires-clause-form c =
    let now = c.self.inside in (
      now.form,
      subst (All (IsPadded now.form)) (sym c.deref-2.ensures.value) c.self.invariant.padded,
      subst (λ rows. RiseWithin 0 (length c.deref_mut.result.now) (entries_in now.form rows)) (sym c.deref-2.ensures.value)
          (RiseWithin-higher 0 now.next (length c.deref_mut.result.now) (entries_in now.form now.rows.items) (omega (arith, c.fill.ensures.len, ap length c.deref_mut.ensures.value, c.self.invariant.within, c.self.invariant.marks)) c.self.invariant.rise),
    )

pub returns-clause-kept : goal.returns-clause-kept
returns-clause-kept c = λ key position stands below.
    let now = c.self.inside in
    let room : length c.deref_mut.result.now ≡ now.room = omega (arith, c.fill.ensures.len, ap length c.deref_mut.ensures.value, c.self.invariant.marks) in
    let rise = RiseWithin-higher 0 now.next (length c.deref_mut.result.now) (entries_in now.form now.rows.items) (omega (arith, room, c.self.invariant.within)) c.self.invariant.rise in
    let back = written_back c.fill.new.self.len c.mark_kept.new.marks c.fill.new.self.items (omega arith) (omega (arith, c.mark_kept.ensures.length, ap length c.deref_mut.ensures.value)) in
    ap (λ marks. slice_index_or marks position false) back
    ∙ c.mark_kept.ensures.marks now.form key position (subst (All (IsPadded now.form)) (sym c.deref-2.ensures.value) c.self.invariant.padded)
    (subst (λ rows. RiseWithin 0 (length c.deref_mut.result.now) (entries_in now.form rows)) (sym c.deref-2.ensures.value) rise) stands (omega (arith, below, room, ap (λ (held : Gathered). held.room) c.self.view_is))
    ∙ ap (λ rows. kept_at (drops_in key c.args.drops.now) c.args.t (entries_in now.form rows) position) c.deref-2.ensures.value
    ∙ ap (λ (held : Gathered). kept_at (drops_in key c.args.drops.now) c.args.t held.entries position) c.self.view_is
