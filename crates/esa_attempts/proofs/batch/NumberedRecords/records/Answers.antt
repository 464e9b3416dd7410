-- The records that are asked for lie inside.
use Rattle.std.proofs.Common.{ℕ, ◌+◌, ◌*◌, ◌≤◌, length, sym, ap, ◌∙◌, subst, arith}
use Rattle.esa_attempts.specs.Batch.{Many}
use Rattle.esa_attempts.proofs.Inside.{part_inside}
use Rattle.esa_attempts.proofs.batch.NumberedRecords.records.Goals as goal

pub slice_bounds-copy_from_slice-end : goal.slice_bounds-copy_from_slice-end
slice_bounds-copy_from_slice-end c =
    let asked = c.requires.whole in
    let size = ap (λ (m : Many). m.size) c.self.view_is in
    let count = ap (λ (m : Many). m.count) c.self.view_is in
    let fits = part_inside c.args.first asked.0 c.self.inside.size c.self.inside.count (length c.args.out.now) (length c.self.inside.bytes.items)
    (asked.1 ∙ ap (λ (m : ℕ). asked.0 * m) (sym size)) (subst (λ (m : ℕ). c.args.first + asked.0 ≤ m) (sym count) asked.2) c.self.invariant in
    omega (arith, fits, ap length c.deref.ensures.value)
