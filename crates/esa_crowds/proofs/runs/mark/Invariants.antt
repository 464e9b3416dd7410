use Rattle.std.proofs.Common.{◌≡◌, ◌<◌, ℕ, false, length, take}
use Rattle.std.specs.Prelude.{◌||◌, slice_index_or}
use Rattle.esa_params.specs.declared.form.Form.{Form}
use Rattle.esa_crowds.specs.Rows.{picked, stands_at}
use Rattle.esa_crowds.proofs.runs.mark.Given as goal

abbrev pub invariant-loop-place : goal.invariant-loop-place
invariant-loop-place l = record {
  long : length l.marks ≡ length l.fn.marks;
  marks : (form : Form) (position : ℕ) → position < length l.fn.marks → slice_index_or l.marks position false
      ≡ (slice_index_or l.fn.marks position false || stands_at position (picked form l.rows (take l.place-index l.places)));
}
