use Rattle.std.proofs.Common.{◌≡◌, ◌<◌, ℕ, List, [], length}
use Rattle.std.specs.Prelude.{All}
use Rattle.esa_hmac.specs.Mac.{StandsFor}
use Rattle.esa_params.specs.declared.form.Form.{Form}
use Rattle.esa_crowds.specs.Kept.{drops_in}
use Rattle.esa_crowds.specs.Rows.{IsPadded, RiseWithin, entries_in}
use Rattle.esa_crowds.proofs.MarkLaws.{AreMarked}
use Rattle.esa_crowds.proofs.runs.mark_kept.Given as goal

abbrev pub invariant-loop-rest : goal.invariant-loop-rest
invariant-loop-rest l = record {
  inside : All (λ place. place < length l.rows) l.rest;
  long : length l.marks ≡ length l.fn.marks;
  so_far : (form : Form) (key : List ℕ) → All (IsPadded form) l.rows → RiseWithin 0 (length l.fn.marks) (entries_in form l.rows) → StandsFor l.codes key []
      → AreMarked form l.rows l.order l.rest (drops_in key l.drops) l.t (length l.fn.marks) l.marks;
}

abbrev pub decreases-loop-rest : goal.decreases-loop-rest
decreases-loop-rest l = length l.rest
