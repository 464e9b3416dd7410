-- How many envelopes are joined.
use Rattle.std.proofs.Common.{◌≡◌, ℕ, ◌*◌, ◌≤◌, List, length, sym, ap, ◌∙◌, arith}
use Rattle.esa_header.proofs.PieceLaws.{length-concat}
use Rattle.esa_params.specs.declared.form.Form.{Form}
use Rattle.esa_params.specs.Form.{inner_length}
use Rattle.esa_running.specs.Forwarding.{AreJoined}
use Rattle.esa_taking.specs.Run.{Asked}
use Rattle.esa_running.proofs.SentLaws.{same_number}

module _ (asked : Asked) (envelopes : List (List ℕ)) (bytes : List ℕ) (j : AreJoined asked envelopes bytes) (form : Form) (same : form ≡ asked.batch.form) where
  joined_length : length bytes ≡ inner_length form * length envelopes
  joined_length = ap length j.joined ∙ length-concat (inner_length asked.batch.form) envelopes j.whole ∙ ap (λ form. inner_length form * length envelopes) (sym same)

  -- they are so many
  pub joined_number : (n : ℕ) → length bytes ≡ inner_length form * n → n ≡ length envelopes
  joined_number n is = same_number form n (length envelopes) (sym is ∙ joined_length)

  -- and no more than the batch has records
  pub joined_few : (most : ℕ) → asked.batch.count ≤ most → (n : ℕ) × (length bytes ≡ inner_length form * n) × (n ≤ most)
  joined_few most below = (length envelopes, joined_length, omega (arith, j.few, below))
