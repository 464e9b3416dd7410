-- A text over zero bytes.
use Rattle.std.proofs.Common.{◌≡◌, ℕ, ◌-◌, true, List, ◌++◌, length, drop, sym, ap, ◌∙◌}
use Rattle.std.specs.Prelude.{replicate}
use Rattle.std.proofs.lemmas.List.{drop-replicate, drop_at}
use Rattle.esa_report.specs.Item.{full_body, zero_body}
use Rattle.esa_report.specs.Zero.{is_zero}
use Rattle.esa_report.proofs.ZeroLemmas.{is_zero-drop, is_zero-replicate, is_zero-zero_body}

-- a text with the rest of the zero bytes behind it
pub full_body-over : (text : List ℕ) (n : ℕ) → length text ≡ n → text ++ drop n (replicate 264 0) ≡ full_body text
full_body-over text n size =
    ap (λ m. text ++ drop m (replicate 264 0)) (sym size) ∙ ap (λ rest. text ++ rest) (drop-replicate (length text) 264 0)

-- behind its text a body is zero
pub is_zero-full : (text : List ℕ) (n : ℕ) → length text ≡ n → is_zero (drop n (full_body text)) ≡ true
is_zero-full text n size =
    ap is_zero (drop_at text (replicate (264 - length text) 0) n size) ∙ is_zero-replicate (264 - length text)

-- a zero body is zero from any place on
pub is_zero-rest : (n : ℕ) → is_zero (drop n zero_body) ≡ true
is_zero-rest n = is_zero-drop n zero_body is_zero-zero_body
