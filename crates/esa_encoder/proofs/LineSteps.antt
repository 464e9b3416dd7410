-- What one more line adds, and what an accepted line has room for.
use Rattle.std.proofs.Common.{◌≡◌, ℕ, ◌+◌, ◌≤◌, ltb, Option, Some, None, List, [], ◌∷◌, ◌++◌, length, refl, sym, ap, ◌∙◌, subst, append_assoc, inl, inr}
use Rattle.std.specs.Prelude.{option_map}
use Rattle.std.specs.Option.{option_or}
use Rattle.std.proofs.lemmas.Bool.{cases_lt, cond-true, lt-ltb}
use Rattle.esa_params.specs.declared.form.Form.{Form}
use Rattle.esa_params.specs.Form.{report_length}
use Rattle.esa_envelope.specs.declared.keys.Keys.{Keys}
use Rattle.esa_line.specs.declared.refused.LineCause.{LineCause}
use Rattle.esa_line.specs.declared.refused.LineCause.TheVariants.{TooLong}
use Rattle.esa_line.specs.declared.refused.LineRefused.{LineRefused}
use Rattle.esa_encoder.specs.declared.submission.EncodeRefused.{EncodeRefused}
use Rattle.esa_encoder.specs.declared.submission.EncodeRefused.TheVariants.{Line}
use Rattle.esa_encoder.specs.Report.{Shape, fields_cause, report_cause}
use Rattle.esa_encoder.specs.Encoded.{nonce_of, submission_of, submissions, line_refused, first_refused}

-- ---- the value of an accepted line

refused_not : (cause : Option LineCause) → option_or cause (Some TooLong) ≡ None → ⊥
refused_not None is = cc
refused_not (Some cause) is = cc

pub sent_fits : (form : Form) (line value : List ℕ) → report_cause form (Some value) line ≡ None → 2 + length value ≤ report_length form
sent_fits form line value none =
    elim (cases_lt (report_length form) (2 + length value)) [
      | inr short ↦ short
      | inl long ↦
          let refused = cond-true (ltb (report_length form) (2 + length value)) (Some TooLong) None (lt-ltb (report_length form) (2 + length value) long) in
          absurd (refused_not (fields_cause line) (subst (λ cause. option_or (fields_cause line) cause ≡ None) refused none))
    ]

-- ---- one more line

pub refused_on : (shape : Shape) (form : Form) (base number : ℕ) (line : List ℕ) (lines : List (List ℕ)) → line_refused shape form number (nonce_of base number) line ≡ None
    → first_refused shape form base number (line ∷ lines) ≡ first_refused shape form base (number + 1) lines
unfolding first_refused
refused_on shape form base number line lines none = rw none refl

pub refused_here : (shape : Shape) (form : Form) (base number : ℕ) (line : List ℕ) (lines : List (List ℕ)) (e : EncodeRefused)
    → option_map Line (line_refused shape form number (nonce_of base number) line) ≡ Some e
    → option_map Line (first_refused shape form base number (line ∷ lines)) ≡ Some e
unfolding first_refused
refused_here shape form base number line lines e is = go (line_refused shape form number (nonce_of base number) line) is where
  go : (refused : Option LineRefused) → option_map Line refused ≡ Some e → option_map Line (option_or refused (first_refused shape form base (number + 1) lines)) ≡ Some e
  go None is = cc
  go (Some refused) is = is

pub refused_none : (shape : Shape) (form : Form) (base number : ℕ) → first_refused shape form base number [] ≡ None
unfolding first_refused
refused_none shape form base number = refl

pub submissions_on : (shape : Shape) (form : Form) (outer inner : Keys) (base number : ℕ) (line : List ℕ) (lines : List (List ℕ))
    → submissions shape form outer inner base number (line ∷ lines)
    ≡ (submission_of shape form outer inner (nonce_of base number) line ++ 10 ∷ []) ++ submissions shape form outer inner base (number + 1) lines
unfolding submissions
submissions_on shape form outer inner base number line lines = refl

pub submissions_none : (shape : Shape) (form : Form) (outer inner : Keys) (base number : ℕ) → submissions shape form outer inner base number [] ≡ []
unfolding submissions
submissions_none shape form outer inner base number = refl

-- what was to come is one piece more and the rest
pub grown : (front whole out more piece rest now : List ℕ) → front ++ whole ≡ out ++ more → more ≡ piece ++ rest → now ≡ out ++ piece → front ++ whole ≡ now ++ rest
grown front whole out more piece rest now so_far step added =
    let joined : out ++ (piece ++ rest) ≡ (out ++ piece) ++ rest = simp append_assoc in
    so_far ∙ ap (λ bytes. out ++ bytes) step ∙ joined ∙ ap (λ bytes. bytes ++ rest) (sym added)
