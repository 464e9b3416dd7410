-- The lines of a text, by the first that is refused.
use Rattle.std.proofs.Common.{◌≡◌, ℕ, ◌+◌, ◌≤◌, Bool, true, false, cond, List, [], ◌∷◌, ◌++◌, length, Option, Some, None, option_map, Result, Ok, Err, refl, sym, ap, ◌∙◌, arith}
use Rattle.std.specs.List.{onto_first, cons_option, filter_map}
use Rattle.std.specs.Option.{option_or}
use Rattle.std.specs.Result.{result_ok, result_err}
use Rattle.esa_params.specs.declared.form.Form.{Form}
use Rattle.esa_bytes.specs.Lines.{is_newline, text_lines}
use Rattle.esa_line.specs.declared.refused.LineCause.{LineCause}
use Rattle.esa_line.specs.declared.refused.LineRefused.{LineRefused}
use Rattle.esa_batcher.specs.declared.refused.AddRefused.{AddRefused}
use Rattle.esa_batcher.specs.declared.refused.AddRefused.TheVariants.{Line}
use Rattle.esa_batcher.specs.Adding.{envelope_in}
use Rattle.esa_batcher.specs.Finishing.{envelopes_of}
use Rattle.esa_batcher.specs.Submitted.{joined_to, envelope_first, lines_in}
use Rattle.esa_gathering.specs.Together.{first_refused}

-- the envelopes, unless a line is refused
abbrev pub lines_by : Option LineRefused → List (List ℕ) → Result (List (List ℕ)) AddRefused
lines_by None envelopes = Ok envelopes
lines_by (Some refused) envelopes = Err (Line refused)

line_by : (number : ℕ) (answer : Result (List ℕ) LineCause) (found : Option LineRefused) (envelopes : List (List ℕ))
    → envelope_first number answer (lines_by found envelopes)
    ≡ lines_by (option_or (option_map (λ cause. record { line = number; cause = cause }) (result_err answer)) found) (cons_option (result_ok answer) envelopes)
line_by number (Ok envelope) None envelopes = refl
line_by number (Ok envelope) (Some refused) envelopes = refl
line_by number (Err cause) found envelopes = refl

pub lines_are : (form : Form) (number : ℕ) (lines : List (List ℕ)) → lines_in form number lines ≡ lines_by (first_refused form number lines) (envelopes_of form lines)
unfolding lines_in first_refused
lines_are form number [] = refl
lines_are form number (line ∷ lines) =
    ap (envelope_first number (envelope_in form line)) (lines_are form (number + 1) lines)
    ∙ line_by number (envelope_in form line) (first_refused form (number + 1) lines) (envelopes_of form lines)

-- where all were added to those from before, none was refused
pub lines_added : (found : Option LineRefused) (before envelopes now : List (List ℕ)) → joined_to before (lines_by found envelopes) ≡ Ok now → (found ≡ None) × (now ≡ before ++ envelopes)
lines_added None before envelopes now is = (refl, let same : before ++ envelopes ≡ now = cc in sym same)
lines_added (Some refused) before envelopes now is = cc

pub lines_off : (found : Option LineRefused) (envelopes : List (List ℕ)) (refused : AddRefused) → lines_by found envelopes ≡ Err refused → option_map Line found ≡ Some refused
lines_off None envelopes refused is = cc
lines_off (Some line) envelopes refused is = let same : Line line ≡ refused = cc in ap Some same

-- ---- a text has no more lines than bytes

onto_few : (byte : ℕ) (lines : List (List ℕ)) → length (onto_first byte lines) ≤ length lines + 1
onto_few byte [] = omega arith
onto_few byte (line ∷ lines) = omega arith

byte_few : (ends : Bool) (byte : ℕ) (lines : List (List ℕ)) → length (cond ends ([] ∷ lines) (onto_first byte lines)) ≤ length lines + 1
byte_few true byte lines = omega arith
byte_few false byte lines = onto_few byte lines

pub lines_few : (text : List ℕ) → length (text_lines text) ≤ length text
lines_few [] = omega arith
lines_few (byte ∷ rest) = omega (arith, byte_few (is_newline byte) byte (text_lines rest), lines_few rest)

-- ---- what is made of some items is no more than they are

cons_few : {X : Type 0} (item : Option X) (list : List X) → length (cons_option item list) ≤ length list + 1
cons_few None list = omega arith
cons_few (Some item) list = omega arith

pub filtered_few : {X Y : Type 0} (h : X → Option Y) (xs : List X) → length (filter_map h xs) ≤ length xs
filtered_few h [] = omega arith
filtered_few h (x ∷ xs) = omega (arith, cons_few (h x) (filter_map h xs), filtered_few h xs)
