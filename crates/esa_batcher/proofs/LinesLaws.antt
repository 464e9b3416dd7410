-- Lines whose envelopes are added one after another.
use Rattle.std.proofs.Common.{◌≡◌, ℕ, ◌+◌, ◌<◌, true, cond, List, [], ◌∷◌, ◌++◌, length, Result, Ok, Err, refl, sym, ap, ◌∙◌, append_assoc, append-nil, length-append, arith}
use Rattle.std.specs.Prelude.{nat_lt}
use Rattle.std.specs.List.{cons_option}
use Rattle.std.specs.Result.{result_ok}
use Rattle.std.proofs.lemmas.Bool.Decides.{nat_tests}
use Rattle.esa_params.specs.declared.form.Form.{Form}
use Rattle.esa_line.specs.declared.refused.LineCause.{LineCause}
use Rattle.esa_batcher.specs.declared.refused.AddRefused.{AddRefused}
use Rattle.esa_batcher.specs.declared.refused.AddRefused.TheVariants.{Line, TooMany}
use Rattle.esa_batcher.specs.Adding.{Gathered, envelope_in, added_by, added_in}
use Rattle.esa_batcher.specs.Finishing.{envelopes_of}
use Rattle.esa_batcher.specs.Submitted.{joined_to, envelope_first, lines_in}

lines_none : (form : Form) (number : ℕ) → lines_in form number [] ≡ Ok []
unfolding lines_in
lines_none form number = refl

lines_more : (form : Form) (number : ℕ) (line : List ℕ) (lines : List (List ℕ)) → lines_in form number (line ∷ lines) ≡ envelope_first number (envelope_in form line) (lines_in form (number + 1) lines)
unfolding lines_in
lines_more form number line lines = refl

in_order : (before : List (List ℕ)) (envelope : List ℕ) (later : Result (List (List ℕ)) AddRefused) → joined_to before (joined_to (envelope ∷ []) later) ≡ joined_to (before ++ envelope ∷ []) later
in_order before envelope (Ok later) = ap Ok (sym (append_assoc before (envelope ∷ []) later))
in_order before envelope (Err refused) = refl

there_is_room : (n : ℕ) → n < 262144 → nat_lt n 262144 ≡ true
there_is_room n few = grind (arith, nat_tests)

looked_at : (gathered : Gathered) (line : List ℕ) (number : ℕ) → length gathered.list < 262144 → added_in gathered line number ≡ added_by gathered number (envelope_in gathered.form line)
looked_at gathered line number few =
    ap (λ b. cond b (added_by gathered number (envelope_in gathered.form line)) (Err (TooMany (262144 + 1)))) (there_is_room (length gathered.list) few)

on_by : (gathered new : Gathered) (number : ℕ) (envelope : Result (List ℕ) LineCause) (later : Result (List (List ℕ)) AddRefused) → added_by gathered number envelope ≡ Ok new
    → joined_to gathered.list (envelope_first number envelope later) ≡ joined_to new.list later
on_by gathered new number (Ok envelope) later added =
    let now : record gathered { list = gathered.list ++ envelope ∷ [] } ≡ new = cc in
    in_order gathered.list envelope later ∙ ap (λ n. joined_to n.list later) now
on_by gathered new number (Err cause) later added = cc

off_by : (gathered : Gathered) (refused : AddRefused) (number : ℕ) (envelope : Result (List ℕ) LineCause) (later : Result (List (List ℕ)) AddRefused) → added_by gathered number envelope ≡ Err refused
    → joined_to gathered.list (envelope_first number envelope later) ≡ Err refused
off_by gathered refused number (Ok envelope) later added = cc
off_by gathered refused number (Err cause) later added = let same : Line (record { line = number; cause = cause }) ≡ refused = cc in ap Err same

same_form : (gathered new : Gathered) (number : ℕ) (envelope : Result (List ℕ) LineCause) → added_by gathered number envelope ≡ Ok new → new.form ≡ gathered.form
same_form gathered new number (Ok envelope) added = let now : record gathered { list = gathered.list ++ envelope ∷ [] } ≡ new = cc in sym (ap (λ n. n.form) now)
same_form gathered new number (Err cause) added = cc

one_longer : (gathered new : Gathered) (number : ℕ) (envelope : Result (List ℕ) LineCause) → added_by gathered number envelope ≡ Ok new → length new.list ≡ length gathered.list + 1
one_longer gathered new number (Ok envelope) added =
    let now : record gathered { list = gathered.list ++ envelope ∷ [] } ≡ new = cc in
    sym (ap (λ n. length n.list) now) ∙ length-append gathered.list (envelope ∷ [])
one_longer gathered new number (Err cause) added = cc

module _ (form : Form) (number : ℕ) (all : Result (List (List ℕ)) AddRefused) (gathered : Gathered) (line : List ℕ) (lines rest : List (List ℕ)) (form_is : gathered.form ≡ form) (first : lines ≡ line ∷ rest)
    (so_far : all ≡ joined_to gathered.list (lines_in form (number + 1) lines)) (few : length gathered.list < 262144) where
  next : all ≡ joined_to gathered.list (envelope_first (number + 1) (envelope_in gathered.form line) (lines_in form (number + 1 + 1) rest))
  next = so_far ∙ ap (λ ls. joined_to gathered.list (lines_in form (number + 1) ls)) first ∙ ap (joined_to gathered.list) (lines_more form (number + 1) line rest)
      ∙ ap (λ f. joined_to gathered.list (envelope_first (number + 1) (envelope_in f line) (lines_in form (number + 1 + 1) rest))) (sym form_is)

  -- an accepted line
  pub line_added : (new : Gathered) → added_in gathered line (number + 1) ≡ Ok new → all ≡ joined_to new.list (lines_in form (number + 1 + 1) rest)
  line_added new added = next ∙ on_by gathered new (number + 1) (envelope_in gathered.form line) _ (sym (looked_at gathered line (number + 1) few) ∙ added)

  pub form_kept : (new : Gathered) → added_in gathered line (number + 1) ≡ Ok new → new.form ≡ form
  form_kept new added = same_form gathered new (number + 1) (envelope_in gathered.form line) (sym (looked_at gathered line (number + 1) few) ∙ added) ∙ form_is

  pub longer_by_one : (new : Gathered) → added_in gathered line (number + 1) ≡ Ok new → length new.list ≡ length gathered.list + 1
  longer_by_one new added = one_longer gathered new (number + 1) (envelope_in gathered.form line) (sym (looked_at gathered line (number + 1) few) ∙ added)

  -- a refused one
  pub line_off : (refused : AddRefused) → added_in gathered line (number + 1) ≡ Err refused → all ≡ Err refused
  line_off refused added = next ∙ off_by gathered refused (number + 1) (envelope_in gathered.form line) _ (sym (looked_at gathered line (number + 1) few) ∙ added)

pub joined_err : (before : List (List ℕ)) (later : Result (List (List ℕ)) AddRefused) (refused : AddRefused) → joined_to before later ≡ Err refused → later ≡ Err refused
joined_err before (Ok later) refused is = cc
joined_err before (Err other) refused is = is

pub joined_none : (later : Result (List (List ℕ)) AddRefused) → joined_to [] later ≡ later
joined_none (Ok later) = refl
joined_none (Err refused) = refl

-- no line is left
pub lines_end : (form : Form) (number : ℕ) (all : Result (List (List ℕ)) AddRefused) (list lines : List (List ℕ)) → lines ≡ [] → all ≡ joined_to list (lines_in form number lines) → all ≡ Ok list
lines_end form number all list lines none so_far =
    so_far ∙ ap (λ ls. joined_to list (lines_in form number ls)) none ∙ ap (joined_to list) (lines_none form number) ∙ ap Ok (append-nil list)

carried : (form : Form) (number : ℕ) (line : List ℕ) (lines envelopes : List (List ℕ)) (envelope : Result (List ℕ) LineCause) (later : Result (List (List ℕ)) AddRefused) → ((others : List (List ℕ)) → later ≡ Ok others → others ≡ envelopes_of form lines)
    → envelope_first number envelope later ≡ Ok envelopes → envelopes ≡ cons_option (result_ok envelope) (envelopes_of form lines)
carried form number line lines envelopes (Ok envelope) (Ok later) rest is =
    let first : envelope ∷ later ≡ envelopes = cc in
    sym first ∙ ap (λ others. envelope ∷ others) (rest later refl)
carried form number line lines envelopes (Ok envelope) (Err refused) rest is = cc
carried form number line lines envelopes (Err cause) later rest is = cc

-- accepted lines carry these envelopes
pub lines_carry : (form : Form) (number : ℕ) (lines envelopes : List (List ℕ)) → lines_in form number lines ≡ Ok envelopes → envelopes ≡ envelopes_of form lines
lines_carry form number [] envelopes is = let none : Ok [] ≡ Ok envelopes = sym (lines_none form number) ∙ is in cc
lines_carry form number (line ∷ lines) envelopes is =
    carried form number line lines envelopes (envelope_in form line) (lines_in form (number + 1) lines) (λ others. lines_carry form (number + 1) lines others)
    (sym (lines_more form number line lines) ∙ is)
