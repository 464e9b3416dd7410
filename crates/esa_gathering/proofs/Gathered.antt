-- Texts that threads take in.
use Rattle.std.proofs.Common.{◌≡◌, inl, inr, ℕ, suc, ◌+◌, ◌<◌, ◌≤◌, List, [], ◌∷◌, length, map, get_or, Option, Some, None, option_map, Ok, Err, IfSome, true, false, Bool, cond, refl, sym, ap, subst, ◌∙◌, arith}
use Rattle.std.specs.Prelude.{nat_lt, All}
use Rattle.std.specs.Option.{option_or}
use Rattle.std.specs.Result.{result_ok}
use Rattle.std.specs.List.Sorted.{IsPermutation}
use Rattle.std.specs.declared.vec.Vec.{Vec}
use Rattle.std.proofs.lemmas.Bool.Decides.{nat_tests}
use Rattle.std.proofs.lemmas.Bool.{cases_lt}
use Rattle.std.proofs.lemmas.List.{length-map}
use Rattle.std.proofs.lemmas.List.Sorted.{length_permutation, IsPermutation-refl, IsPermutation-append}
use Rattle.std.proofs.lemmas.List.Elements.{filter_map-append, All-nil, All-cons}
use Rattle.esa_params.specs.declared.form.Form.{Form}
use Rattle.esa_bytes.specs.Lines.{text_lines}
use Rattle.esa_line.specs.declared.refused.LineRefused.{LineRefused}
use Rattle.esa_batcher.specs.declared.refused.AddRefused.TheVariants.{TooMany}
use Rattle.esa_batcher.specs.declared.refused.BatchRefused.TheVariants.{TooFew}
use Rattle.esa_batcher.specs.Adding.{Gathered, envelope_in}
use Rattle.esa_batcher.specs.Finishing.{envelopes_of, batch_of}
use Rattle.esa_batcher.specs.Submitted.{submitted}
use Rattle.esa_refusal.specs.declared.refusal.Refusal.TheVariants as refusal
use Rattle.esa_gathering.specs.declared.merging.TextBatch.{TextBatch}
use Rattle.esa_gathering.specs.Crew.{HasAll}
use Rattle.esa_gathering.specs.Merging.{left_of, all_left, IsOfText}
use Rattle.esa_gathering.specs.Together.{texts_of, all_lines, first_refused, first_file_refused, batched_together}
use Rattle.esa_shuffling.specs.Batch.{batched_by}
use Rattle.esa_gathering.proofs.Lines.{lines_by, lines_are, filtered_few}
use Rattle.esa_gathering.proofs.Texts.{together_made}

-- ---- the lines of one text

accepted_by : (many : Bool) (n : ℕ) (found : Option LineRefused) (envelopes list : List (List ℕ)) → cond many (Err (TooMany n)) (lines_by found envelopes) ≡ Ok list → found ≡ None
accepted_by true n found envelopes list is = cc
accepted_by false n None envelopes list is = refl
accepted_by false n (Some refused) envelopes list is = cc

-- where a text is gathered, none of its lines is refused
pub accepted : (form : Form) (text : List ℕ) (list : List (List ℕ)) → submitted form text ≡ Ok list → first_refused form 1 (text_lines text) ≡ None
accepted form text list is =
    let lines = text_lines text in
    accepted_by (nat_lt 262144 (length lines)) (length lines) (first_refused form 1 lines) (envelopes_of form lines) list
    (ap (cond (nat_lt 262144 (length lines)) (Err (TooMany (length lines)))) (sym (lines_are form 1 lines)) ∙ is)

-- ---- all texts

-- in each slot is the batch of the text in its place
abbrev pub AreOfTexts : Form → List (List ℕ) → List TextBatch → Type 0
AreOfTexts form texts all = (place : ℕ) (d : Option TextBatch) → place < length texts → IfSome (get_or (map Some all) place d) (IsOfText form (text_lines (get_or texts place [])))

pub all_of_form : (form : Form) (texts : List (List ℕ)) (all : List TextBatch) → length all ≡ length texts → AreOfTexts form texts all → All (λ text. text.batch.form ≡ form) all
all_of_form form texts [] number each = All-nil (λ text. text.batch.form ≡ form)
all_of_form form [] (made ∷ all) number each = absurd (omega (arith, number))
all_of_form form (text ∷ texts) (made ∷ all) number each =
    All-cons (λ text. text.batch.form ≡ form) made all (each 0 None (omega arith)).form_is
    (all_of_form form texts all (omega (arith, number)) (λ place d below. each (suc place) d (omega (arith, below))))

pub all_accepted : (form : Form) (file : ℕ) (texts : List (List ℕ)) (all : List TextBatch) → length all ≡ length texts → AreOfTexts form texts all → first_file_refused form file texts ≡ None
unfolding first_file_refused
all_accepted form file [] all number each = refl
all_accepted form file (text ∷ texts) [] number each = absurd (omega (arith, number))
all_accepted form file (text ∷ texts) (made ∷ all) number each =
    ap (λ line. option_or (option_map (λ refused. refusal.File file refused) line) (first_file_refused form (file + 1) texts)) (each 0 None (omega arith)).accepted
    ∙ all_accepted form (file + 1) texts all (omega (arith, number)) (λ place d below. each (suc place) d (omega (arith, below)))

pub all_same : (form : Form) (texts : List (List ℕ)) (all : List TextBatch) → length all ≡ length texts → AreOfTexts form texts all → IsPermutation (all_left all) (envelopes_of form (all_lines texts))
all_same form [] [] number each = IsPermutation-refl []
all_same form [] (made ∷ all) number each = absurd (omega (arith, number))
all_same form (text ∷ texts) [] number each = absurd (omega (arith, number))
all_same form (text ∷ texts) (made ∷ all) number each =
    subst (IsPermutation (all_left (made ∷ all))) (sym (filter_map-append (λ line. result_ok (envelope_in form line)) (text_lines text) (all_lines texts)))
    (IsPermutation-append (left_of made) (envelopes_of form (text_lines text)) (all_left all) (envelopes_of form (all_lines texts)) (each 0 None (omega arith)).same
    (all_same form texts all (omega (arith, number)) (λ place d below. each (suc place) d (omega (arith, below)))))

-- what the threads made of all texts, where no slot is empty
module _ {Z : Type 0} (form : Form) (texts : List (Vec ℕ Z)) (slots : List (Option TextBatch)) (all : List TextBatch) (is : slots ≡ map Some all) (number : length slots ≡ length texts)
    (each : (place : ℕ) (d : Option TextBatch) → place < length texts → IfSome (get_or slots place d) (IsOfText form (text_lines (get_or (texts_of texts) place [])))) where
  as_many : length all ≡ length (texts_of texts)
  as_many = omega (arith, length-map all Some, ap length is, number, length-map texts (λ text. text.items))

  are : AreOfTexts form (texts_of texts) all
  are place d below = subst (λ slots. IfSome (get_or slots place d) (IsOfText form (text_lines (get_or (texts_of texts) place [])))) is (each place d (omega (arith, below, length-map texts (λ text. text.items))))

  pub made_of_form : All (λ text. text.batch.form ≡ form) all
  made_of_form = all_of_form form (texts_of texts) all as_many are

  pub made_accepted : first_file_refused form 1 (texts_of texts) ≡ None
  made_accepted = all_accepted form 1 (texts_of texts) all as_many are

  pub made_same : IsPermutation (all_left all) (envelopes_of form (all_lines (texts_of texts)))
  made_same = all_same form (texts_of texts) all as_many are

  pub made_few : length (all_left all) ≤ length (all_lines (texts_of texts))
  made_few = omega (arith, length_permutation (all_left all) (envelopes_of form (all_lines (texts_of texts))) made_same, filtered_few (λ line. result_ok (envelope_in form line)) (all_lines (texts_of texts)))

-- ---- the batch of what was gathered

module _ (form : Form) (epoch m : ℕ) (texts : List (List ℕ)) (few : length (all_lines texts) ≤ 262144) (gathered : Gathered) (has : HasAll form texts gathered) where
  as_many_lines : length (envelopes_of form (all_lines texts)) ≡ length gathered.list
  as_many_lines = length_permutation gathered.list (envelopes_of form (all_lines texts)) has.same

  made : batched_together form epoch m texts ≡ batched_by form epoch m (Ok (envelopes_of form (all_lines texts)))
  made = together_made form epoch m texts few (envelopes_of form (all_lines texts)) has.accepted refl

  pub crew_few : length gathered.list < m → batched_together form epoch m texts ≡ Err (refusal.Batch (TooFew (length gathered.list) m))
  crew_few less =
      let small : nat_lt (length (envelopes_of form (all_lines texts))) m ≡ true = grind (arith, nat_tests, less, as_many_lines) in
      made
      ∙ ap (λ less. cond less (Err (refusal.Batch (TooFew (length (envelopes_of form (all_lines texts))) m))) (Ok (batch_of form epoch (envelopes_of form (all_lines texts))))) small
      ∙ ap (λ n. Err (refusal.Batch (TooFew n m))) as_many_lines

  pub crew_batch : (length gathered.list < m → ⊥) → batched_together form epoch m texts ≡ Ok (batch_of form epoch (envelopes_of form (all_lines texts)))
  crew_batch enough =
      elim (cases_lt (length gathered.list) m) [
        | inl less ↦ absurd (enough less)
        | inr more ↦
            let large : nat_lt (length (envelopes_of form (all_lines texts))) m ≡ false = grind (arith, nat_tests, more, as_many_lines) in
            made
            ∙ ap (λ less. cond less (Err (refusal.Batch (TooFew (length (envelopes_of form (all_lines texts))) m))) (Ok (batch_of form epoch (envelopes_of form (all_lines texts))))) large
      ]
