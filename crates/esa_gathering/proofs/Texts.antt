-- Texts whose lines are added one text after another.
use Rattle.std.proofs.Common.{◌≡◌, ℕ, ◌+◌, ◌<◌, ◌≤◌, true, false, cond, List, [], ◌∷◌, ◌++◌, length, get_or, drop, Option, Some, None, option_map, Ok, Err, refl, sym, ap, subst, ◌∙◌, append_assoc, length-append, arith}
use Rattle.std.specs.Prelude.{nat_lt}
use Rattle.std.specs.List.{concat}
use Rattle.std.specs.Option.{option_or}
use Rattle.std.specs.Result.{result_ok}
use Rattle.std.specs.declared.vec.Vec.{Vec}
use Rattle.std.proofs.lemmas.Bool.Decides.{nat_tests}
use Rattle.std.proofs.lemmas.List.{drop_more, drop_all, get_or-map, length-map}
use Rattle.std.proofs.lemmas.List.Elements.{filter_map-append}
use Rattle.esa_params.specs.declared.form.Form.{Form}
use Rattle.esa_bytes.specs.Lines.{text_lines}
use Rattle.esa_line.specs.declared.refused.LineRefused.{LineRefused}
use Rattle.esa_batcher.specs.declared.refused.AddRefused.{AddRefused}
use Rattle.esa_batcher.specs.declared.refused.AddRefused.TheVariants.{Line}
use Rattle.esa_batcher.specs.Adding.{envelope_in}
use Rattle.esa_batcher.specs.Finishing.{envelopes_of}
use Rattle.esa_refusal.specs.declared.refusal.Refusal.{Refusal}
use Rattle.esa_refusal.specs.declared.refusal.Refusal.TheVariants as refusal
use Rattle.esa_refusal.specs.declared.stop.Stop.{Stop}
use Rattle.esa_refusal.specs.declared.stop.Stop.TheVariants.{Refused, Unread, OutOfMemory}
use Rattle.esa_shuffling.specs.Batch.{batched_by, StopsBatching}
use Rattle.esa_gathering.specs.Together.{texts_of, all_lines, first_refused, first_file_refused, stop_of_file, StopsFor, unless_refused, batched_together}
use Rattle.esa_gathering.proofs.Lines.{lines_few}

-- ---- the text at a place, and those behind it

pub texts_more : {Z : Type 0} (texts : List (Vec ℕ Z)) (place : ℕ) (item : Vec ℕ Z) (text : List ℕ) → place < length texts → item ≡ get_or texts place item → text ≡ item.items
    → drop place (texts_of texts) ≡ text ∷ drop (place + 1) (texts_of texts)
texts_more texts place item text below here is =
    let inside : place < length (texts_of texts) = omega (arith, below, length-map texts (λ text. text.items)) in
    drop_more (texts_of texts) place [] inside
    ∙ ap (λ first. first ∷ drop (place + 1) (texts_of texts)) (get_or-map (λ text. text.items) texts place item [] below ∙ sym (ap (λ item. item.items) here) ∙ sym is)

pub texts_end : {Z : Type 0} (texts : List (Vec ℕ Z)) (place : ℕ) → length texts ≤ place → drop place (texts_of texts) ≡ []
texts_end texts place past = drop_all place (texts_of texts) (omega (arith, past, length-map texts (λ text. text.items)))

-- ---- their lines

pub lines_behind : (texts : List (List ℕ)) (text : List ℕ) (rest : List (List ℕ)) → texts ≡ text ∷ rest → length (all_lines texts) ≡ length (text_lines text) + length (all_lines rest)
lines_behind texts text rest is = ap (λ all. length (all_lines all)) is ∙ length-append (text_lines text) (all_lines rest)

pub lines_fit : (texts : List (List ℕ)) → length (all_lines texts) ≤ length (concat texts)
lines_fit [] = omega arith
lines_fit (text ∷ texts) = omega (arith, lines_few text, lines_fit texts, length-append (text_lines text) (all_lines texts), length-append text (concat texts))

envelopes_behind : (form : Form) (text : List ℕ) (rest : List (List ℕ)) → envelopes_of form (all_lines (text ∷ rest)) ≡ envelopes_of form (text_lines text) ++ envelopes_of form (all_lines rest)
envelopes_behind form text rest = filter_map-append (λ line. result_ok (envelope_in form line)) (text_lines text) (all_lines rest)

-- ---- one more text

module _ (form : Form) (file : ℕ) (texts : List (List ℕ)) (text : List ℕ) (rest : List (List ℕ)) (first : texts ≡ text ∷ rest) where
  -- all its lines are added
  pub envelopes_on : (all before now : List (List ℕ)) → all ≡ before ++ envelopes_of form (all_lines texts) → now ≡ before ++ envelopes_of form (text_lines text) → all ≡ now ++ envelopes_of form (all_lines rest)
  envelopes_on all before now so_far added =
      so_far ∙ ap (λ texts. before ++ envelopes_of form (all_lines texts)) first ∙ ap (λ more. before ++ more) (envelopes_behind form text rest)
      ∙ sym (append_assoc before (envelopes_of form (text_lines text)) (envelopes_of form (all_lines rest)))
      ∙ ap (λ front. front ++ envelopes_of form (all_lines rest)) (sym added)

  pub refused_on : (found : Option Refusal) → found ≡ first_file_refused form file texts → first_refused form 1 (text_lines text) ≡ None → found ≡ first_file_refused form (file + 1) rest
  unfolding first_file_refused
  refused_on found so_far none =
      so_far ∙ ap (first_file_refused form file) first
      ∙ ap (λ line. option_or (option_map (λ refused. refusal.File file refused) line) (first_file_refused form (file + 1) rest)) none

  -- one isn't
  off : (line : Option LineRefused) (later : Option Refusal) (refused : AddRefused) → option_map Line line ≡ Some refused
      → StopsFor (option_or (option_map (λ refused. refusal.File file refused) line) later) (stop_of_file file refused)
  off None later refused is = cc
  off (Some line) later refused is = let same : Line line ≡ refused = cc in subst (λ refused. StopsFor (Some (refusal.File file line)) (stop_of_file file refused)) same (refl, tt)

  pub refused_here : (found : Option Refusal) (refused : AddRefused) → found ≡ first_file_refused form file texts → option_map Line (first_refused form 1 (text_lines text)) ≡ Some refused → StopsFor found (stop_of_file file refused)
  unfolding first_file_refused
  refused_here found refused so_far is =
      subst (λ found. StopsFor found (stop_of_file file refused)) (sym (so_far ∙ ap (first_file_refused form file) first))
      (off (first_refused form 1 (text_lines text)) (first_file_refused form (file + 1) rest) refused is)

-- no text is left
pub refused_none : (form : Form) (file : ℕ) (texts : List (List ℕ)) (found : Option Refusal) → texts ≡ [] → found ≡ first_file_refused form file texts → found ≡ None
unfolding first_file_refused
refused_none form file texts found none so_far = so_far ∙ ap (first_file_refused form file) none

-- ---- their batch

module _ (form : Form) (epoch m : ℕ) (texts : List (List ℕ)) where
  pub together_past : 262144 < length (all_lines texts) → batched_together form epoch m texts ≡ Err (refusal.Lines (length (all_lines texts)))
  together_past past =
      let large : nat_lt 262144 (length (all_lines texts)) ≡ true = grind (arith, nat_tests, past) in
      ap (λ large. cond large (Err (refusal.Lines (length (all_lines texts)))) (unless_refused (first_file_refused form 1 texts) (batched_by form epoch m (Ok (envelopes_of form (all_lines texts)))))) large

  module _ (few : length (all_lines texts) ≤ 262144) where
    looked_at : batched_together form epoch m texts ≡ unless_refused (first_file_refused form 1 texts) (batched_by form epoch m (Ok (envelopes_of form (all_lines texts))))
    looked_at =
        let small : nat_lt 262144 (length (all_lines texts)) ≡ false = grind (arith, nat_tests, few) in
        ap (λ large. cond large (Err (refusal.Lines (length (all_lines texts)))) (unless_refused (first_file_refused form 1 texts) (batched_by form epoch m (Ok (envelopes_of form (all_lines texts)))))) small

    pub together_made : (list : List (List ℕ)) → first_file_refused form 1 texts ≡ None → list ≡ envelopes_of form (all_lines texts) → batched_together form epoch m texts ≡ batched_by form epoch m (Ok list)
    together_made list none is =
        looked_at ∙ ap (λ found. unless_refused found (batched_by form epoch m (Ok (envelopes_of form (all_lines texts))))) none
        ∙ ap (λ list. batched_by form epoch m (Ok list)) (sym is)

    pub together_off : (stop : Stop) → StopsFor (first_file_refused form 1 texts) stop → StopsBatching (batched_together form epoch m texts) stop
    together_off (Refused why) stops = (looked_at ∙ ap (λ found. unless_refused found (batched_by form epoch m (Ok (envelopes_of form (all_lines texts))))) stops.0, stops.1)
    together_off (Unread source) stops = absurd stops
    together_off OutOfMemory stops = tt
