-- The turns of a completed list, taken one after another.
use Rattle.std.proofs.Common.{◌≡◌, ℕ, ◌+◌, ◌<◌, ◌≤◌, true, false, Bool, List, [], ◌∷◌, ◌++◌, length, take, get_or, None, refl, sym, ap, ◌∙◌, arith, append_assoc, length-append, ⊎_elim}
use Rattle.std.specs.Option.{option_to_list}
use Rattle.std.proofs.lemmas.Bool.{cases_lt}
use Rattle.std.proofs.lemmas.List.{length-take-le, take-take, take_all, take_more}
use Rattle.esa_laws.proofs.FinishLaws.{AllBelow, completed-written, completes, finished-where, full-is, full-next, length-full}
use Rattle.esa_laws.proofs.SpreadLaws.{spread-push}
use Rattle.esa_params.specs.Sizes.{Sizes}
use Rattle.esa_params.specs.declared.slot.Access.{Access}
use Rattle.esa_spec.specs.Completion.{completed, full}
use Rattle.esa_spec.specs.Draws.{Draw}
use Rattle.esa_spec.specs.Traces.{asked, spread}
use Rattle.esa_spec.specs.Turns.{next, order}
use Rattle.esa_spec.specs.Verdicts.{failing, is_finished}
use Rattle.esa_floor.specs.Parts.{Parts}
use Rattle.esa_crew.specs.Replays.{IsReplayed, IsUnbroken}

contrary : {t : Bool} → t ≡ true → t ≡ false → ⊥
contrary passes fails = cc

-- lists that end with one entry more are the same before it, and have the same entry there
pub last_is : (xs ys : List ℕ) (x y : ℕ) → xs ++ x ∷ [] ≡ ys ++ y ∷ [] → (xs ≡ ys) × (x ≡ y)
last_is [] [] x y is = (refl, cc is)
last_is [] (v ∷ ys) x y is = absurd (let long = ap length is in let more = length-append ys (y ∷ []) in omega (arith, long, more))
last_is (u ∷ xs) [] x y is = absurd (let long = ap length is in let more = length-append xs (x ∷ []) in omega (arith, long, more))
last_is (u ∷ xs) (v ∷ ys) x y is =
    let head : u ≡ v = cc is in
    let rest : xs ++ x ∷ [] ≡ ys ++ y ∷ [] = cc is in
    let one = last_is xs ys x y rest in
    (ap (λ (k : ℕ). k ∷ xs) head ∙ ap (λ (l : List ℕ). v ∷ l) one.0, one.1)

module _ (p : Sizes) (d : Draw) (turns : List ℕ) (made : ℕ) where
  abbrev all_turns : List ℕ
  all_turns = completed p turns

  -- one turn more
  pub more : (w : ℕ) → made < length all_turns → w ≡ get_or all_turns made 0 → take (made + 1) all_turns ≡ take made all_turns ++ w ∷ []
  more w inside is = take_more all_turns made 0 inside ∙ ap (λ (v : ℕ). take made all_turns ++ v ∷ []) (sym is)

  pub traced_more : (a w : ℕ) (before trace now : List Access) → made < length all_turns → w ≡ get_or all_turns made 0
      → failing p d (order p.b (take made all_turns)) ≡ None
      → trace ≡ before ++ spread p d a (take made all_turns)
      → now ≡ trace ++ option_to_list (asked p a (next p.b (take made all_turns) w))
      → now ≡ before ++ spread p d a (take (made + 1) all_turns)
  traced_more a w before trace now inside is good traced one =
      let h = take made all_turns in
      one ∙ ap (λ (t : List Access). t ++ option_to_list (asked p a (next p.b h w))) traced
      ∙ append_assoc before (spread p d a h) (option_to_list (asked p a (next p.b h w)))
      ∙ ap (λ (t : List Access). before ++ t) (sym (spread-push p d a h w good))
      ∙ ap (λ (g : List ℕ). before ++ spread p d a g) (sym (more w inside is))

  pub unfinished_more : ((x : ℕ) → x < made → is_finished p d (take x all_turns) ≡ false) → is_finished p d (take made all_turns) ≡ false
      → (x : ℕ) → x < made + 1 → is_finished p d (take x all_turns) ≡ false
  unfinished_more before here x x_in = ⊎_elim (before x)
      (λ (last : made ≤ x). let is : x ≡ made = omega (arith, last, x_in) in ap (λ (n : ℕ). is_finished p d (take n all_turns)) is ∙ here)
      (cases_lt x made)

  module _ (inside : made ≤ length all_turns) (some : 1 ≤ p.workers) (below : AllBelow p.workers turns)
      (unfinished : (x : ℕ) → x < made → is_finished p d (take x all_turns) ≡ false)
    where
      ends : is_finished p d (take (length all_turns) all_turns) ≡ true
      ends = ap (is_finished p d) (take_all (length all_turns) all_turns (omega arith)) ∙ finished-where p d all_turns (completed-written p turns some below)

      front : full p d turns ≡ take (length (full p d turns)) all_turns
      front =
          full-is p d turns (length all_turns) (omega arith) ends
          ∙ ap (λ (n : ℕ). take n all_turns) (sym (length-full p d turns (length all_turns) (omega arith) ends))

      reaches : made ≤ length (full p d turns)
      reaches = ⊎_elim
          (λ (less : length (full p d turns) < made).
          absurd (contrary (completes p d turns some below) (ap (is_finished p d) front ∙ unfinished (length (full p d turns)) less)))
          (λ (enough : made ≤ length (full p d turns)). enough)
          (cases_lt (length (full p d turns)) made)

      front_is : take made (full p d turns) ≡ take made all_turns
      front_is = ap (take made) front ∙ take-take made (length (full p d turns)) all_turns reaches

      pub replayed : {V : Type 0} (a : ℕ) (old new : Parts V) → new.history ≡ old.history ++ take made all_turns
          → new.recorder.trace ≡ old.recorder.trace ++ spread p d a (take made all_turns)
          → (IsUnbroken new.stop → is_finished p d (take made all_turns) ≡ true) → IsReplayed p d a turns old new
      replayed a old new history trace finished = record {
        count = made;
        few = reaches;
        history = history ∙ ap (λ (h : List ℕ). old.history ++ h) (sym front_is);
        trace = trace ∙ ap (λ (h : List ℕ). old.recorder.trace ++ spread p d a h) (sym front_is);
        whole = λ unbroken.
            sym (ap length (full-next p d turns made inside (finished unbroken) unfinished) ∙ length-take-le made all_turns inside);
      }

  -- where all turns of the completed list were taken, it is finished
  pub at_last : made ≡ length all_turns → 1 ≤ p.workers → AllBelow p.workers turns → is_finished p d (take made all_turns) ≡ true
  at_last last some below =
      ap (is_finished p d) (take_all made all_turns (omega (arith, last))) ∙ finished-where p d all_turns (completed-written p turns some below)
