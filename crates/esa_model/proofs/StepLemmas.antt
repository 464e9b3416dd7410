-- The steps of a compression, one after another, and accesses that are recorded one by one.
use Rattle.std.proofs.Common.{◌≡◌, ◌≢◌, ℕ, suc, ◌+◌, ◌-◌, ◌<◌, ◌≤◌, Bool, true, false, cond, Option, Some, None, List, [], ◌∷◌, ◌++◌, length, map, refl, sym, ap, ◌∙◌, subst, arith, append-nil, add-one, length-append}
use Rattle.std.specs.Prelude.{find}
use Rattle.std.specs.List.{range_with_len, flat_map}
use Rattle.std.specs.Option.{option_or}
use Rattle.std.proofs.lemmas.Grind.{flat_map-append}
use Rattle.std.proofs.lemmas.List.{map-append, length-map}
use Rattle.std.proofs.lemmas.List.Folds.{find-append}
use Rattle.std.proofs.lemmas.List.FromFn.{length-range_with_len}
use Rattle.esa_params.specs.Sizes.{Sizes, below, first}
use Rattle.esa_params.specs.declared.slot.Access.{Access}
use Rattle.esa_laws.proofs.Ranges.{below-add, below-add-one, map-below-suc, range-add, range-suc}
use Rattle.esa_laws.proofs.WalkLaws.{steps_verdict, steps_verdict-append, walk-append, walk-one}
use Rattle.esa_spec.specs.Draws.{Draw}
use Rattle.esa_spec.specs.Traces.{walk, step_accesses}
use Rattle.esa_spec.specs.Verdicts.{Step, Import, step_verdict, is_good, steps_of}
use Rattle.esa_spec.specs.declared.event.Verdict.{Verdict}
use Rattle.esa_spec.specs.declared.event.Verdict.TheVariants.{Good, StashOverflow, StashLeft, QueueOverflow, QueueStarved}
use Rattle.esa_model.specs.Recorded.{Recorded, with_accesses}
use Rattle.esa_model.specs.Walked.{AreMade, Grows}
use Rattle.esa_model.proofs.SpreadLemmas.{with-more}

pub with-none : (recorded : Recorded) → recorded ≡ with_accesses recorded []
with-none recorded = sym (ap (λ (l : List Access). record recorded { accesses = l }) (append-nil recorded.accesses))

-- one access more of those of a function
pub recorded-more : (f : ℕ → Access) (n : ℕ) (first last : Recorded) (x : Access) → last ≡ with_accesses first (map f (below n)) → x ≡ f n
    → with_accesses last (x ∷ []) ≡ with_accesses first (map f (below (n + 1)))
recorded-more f n first last x so_far is =
    ap (λ (r : Recorded). with_accesses r (x ∷ [])) so_far
    ∙ with-more first (map f (below n)) (x ∷ [])
    ∙ ap (λ (y : Access). with_accesses first (map f (below n) ++ y ∷ [])) is
    ∙ ap (with_accesses first) (sym (map-below-suc f n) ∙ ap (λ (k : ℕ). map f (below k)) (sym (add-one n)))

-- as many accesses as numbers
pub length-recorded : (f : ℕ → Access) (n : ℕ) (first last : Recorded) → last ≡ with_accesses first (map f (below n))
    → (length last.accesses ≡ length first.accesses + n) × (last.room ≡ first.room)
length-recorded f n first last so_far = (
  ap (λ (r : Recorded). length r.accesses) so_far ∙ length-append first.accesses (map f (below n))
      ∙ ap (λ (k : ℕ). length first.accesses + k) (length-map (below n) f ∙ length-range_with_len 0 n),
  ap (λ (r : Recorded). r.room) so_far,
)

-- the first number that passes
pub find-here : (f : ℕ → Bool) (n m : ℕ) → n < m → find f (below n) ≡ None → f n ≡ true → find f (below m) ≡ Some n
find-here f n m inside none passes =
    let rest : m ≡ n + suc (m - suc n) = omega arith in
    ap (λ (k : ℕ). find f (below k)) rest
    ∙ ap (find f) (below-add n (suc (m - suc n)))
    ∙ find-append f (below n) (range_with_len n (suc (m - suc n)))
    ∙ ap (λ (o : Option ℕ). option_or o (find f (range_with_len n (suc (m - suc n))))) none
    ∙ ap (λ (c : Bool). cond c (Some n) (find f (range_with_len (n + 1) (m - suc n)))) passes

pub bad-is : (v : Verdict) → v ≢ Good → is_good v ≡ false
bad-is Good bad = absurd (bad refl)
bad-is (StashOverflow j) bad = refl
bad-is (StashLeft i) bad = refl
bad-is (QueueOverflow i) bad = refl
bad-is (QueueStarved j) bad = refl

only-verdict : (v : Verdict) → cond (is_good v) Good v ≡ v
only-verdict Good = refl
only-verdict (StashOverflow j) = refl
only-verdict (StashLeft i) = refl
only-verdict (QueueOverflow i) = refl
only-verdict (QueueStarved j) = refl

module _ (p : Sizes) (d : Draw) (a : ℕ) where
  pub made-none : (at : Recorded) → AreMade p d a [] Good at at
  made-none at = record { ends = refl; traced = with-none at }

  pub made-one : (x : Step) (v : Verdict) (old new : Recorded) → v ≡ step_verdict p d x → new ≡ with_accesses old (step_accesses p d a x)
      → AreMade p d a (x ∷ []) v old new
  made-one x v old new is more = record {
    ends = is ∙ sym (only-verdict (step_verdict p d x));
    traced = more ∙ ap (with_accesses old) (sym (walk-one p d a x));
  }

  pub made-more : (xs ys : List Step) (v : Verdict) (old mid new : Recorded) → AreMade p d a xs Good old mid → AreMade p d a ys v mid new
      → AreMade p d a (xs ++ ys) v old new
  made-more xs ys v old mid new one other = record {
    ends =
        other.ends
        ∙ sym (steps_verdict-append p d xs ys ∙ ap (λ (w : Verdict). cond (is_good w) (steps_verdict p d ys) w) (sym one.ends));
    traced =
        other.traced
        ∙ ap (λ (r : Recorded). with_accesses r (walk p d a ys)) one.traced
        ∙ with-more old (walk p d a xs) (walk p d a ys)
        ∙ ap (with_accesses old) (sym (walk-append p d a xs ys ∙ ap (λ (w : Verdict). walk p d a xs ++ cond (is_good w) (walk p d a ys) []) (sym one.ends)));
  }

  pub made-bad : (xs ys : List Step) (v : Verdict) (old new : Recorded) → is_good v ≡ false → AreMade p d a xs v old new → AreMade p d a (xs ++ ys) v old new
  made-bad xs ys v old new bad made =
      let bad' : is_good (steps_verdict p d xs) ≡ false = ap is_good (sym made.ends) ∙ bad in
      record {
        ends = made.ends ∙ sym (steps_verdict-append p d xs ys ∙ ap (λ (c : Bool). cond c (steps_verdict p d ys) (steps_verdict p d xs)) bad');
        traced =
            made.traced
            ∙ ap (with_accesses old) (sym (walk-append p d a xs ys ∙ ap (λ (c : Bool). walk p d a xs ++ cond c (walk p d a ys) []) bad' ∙ append-nil (walk p d a xs)));
      }

  -- one import more of those of an output bucket
  module _ (j from n : ℕ) where
    abbrev pub imports_of : ℕ → List Step
    imports_of m = map (Import j) (range_with_len from m)

    pub made-import : (v : Verdict) (old mid new : Recorded) → AreMade p d a (map (Import j) (range_with_len from n)) Good old mid
        → AreMade p d a (Import j (from + n) ∷ []) v mid new → AreMade p d a (map (Import j) (range_with_len from (suc n))) v old new
    made-import v old mid new so_far one =
        let is : map (Import j) (range_with_len from (suc n)) ≡ map (Import j) (range_with_len from n) ++ Import j (from + n) ∷ [] =
        ap (map (Import j)) (range-suc from n) ∙ map-append (Import j) (range_with_len from n) ((from + n) ∷ []) in
        subst (λ (xs : List Step). AreMade p d a xs v old new) (sym is)
        (made-more (map (Import j) (range_with_len from n)) (Import j (from + n) ∷ []) v old mid new so_far one)

    pub made-imports_bad : (m : ℕ) (v : Verdict) (old new : Recorded) → n ≤ m → is_good v ≡ false
        → AreMade p d a (map (Import j) (range_with_len from n)) v old new → AreMade p d a (map (Import j) (range_with_len from m)) v old new
    made-imports_bad m v old new within bad made =
        let rest : m ≡ n + (m - n) = omega arith in
        let is : map (Import j) (range_with_len from m) ≡ map (Import j) (range_with_len from n) ++ map (Import j) (range_with_len (from + n) (m - n)) =
        ap (λ (k : ℕ). map (Import j) (range_with_len from k)) rest ∙ ap (map (Import j)) (range-add from n (m - n))
        ∙ map-append (Import j) (range_with_len from n) (range_with_len (from + n) (m - n)) in
        subst (λ (xs : List Step). AreMade p d a xs v old new) (sym is)
        (made-bad (map (Import j) (range_with_len from n)) (map (Import j) (range_with_len (from + n) (m - n))) v old new bad made)

  -- one output bucket more
  pub made-output : (j : ℕ) (v : Verdict) (old mid new : Recorded) → AreMade p d a (flat_map (steps_of p) (below j)) Good old mid
      → AreMade p d a (steps_of p j) v mid new → AreMade p d a (flat_map (steps_of p) (below (j + 1))) v old new
  made-output j v old mid new so_far one =
      let is : flat_map (steps_of p) (below (j + 1)) ≡ flat_map (steps_of p) (below j) ++ steps_of p j =
      ap (flat_map (steps_of p)) (below-add-one j) ∙ flat_map-append (steps_of p) (below j) (j ∷ [])
      ∙ ap (λ (l : List Step). flat_map (steps_of p) (below j) ++ l) (append-nil (steps_of p j)) in
      subst (λ (xs : List Step). AreMade p d a xs v old new) (sym is)
      (made-more (flat_map (steps_of p) (below j)) (steps_of p j) v old mid new so_far one)

  pub made-outputs_bad : (n m : ℕ) (v : Verdict) (old new : Recorded) → n ≤ m → is_good v ≡ false
      → AreMade p d a (flat_map (steps_of p) (below n)) v old new → AreMade p d a (flat_map (steps_of p) (below m)) v old new
  made-outputs_bad n m v old new within bad made =
      let rest : m ≡ n + (m - n) = omega arith in
      let is : flat_map (steps_of p) (below m) ≡ flat_map (steps_of p) (below n) ++ flat_map (steps_of p) (range_with_len n (m - n)) =
      ap (λ (k : ℕ). flat_map (steps_of p) (below k)) rest ∙ ap (flat_map (steps_of p)) (below-add n (m - n))
      ∙ flat_map-append (steps_of p) (below n) (range_with_len n (m - n)) in
      subst (λ (xs : List Step). AreMade p d a xs v old new) (sym is)
      (made-bad (flat_map (steps_of p) (below n)) (flat_map (steps_of p) (range_with_len n (m - n))) v old new bad made)

pub grows-more : (old mid new : Recorded) (m n : ℕ) → Grows old mid m → Grows mid new n → Grows old new (m + n)
grows-more old mid new m n one other = record { room = other.room ∙ one.room; few = omega (arith, one.few, other.few) }
