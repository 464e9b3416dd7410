-- The records that come out.
use Rattle.std.proofs.Common.{◌≡◌, ℕ, suc, ◌+◌, ◌≤◌, ◌<◌, Bool, true, false, cond, List, [], ◌∷◌, length, map, refl, sym, ◌∙◌, ap, arith, subst}
use Rattle.std.specs.List.{filter_map, cons_option}
use Rattle.std.specs.List.Sorted.{IsPermutation}
use Rattle.std.specs.Option.{option_map}
use Rattle.std.specs.Prelude.{Some, None, slice_get, slice_index, slice_index_or}
use Rattle.std.proofs.lemmas.List.{nil_from_length}
use Rattle.std.proofs.lemmas.List.FromFn.{length-range_with_len}
use Rattle.std.proofs.lemmas.List.Sorted.{IsPermutation-map, IsPermutation-refl, All-permutation, length_permutation}
use Rattle.std.proofs.lemmas.Option.{slice_get-get_or, slice_get-map}
use Rattle.esa_params.specs.Sizes.{Sizes, below}
use Rattle.esa_laws.proofs.FinishLaws.{AllBelow, All-below, All-tail}
use Rattle.esa_laws.proofs.PlaceLaws.{by-index, places-permute}
use Rattle.esa_spec.specs.Draws.{Draw, IsDrawn}
use Rattle.esa_spec.specs.Places.{places}
use Rattle.esa_spec.specs.Traces.{good_attempt}
use Rattle.esa_spec.specs.Verdicts.{is_finished, is_good, verdict}
use Rattle.esa_spec.specs.declared.event.Verdict.{Verdict}
use Rattle.esa_spec.specs.declared.event.Verdict.TheVariants.{Good, StashOverflow, StashLeft, QueueOverflow, QueueStarved}
use Rattle.esa_ending.specs.Seen.{turns_in}

-- what stands at the places of a list of them
pub picked : {X : Type 0} (records : List X) (d : X) (ys : List ℕ) → AllBelow (length records) ys
    → filter_map (slice_get records) ys ≡ map (λ y. slice_index_or records y d) ys
picked records d [] all = refl
picked records d (y ∷ ys) all =
    ap (λ o. cons_option o (filter_map (slice_get records) ys)) (slice_get-get_or records y d (all 0 0 (omega arith)))
    ∙ ap (λ z. slice_index_or records y d ∷ z) (picked records d ys (All-tail (length records) y ys all))

module _ {X : Type 0} (records : List X) (n : ℕ) (ys : List ℕ) (long : length records ≡ n) (permutes : IsPermutation (below n) ys) where
  all-there : AllBelow (length records) ys
  all-there = subst (λ m. AllBelow m ys) (sym long) (All-permutation (λ y. y < n) (below n) ys permutes (All-below n n (omega arith)))

  as-long : length ys ≡ n
  as-long = length_permutation (below n) ys permutes ∙ length-range_with_len 0 n

pub permuted : {X : Type 0} (records : List X) (n : ℕ) (ys : List ℕ) → length records ≡ n → IsPermutation (below n) ys
    → IsPermutation records (filter_map (slice_get records) ys)
permuted {X} [] n ys long permutes =
    let none : length ys ≡ 0 = as-long {X = X} [] n ys long permutes ∙ sym long in
    subst (λ z. IsPermutation {X = X} [] (filter_map (slice_get {X = X} []) z)) (sym (nil_from_length ys none)) (IsPermutation-refl [])
permuted {X} (r ∷ rs) n ys long permutes =
    let records : List X = r ∷ rs in
    let f = λ (y : ℕ). slice_index_or records y r in
    let moved : IsPermutation (map f (below n)) (map f ys) = IsPermutation-map f (below n) ys permutes in
    let start : map f (below n) ≡ records = ap (λ m. map f (below m)) (sym long) ∙ sym (by-index records r) in
    let end : map f ys ≡ filter_map (slice_get records) ys = sym (picked records r ys (all-there records n ys long permutes)) in
    subst (λ z. IsPermutation z (filter_map (slice_get records) ys)) start (subst (λ z. IsPermutation (map f (below n)) z) end moved)

pub stands-at : {X : Type 0} (records : List X) (n : ℕ) (ys : List ℕ) (x : ℕ) → length records ≡ n → IsPermutation (below n) ys → x < n
    → slice_get (filter_map (slice_get records) ys) x ≡ slice_get records (slice_index ys x)
stands-at [] n ys x long permutes x_in = absurd (omega (arith, long))
stands-at {X} (r ∷ rs) n ys x long permutes x_in =
    let records : List X = r ∷ rs in
    let f = λ (y : ℕ). slice_index_or records y r in
    let all = all-there records n ys long permutes in
    let x_there : x < length ys = omega (arith, as-long records n ys long permutes) in
    ap (λ z. slice_get z x) (picked records r ys all)
    ∙ slice_get-map f ys x
    ∙ ap (option_map f) (slice_get-get_or ys x 0 x_there)
    ∙ sym (slice_get-get_or records (slice_index ys x) r (all x 0 x_there))

-- the attempt that succeeds is finished and good
good-is : (v : Verdict) → is_good v ≡ true → v ≡ Good
good-is Good e = refl
good-is (StashOverflow j) e = absurd (cc)
good-is (StashLeft i) e = absurd (cc)
good-is (QueueOverflow i) e = absurd (cc)
good-is (QueueStarved j) e = absurd (cc)

pub record IsGoodAt (p : Sizes) (ds : ℕ → Draw) (a : ℕ) (hs : List (List ℕ)) (m : ℕ) : Type 0 where
  pub behind : ℕ
  pub number : m ≡ a + behind
  pub finished : is_finished p (ds m) (turns_in hs behind) ≡ true
  pub good : is_good (verdict p (ds m) (turns_in hs behind)) ≡ true

module _ (p : Sizes) (ds : ℕ → Draw) where
  good-by : (a m : ℕ) (h : List ℕ) (hs : List (List ℕ)) (c g : Bool) → is_finished p (ds a) h ≡ c → is_good (verdict p (ds a) h) ≡ g
      → cond c (cond g (Some a) (good_attempt p ds (a + 1) hs)) None ≡ Some m
      → (good_attempt p ds (a + 1) hs ≡ Some m → IsGoodAt p ds (a + 1) hs m) → IsGoodAt p ds a (h ∷ hs) m
  good-by a m h hs false g ec eg e later = absurd (cc)
  good-by a m h hs true true ec eg e later =
      let is : a ≡ m = cc in
      subst (λ y. IsGoodAt p ds a (h ∷ hs) y) is (record { behind = 0; number = omega arith; finished = ec; good = eg })
  good-by a m h hs true false ec eg e later =
      let s = later e in
      record { behind = suc s.behind; number = omega (arith, s.number); finished = s.finished; good = s.good }

  pub good-at : (a m : ℕ) (hs : List (List ℕ)) → good_attempt p ds a hs ≡ Some m → IsGoodAt p ds a hs m
  good-at a m [] e = absurd (cc)
  good-at a m (h ∷ hs) e = good-by a m h hs (is_finished p (ds a) h) (is_good (verdict p (ds a) h)) refl refl e (good-at (a + 1) m hs)

  pub good-permutes : (hs : List (List ℕ)) (a : ℕ) → 1 ≤ p.b → IsDrawn p (ds a) → good_attempt p ds 0 hs ≡ Some a
      → IsPermutation (below p.n) (places p (ds a) (turns_in hs a))
  good-permutes hs a some drawn e =
      let s = good-at 0 a hs e in
      let is : s.behind ≡ a = omega (arith, s.number) in
      subst (λ y. IsPermutation (below p.n) (places p (ds a) (turns_in hs y))) is
      (places-permute p (ds a) (turns_in hs s.behind) some drawn s.finished (good-is (verdict p (ds a) (turns_in hs s.behind)) s.good))
