-- Marks, crowd by crowd: what is marked once the entries of some crowds were looked at.
use Rattle.std.proofs.Common.{◌≡◌, ◌≢◌, ℕ, zero, suc, ◌+◌, ◌<◌, ◌≤◌, Bool, true, false, ◌||◌, cond, List, [], ◌∷◌, ◌++◌, length, take, drop, map, refl, sym, ap, subst, ◌∙◌, arith, append-nil, append_assoc, take-append-drop}
use Rattle.std.specs.Prelude.{◌==◌, nat_le, slice_index_or, slice_index, All}
use Rattle.std.specs.List.Sorted.{IsPermutation, IsSorted}
use Rattle.std.proofs.lemmas.Bool.Decides.{nat_tests}
use Rattle.std.proofs.lemmas.List.{map-append, length-map}
use Rattle.std.proofs.lemmas.List.Folds.{list_any-append}
use Rattle.esa_params.specs.declared.form.Form.{Form}
use Rattle.esa_params.specs.Sizes.{below}
use Rattle.esa_crowds.specs.declared.row.Row.{Row}
use Rattle.esa_crowds.specs.Entries.{Entry}
use Rattle.esa_crowds.specs.Rows.{IsPadded, RiseWithin, by_place, entries_in, entry_at, kept_among, kept_at, picked, row_at, stands_at}
use Rattle.esa_crowds.proofs.RankLaws.{AreStrict, IsLess, AreApart, AreOf, NoneOf, AreStrict-left, AreStrict-right, IsLess-right, AreApart-right, AreMore-behind, NoneOf-more, AreApart-more, run_is, kept_at-permutation}
use Rattle.esa_crowds.proofs.SortedLaws.{AreStrict-sorted, picked-permutation}

-- some entries were looked at: crowds of their own, and the kept ones among them are marked
pub record AreMarked (form : Form) (rows : List Row) (order rest : List ℕ) (dropped : List ℕ → ℕ) (t high : ℕ) (marks : List Bool) : Type 0 where
  pub done : List Entry
  pub split : picked form rows order ≡ done ++ picked form rows rest
  pub strict : AreStrict (picked form rows rest)
  pub apart : AreApart done (picked form rows rest)
  pub marked : (position : ℕ) → position < high → slice_index_or marks position false ≡ kept_among dropped t (picked form rows order) position done

apart_none : (list : List Entry) → AreApart [] list
apart_none [] = tt
apart_none (e ∷ list) = (tt, apart_none list)

pub AreMarked-first : (form : Form) (rows : List Row) (order : List ℕ) (dropped : List ℕ → ℕ) (t high : ℕ) (marks : List Bool)
    → IsPermutation (below (length rows)) order → IsSorted (by_place rows) order → All (IsPadded form) rows → RiseWithin 0 high (entries_in form rows)
    → ((position : ℕ) → slice_index_or marks position false ≡ false) → AreMarked form rows order order dropped t high marks
AreMarked-first form rows order dropped t high marks moved sorted padded rise unmarked = record {
  done = [];
  split = refl;
  strict = AreStrict-sorted form rows padded order moved high sorted rise;
  apart = apart_none (picked form rows order);
  marked = λ position below. unmarked position;
}

pub AreMarked-last : (form : Form) (rows : List Row) (order rest : List ℕ) (dropped : List ℕ → ℕ) (t high : ℕ) (marks : List Bool)
    → IsPermutation (below (length rows)) order → All (IsPadded form) rows → rest ≡ [] → AreMarked form rows order rest dropped t high marks → (position : ℕ) → position < high
    → slice_index_or marks position false ≡ kept_at dropped t (entries_in form rows) position
AreMarked-last form rows order rest dropped t high marks moved padded none reached position below_high =
    let all : reached.done ≡ picked form rows order = sym (reached.split ∙ ap (λ places. reached.done ++ picked form rows places) none ∙ append-nil reached.done) in
    reached.marked position below_high
    ∙ ap (kept_among dropped t (picked form rows order) position) all
    ∙ kept_at-permutation dropped t (entries_in form rows) (picked form rows order) position (picked-permutation form rows padded order moved)

drop-map : {X Y : Type 0} (f : X → Y) (n : ℕ) (xs : List X) → drop n (map f xs) ≡ map f (drop n xs)
drop-map f zero xs = refl
drop-map f (suc n) [] = refl
drop-map f (suc n) (x ∷ xs) = drop-map f n xs

AreOf-picked : (form : Form) (rows : List Row) (c : List ℕ) (n : ℕ) (places : List ℕ) → n ≤ length places → ((k : ℕ) → k < n → (row_at rows (slice_index places k)).crowd ≡ c) → AreOf c (picked form rows (take n places))
AreOf-picked form rows c zero places fits one = tt
AreOf-picked form rows c (suc n) [] fits one = tt
AreOf-picked form rows c (suc n) (place ∷ places) fits one = (one 0 (omega arith), AreOf-picked form rows c n places (omega arith) (λ k below. one (suc k) (omega arith)))

head_of : (form : Form) (rows : List Row) (c : List ℕ) (n : ℕ) (places : List ℕ) → (n < length places → (row_at rows (slice_index places n)).crowd ≢ c)
    → (z : Entry) (behind : List Entry) → picked form rows (drop n places) ≡ z ∷ behind → z.crowd ≢ c
head_of form rows c n [] other z behind is = absurd (nothing n is)
  where
    nothing : (m : ℕ) → picked form rows (drop m []) ≡ z ∷ behind → ⊥
    nothing zero e = cc
    nothing (suc m) e = cc
head_of form rows c zero (place ∷ places) other z behind is = λ same. other (omega arith) (crowd_is is ∙ same)
  where
    first_crowd : List Entry → List ℕ
    first_crowd [] = []
    first_crowd (e ∷ es) = e.crowd

    crowd_is : picked form rows (place ∷ places) ≡ z ∷ behind → (row_at rows place).crowd ≡ z.crowd
    crowd_is e = ap first_crowd e
head_of form rows c (suc n) (place ∷ places) other z behind is = head_of form rows c n places (λ below. other (omega arith)) z behind is

-- one crowd further
module _ (form : Form) (rows : List Row) (order rest run others : List ℕ) (dropped : List ℕ → ℕ) (t high n : ℕ) (old new : List Bool) where
  pub AreMarked-more : AreMarked form rows order rest dropped t high old → length old ≡ high → run ≡ take n rest → others ≡ drop n rest → 0 < n → n ≤ length rest
      → ((k : ℕ) → k < n → (row_at rows (slice_index rest k)).crowd ≡ (row_at rows (slice_index rest 0)).crowd)
      → (n < length rest → (row_at rows (slice_index rest n)).crowd ≢ (row_at rows (slice_index rest 0)).crowd)
      → (d : ℕ) → d ≡ dropped (row_at rows (slice_index rest 0)).crowd
      → ((position : ℕ) → position < length old → slice_index_or new position false ≡ (slice_index_or old position false || cond (nat_le (d + t) (length run)) (stands_at position (picked form rows (drop d run))) false))
      → AreMarked form rows order others dropped t high new
  AreMarked-more reached long front back some fits one other d drops marks =
      let c = (row_at rows (slice_index rest 0)).crowd in
      let whole : rest ≡ run ++ others = sym (take-append-drop n rest) ∙ (λ i. sym front i ++ sym back i) in
      let parts : picked form rows rest ≡ picked form rows run ++ picked form rows others = ap (picked form rows) whole ∙ map-append (entry_at form rows) run others in
      let strict : AreStrict (picked form rows run ++ picked form rows others) = subst AreStrict parts reached.strict in
      let apart : AreApart reached.done (picked form rows run ++ picked form rows others) = subst (AreApart reached.done) parts reached.apart in
      let all : AreOf c (picked form rows run) = subst (λ places. AreOf c (picked form rows places)) (sym front) (AreOf-picked form rows c n rest fits one) in
      let first = first_of n rest some fits front apart strict in
      let more = AreMore-behind c (entry_at form rows (slice_index rest 0)) refl (picked form rows others) first.1 (AreStrict-right (picked form rows run) (picked form rows others) strict)
      (λ z behind is. head_of form rows c n rest other z behind (ap (picked form rows) (sym back) ∙ is)) in
      let split : picked form rows order ≡ reached.done ++ (picked form rows run ++ picked form rows others) = reached.split ∙ ap (λ list. reached.done ++ list) parts in
      let kept : (position : ℕ) → kept_among dropped t (picked form rows order) position (picked form rows run) ≡ cond (nat_le (d + t) (length run)) (stands_at position (picked form rows (drop d run))) false =
      λ position. run_is dropped t (picked form rows order) c reached.done (picked form rows run) (picked form rows others) position split first.0 (NoneOf-more c (picked form rows others) more) all (AreStrict-left (picked form rows run) (picked form rows others) strict)
      ∙ (λ i. cond (nat_le (sym drops i + t) (length-map run (entry_at form rows) i)) (stands_at position (drop (sym drops i) (picked form rows run))) false)
      ∙ ap (λ list. cond (nat_le (d + t) (length run)) (stands_at position list) false) (drop-map (entry_at form rows) d run) in
      record {
        done = reached.done ++ picked form rows run;
        split = split ∙ sym (append_assoc reached.done (picked form rows run) (picked form rows others));
        strict = AreStrict-right (picked form rows run) (picked form rows others) strict;
        apart = AreApart-more c reached.done (picked form rows run) (picked form rows others) all more (AreApart-right reached.done (picked form rows run) (picked form rows others) apart);
        marked = λ position below_high.
            marks position (omega (arith, below_high, long))
            ∙ (λ i. reached.marked position below_high i || sym (kept position) i)
            ∙ sym (list_any-append _ reached.done (picked form rows run));
      }
    where
      -- the first entry of the run: nobody looked at was of its crowd, and it comes before all behind the run
      first_of : (m : ℕ) (places : List ℕ) → 0 < m → m ≤ length places → run ≡ take m places → AreApart reached.done (picked form rows run ++ picked form rows others) → AreStrict (picked form rows run ++ picked form rows others)
          → NoneOf (row_at rows (slice_index places 0)).crowd reached.done × IsLess (entry_at form rows (slice_index places 0)) (picked form rows others)
      first_of zero places low fit is away up = absurd (omega (arith, low))
      first_of (suc m) [] low fit is away up = absurd (omega (arith, fit))
      first_of (suc m) (place ∷ places) low fit is away up =
          let at : picked form rows run ≡ entry_at form rows place ∷ picked form rows (take m places) = ap (picked form rows) is in
          let away_at = subst (λ list. AreApart reached.done (list ++ picked form rows others)) at away in
          let up_at = subst (λ list. AreStrict (list ++ picked form rows others)) at up in
          (away_at.0, IsLess-right (entry_at form rows place) (picked form rows (take m places)) (picked form rows others) up_at.0)

-- there are none left
pub no_places : (places : List ℕ) → true ≡ (length places == 0) → places ≡ []
no_places [] none = refl
no_places (place ∷ places) none = let empty : suc (length places) ≡ 0 = grind (arith, nat_tests) in absurd (omega (arith, empty))

-- the first of the places at the front
pub first_place : (n : ℕ) (places front : List ℕ) → front ≡ take n places → 0 < n → slice_index front 0 ≡ slice_index places 0
first_place zero places front is some = absurd (omega (arith, some))
first_place (suc n) [] front is some = ap (λ ps. slice_index ps 0) is
first_place (suc n) (place ∷ places) front is some = ap (λ ps. slice_index ps 0) is
