-- Sums that are merged, run by run.
use Rattle.std.proofs.Common.{◌≡◌, ◌≢◌, ℕ, zero, suc, ◌^◌, ◌+◌, ◌<◌, ◌≤◌, ◌-◌, true, false, List, [], ◌∷◌, map, length, take, drop, get_or, Some, refl, sym, ap, subst, ◌∙◌, ◌++◌, append-nil, append_assoc, arith, drop-drop, get_or-drop, get_or-take, length-drop, length-take-le}
use Rattle.std.specs.Prelude.{All, bytes_eq, sum_by}
use Rattle.std.specs.Ordering.{is_lt}
use Rattle.std.specs.FinMap as finite
use Rattle.std.specs.List.Sorted.{IsPermutation, IsSortedByKey}
use Rattle.std.proofs.lemmas.Bool.{true≢false}
use Rattle.std.proofs.lemmas.List.{drop-map, drop_all, get_or_default, length-map, map-append, take-map}
use Rattle.std.proofs.lemmas.List.Elements.{All-drop, All-map}
use Rattle.std.proofs.lemmas.List.Sorted.{All-permutation, IsPermutation-map, sum_by-IsPermutation}
use Rattle.std.proofs.lemmas.List.Sums.{sum_by-cons, sum_by-take-drop}
use Rattle.esa_recovery.specs.declared.sums.Sum.{Sum}
use Rattle.esa_recovery.specs.Recovered.{summed}
use Rattle.esa_recovery.specs.Sums.{plain}
use Rattle.esa_recovery.proofs.SortedLaws.{by_bytes, past-run, same_bytes}
use Rattle.esa_recovery.proofs.EntryLaws.{entries-none}
use Rattle.esa_recovery.proofs.SumsLaws.{entries-run, summed-alike, tested-permutation}

abbrev pub row_of : Sum → List ℕ × ℕ
row_of sum = (sum.value.now, sum.count)

sum_by-map : {X Y : Type 0} (f : Y → ℕ) (g : X → Y) (xs : List X) → sum_by f (map g xs) ≡ sum_by (λ x. f (g x)) xs
sum_by-map f g [] = refl
sum_by-map f g (x ∷ xs) = sum_by-cons f (g x) (map g xs) ∙ ap (λ n. f (g x) + n) (sum_by-map f g xs) ∙ sym (sum_by-cons (λ x. f (g x)) x xs)

-- the end of a run, whatever stands for an element past the end of the list
pub value-end : (sums : List Sum) (n : ℕ) (e d : Sum) → n < length sums → 0 < length sums → bytes_eq (get_or sums n e).value.now (get_or sums 0 e).value.now ≡ false
    → (get_or sums n d).value.now ≢ (get_or sums 0 d).value.now
value-end sums n e d inside some apart = λ is.
    let here : (get_or sums n e).value.now ≡ (get_or sums 0 e).value.now =
    ap (λ (sum : Sum). sum.value.now) (get_or_default sums n e d inside) ∙ is ∙ ap (λ (sum : Sum). sum.value.now) (get_or_default sums 0 d e some) in
    true≢false (sym (same_bytes (get_or sums n e).value.now (get_or sums 0 e).value.now here) ∙ apart)

-- the first run is the first row, and the others are those of what stands behind it
pub merged-run : (sums : List Sum) (start n : ℕ) (d : Sum) → IsSortedByKey (λ (sum : Sum). sum.value.now) by_bytes sums → All (λ (row : List ℕ × ℕ). 0 < row.1) (plain sums)
    → 0 < n → n ≤ length (drop start sums)
    → ((k : ℕ) (e : Sum) → k < n → (get_or (drop start sums) k e).value.now ≡ (get_or (drop start sums) 0 e).value.now)
    → ((e : Sum) → n < length (drop start sums) → (get_or (drop start sums) n e).value.now ≢ (get_or (drop start sums) 0 e).value.now)
    → finite.entries (summed Some (plain (drop start sums)))
    ≡ ((get_or (drop start sums) 0 d).value.now, sum_by (λ (sum : Sum). sum.count) (take n (drop start sums))) ∷ finite.entries (summed Some (plain (drop (start + n) sums)))
merged-run sums start n d sorted positive some fits one end =
    let rest = drop start sums in
    let x = (get_or rest 0 d).value.now in
    let first : (e : Sum) → (get_or rest 0 e).value.now ≡ x = λ e. ap (λ (sum : Sum). sum.value.now) (get_or_default rest 0 e d (omega (arith, some, fits))) in
    let long : length rest ≡ length sums - start = length-drop start sums in
    let own : All (λ (row : List ℕ × ℕ). row.0 ≡ x) (take n (plain rest)) =
    subst (All (λ (row : List ℕ × ℕ). row.0 ≡ x)) (sym (take-map row_of n rest))
    (All-map (λ (row : List ℕ × ℕ). row.0 ≡ x) row_of (take n rest) (λ k e below.
    let inside : k < n = omega (arith, below, length-take-le n rest fits) in
    ap (λ (sum : Sum). sum.value.now) (get_or-take n rest k e inside) ∙ one k e inside ∙ first e)) in
    let above : All (λ (row : List ℕ × ℕ). is_lt (by_bytes x row.0) ≡ true) (drop n (plain rest)) =
    subst (All (λ (row : List ℕ × ℕ). is_lt (by_bytes x row.0) ≡ true)) (sym (drop-map row_of n rest))
    (All-map (λ (row : List ℕ × ℕ). is_lt (by_bytes x row.0) ≡ true) row_of (drop n rest) (λ k e below.
    let more : length (drop n rest) ≡ length rest - n = length-drop n rest in
    let at_0 : get_or rest 0 e ≡ get_or sums start e = get_or-drop start sums 0 e ∙ ap (λ i. get_or sums i e) (omega arith) in
    let at_n : get_or rest n e ≡ get_or sums (start + n) e = get_or-drop start sums n e in
    let at_k : get_or (drop n rest) k e ≡ get_or sums (start + (n + k)) e = get_or-drop n rest k e ∙ get_or-drop start sums (n + k) e in
    let apart : (get_or sums (start + n) e).value.now ≢ (get_or sums start e).value.now =
    λ is. end e (omega (arith, below, more)) ((λ i. (at_n i).value.now) ∙ is ∙ sym (λ i. (at_0 i).value.now)) in
    let less = past-run (λ (sum : Sum). sum.value.now) sums start n e sorted (omega (arith, below, more, long)) apart (start + (n + k)) (omega arith) (omega (arith, below, more, long)) in
    subst (λ z. is_lt (by_bytes z (get_or (drop n rest) k e).value.now) ≡ true) (sym (λ i. (at_0 i).value.now) ∙ first e)
    (subst (λ (sum : Sum). is_lt (by_bytes (get_or sums start e).value.now sum.value.now) ≡ true) (sym at_k) less))) in
    let some_each : All (λ (row : List ℕ × ℕ). 0 < row.1) (plain rest) =
    subst (All (λ (row : List ℕ × ℕ). 0 < row.1)) (drop-map row_of start sums) (All-drop (λ (row : List ℕ × ℕ). 0 < row.1) start (plain sums) positive) in
    entries-run x n (plain rest) some (omega (arith, fits, length-map rest row_of)) some_each own above
    ∙ (λ i. (x, counts-taken i) ∷ finite.entries (summed Some (left i)))
  where
    counts-taken : sum_by (λ (row : List ℕ × ℕ). row.1) (take n (plain (drop start sums))) ≡ sum_by (λ (sum : Sum). sum.count) (take n (drop start sums))
    counts-taken = ap (sum_by (λ (row : List ℕ × ℕ). row.1)) (take-map row_of n (drop start sums)) ∙ sum_by-map (λ (row : List ℕ × ℕ). row.1) row_of (take n (drop start sums))

    left : drop n (plain (drop start sums)) ≡ plain (drop (start + n) sums)
    left = drop-map row_of n (drop start sums) ∙ ap plain (drop-drop n start sums)

-- the same, of a list that is what stands from there on
abbrev Step : List Sum → ℕ → ℕ → List Sum → Type 0
Step sums start n rest =
    (e : Sum) → 0 < n → n ≤ length rest
    → ((k : ℕ) (d : Sum) → k < n → (get_or rest k d).value.now ≡ (get_or rest 0 d).value.now)
    → ((d : Sum) → n < length rest → (get_or rest n d).value.now ≢ (get_or rest 0 d).value.now)
    → (done : List Sum) (sum : Sum) (whole : List (List ℕ × ℕ)) → sum.value.now ≡ (get_or rest 0 e).value.now → sum.count ≡ sum_by (λ (s : Sum). s.count) (take n rest)
    → plain done ++ finite.entries (summed Some (plain (drop start sums))) ≡ whole
    → plain (done ++ sum ∷ []) ++ finite.entries (summed Some (plain (drop (start + length (take n rest)) sums))) ≡ whole

pub merging-step : (sums : List Sum) (start n : ℕ) (left : List Sum) → left ≡ drop start sums → IsSortedByKey (λ (sum : Sum). sum.value.now) by_bytes sums → All (λ (row : List ℕ × ℕ). 0 < row.1) (plain sums)
    → Step sums start n left
merging-step sums start n left is sorted positive = subst (Step sums start n) (sym is)
    (λ e some fits one end done sum whole value count before.
    let behind = finite.entries (summed Some (plain (drop (start + n) sums))) in
    let run : finite.entries (summed Some (plain (drop start sums))) ≡ row_of sum ∷ behind =
    merged-run sums start n e sorted positive some fits one end ∙ (λ i. (sym value i, sym count i) ∷ behind) in
    (λ i. map-append row_of done (sum ∷ []) i ++ finite.entries (summed Some (plain (drop (start + length-take-le n (drop start sums) fits i) sums))))
    ∙ append_assoc (plain done) (row_of sum ∷ []) behind
    ∙ ap (λ rows. plain done ++ rows) (sym run)
    ∙ before)

pub positive-sorted : (sums sorted : List Sum) → IsPermutation sums sorted → All (λ (row : List ℕ × ℕ). 0 < row.1) (plain sums) → All (λ (row : List ℕ × ℕ). 0 < row.1) (plain sorted)
positive-sorted sums sorted same positive =
    All-permutation (λ (row : List ℕ × ℕ). 0 < row.1) (plain sums) (plain sorted) (IsPermutation-map row_of sums sorted same) positive

-- the counts of a run are a part of all
pub run-fits : (sums sorted : List Sum) (start n : ℕ) (left : List Sum) → left ≡ drop start sorted → IsPermutation sums sorted → sum_by (λ (row : List ℕ × ℕ). row.1) (plain sums) < 2 ^ 32
    → sum_by (λ (sum : Sum). sum.count) (take n left) < 2 ^ 32
run-fits sums sorted start n left is same small =
    let count : Sum → ℕ = λ sum. sum.count in
    omega (
      arith,
      small,
      sum_by-take-drop count left n,
      ap (sum_by count) is,
      sum_by-take-drop count sorted start,
      sum_by-IsPermutation count sums sorted same,
      sum_by-map (λ (row : List ℕ × ℕ). row.1) row_of sums,
    )

pub merging-all : (sums sorted merged : List Sum) (start : ℕ) → IsPermutation sums sorted → All (λ (row : List ℕ × ℕ). 0 < row.1) (plain sums) → length sorted ≤ start
    → plain merged ++ finite.entries (summed Some (plain (drop start sorted))) ≡ finite.entries (summed Some (plain sorted)) → plain merged ≡ finite.entries (summed Some (plain sums))
merging-all sums sorted merged start same positive end before =
    sym (append-nil (plain merged)) ∙ ap (λ rows. plain merged ++ rows) (sym (entries-none by_bytes))
    ∙ ap (λ left. plain merged ++ finite.entries (summed Some (plain left))) (sym (drop_all start sorted end)) ∙ before
    ∙ ap finite.entries (summed-alike Some Some (plain sorted) (plain sums) (positive-sorted sums sorted same positive) positive
    (λ test _. tested-permutation test (plain sums) (plain sorted) (IsPermutation-map row_of sums sorted same)))

-- what holds of each row holds of each sum
pub plain-at : (P : List ℕ × ℕ → Type 0) (sums : List Sum) (k : ℕ) (e : Sum) → k < length sums → All P (plain sums) → P (row_of (get_or sums k e))
plain-at P sums k e inside all =
    subst P (get_or-map row_of sums k e) (all k (row_of e) (omega (arith, inside, length-map sums row_of)))
  where
    get_or-map : {X Y : Type 0} (f : X → Y) (xs : List X) (k : ℕ) (d : X) → get_or (map f xs) k (f d) ≡ f (get_or xs k d)
    get_or-map f [] k d = refl
    get_or-map f (x ∷ xs) zero d = refl
    get_or-map f (x ∷ xs) (suc k) d = get_or-map f xs k d
