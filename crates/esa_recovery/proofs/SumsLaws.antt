-- Sums of counts are what they count of each value.
use Rattle.std.proofs.Common.{◌≡◌, ℕ, zero, suc, ◌+◌, ◌<◌, ◌≤◌, Bool, true, false, cond, replicate, List, [], ◌∷◌, length, take, drop, get_or, set, Option, Some, None, nat_cmp, Less, Equal, Greater, refl, sym, ap, ◌∙◌, arith, length-take-le}
use Rattle.std.specs.Prelude.{All, unwrap_or, sum_by}
use Rattle.std.specs.List.{slice_get}
use Rattle.std.specs.declared.cmp.Ordering.{Ordering}
use Rattle.std.specs.Ordering.{is_eq, is_lt, eq_by_cmp}
use Rattle.std.specs.Cmp.Lexicographic.{slice_cmp, nat_list_cmp_total}
use Rattle.std.specs.FinMap as finite
use Rattle.std.specs.FinMap.{slice_cmp-IsAntisymmetric, nat_cmp-IsAntisymmetric}
use Rattle.std.specs.FinMap.Entries.{put}
use Rattle.std.specs.List.Sorted.{IsPermutation}
use Rattle.std.proofs.lemmas.Option.{get_or_from_slice_get, slice_get_within}
use Rattle.std.proofs.lemmas.List.{drop_more}
use Rattle.std.proofs.lemmas.List.Elements.{All-cons, All-drop, All-head, All-tail, All-take}
use Rattle.std.proofs.lemmas.List.Sorted.{sum_by-IsPermutation}
use Rattle.std.proofs.lemmas.List.Sums.{sum_by-cons, sum_by-take-drop}
use Rattle.esa_recovery.specs.Recovered.{Sums, added, lost, summed}
use Rattle.esa_recovery.specs.Sums.{counted, tested, tested_groups}
use Rattle.esa_recovery.proofs.EntryLaws.{below-put, entries-none, find-front, put-front}

abbrev by_bytes : List ℕ → List ℕ → Ordering
by_bytes = slice_cmp nat_cmp

-- whether this value is meant
abbrev pub is_value : List ℕ → Option (List ℕ) → Bool
is_value q None = false
is_value q (Some value) = eq_by_cmp by_bytes q value

-- what is kept of a count: nothing where it is 0
abbrev entry_of : ℕ → Option ℕ
entry_of zero = None
entry_of (suc n) = Some (suc n)

entry-some : (n : ℕ) → 0 < n → entry_of n ≡ Some n
entry-some zero some = absurd (omega (arith, some))
entry-some (suc n) some = refl

entry-or : (n : ℕ) → unwrap_or (entry_of n) 0 ≡ n
entry-or zero = refl
entry-or (suc n) = refl

abbrev Positive : List (List ℕ × ℕ) → Type 0
Positive rows = All (λ (row : List ℕ × ℕ). 0 < row.1) rows

get-added : (q : List ℕ) (meant : Option (List ℕ)) (count n : ℕ) (sums : Sums) → 0 < count → ((k : List ℕ) → is_value q (Some k) ≡ true → finite.get sums k ≡ entry_of n) → finite.get sums q ≡ entry_of n
    → finite.get (added meant count sums) q ≡ entry_of (counted (is_value q) meant count + n)
get-added q None count n sums some tied is = is ∙ ap entry_of (omega arith)
get-added q (Some value) count n sums some tied is =
    finite.get-insert nat_list_cmp_total sums value (unwrap_or (finite.get sums value) 0 + count) q
    ∙ elim (eq_by_cmp by_bytes q value) as (λ b. eq_by_cmp by_bytes q value ≡ b → cond b (Some (unwrap_or (finite.get sums value) 0 + count)) (finite.get sums q) ≡ entry_of (cond b count 0 + n)) [
      | true ↦ λ same.
          ap (λ o. Some (unwrap_or o 0 + count)) (tied value same) ∙ ap (λ k. Some (k + count)) (entry-or n)
          ∙ ap Some (omega arith) ∙ sym (entry-some (count + n) (omega (arith, some)))
      | false ↦ λ _. is ∙ ap entry_of (omega arith)
    ] refl

equal : (r : Ordering) → is_eq r ≡ true → r ≡ Equal
equal Less h = cc
equal Equal h = refl
equal Greater h = cc

-- the sum of a value is the count of the rows that mean it
pub get-summed : (means : List ℕ → Option (List ℕ)) (rows : List (List ℕ × ℕ)) (q : List ℕ) → Positive rows → finite.get (summed means rows) q ≡ entry_of (tested (is_value q) means rows)
get-summed means [] q some = finite.get-empty by_bytes q
get-summed means (row ∷ rows) q some =
    let before = get-summed means rows q (All-tail (λ (row : List ℕ × ℕ). 0 < row.1) row rows some) in
    get-added q (means row.0) row.1 (tested (is_value q) means rows) (summed means rows) (All-head (λ (row : List ℕ × ℕ). 0 < row.1) row rows some)
    (λ k same. finite.get_tied nat_list_cmp_total (summed means rows) q k (equal (by_bytes q k) same) ∙ before) before
    ∙ ap entry_of (sym (sum_by-cons (λ (row : List ℕ × ℕ). counted (is_value q) (means row.0) row.1) row rows))

-- rows that count as much of each value have the same sums
pub summed-alike : (one other : List ℕ → Option (List ℕ)) (rows others : List (List ℕ × ℕ)) → Positive rows → Positive others
    → ((test : Option (List ℕ) → Bool) → test None ≡ false → tested test one rows ≡ tested test other others) → summed one rows ≡ summed other others
summed-alike one other rows others some more alike =
    finite.same_map nat_list_cmp_total (slice_cmp-IsAntisymmetric nat_cmp-IsAntisymmetric) (summed one rows) (summed other others)
    (λ q. get-summed one rows q some ∙ ap entry_of (alike (is_value q) refl) ∙ sym (get-summed other others q more))

pub tested-permutation : (test : Option (List ℕ) → Bool) (rows others : List (List ℕ × ℕ)) → IsPermutation rows others → tested test Some others ≡ tested test Some rows
tested-permutation test rows others same = sum_by-IsPermutation (λ (row : List ℕ × ℕ). counted test (Some row.0) row.1) rows others same

-- whether nothing is meant
abbrev pub is_nothing : Option (List ℕ) → Bool
is_nothing None = true
is_nothing (Some value) = false

nothing-some : (rows : List (List ℕ × ℕ)) → ◌≡◌ {A = ℕ} (sum_by (λ (row : List ℕ × ℕ). 0) rows) 0
nothing-some [] = refl
nothing-some (row ∷ rows) = omega (arith, sum_by-cons (λ (row : List ℕ × ℕ). 0) row rows, nothing-some rows)

-- values are no nothing
pub tested-nothing : (rows : List (List ℕ × ℕ)) → tested is_nothing Some rows ≡ 0
tested-nothing rows = nothing-some rows

-- what is lost is what means nothing
pub tested-lost : (means : List ℕ → Option (List ℕ)) (rows : List (List ℕ × ℕ)) → tested is_nothing means rows ≡ sum_by (λ (row : List ℕ × ℕ). lost (means row.0) row.1) rows
tested-lost means rows = λ i. sum_by (λ (row : List ℕ × ℕ). same (means row.0) row.1 i) rows
  where
    same : (meant : Option (List ℕ)) (count : ℕ) → counted is_nothing meant count ≡ lost meant count
    same None count = refl
    same (Some value) count = refl

-- ---- groups

pub counted-add : (b : Bool) (m n : ℕ) → cond b (m + n) 0 ≡ cond b m 0 + cond b n 0
counted-add true m n = refl
counted-add false m n = omega arith

pub groups-more : (test : Option (List ℕ) → Bool) (values : List (Option (List ℕ))) (counts : List ℕ) (k : ℕ) (value : Option (List ℕ)) (count : ℕ) → slice_get values k ≡ Some value → k < length counts
    → tested_groups test values (set counts k (get_or counts k 0 + count)) ≡ tested_groups test values counts + counted test value count
groups-more test [] counts k value count at inside = cc
groups-more test (v ∷ values) [] k value count at inside = absurd (omega (arith, inside))
groups-more test (v ∷ values) (n ∷ counts) zero value count at inside =
    let same : v ≡ value = some_same v value at in
    omega (arith, counted-add (test v) n count, ap (λ m. counted test m count) same)
  where
    some_same : (x y : Option (List ℕ)) → Some x ≡ Some y → x ≡ y
    some_same x y e = ap (λ o. unwrap_or o x) e
groups-more test (v ∷ values) (n ∷ counts) (suc k) value count at inside =
    omega (arith, groups-more test values counts k value count at (omega (arith, inside)))

pub group-le : (values : List (Option (List ℕ))) (counts : List ℕ) (k : ℕ) → length counts ≤ length values → get_or counts k 0 ≤ tested_groups (λ _. true) values counts
group-le values [] k short = omega arith
group-le [] (n ∷ counts) k short = absurd (omega (arith, short))
group-le (v ∷ values) (n ∷ counts) zero short = omega arith
group-le (v ∷ values) (n ∷ counts) (suc k) short = omega (arith, group-le values counts k (omega (arith, short)))

-- the group of a number, and those behind it
pub groups-at : (test : Option (List ℕ) → Bool) (values : List (Option (List ℕ))) (counts : List ℕ) (k : ℕ) (value : Option (List ℕ)) → slice_get values k ≡ Some value → k < length counts
    → tested_groups test (drop k values) (drop k counts) ≡ counted test value (get_or counts k 0) + tested_groups test (drop (k + 1) values) (drop (k + 1) counts)
groups-at test values counts k value at inside =
    ap (tested_groups test (drop k values)) (drop_more counts k 0 inside)
    ∙ ap (λ left. tested_groups test left (get_or counts k 0 ∷ drop (k + 1) counts)) (drop_more values k None (slice_get_within values k value at))
    ∙ ap (λ v. counted test v (get_or counts k 0) + tested_groups test (drop (k + 1) values) (drop (k + 1) counts)) (get_or_from_slice_get values k value None at)

pub groups-none : (test : Option (List ℕ) → Bool) (values : List (Option (List ℕ))) (n : ℕ) → tested_groups test values (replicate n 0) ≡ 0
groups-none test [] n = refl
groups-none test (v ∷ values) zero = refl
groups-none test (v ∷ values) (suc n) = omega (arith, nothing (test v), groups-none test values n)
  where
    nothing : (b : Bool) → ◌≡◌ {A = ℕ} (cond b 0 0) 0
    nothing true = refl
    nothing false = refl

-- ---- runs of one value, in a list that is sorted

-- what is below all values is below all that are kept
below-summed : (x : List ℕ) (rows : List (List ℕ × ℕ)) → All (λ (row : List ℕ × ℕ). is_lt (by_bytes x row.0) ≡ true) rows → finite.Entries.below_all by_bytes x (finite.entries (summed Some rows)) ≡ true
below-summed x [] above = ap (finite.Entries.below_all by_bytes x) (entries-none by_bytes)
below-summed x (row ∷ rows) above =
    ap (finite.Entries.below_all by_bytes x) (finite.entries-insert nat_list_cmp_total (summed Some rows) row.0 (unwrap_or (finite.get (summed Some rows) row.0) 0 + row.1))
    ∙ below-put by_bytes x row.0 (unwrap_or (finite.get (summed Some rows) row.0) 0 + row.1) (finite.entries (summed Some rows))
    (All-head (λ (row : List ℕ × ℕ). is_lt (by_bytes x row.0) ≡ true) row rows above) (below-summed x rows (All-tail (λ (row : List ℕ × ℕ). is_lt (by_bytes x row.0) ≡ true) row rows above))

-- one row before rows of greater values
entries-front : (x : List ℕ) (n : ℕ) (rows : List (List ℕ × ℕ)) → All (λ (row : List ℕ × ℕ). is_lt (by_bytes x row.0) ≡ true) rows
    → finite.entries (summed Some ((x, n) ∷ rows)) ≡ (x, n) ∷ finite.entries (summed Some rows)
entries-front x n rows above =
    let below = below-summed x rows above in
    finite.entries-insert nat_list_cmp_total (summed Some rows) x (unwrap_or (finite.get (summed Some rows) x) 0 + n)
    ∙ ap (λ o. put by_bytes x (unwrap_or o 0 + n) (finite.entries (summed Some rows))) (finite.get-entries (summed Some rows) x ∙ find-front by_bytes x (finite.entries (summed Some rows)) below)
    ∙ ap (λ m. put by_bytes x m (finite.entries (summed Some rows))) (omega arith)
    ∙ put-front by_bytes x n (finite.entries (summed Some rows)) below

tested-one : (test : Option (List ℕ) → Bool) (x : List ℕ) (rows : List (List ℕ × ℕ)) → All (λ (row : List ℕ × ℕ). row.0 ≡ x) rows
    → tested test Some rows ≡ counted test (Some x) (sum_by (λ (row : List ℕ × ℕ). row.1) rows)
tested-one test x [] one = sym (nothing (test (Some x)))
  where
    nothing : (b : Bool) → ◌≡◌ {A = ℕ} (cond b 0 0) 0
    nothing true = refl
    nothing false = refl
tested-one test x (row ∷ rows) one =
    sum_by-cons (λ (row : List ℕ × ℕ). counted test (Some row.0) row.1) row rows
    ∙ (λ i. counted test (Some (All-head (λ (row : List ℕ × ℕ). row.0 ≡ x) row rows one i)) row.1 + tested-one test x rows (All-tail (λ (row : List ℕ × ℕ). row.0 ≡ x) row rows one) i)
    ∙ sym (counted-add (test (Some x)) row.1 (sum_by (λ (row : List ℕ × ℕ). row.1) rows))
    ∙ ap (counted test (Some x)) (sym (sum_by-cons (λ (row : List ℕ × ℕ). row.1) row rows))

-- a run of one value before greater ones is one row of their sum
pub entries-run : (x : List ℕ) (n : ℕ) (rows : List (List ℕ × ℕ)) → 0 < n → n ≤ length rows → Positive rows → All (λ (row : List ℕ × ℕ). row.0 ≡ x) (take n rows)
    → All (λ (row : List ℕ × ℕ). is_lt (by_bytes x row.0) ≡ true) (drop n rows)
    → finite.entries (summed Some rows) ≡ (x, sum_by (λ (row : List ℕ × ℕ). row.1) (take n rows)) ∷ finite.entries (summed Some (drop n rows))
entries-run x n rows some fits positive one above =
    let count = sum_by (λ (row : List ℕ × ℕ). row.1) (take n rows) in
    let more : 0 < count = sum-some (take n rows) (omega (arith, some, fits, length-take-le n rows fits)) (All-take (λ (row : List ℕ × ℕ). 0 < row.1) n rows positive) in
    ap finite.entries (summed-alike Some Some rows ((x, count) ∷ drop n rows) positive
    (All-cons (λ (row : List ℕ × ℕ). 0 < row.1) (x, count) (drop n rows) more (All-drop (λ (row : List ℕ × ℕ). 0 < row.1) n rows positive))
    (λ test _. sym (sum_by-take-drop (λ (row : List ℕ × ℕ). counted test (Some row.0) row.1) rows n)
    ∙ ap (λ m. m + tested test Some (drop n rows)) (tested-one test x (take n rows) one)
    ∙ sym (sum_by-cons (λ (row : List ℕ × ℕ). counted test (Some row.0) row.1) (x, count) (drop n rows))))
    ∙ entries-front x count (drop n rows) above
  where
    sum-some : (rows : List (List ℕ × ℕ)) → 0 < length rows → Positive rows → 0 < sum_by (λ (row : List ℕ × ℕ). row.1) rows
    sum-some [] none positive = absurd (omega (arith, none))
    sum-some (row ∷ rows) some positive =
        omega (arith, sum_by-cons (λ (row : List ℕ × ℕ). row.1) row rows, All-head (λ (row : List ℕ × ℕ). 0 < row.1) row rows positive)
