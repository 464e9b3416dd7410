-- The tally of a rising list is the list of its runs.
use Rattle.std.proofs.Common.{◌≡◌, ℕ, suc, zero, ◌+◌, true, false, cond, List, [], ◌∷◌, ◌++◌, length, drop, Some, sym, refl, ap, ◌∙◌, arith}
use Rattle.std.specs.Prelude.{unwrap_or}
use Rattle.std.specs.declared.cmp.Ordering.{Ordering}
use Rattle.std.specs.declared.cmp.Ordering.TheVariants.{Less, Equal, Greater}
use Rattle.std.specs.Ordering.{is_lt, is_eq, eq_by_cmp, ordering_reverse}
use Rattle.std.specs.Cmp.{IsTotalOrder, tied_itself}
use Rattle.std.specs.List.{sum_by, prefix_len}
use Rattle.std.specs.List.Sorted.{IsSorted}
use Rattle.std.specs.FinMap as map
use Rattle.std.specs.FinMap.{IsAntisymmetric}
use Rattle.std.specs.FinMap.Entries.{put, by_order}
use Rattle.std.proofs.lemmas.List.Sums.{sum_by-cons}
use Rattle.std.proofs.lemmas.List.Sorted.{length_permutation}
use Rattle.esa_lists.specs.Ordered.{ordered}
use Rattle.esa_lists.specs.Tally.{times, tally, runs, count_first}
use Rattle.esa_lists.proofs.OrderedLaws.{times-cons, IsPermutation-ordered, NoneLess, Rises, Rises-from_sorted, Rises-ordered, not_less}
use Rattle.esa_lists.proofs.TallyLaws.{entry_of, get-tally, tally-ordered}

tally-nil : {X : Type 0} (R : X → X → Ordering) → tally R [] ≡ map.empty
unfolding tally
tally-nil R = refl

tally-cons : {X : Type 0} (R : X → X → Ordering) (x : X) (xs : List X) → tally R (x ∷ xs) ≡ map.insert (tally R xs) x (unwrap_or (map.get (tally R xs) x) 0 + 1)
unfolding tally
tally-cons R x xs = refl

pub runs-nil : {X : Type 0} (R : X → X → Ordering) → runs R [] ≡ []
unfolding runs
runs-nil R = refl

pub runs-cons : {X : Type 0} (R : X → X → Ordering) (x : X) (xs : List X) → runs R (x ∷ xs) ≡ count_first R x (runs R xs)
unfolding runs
runs-cons R x xs = refl

count_first-nil : {X : Type 0} (R : X → X → Ordering) (x : X) → count_first R x [] ≡ (x, 1) ∷ []
unfolding count_first
count_first-nil R x = refl

no_length : {A : Type 0} (xs : List A) → length xs ≡ 0 → xs ≡ []
no_length [] none = refl
no_length (x ∷ xs) none = absurd (omega arith)

entries-empty : {X V : Type 0} (R : X → X → Ordering) → map.entries (map.empty {X = V} {R = R}) ≡ []
entries-empty {V = V} R = no_length _ (sym (map.len-entries map.empty) ∙ map.len-empty R V)

one_plus : (n : ℕ) → suc n ≡ 1 + n
one_plus n = omega arith

count_first-same : {X : Type 0} (R : X → X → Ordering) (x : X) (row : X × ℕ) (rows : List (X × ℕ)) → eq_by_cmp R x row.0 ≡ true → count_first R x (row ∷ rows) ≡ (x, row.1 + 1) ∷ rows
unfolding count_first
count_first-same R x row rows ties = ap (λ b. cond b ((x, row.1 + 1) ∷ rows) ((x, 1) ∷ row ∷ rows)) ties

count_first-other : {X : Type 0} (R : X → X → Ordering) (x : X) (row : X × ℕ) (rows : List (X × ℕ)) → eq_by_cmp R x row.0 ≡ false → count_first R x (row ∷ rows) ≡ (x, 1) ∷ row ∷ rows
unfolding count_first
count_first-other R x row rows differs = ap (λ b. cond b ((x, row.1 + 1) ∷ rows) ((x, 1) ∷ row ∷ rows)) differs

count_first-append : {X : Type 0} (R : X → X → Ordering) (x : X) (row : X × ℕ) (rows more : List (X × ℕ)) → count_first R x ((row ∷ rows) ++ more) ≡ count_first R x (row ∷ rows) ++ more
unfolding count_first
count_first-append R x row rows more =
    elim (eq_by_cmp R x row.0) as (λ b. cond b ((x, row.1 + 1) ∷ rows ++ more) ((x, 1) ∷ row ∷ rows ++ more) ≡ cond b ((x, row.1 + 1) ∷ rows) ((x, 1) ∷ row ∷ rows) ++ more) [ true ↦ refl | false ↦ refl ]

-- the lengths of the runs make up the list
total-count_first : {X : Type 0} (R : X → X → Ordering) (x : X) (rows : List (X × ℕ)) → sum_by (λ row. row.1) (count_first R x rows) ≡ 1 + sum_by (λ row. row.1) rows
unfolding count_first
total-count_first R x [] = refl
total-count_first R x (row ∷ rows) =
    elim (eq_by_cmp R x row.0) as (λ b. sum_by (λ row. row.1) (cond b ((x, row.1 + 1) ∷ rows) ((x, 1) ∷ row ∷ rows)) ≡ 1 + sum_by (λ row. row.1) (row ∷ rows)) [
      | true ↦ omega (arith, sum_by-cons (λ row. row.1) (x, row.1 + 1) rows, sum_by-cons (λ row. row.1) row rows)
      | false ↦ omega (arith, sum_by-cons (λ row. row.1) (x, 1) (row ∷ rows))
    ]

pub total-runs : {X : Type 0} (R : X → X → Ordering) (xs : List X) → sum_by (λ row. row.1) (runs R xs) ≡ length xs
unfolding runs
total-runs R [] = refl
total-runs R (x ∷ xs) = total-count_first R x (runs R xs) ∙ ap (λ n. 1 + n) (total-runs R xs) ∙ omega arith

-- the first row is that of the first element
head-count_first : {X : Type 0} (R : X → X → Ordering) (x : X) (rows : List (X × ℕ)) → (n : ℕ) × (rest : List (X × ℕ)) × (count_first R x rows ≡ (x, suc n) ∷ rest)
unfolding count_first
head-count_first R x [] = (0, [], refl)
head-count_first {X = X} R x (row ∷ rows) = elim (eq_by_cmp R x row.0) as (λ b. (n : ℕ) × (rest : List (X × ℕ)) × (cond b ((x, row.1 + 1) ∷ rows) ((x, 1) ∷ row ∷ rows) ≡ (x, suc n) ∷ rest)) [
  | true ↦ (row.1, rows, let more : row.1 + 1 ≡ suc row.1 = omega arith in ap (λ n. (x, n) ∷ rows) more)
  | false ↦ (0, row ∷ rows, refl)
]

-- a new run before the runs of other elements
before_other : {X : Type 0} (R : X → X → Ordering) (x y : X) (ys : List X) → eq_by_cmp R x y ≡ false → count_first R x (runs R (y ∷ ys)) ≡ (x, 1) ∷ runs R (y ∷ ys)
before_other R x y ys differs =
    let front = head-count_first R y (runs R ys) in
    let is : runs R (y ∷ ys) ≡ (y, suc front.0) ∷ front.1 = runs-cons R y ys ∙ front.2 in
    ap (count_first R x) is ∙ count_first-other R x (y, suc front.0) front.1 differs ∙ ap (λ rows. (x, 1) ∷ rows) (sym is)

-- a list that is not empty has a run
some_row : {X : Type 0} (R : X → X → Ordering) (xs : List X) (x : X) → (row : X × ℕ) × (rows : List (X × ℕ)) × (runs R (xs ++ x ∷ []) ≡ row ∷ rows)
some_row R [] x = let front = head-count_first R x (runs R []) in ((x, suc front.0), front.1, runs-cons R x [] ∙ front.2)
some_row R (y ∷ xs) x = let front = head-count_first R y (runs R (xs ++ x ∷ [])) in ((y, suc front.0), front.1, runs-cons R y (xs ++ x ∷ []) ∙ front.2)

module _ {X : Type 0} {R : X → X → Ordering} (o : IsTotalOrder R) (same : IsAntisymmetric R) where
  -- what is less than the head of a rising list does not stand in it
  none_below : (x y : X) (ys : List X) → R x y ≡ Less → NoneLess R y ys → times R x (y ∷ ys) ≡ 0
  none_below x y ys less none =
      elim (times R x (y ∷ ys)) as (λ n. times R x (y ∷ ys) ≡ n → n ≡ 0) [
        | zero ↦ λ e. refl
        | suc n ↦ λ e. cc (ap is_lt less, not_less o x y (y ∷ ys) (ap is_lt (tied_itself o y), none) (omega arith))
      ] refl

  one_more : (x : X) (m : map.FinMap R ℕ) (row : X × ℕ) (rows : List (X × ℕ)) → map.entries m ≡ row ∷ rows → R x row.0 ≡ Equal → unwrap_or (map.get m x) 0 ≡ row.1
  one_more x m row rows is ties =
      ap (λ v. unwrap_or v 0) (map.get-entries m x ∙ ap (map.find R x) is) ∙ ap (λ r. unwrap_or (cond (is_eq r) (Some row.1) (map.find R x rows)) 0) ties

  -- one more x, where x is no greater than the first key
  put_front : (x : X) (m : map.FinMap R ℕ) (row : X × ℕ) (rows : List (X × ℕ)) → map.entries m ≡ row ∷ rows → is_lt (R row.0 x) ≡ false → (R x row.0 ≡ Less → unwrap_or (map.get m x) 0 ≡ 0)
      → put R x (unwrap_or (map.get m x) 0 + 1) (row ∷ rows) ≡ count_first R x (row ∷ rows)
  unfolding count_first
  put_front x m row rows is below fresh =
      elim (R x row.0) as (λ r. R x row.0 ≡ r → by_order r ((x, unwrap_or (map.get m x) 0 + 1) ∷ row ∷ rows) ((row.0, unwrap_or (map.get m x) 0 + 1) ∷ rows) (row ∷ put R x (unwrap_or (map.get m x) 0 + 1) rows)
      ≡ cond (is_eq r) ((x, row.1 + 1) ∷ rows) ((x, 1) ∷ row ∷ rows)) [
        | Less ↦ λ e. ap (λ n. (x, n + 1) ∷ row ∷ rows) (fresh e)
        | Equal ↦ λ e. let key : row.0 ≡ x = sym (same x row.0 e) in let count : unwrap_or (map.get m x) 0 + 1 ≡ row.1 + 1 = ap (λ n. n + 1) (one_more x m row rows is e) in λ i. (key i, count i) ∷ rows
        | Greater ↦ λ e. cc (below, ap is_lt (o.antisymm row.0 x ∙ ap ordering_reverse e))
      ] refl

  entries-tally_rises : (xs : List X) → Rises R xs → map.entries (tally R xs) ≡ runs R xs
  entries-tally_rises [] up = ap map.entries (tally-nil R) ∙ entries-empty R ∙ sym (runs-nil R)
  entries-tally_rises (x ∷ []) up =
      ap map.entries (tally-cons R x [] ∙ ap (λ m. map.insert m x (unwrap_or (map.get m x) 0 + 1)) (tally-nil R))
      ∙ map.entries-insert o map.empty x _ ∙ ap (put R x (unwrap_or (map.get map.empty x) 0 + 1)) (entries-empty R)
      ∙ ap (λ v. (x, unwrap_or v 0 + 1) ∷ []) (map.get-empty R x) ∙ sym (runs-cons R x [] ∙ ap (count_first R x) (runs-nil R) ∙ count_first-nil R x)
  entries-tally_rises (x ∷ y ∷ ys) up =
      let before : map.entries (tally R (y ∷ ys)) ≡ runs R (y ∷ ys) = entries-tally_rises (y ∷ ys) up.1 in
      let front = head-count_first R y (runs R ys) in
      let is : runs R (y ∷ ys) ≡ (y, suc front.0) ∷ front.1 = runs-cons R y ys ∙ front.2 in
      ap map.entries (tally-cons R x (y ∷ ys)) ∙ map.entries-insert o (tally R (y ∷ ys)) x _
      ∙ ap (put R x (unwrap_or (map.get (tally R (y ∷ ys)) x) 0 + 1)) (before ∙ is)
      ∙ put_front x (tally R (y ∷ ys)) (y, suc front.0) front.1 (before ∙ is) up.0.0
      (λ less. ap (λ v. unwrap_or v 0) (get-tally o (y ∷ ys) x ∙ ap entry_of (none_below x y ys less up.1.0)))
      ∙ ap (count_first R x) (sym is) ∙ sym (runs-cons R x (y ∷ ys))

  -- the entries of a rising list's tally are its runs
  pub entries-tally_sorted : (xs : List X) → IsSorted R xs → map.entries (tally R xs) ≡ runs R xs
  entries-tally_sorted xs up = entries-tally_rises xs (Rises-from_sorted o xs up)

  -- those of any list's tally are the runs of the list in order
  pub entries-tally : (xs : List X) → map.entries (tally R xs) ≡ runs R (ordered R xs)
  entries-tally xs = ap map.entries (sym (tally-ordered o same xs)) ∙ entries-tally_rises (ordered R xs) (Rises-ordered o xs)

  times-prefix : (x : X) (xs : List X) → NoneLess R x xs → Rises R xs → times R x xs ≡ prefix_len (eq_by_cmp R x) xs
  times-prefix x [] none up = refl
  times-prefix x (y ∷ ys) none up =
      elim (R x y) as (λ r. R x y ≡ r → times R x (y ∷ ys) ≡ cond (is_eq r) (1 + prefix_len (eq_by_cmp R x) ys) 0) [
        | Less ↦ λ e. none_below x y ys e up.0
        | Equal ↦ λ e. times-cons R x y ys ∙ ap (λ r. cond (is_eq r) 1 0 + times R x ys) e ∙ ap (λ n. 1 + n) (times-prefix x ys none.1 up.1)
        | Greater ↦ λ e. cc (none.0, ap is_lt (o.antisymm y x ∙ ap ordering_reverse e))
      ] refl

  -- how often the first element of a rising list stands there is the length of its run
  pub times-run : (x : X) (xs : List X) → IsSorted R (x ∷ xs) → times R x (x ∷ xs) ≡ 1 + prefix_len (eq_by_cmp R x) xs
  times-run x xs up =
      let rises = Rises-from_sorted o (x ∷ xs) up in
      times-cons R x x xs ∙ ap (λ r. cond (is_eq r) 1 0 + times R x xs) (tied_itself o x) ∙ ap (λ n. 1 + n) (times-prefix x xs rises.0 rises.1)

  -- the counts of a tally make up the list
  pub total-tally : (xs : List X) → sum_by (λ row. row.1) (map.entries (tally R xs)) ≡ length xs
  total-tally xs = ap (sum_by (λ row. row.1)) (entries-tally xs) ∙ total-runs R (ordered R xs) ∙ length_permutation xs (ordered R xs) (IsPermutation-ordered R xs)

  -- a run: x and the elements after it that tie with x
  pub runs-run : (x : X) (xs : List X) → runs R (x ∷ xs) ≡ (x, 1 + prefix_len (eq_by_cmp R x) xs) ∷ runs R (drop (prefix_len (eq_by_cmp R x) xs) xs)
  runs-run x [] = runs-cons R x [] ∙ ap (count_first R x) (runs-nil R) ∙ count_first-nil R x ∙ ap (λ rows. (x, 1) ∷ rows) (sym (runs-nil R))
  runs-run x (y ∷ ys) =
      runs-cons R x (y ∷ ys) ∙ elim (R x y) as (λ r. R x y ≡ r → count_first R x (runs R (y ∷ ys)) ≡ (x, 1 + cond (is_eq r) (1 + prefix_len (eq_by_cmp R x) ys) 0) ∷ runs R (drop (cond (is_eq r) (1 + prefix_len (eq_by_cmp R x) ys) 0) (y ∷ ys))) [
        | Less ↦ λ e. before_other R x y ys (ap is_eq e)
        | Equal ↦ λ e.
            let key : x ≡ y = same x y e in
            let longer : 1 + prefix_len (eq_by_cmp R y) ys + 1 ≡ 1 + (1 + prefix_len (eq_by_cmp R x) ys) = ap (λ z. 1 + prefix_len (eq_by_cmp R z) ys + 1) (sym key) ∙ omega arith in
            let later : drop (prefix_len (eq_by_cmp R y) ys) ys ≡ drop (1 + prefix_len (eq_by_cmp R x) ys) (y ∷ ys) =
            ap (λ z. drop (prefix_len (eq_by_cmp R z) ys) ys) (sym key) ∙ ap (λ n. drop n (y ∷ ys)) (one_plus (prefix_len (eq_by_cmp R x) ys)) in
            ap (count_first R x) (runs-run y ys) ∙ count_first-same R x _ _ (ap is_eq e) ∙ (λ i. (x, longer i) ∷ runs R (later i))
        | Greater ↦ λ e. before_other R x y ys (ap is_eq e)
      ] refl

-- the runs of two lists, where the last element of the first is not the first of the second
pub runs-append : {X : Type 0} (R : X → X → Ordering) (xs : List X) (x y : X) (ys : List X) → eq_by_cmp R x y ≡ false → runs R (xs ++ x ∷ y ∷ ys) ≡ runs R (xs ++ x ∷ []) ++ runs R (y ∷ ys)
runs-append R [] x y ys other = runs-cons R x (y ∷ ys) ∙ before_other R x y ys other ∙ ap (λ rows. rows ++ runs R (y ∷ ys)) (sym (runs-cons R x [] ∙ ap (count_first R x) (runs-nil R) ∙ count_first-nil R x))
runs-append R (z ∷ xs) x y ys other =
    let front = some_row R xs x in
    runs-cons R z (xs ++ x ∷ y ∷ ys) ∙ ap (count_first R z) (runs-append R xs x y ys other ∙ ap (λ rows. rows ++ runs R (y ∷ ys)) front.2)
    ∙ count_first-append R z front.0 front.1 (runs R (y ∷ ys)) ∙ ap (λ rows. count_first R z rows ++ runs R (y ∷ ys)) (sym front.2) ∙ ap (λ rows. rows ++ runs R (y ∷ ys)) (sym (runs-cons R z (xs ++ x ∷ [])))
