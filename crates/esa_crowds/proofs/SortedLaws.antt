-- What a sort of places leaves: the entries of the rows at them, each before those behind it.
use Rattle.std.proofs.Common.{◌≡◌, ℕ, zero, suc, ◌+◌, ◌-◌, ◌<◌, ◌≤◌, Bool, true, false, cond, List, [], ◌∷◌, ◌++◌, length, take, Some, refl, sym, ap, subst, ◌∙◌, arith, take-append-drop, length-take-le}
use Rattle.std.specs.Prelude.{◌==◌, All, count_by, slice_get, replicate}
use Rattle.std.specs.List.Sorted.{IsPermutation, IsSorted}
use Rattle.std.specs.declared.cmp.Ordering.{Ordering}
use Rattle.std.specs.declared.cmp.Ordering.TheVariants.{Less, Equal, Greater}
use Rattle.std.specs.Ordering.{nat_cmp, is_lt, ordering_then, ordering_reverse}
use Rattle.std.specs.Option.{option_cmp}
use Rattle.std.specs.Cmp.{IsTotalOrder}
use Rattle.std.specs.Cmp.Lexicographic.{options_total}
use Rattle.std.specs.FinMap.{nat_cmp-IsAntisymmetric}
use Rattle.std.proofs.lemmas.Cmp.{tied_itself, nat_cmp_total, nat_list_cmp_total, on_total, then_total}
use Rattle.std.proofs.lemmas.Bool.Decides.{nat_tests}
use Rattle.std.proofs.lemmas.List.Elements.{All-head, All-tail}
use Rattle.std.proofs.lemmas.List.Sums.{sum_by-cons}
use Rattle.std.proofs.lemmas.List.Sorted.{sum_by-IsPermutation, IsPermutation-map, All-permutation}
use Rattle.esa_lists.proofs.OrderedLaws.{NoneLess, Rises, Rises-from_sorted}
use Rattle.esa_params.specs.declared.form.Form.{Form}
use Rattle.esa_params.specs.declared.form.Form.TheVariants.{One, Two}
use Rattle.esa_params.specs.Form.{inner_length}
use Rattle.esa_params.specs.Sizes.{below}
use Rattle.esa_crowds.specs.declared.row.Row.{Row}
use Rattle.esa_crowds.specs.Entries.{Entry}
use Rattle.esa_crowds.specs.Kept.{by_bytes, by_key}
use Rattle.esa_crowds.specs.Rows.{IsPadded, RiseWithin, blank, by_crowd, by_place, by_row, entries_in, entry_at, entry_row, picked, row_at}
use Rattle.esa_crowds.proofs.PlaceLaws.{picked-all, inside-below}
use Rattle.esa_crowds.proofs.RankLaws.{crowds_total, IsLess, AreStrict}

rows_total : IsTotalOrder by_row
rows_total = then_total (on_total (λ (row : Row). row.crowd) nat_list_cmp_total) (then_total (on_total (λ (row : Row). row.tag) nat_list_cmp_total)
    (then_total (on_total (λ (row : Row). row.inner) nat_list_cmp_total) (on_total (λ (row : Row). row.position) nat_cmp_total)))

pub row_options_total : IsTotalOrder (option_cmp by_row)
row_options_total = options_total rows_total

places_total : (rows : List Row) → IsTotalOrder (by_place rows)
places_total rows = on_total (slice_get rows) row_options_total

-- ---- rows are in the order of their entries

same_end : (xs ys zs : List ℕ) → length xs ≡ length ys → by_bytes (xs ++ zs) (ys ++ zs) ≡ by_bytes xs ys
same_end [] [] zs long = tied_itself nat_list_cmp_total zs
same_end [] (y ∷ ys) zs long = absurd (omega arith)
same_end (x ∷ xs) [] zs long = absurd (omega arith)
same_end (x ∷ xs) (y ∷ ys) zs long = ap (ordering_then (nat_cmp x y)) (same_end xs ys zs (omega arith))

longest : (form : Form) → inner_length form ≤ 232
longest One = omega arith
longest Two = omega arith

padded_order : (form : Form) (one other : Row) → IsPadded form one → IsPadded form other
    → by_bytes one.inner other.inner ≡ by_bytes (take (inner_length form) one.inner) (take (inner_length form) other.inner)
padded_order form one other here there =
    let n = inner_length form in
    let fits = longest form in
    let first : length (take n one.inner) ≡ n = length-take-le n one.inner (omega (arith, fits, here.0)) in
    let second : length (take n other.inner) ≡ n = length-take-le n other.inner (omega (arith, fits, there.0)) in
    (λ i. by_bytes (sym (take-append-drop n one.inner) i) (sym (take-append-drop n other.inner) i))
    ∙ (λ i. by_bytes (take n one.inner ++ here.1 i) (take n other.inner ++ there.1 i))
    ∙ same_end (take n one.inner) (take n other.inner) (replicate (232 - n) 0) (first ∙ sym second)

row_order : (form : Form) (one other : Row) → IsPadded form one → IsPadded form other → by_row one other ≡ by_crowd (entry_row form one) (entry_row form other)
row_order form one other here there =
    ap (λ r. ordering_then (by_bytes one.crowd other.crowd) (ordering_then (by_bytes one.tag other.tag) (ordering_then r (nat_cmp one.position other.position)))) (padded_order form one other here there)

pub get_or-some : (rows : List Row) (place : ℕ) → place < length rows → slice_get rows place ≡ Some (row_at rows place)
get_or-some [] place below = absurd (omega arith)
get_or-some (row ∷ rows) zero below = refl
get_or-some (row ∷ rows) (suc place) below = get_or-some rows place (omega arith)

place_order : (form : Form) (rows : List Row) (one other : ℕ) → All (IsPadded form) rows → one < length rows → other < length rows
    → by_place rows one other ≡ by_crowd (entry_at form rows one) (entry_at form rows other)
place_order form rows one other padded here there =
    (λ i. option_cmp by_row (get_or-some rows one here i) (get_or-some rows other there i))
    ∙ row_order form (row_at rows one) (row_at rows other) (padded one blank here) (padded other blank there)

-- ---- one entry at a position

count-cons : {X : Type 0} (p : X → Bool) (x : X) (xs : List X) → count_by p (x ∷ xs) ≡ cond (p x) 1 0 + count_by p xs
count-cons p x xs = sum_by-cons (λ y. cond (p y) 1 0) x xs

-- no position has two
abbrev pub AreSingle : List Entry → Type 0
AreSingle list = (position : ℕ) → count_by (λ (entry : Entry). entry.position == position) list ≤ 1

none_before : (low high position : ℕ) (list : List Entry) → position < low → RiseWithin low high list → count_by (λ (entry : Entry). entry.position == position) list ≡ 0
none_before low high position [] before rise = refl
none_before low high position (e ∷ list) before rise =
    let rest = none_before (suc e.position) high position list (omega (arith, rise.0)) rise.1 in
    let not : (e.position == position) ≡ false = let other : position < e.position = omega (arith, rise.0) in grind (arith, nat_tests) in
    let whole = count-cons (λ (entry : Entry). entry.position == position) e list in
    let here : ◌≡◌ {A = ℕ} (cond (e.position == position) 1 0) 0 = ap (λ b. cond b 1 0) not in
    omega (arith, rest, whole, here)

pub AreSingle-rise : (low high : ℕ) (list : List Entry) → RiseWithin low high list → AreSingle list
AreSingle-rise low high [] rise position = omega arith
AreSingle-rise low high (e ∷ list) rise position =
    let whole = count-cons (λ (entry : Entry). entry.position == position) e list in
    by_test (e.position == position) refl whole (AreSingle-rise (suc e.position) high list rise.1 position)
  where
    by_test : (b : Bool) → (e.position == position) ≡ b → count_by (λ (entry : Entry). entry.position == position) (e ∷ list) ≡ cond b 1 0 + count_by (λ (entry : Entry). entry.position == position) list
        → count_by (λ (entry : Entry). entry.position == position) list ≤ 1 → count_by (λ (entry : Entry). entry.position == position) (e ∷ list) ≤ 1
    by_test true is whole later =
        let same : e.position ≡ position = grind (arith, nat_tests) in
        let rest = none_before (suc e.position) high position list (omega (arith, same)) rise.1 in
        omega (arith, rest, whole)
    by_test false is whole later = omega (arith, later, whole)

AreSingle-tail : (e : Entry) (list : List Entry) → AreSingle (e ∷ list) → AreSingle list
AreSingle-tail e list single position = let whole = count-cons (λ (entry : Entry). entry.position == position) e list in omega (arith, single position, whole)

itself : (n : ℕ) → (n == n) ≡ true
itself n = grind (arith, nat_tests)

no_other : (e : Entry) (list : List Entry) → AreSingle (e ∷ list) → count_by (λ (entry : Entry). entry.position == e.position) list ≡ 0
no_other e list single =
    let whole = count-cons (λ (entry : Entry). entry.position == e.position) e list in
    let here : ◌≡◌ {A = ℕ} (cond (e.position == e.position) 1 0) 1 = ap (λ b. cond b 1 0) (itself e.position) in
    omega (arith, single e.position, whole, here)

-- ---- a sorted list of them is strict

last_equal : (r s : Ordering) → ordering_then r s ≡ Equal → s ≡ Equal
last_equal Less s e = cc
last_equal Equal s e = e
last_equal Greater s e = cc

one_position : (x y : Entry) → by_crowd y x ≡ Equal → y.position ≡ x.position
one_position x y e =
    nat_cmp-IsAntisymmetric y.position x.position
    (last_equal (by_bytes y.inner x.inner) _ (last_equal (by_bytes y.tag x.tag) _ (last_equal (by_bytes y.crowd x.crowd) (by_key y x) e)))

comes_before : (x y : Entry) → is_lt (by_crowd y x) ≡ false → (y.position == x.position) ≡ false → by_crowd x y ≡ Less
comes_before x y isnt other =
    elim (by_crowd y x) as (λ r. by_crowd y x ≡ r → by_crowd x y ≡ Less) [
      | Less ↦ λ e. cc (ap is_lt e)
      | Equal ↦ λ e. let same = one_position x y e in absurd (grind (arith, nat_tests))
      | Greater ↦ λ e. crowds_total.antisymm x y ∙ ap ordering_reverse e
    ] refl

none_here : (p : Entry → Bool) (y : Entry) (ys : List Entry) → count_by p (y ∷ ys) ≡ 0 → (p y ≡ false) × (count_by p ys ≡ 0)
none_here p y ys none = by_test (p y) refl (sym (count-cons p y ys) ∙ none)
  where
    by_test : (b : Bool) → p y ≡ b → cond b 1 0 + count_by p ys ≡ 0 → (p y ≡ false) × (count_by p ys ≡ 0)
    by_test true is sum = absurd (omega (arith, sum))
    by_test false is sum = (is, omega (arith, sum))

IsLess-from : (x : Entry) (ys : List Entry) → NoneLess by_crowd x ys → count_by (λ (entry : Entry). entry.position == x.position) ys ≡ 0 → IsLess x ys
IsLess-from x [] none alone = tt
IsLess-from x (y ∷ ys) none alone =
    let both = none_here (λ (entry : Entry). entry.position == x.position) y ys alone in
    (comes_before x y none.0 both.0, IsLess-from x ys none.1 both.1)

AreStrict-from : (list : List Entry) → Rises by_crowd list → AreSingle list → AreStrict list
AreStrict-from [] up single = tt
AreStrict-from (x ∷ xs) up single = (IsLess-from x xs up.0 (no_other x xs single), AreStrict-from xs up.1 (AreSingle-tail x xs single))

module _ (form : Form) (rows : List Row) (padded : All (IsPadded form) rows) where
  abbrev IsInside : ℕ → Type 0
  IsInside place = place < length rows

  NoneLess-picked : (one : ℕ) (places : List ℕ) → IsInside one → All IsInside places → NoneLess (by_place rows) one places → NoneLess by_crowd (entry_at form rows one) (picked form rows places)
  NoneLess-picked one [] here all none = tt
  NoneLess-picked one (other ∷ places) here all none = (
    ap is_lt (sym (place_order form rows other one padded (All-head IsInside other places all) here)) ∙ none.0,
    NoneLess-picked one places here (All-tail IsInside other places all) none.1,
  )

  Rises-picked : (places : List ℕ) → All IsInside places → Rises (by_place rows) places → Rises by_crowd (picked form rows places)
  Rises-picked [] all up = tt
  Rises-picked (place ∷ places) all up =
      (NoneLess-picked place places (All-head IsInside place places all) (All-tail IsInside place places all) up.0, Rises-picked places (All-tail IsInside place places all) up.1)

  module _ (order : List ℕ) (moved : IsPermutation (below (length rows)) order) where
    pub all_inside : All IsInside order
    all_inside = All-permutation IsInside _ _ moved (inside-below (length rows))

    -- the entries at the places are those of the rows
    pub picked-permutation : IsPermutation (entries_in form rows) (picked form rows order)
    picked-permutation = subst (λ list. IsPermutation list (picked form rows order)) (picked-all (entry_row form) blank rows) (IsPermutation-map (entry_at form rows) _ _ moved)

    -- and sorted, each comes before those behind it
    pub AreStrict-sorted : (high : ℕ) → IsSorted (by_place rows) order → RiseWithin 0 high (entries_in form rows) → AreStrict (picked form rows order)
    AreStrict-sorted high sorted rise =
        AreStrict-from (picked form rows order) (Rises-picked order all_inside (Rises-from_sorted (places_total rows) order sorted))
        (λ position. subst (λ n. n ≤ 1) (sym (sum_by-IsPermutation (λ (entry : Entry). cond (entry.position == position) 1 0) _ _ picked-permutation)) (AreSingle-rise 0 high (entries_in form rows) rise position))
