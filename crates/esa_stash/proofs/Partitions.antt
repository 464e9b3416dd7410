-- Lists that share out cells, and a cell that goes from one to another.
use Rattle.std.proofs.Common.{◌≡◌, ◌≢◌, ℕ, ◌+◌, ◌<◌, ◌≤◌, List, [], ◌∷◌, ◌++◌, length, take, drop, get_or, set, sum_by, eqb, cond, if◌then◌else◌, sym, ap, ◌∙◌, arith, length-append, length-set, get_or-set_other, take-append-drop}
use Rattle.std.proofs.lemmas.List.Sums.{sum_by-set, sum_by-append, sum_by-cons, get_or-le-sum_by}
use Rattle.esa_stash.specs.Links.{occurrences, IsPartition, list_at, shifted}

pub occurrences-cons : (x y : ℕ) (l : List ℕ) → occurrences x (y ∷ l) ≡ (if eqb y x then 1 else 0) + occurrences x l
occurrences-cons x y l = sum_by-cons (λ (other : ℕ). cond (eqb other x) 1 0) y l

pub occurrences-append : (x : ℕ) (l m : List ℕ) → occurrences x (l ++ m) ≡ occurrences x l + occurrences x m
occurrences-append x l m = sum_by-append (λ (other : ℕ). cond (eqb other x) 1 0) l m

-- a measure that adds up over joined lists stays the same where a cell goes from one to another
sum_by-shifted : (f : List ℕ → ℕ) (adds : (l m : List ℕ) → f (l ++ m) ≡ f l + f m) (lists : List (List ℕ)) (from to : ℕ) → from < length lists → to < length lists → from ≢ to → sum_by f (shifted lists from to) ≡ sum_by f lists
sum_by-shifted f adds lists from to from_in to_in apart =
    let source = list_at lists from in
    let target = list_at lists to in
    let less = set lists from (drop 1 source) in
    let taken = sum_by-set f lists from (drop 1 source) [] from_in in
    let put_in : to < length less = simp length-set to_in in
    let put = sum_by-set f less to (target ++ take 1 source) [] put_in in
    let swapped : to ≢ from = λ e. apart (sym e) in
    let same : get_or less to [] ≡ target = get_or-set_other lists from to (drop 1 source) [] swapped in
    let same_f = ap f same in
    let parts = ap f (take-append-drop 1 source) in
    let joined = adds (take 1 source) (drop 1 source) in
    let longer = adds target (take 1 source) in
    omega arith

pub IsPartition-shifted : (room : ℕ) (lists : List (List ℕ)) (from to : ℕ) → from < length lists → to < length lists → from ≢ to → IsPartition room lists → IsPartition room (shifted lists from to)
IsPartition-shifted room lists from to from_in to_in apart whole = record {
  once = λ cell. sum_by-shifted (occurrences cell) (occurrences-append cell) lists from to from_in to_in apart ∙ whole.once cell;
  total = sum_by-shifted length (λ l m. length-append l m) lists from to from_in to_in apart ∙ whole.total;
}

-- what two of the lists hold is within what all hold
pub two-le-sum_by : (f : List ℕ → ℕ) (lists : List (List ℕ)) (i j : ℕ) → i < length lists → j < length lists → i ≢ j → f (list_at lists i) + f (list_at lists j) ≤ sum_by f lists + f []
two-le-sum_by f lists i j i_in j_in apart =
    let less = set lists i [] in
    let taken = sum_by-set f lists i [] [] i_in in
    let put_in : j < length less = simp length-set j_in in
    let swapped : j ≢ i = λ e. apart (sym e) in
    let same = ap f (get_or-set_other lists i j [] [] swapped) in
    let least = get_or-le-sum_by f less j [] put_in in
    omega arith

module _ (room : ℕ) (lists : List (List ℕ)) (whole : IsPartition room lists) where
  -- a cell that stands in a list is one of the cells
  pub below_room : (i cell : ℕ) → i < length lists → 0 < occurrences cell (list_at lists i) → cell < room
  below_room i cell i_in there =
      let least = get_or-le-sum_by (occurrences cell) lists i [] i_in in
      let once = whole.once cell in
      grind arith

  -- it stands there once
  pub once_in : (i cell : ℕ) → i < length lists → occurrences cell (list_at lists i) ≤ 1
  once_in i cell i_in =
      let least = get_or-le-sum_by (occurrences cell) lists i [] i_in in
      let once = whole.once cell in
      grind arith

  -- and in no other list
  pub nowhere_else : (i j cell : ℕ) → i < length lists → j < length lists → i ≢ j → 0 < occurrences cell (list_at lists i) → occurrences cell (list_at lists j) ≡ 0
  nowhere_else i j cell i_in j_in apart there =
      let both = two-le-sum_by (occurrences cell) lists i j i_in j_in apart in
      let once = whole.once cell in
      grind arith
