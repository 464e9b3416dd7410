-- All cells in the first of some lists, in rising order.
use Rattle.std.proofs.Common.{◌≡◌, ℕ, zero, suc, ◌+◌, ◌-◌, ◌*◌, ◌^◌, ◌<◌, ◌≤◌, List, [], ◌∷◌, length, get_or, map, replicate, nat_lt, if◌then◌else◌, refl, sym, ap, ap₂, ◌∙◌, arith, subst, inl, inr}
use Rattle.std.specs.List.{range_with_len}
use Rattle.std.proofs.lemmas.List.Sums.{sum_by-cons}
use Rattle.std.proofs.lemmas.List.Folds.{sum_by-replicate}
use Rattle.std.proofs.lemmas.List.Elements.{All-cons, All-replicate}
use Rattle.std.proofs.lemmas.List.FromFn.{get_or-map-range_with_len, length-map-range_with_len, length-range_with_len, get_or-range_with_len}
use Rattle.std.proofs.lemmas.Bool.{cases_eq}
use Rattle.std.proofs.Math.Nat.{mul-zero}
use Rattle.esa_stash.specs.Links.{occurrences, cells_from, IsPartition}
use Rattle.esa_stash.specs.Ends.{cells_of, EndsInLast, AreLinked, rising_ends, no_ends}
use Rattle.esa_stash.proofs.Partitions.{occurrences-cons}

pub map-replicate : {X Y : Type 0} (f : X → Y) (n : ℕ) (x : X) → map f (replicate n x) ≡ replicate n (f x)
map-replicate f zero x = refl
map-replicate {Y = Y} f (suc n) x = ap (λ (l : List Y). f x ∷ l) (map-replicate f n x)

-- each cell up to n followed by the next number
abbrev pub rising : ℕ → List ℕ
rising n = map (λ (cell : ℕ). cell + 1) (range_with_len 0 n)

cells_from-rising : (n k j : ℕ) → k + j ≤ n → cells_from (rising n) k j ≡ range_with_len k j
cells_from-rising n k zero fits = refl
cells_from-rising n k (suc j) fits =
    let next : get_or (rising n) k 0 ≡ k + 1 = get_or-map-range_with_len (λ (cell : ℕ). cell + 1) 0 n k k 0 (omega arith) (omega arith) in
    ap (λ (l : List ℕ). k ∷ l) (ap (λ (c : ℕ). cells_from (rising n) c j) next ∙ cells_from-rising n (k + 1) j (omega arith))

occurrences-below : (x k j : ℕ) → x < k → occurrences x (range_with_len k j) ≡ 0
occurrences-below x k zero below = refl
occurrences-below x k (suc j) below =
    let head = occurrences-cons x k (range_with_len (k + 1) j) in
    let rest = occurrences-below x (k + 1) j (omega arith) in
    grind arith

pub occurrences-range : (x k j : ℕ) → k ≤ x → occurrences x (range_with_len k j) ≡ (if nat_lt x (k + j) then 1 else 0)
occurrences-range x k zero up = grind arith
occurrences-range x k (suc j) up =
    let head = occurrences-cons x k (range_with_len (k + 1) j) in
    elim (cases_eq x k) [
      | inl same ↦
          let rest = occurrences-below x (k + 1) j (omega arith) in
          grind arith
      | inr other ↦
          let rest = occurrences-range x (k + 1) j (omega arith) in
          grind arith
    ]

pub IsPartition-rising : (n lists : ℕ) → IsPartition n (range_with_len 0 n ∷ replicate lists [])
IsPartition-rising n lists = record {
  once = λ cell.
      let split = sum_by-cons (occurrences cell) (range_with_len 0 n) (replicate lists []) in
      let empty = sum_by-replicate (occurrences cell) lists [] in
      let none : lists * occurrences cell [] ≡ 0 = mul-zero lists in
      let first = occurrences-range cell 0 n (omega arith) in
      grind arith;
  total =
      let split = sum_by-cons (length {A = ℕ}) (range_with_len 0 n) (replicate lists []) in
      let empty = sum_by-replicate (length {A = ℕ}) lists [] in
      let none : lists * length {A = ℕ} [] ≡ 0 = mul-zero lists in
      let first = length-range_with_len 0 n in
      grind arith;
}

pub cells_of-rising : (n lists : ℕ) → map (cells_of (rising n)) (rising_ends n ∷ replicate lists no_ends) ≡ range_with_len 0 n ∷ replicate lists []
cells_of-rising n lists =
    ap₂ (λ (l : List ℕ) (ls : List (List ℕ)). l ∷ ls) (cells_from-rising n 0 n (omega arith)) (map-replicate (cells_of (rising n)) lists no_ends)

pub AreLinked-rising : (n lists : ℕ) → n < 2 ^ 32 → AreLinked (rising n) (rising_ends n ∷ replicate lists no_ends)
AreLinked-rising n lists small =
    let room : length (rising n) ≡ n = length-map-range_with_len (λ (cell : ℕ). cell + 1) 0 n in
    record {
      small = omega arith;
      partition =
          subst (λ (l : List (List ℕ)). IsPartition (length (rising n)) l) (sym (cells_of-rising n lists))
          (subst (λ (k : ℕ). IsPartition k (range_with_len 0 n ∷ replicate lists [])) (sym room) (IsPartition-rising n lists));
      last =
          All-cons (EndsInLast (rising n)) (rising_ends n) (replicate lists no_ends)
          (λ some. ap (λ (l : List ℕ). get_or l (n - 1) 0) (cells_from-rising n 0 n (omega arith)) ∙ get_or-range_with_len 0 n (n - 1) 0 (omega arith) ∙ omega arith)
          (All-replicate (EndsInLast (rising n)) lists no_ends (λ some. absurd (omega arith)));
    }

pub length-rising : (n : ℕ) → length (rising n) ≡ n
length-rising n = length-map-range_with_len (λ (cell : ℕ). cell + 1) 0 n
