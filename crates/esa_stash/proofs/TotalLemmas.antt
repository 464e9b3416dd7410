-- Sums over the numbers below a limit, and how often each target comes.
use Rattle.std.proofs.Common.{◌≡◌, ℕ, zero, suc, ◌+◌, ◌-◌, ◌<◌, ◌≤◌, List, [], ◌∷◌, length, get_or, set, map, take, replicate, sum_by, eqb, Bool, cond, refl, sym, ap, ◌∙◌, arith, inl, inr, get_or-set_other, get_or-set_same}
use Rattle.std.proofs.lemmas.List.{take_more, length-set}
use Rattle.std.proofs.lemmas.List.Sums.{count_by-le-length}
use Rattle.std.proofs.lemmas.List.FromFn.{get_or-map-range_with_len, length-map-range_with_len, fill_by_all}
use Rattle.std.proofs.lemmas.Bool.{cases_eq, eq-eqb, ne_eqb}
use Rattle.std.specs.List.{range_with_len}
use Rattle.esa_laws.proofs.Ranges.{sum-below-suc}
use Rattle.esa_stash.specs.Sizes.{below}
use Rattle.esa_stash.specs.Links.{occurrences}
use Rattle.esa_stash.specs.Dealing.{arrivals}
use Rattle.esa_stash.proofs.Partitions.{occurrences-cons, occurrences-append}

-- one number more
pub sum_by-below : (f : ℕ → ℕ) (n : ℕ) → sum_by f (below (n + 1)) ≡ sum_by f (below n) + f n
sum_by-below f n =
    let more : n + 1 ≡ suc n = omega arith in
    ap (λ (k : ℕ). sum_by f (below k)) more ∙ sum-below-suc f n

-- a part of the sum is within the whole
pub sum_by-below-le : (f : ℕ → ℕ) (k d : ℕ) → sum_by f (below k) ≤ sum_by f (below (k + d))
sum_by-below-le f k zero = let same : k + 0 ≡ k = omega arith in omega (arith, ap (λ (n : ℕ). sum_by f (below n)) same)
sum_by-below-le f k (suc d) =
    let rest = sum_by-below-le f k d in
    let more = sum_by-below f (k + d) in
    let same : k + suc d ≡ k + d + 1 = omega arith in
    omega (arith, ap (λ (n : ℕ). sum_by f (below n)) same)

pub sum_by-below-within : (f : ℕ → ℕ) (k n : ℕ) → k < n → sum_by f (below k) + f k ≤ sum_by f (below n)
sum_by-below-within f k n inside =
    let one = sum_by-below f k in
    let rest = sum_by-below-le f (k + 1) (n - (k + 1)) in
    let same : k + 1 + (n - (k + 1)) ≡ n = omega arith in
    omega (arith, ap (λ (m : ℕ). sum_by f (below m)) same)

-- none has come yet
pub none_counted : (a n : ℕ) → replicate n 0 ≡ map (arrivals []) (range_with_len a n)
none_counted a zero = refl
none_counted a (suc n) = ap (λ (l : List ℕ). 0 ∷ l) (none_counted (a + 1) n)

pub arrivals-le : (targets : List ℕ) (i : ℕ) → arrivals targets i ≤ length targets
arrivals-le targets i = count_by-le-length (λ (other : ℕ). eqb other i) targets

-- one target more
pub arrivals-more : (targets : List ℕ) (k i : ℕ) → k < length targets → arrivals (take (k + 1) targets) i ≡ arrivals (take k targets) i + (cond (eqb (get_or targets k 0) i) 1 0)
arrivals-more targets k i inside =
    let one = occurrences-cons i (get_or targets k 0) [] in
    ap (occurrences i) (take_more targets k 0 inside)
    ∙ occurrences-append i (take k targets) (get_or targets k 0 ∷ [])
    ∙ ap (λ (n : ℕ). arrivals (take k targets) i + n) (one ∙ omega arith)

module _ (targets : List ℕ) (k n read : ℕ) (inside : k < length targets) (target_inside : get_or targets k 0 < n) (read_is : read ≡ get_or (map (arrivals (take k targets)) (below n)) (get_or targets k 0) 0) where
  abbrev target : ℕ
  target = get_or targets k 0

  pub count_read : read ≡ arrivals (take k targets) target
  count_read = read_is ∙ get_or-map-range_with_len (arrivals (take k targets)) 0 n target target 0 target_inside (omega arith)

  pub counted-more : set (map (arrivals (take k targets)) (below n)) target (read + 1) ≡ map (arrivals (take (k + 1) targets)) (below n)
  counted-more =
      let before = map (arrivals (take k targets)) (below n) in
      let long : length before ≡ n = length-map-range_with_len (arrivals (take k targets)) 0 n in
      fill_by_all (arrivals (take (k + 1) targets)) (set before target (read + 1)) n 0 (length-set before target (read + 1) ∙ long) (λ i i_in.
      let more = arrivals-more targets k i inside in
      let old = get_or-map-range_with_len (arrivals (take k targets)) 0 n i i 0 i_in (omega arith) in
      let here = get_or-set_same before target (read + 1) 0 in
      let there = get_or-set_other before target i (read + 1) 0 in
      let is = count_read in
      elim (cases_eq i target) [
        | inl same ↦
            let moved = ap (arrivals (take k targets)) same in
            let one = ap (λ (b : Bool). cond {A = ℕ} b 1 0) (eq-eqb target i (sym same)) in
            let after : read + 1 ≡ arrivals (take (k + 1) targets) i = omega arith in
            ap (λ (j : ℕ). get_or (set before target (read + 1)) j 0) same ∙ here (omega arith) ∙ after
        | inr other ↦
            let none = ap (λ (b : Bool). cond {A = ℕ} b 1 0) (ne_eqb target i (λ e. other (sym e))) in
            let after : get_or before i 0 ≡ arrivals (take (k + 1) targets) i = omega arith in
            there other ∙ after
      ])
