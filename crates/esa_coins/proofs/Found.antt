-- A permutation of the numbers below n names each of them.
use Rattle.std.proofs.Common.{◌≡◌, ℕ, ◌<◌, ◌==◌, Bool, true, List, get_or, refl, sym, ap, ◌∙◌, arith, zero-add}
use Rattle.std.specs.List.{list_all, list_any}
use Rattle.std.specs.List.Sorted.{IsPermutation}
use Rattle.std.proofs.lemmas.Bool.{eq-eqb}
use Rattle.std.proofs.lemmas.List.Folds.{list_any_at}
use Rattle.std.proofs.lemmas.List.Sums.{list_all-from_AllPass}
use Rattle.std.proofs.lemmas.List.FromFn.{length-range_with_len, get_or-range_with_len}
use Rattle.std.proofs.lemmas.List.Sorted.{list_any-IsPermutation}
use Rattle.esa_params.specs.Sizes.{below}

-- a number below n that passes is among those below n
pub any_below : (test : ℕ → Bool) (n x : ℕ) → x < n → test x ≡ true → list_any test (below n) ≡ true
any_below test n x inside passes =
    let at : get_or (below n) x 0 ≡ x = get_or-range_with_len 0 n x 0 inside ∙ zero-add x in
    list_any_at test (below n) x 0 (omega (arith, length-range_with_len 0 n)) (ap test at ∙ passes)

pub found-permuted : (n x : ℕ) (order : List ℕ) → IsPermutation (below n) order → x < n → list_any (λ y. y == x) order ≡ true
found-permuted n x order permutes inside =
    sym (list_any-IsPermutation (λ y. y == x) (below n) order permutes) ∙ any_below (λ y. y == x) n x inside (eq-eqb x x refl)

pub all_found : (n : ℕ) (order : List ℕ) → IsPermutation (below n) order → list_all (λ x. list_any (λ y. y == x) order) (below n) ≡ true
all_found n order permutes =
    list_all-from_AllPass (λ x. list_any (λ y. y == x) order) (below n) (λ k d inside.
    let within : k < n = omega (arith, length-range_with_len 0 n) in
    let at : get_or (below n) k d ≡ k = get_or-range_with_len 0 n k d within ∙ zero-add k in
    ap (λ x. list_any (λ y. y == x) order) at ∙ found-permuted n k order permutes within)
