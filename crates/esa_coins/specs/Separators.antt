-- B - 1 separators leave each target below B.
use Rattle.std.proofs.Common.{◌≡◌, ℕ, zero, suc, ◌+◌, ◌-◌, ◌<◌, ◌≤◌, ◌==◌, true, false, cond, nat_le, List, length, get_or, All, refl, ◌∙◌, arith}
use Rattle.std.specs.List.{count_by, range_with_len, position_or_len}
use Rattle.std.specs.List.Sorted.{IsPermutation}
use Rattle.std.proofs.lemmas.Bool.{leb-true, leb-false, le-leb}
use Rattle.std.proofs.lemmas.List.Elements.{All-from_get_or}
use Rattle.std.proofs.lemmas.List.FromFn.{length-map-range_with_len, get_or-map-range_with_len}
use Rattle.std.proofs.lemmas.List.Sorted.{sum_by-IsPermutation}
use Rattle.std.proofs.lemmas.List.Sums.{sum_by-cons, sum_by-take-le}
use Rattle.esa_params.specs.Sizes.{below}
use Rattle.esa_coins.specs.Seeded.{separators_before, separated}

-- how many numbers are n or more
abbrev many : ℕ → List ℕ → ℕ
many n xs = count_by (λ x. nat_le n x) xs

-- numbers from a on, all of which are n or more
many-from : (n a wanted : ℕ) → n ≤ a → many n (range_with_len a wanted) ≡ wanted
many-from n a zero from = refl
many-from n a (suc wanted) from =
    let head = le-leb n a from in
    let rest = many-from n (a + 1) wanted (omega arith) in
    sum_by-cons (λ x. cond (nat_le n x) 1 0) a (range_with_len (a + 1) wanted) ∙ rw (head, rest) (omega arith)

-- numbers from a on, of which those from n on are more
many-across : (n a wanted more : ℕ) → a ≤ n → n + more ≡ a + wanted → many n (range_with_len a wanted) ≡ more
many-across n a zero more low meets = omega arith
many-across n a (suc wanted) more low meets =
    sum_by-cons (λ x. cond (nat_le n x) 1 0) a (range_with_len (a + 1) wanted) ∙ elim (nat_le n a)
    as (λ reached. nat_le n a ≡ reached → cond reached 1 0 + many n (range_with_len (a + 1) wanted) ≡ more) [
      | true ↦ λ reached.
          let at = leb-true n a reached in
          let rest = many-from n (a + 1) wanted (omega arith) in
          rw rest (omega arith)
      | false ↦ λ reached.
          let under = leb-false n a reached in
          let rest = many-across n (a + 1) wanted more (omega arith) (omega arith) in
          rw rest (omega arith)
    ] refl

pub length-separated : (n : ℕ) (entries : List ℕ) → length (separated n entries) ≡ n
length-separated n entries = length-map-range_with_len (λ x. separators_before n x entries) 0 n

pub separated_at : (n : ℕ) (entries : List ℕ) (x : ℕ) → x < n → get_or (separated n entries) x 0 ≡ separators_before n x entries
separated_at n entries x inside = get_or-map-range_with_len (λ x. separators_before n x entries) 0 n x x 0 inside (omega arith)

pub separated-below : (n b : ℕ) (entries : List ℕ) → 0 < b → IsPermutation (below (n + b - 1)) entries → All (λ target. target < b) (separated n entries)
separated-below n b entries some permutes =
    let separates : ℕ → ℕ = λ x. cond (nat_le n x) 1 0 in
    let whole = sum_by-IsPermutation separates (below (n + b - 1)) entries permutes in
    let all = many-across n 0 (n + b - 1) (b - 1) (omega arith) (omega arith) in
    All-from_get_or (λ target. target < b) (separated n entries) 0 (λ x inside.
    let within : x < n = omega (arith, length-separated n entries) in
    let least = sum_by-take-le separates entries (position_or_len (λ entry. entry == x) entries) in
    rw (separated_at n entries x within) (omega (arith, least, whole, all)))
