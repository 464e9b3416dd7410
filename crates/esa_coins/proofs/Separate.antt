-- Counting separators on the way through a shuffled list.
use Rattle.std.proofs.Common.{◌≡◌, ℕ, ◌+◌, ◌<◌, ◌≤◌, ◌==◌, ◌⊎◌, nat_le, nat_eq, List, length, get_or, set, take, inl, inr, refl, ap, sym, ◌∙◌, arith}
use Rattle.std.specs.Cmp.{nat_eq_equiv}
use Rattle.std.specs.List.{IsDistinct, count_by, position_or_len}
use Rattle.std.specs.List.Sorted.{IsPermutation}
use Rattle.std.proofs.lemmas.Bool.{eqb-true, eqb-false, le-leb, lt-leb, cases_lt}
use Rattle.std.proofs.lemmas.Grind.{get_or-set_at}
use Rattle.std.proofs.lemmas.List.{ext_get_or, get_or-set_other}
use Rattle.std.proofs.lemmas.List.Folds.{list_any_none}
use Rattle.std.proofs.lemmas.List.Sums.{count_by_more_yes, count_by_more_no, fails_before_first, passes_at_first}
use Rattle.std.proofs.lemmas.Map.Keys.{IsDistinct-IsPermutation, apart_from_distinct}
use Rattle.esa_params.specs.Sizes.{below}
use Rattle.esa_coins.specs.Seeded.{separated}
use Rattle.esa_coins.specs.Separators.{length-separated, separated_at}
use Rattle.esa_coins.proofs.Different.{IsDistinct-below}
use Rattle.esa_coins.proofs.Found.{found-permuted}

-- how many of the first k entries are separators
abbrev passed : ℕ → List ℕ → ℕ → ℕ
passed n entries k = count_by (λ entry. nat_le n entry) (take k entries)

-- the first i entries are dealt with: those below n have the number of separators before them
pub record Counted (n : ℕ) (entries : List ℕ) (i seen : ℕ) (out : List ℕ) : Type 0 where
  pub count : seen ≡ passed n entries i
  pub written : (k : ℕ) → k < i → get_or entries k 0 < n → get_or out (get_or entries k 0) 0 ≡ passed n entries k

pub none_counted : (n : ℕ) (entries out : List ℕ) → Counted n entries 0 0 out
none_counted n entries out = record { count = refl; written = λ k none. absurd (omega arith) }

-- an entry is reached
pub entry_counted : (n : ℕ) (entries : List ℕ) (i seen : ℕ) (out : List ℕ) → i < length entries → get_or entries i 0 < n → length out ≡ n → IsDistinct nat_eq entries → Counted n entries i seen out → Counted n entries (i + 1) seen (set out (get_or entries i 0) seen)
entry_counted n entries i seen out inside place full apart so_far =
    record {
      count = so_far.count ∙ sym (count_by_more_no (λ entry. nat_le n entry) entries i 0 inside (lt-leb n (get_or entries i 0) place));
      written = λ k within small. written_to k within small (cases_lt k i);
    }
  where
    written_to : (k : ℕ) → k < i + 1 → get_or entries k 0 < n → (k < i) ⊎ (i ≤ k) → get_or (set out (get_or entries i 0) seen) (get_or entries k 0) 0 ≡ passed n entries k
    written_to k within small (inl before) =
        get_or-set_other out (get_or entries i 0) (get_or entries k 0) seen 0 (eqb-false _ _ (apart_from_distinct nat_eq entries k i 0 apart before inside))
        ∙ so_far.written k before small
    written_to k within small (inr now) =
        let same : k ≡ i = omega arith in
        get_or-set_at out (get_or entries i 0) (get_or entries k 0) seen 0 (ap (λ j. get_or entries j 0) same) (omega arith)
        ∙ so_far.count ∙ ap (passed n entries) (sym same)

-- a separator is reached
pub separator_counted : (n : ℕ) (entries : List ℕ) (i seen : ℕ) (out : List ℕ) → i < length entries → n ≤ get_or entries i 0 → Counted n entries i seen out → Counted n entries (i + 1) (seen + 1) out
separator_counted n entries i seen out inside separates so_far =
    record {
      count = ap (λ m. m + 1) so_far.count ∙ sym (count_by_more_yes (λ entry. nat_le n entry) entries i 0 inside (le-leb n (get_or entries i 0) separates));
      written = λ k within small. so_far.written k (before k within small) small;
    }
  where
    before : (k : ℕ) → k < i + 1 → get_or entries k 0 < n → k < i
    before k within small = apart k within small (cases_lt k i)
      where
        apart : (k : ℕ) → k < i + 1 → get_or entries k 0 < n → (k < i) ⊎ (i ≤ k) → k < i
        apart k within small (inl less) = less
        apart k within small (inr now) =
            let same : get_or entries k 0 ≡ get_or entries i 0 = ap (λ j. get_or entries j 0) (omega arith) in
            absurd (omega arith)

-- each number below the length stands in the entries
stands_at : (x : ℕ) (entries : List ℕ) → IsPermutation (below (length entries)) entries → x < length entries → position_or_len (λ entry. entry == x) entries < length entries
stands_at x entries permutes inside =
    elim (cases_lt (position_or_len (λ entry. entry == x) entries) (length entries)) [
      | inl less ↦ less
      | inr none ↦ cc (sym (found-permuted (length entries) x entries permutes inside)
          ∙ list_any_none (λ entry. entry == x) entries (λ k d within. fails_before_first (λ entry. entry == x) entries k d (omega arith)))
    ]

pub distinct_entries : (entries : List ℕ) → IsPermutation (below (length entries)) entries → IsDistinct nat_eq entries
distinct_entries entries permutes =
    IsDistinct-IsPermutation nat_eq nat_eq_equiv.symm (below (length entries)) entries permutes (IsDistinct-below (length entries))

pub all_counted : (n : ℕ) (entries : List ℕ) (i seen : ℕ) (out : List ℕ) → IsPermutation (below (length entries)) entries → n ≤ length entries → length entries ≤ i → length out ≡ n → Counted n entries i seen out → out ≡ separated n entries
all_counted n entries i seen out permutes within whole full so_far =
    ext_get_or 0 out (separated n entries) (full ∙ sym (length-separated n entries)) (λ x inside.
    let at = position_or_len (λ entry. entry == x) entries in
    let there = stands_at x entries permutes (omega arith) in
    let is : get_or entries at 0 ≡ x = eqb-true (get_or entries at 0) x (passes_at_first (λ entry. entry == x) entries 0 there) in
    ap (λ y. get_or out y 0) (sym is) ∙ so_far.written at (omega arith) (omega (arith, is)) ∙ sym (separated_at n entries x (omega arith)))
