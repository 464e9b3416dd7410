-- A test of each place of a block.
use Rattle.std.proofs.Common.{◌≡◌, ℕ, ◌+◌, ◌<◌, ◌≤◌, Bool, true, false, length, take, get_or, arith, ◌∙◌, ap, sym, inl, inr}
use Rattle.std.specs.List.{list_all}
use Rattle.std.proofs.lemmas.Bool.{cases_Bool}
use Rattle.std.proofs.lemmas.List.{take_all}
use Rattle.std.proofs.lemmas.List.FromFn.{get_or-range_with_len, length-range_with_len}
use Rattle.std.proofs.lemmas.List.Folds.{list_all_at, list_all_more}
use Rattle.esa_params.specs.Sizes.{below}

-- the number at a place of a range from 0 on
at_place : (n place : ℕ) → place < n → get_or (below n) place 0 ≡ place
at_place n place inside =
    let same : 0 + place ≡ place = omega arith in
    get_or-range_with_len 0 n place 0 inside ∙ same

-- the places before one passed, and it does
pub passes_more : (test : ℕ → Bool) (n place : ℕ) → place < n → list_all test (take place (below n)) ≡ true → test place ≡ true
    → list_all test (take (place + 1) (below n)) ≡ true
passes_more test n place inside before here =
    let room : place < length (below n) = omega (arith, length-range_with_len 0 n) in
    list_all_more test (below n) place 0 room ∙ rw (before, at_place n place inside) here

-- a place doesn't pass
pub passes_not : (test : ℕ → Bool) (n place : ℕ) → place < n → test place ≡ false → list_all test (below n) ≡ false
passes_not test n place inside here =
    let room : place < length (below n) = omega (arith, length-range_with_len 0 n) in
    list_all_at test (below n) place 0 room (ap test (at_place n place inside) ∙ here)

-- all places passed
pub passes_all : (test : ℕ → Bool) (n place : ℕ) → n ≤ place → list_all test (take place (below n)) ≡ true → list_all test (below n) ≡ true
passes_all test n place end all =
    sym (ap (list_all test) (take_all place (below n) (omega (arith, length-range_with_len 0 n)))) ∙ all

-- where all places passed, each of them did
pub passed : (test : ℕ → Bool) (n place : ℕ) → place < n → list_all test (below n) ≡ true → test place ≡ true
passed test n place inside all = elim (cases_Bool (test place)) [
  | inl does ↦ does
  | inr not ↦ cc (passes_not test n place inside not, all)
]
