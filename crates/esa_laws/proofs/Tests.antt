-- Tests of numbers, and what they tell.
use Rattle.std.proofs.Common.{◌≡◌, ◌≢◌, ℕ, ◌≤◌, Bool, true, false, cond, ◌==◌, nat_lt, arith}
use Rattle.std.proofs.lemmas.Bool.Decides.{nat_tests}

-- 1 where a test passes, 0 where it doesn't
abbrev pub bit : Bool → ℕ
bit c = cond c 1 0

pub same : (i : ℕ) → (i == i) ≡ true
same i = grind (arith, nat_tests)

pub equal : (i j : ℕ) → (i == j) ≡ true → i ≡ j
equal i j e = grind (arith, nat_tests)

pub unequal : (i j : ℕ) → i ≢ j → (i == j) ≡ false
unequal i j ne = grind (arith, nat_tests)

pub not_above : (k m : ℕ) → nat_lt k m ≡ false → m ≤ k
not_above k m e = grind (arith, nat_tests)
