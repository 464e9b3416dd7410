-- A sort key of a value: the value, zero bytes up to a length, and what tells the value's length.
use Rattle.std.proofs.Common.{◌≡◌, ℕ, zero, suc, ◌+◌, ◌-◌, ◌<◌, ◌≤◌, List, [], ◌∷◌, ◌++◌, length, replicate, refl, sym, ap, ◌∙◌, arith, add-zero}
use Rattle.std.specs.declared.cmp.Ordering.{Ordering}
use Rattle.std.specs.declared.cmp.Ordering.TheVariants.{Less}
use Rattle.std.specs.Ordering.{nat_cmp, ordering_then, ordering_reverse}
use Rattle.std.specs.Cmp.Lexicographic.{slice_cmp}
use Rattle.std.proofs.lemmas.Cmp.{tied_itself, nat_cmp_total, nat_list_cmp_total}
use Rattle.std.proofs.lemmas.Bool.Decides.{nat_tests}

-- the value, zero bytes up to a length, and a mark of its length, where k bytes stood before
abbrev pub padded : (ℕ → List ℕ) → ℕ → ℕ → List ℕ → List ℕ
padded mark n k [] = replicate n 0 ++ mark k
padded mark zero k (x ∷ xs) = x ∷ xs ++ mark (k + 1 + length xs)
padded mark (suc n) k (x ∷ xs) = x ∷ padded mark n (k + 1) xs

pub less_number : (x y : ℕ) → x < y → nat_cmp x y ≡ Less
less_number x y less = grind (arith, nat_tests)

same_head : (x : ℕ) (o : Ordering) → ordering_then (nat_cmp x x) o ≡ o
same_head x o = ap (λ r. ordering_then r o) (tied_itself nat_cmp_total x)

same_front : (zs xs ys : List ℕ) → slice_cmp nat_cmp (zs ++ xs) (zs ++ ys) ≡ slice_cmp nat_cmp xs ys
same_front [] xs ys = refl
same_front (z ∷ zs) xs ys = same_head z _ ∙ same_front zs xs ys

module _ (mark : ℕ → List ℕ) (rises : (a b : ℕ) → a < b → slice_cmp nat_cmp (mark a) (mark b) ≡ Less) where
  -- zero bytes in place of further bytes come first
  shorter : (n k j : ℕ) (ys : List ℕ) → length ys ≤ n → j < k → slice_cmp nat_cmp (replicate n 0 ++ mark j) (padded mark n k ys) ≡ Less
  shorter n k j [] short less = same_front (replicate n 0) (mark j) (mark k) ∙ rises j k less
  shorter zero k j (y ∷ ys) short less = absurd (omega arith)
  shorter (suc n) k j (zero ∷ ys) short less = shorter n (k + 1) j ys (omega arith) (omega arith)
  shorter (suc n) k j (suc y ∷ ys) short less =
      ap (λ o. ordering_then o (slice_cmp nat_cmp (replicate n 0 ++ mark j) (padded mark n (k + 1) ys))) (less_number 0 (suc y) (omega arith))

  empty_first : (n k y : ℕ) (ys : List ℕ) → suc (length ys) ≤ n → slice_cmp nat_cmp (padded mark n k []) (padded mark n k (y ∷ ys)) ≡ Less
  empty_first zero k y ys short = absurd (omega arith)
  empty_first (suc n) k zero ys short = shorter n (k + 1) k ys (omega arith) (omega arith)
  empty_first (suc n) k (suc y) ys short =
      ap (λ o. ordering_then o (slice_cmp nat_cmp (replicate n 0 ++ mark k) (padded mark n (k + 1) ys))) (less_number 0 (suc y) (omega arith))

  pub order-padded : (n k : ℕ) (xs ys : List ℕ) → length xs ≤ n → length ys ≤ n → slice_cmp nat_cmp (padded mark n k xs) (padded mark n k ys) ≡ slice_cmp nat_cmp xs ys
  order-padded n k [] [] xs_short ys_short = tied_itself nat_list_cmp_total (replicate n 0 ++ mark k)
  order-padded n k [] (y ∷ ys) xs_short ys_short = empty_first n k y ys ys_short
  order-padded n k (x ∷ xs) [] xs_short ys_short =
      nat_list_cmp_total.antisymm (padded mark n k (x ∷ xs)) (padded mark n k [])
      ∙ ap ordering_reverse (empty_first n k x xs xs_short)
  order-padded zero k (x ∷ xs) (y ∷ ys) xs_short ys_short = absurd (omega arith)
  order-padded (suc n) k (x ∷ xs) (y ∷ ys) xs_short ys_short =
      ap (λ o. ordering_then (nat_cmp x y) o) (order-padded n (k + 1) xs ys (omega arith) (omega arith))

all : (n : ℕ) → n ≡ n - 0
all n = omega arith

-- with the mark behind the zero bytes that fill up the length
pub padded-append : (mark : ℕ → List ℕ) (n k : ℕ) (xs : List ℕ) → length xs ≤ n → padded mark n k xs ≡ xs ++ (replicate (n - length xs) 0 ++ mark (k + length xs))
padded-append mark n k [] short = ap (λ m. replicate m 0 ++ mark k) (all n) ∙ ap (λ m. replicate (n - 0) 0 ++ mark m) (sym (add-zero k))
padded-append mark zero k (x ∷ xs) short = absurd (omega arith)
padded-append mark (suc n) k (x ∷ xs) short =
    let rest : padded mark n (k + 1) xs ≡ xs ++ (replicate (n - length xs) 0 ++ mark (k + 1 + length xs)) = padded-append mark n (k + 1) xs (omega arith) in
    let fill : n - length xs ≡ suc n - suc (length xs) = omega arith in
    let place : k + 1 + length xs ≡ k + suc (length xs) = omega arith in
    ap (λ zs. x ∷ zs) rest
    ∙ ap (λ m. x ∷ xs ++ (replicate m 0 ++ mark (k + 1 + length xs))) fill
    ∙ ap (λ m. x ∷ xs ++ (replicate (suc n - suc (length xs)) 0 ++ mark m)) place
