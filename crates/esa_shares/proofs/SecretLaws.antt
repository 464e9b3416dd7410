-- Shares of a secret give it back.
use Rattle.std.proofs.Common.{◌≡◌, ◌∙◌, ℕ, zero, suc, ◌+◌, ◌*◌, ◌/◌, ◌<◌, ◌≤◌, List, [], ◌∷◌, ◌++◌, length, map, drop, get_or, refl, sym, ap, ap₂, subst, arith, inl, inr}
use Rattle.std.specs.Prelude.{flat_map, All}
use Rattle.std.specs.Int.RustNames.{bit_xor}
use Rattle.std.specs.List.{AllByRecursion}
use Rattle.std.proofs.lemmas.Bool.{cases_lt}
use Rattle.std.proofs.lemmas.Nat.{div-mul-add}
use Rattle.std.proofs.lemmas.List.{get_or_append_left, get_or-drop, drop_at, get_or_past}
use Rattle.std.proofs.lemmas.List.FromFn.{length-map-range_with_len, get_or-map-range_with_len}
use Rattle.esa_shares.specs.Polynomial.{value, column, combined, evaluated, recovered, ArePoints}
use Rattle.esa_shares.proofs.FieldLaws.{zero_times}
use Rattle.esa_shares.proofs.PolynomialLaws.{IsUnit, AreUnits, AreBytes, combined_spread, lagrange}
use Rattle.esa_shares.proofs.ColumnLaws.{listed}
use lib.Bits.{xor_zero_r}

-- ---- from places to lists

pub everywhere : (xs : List ℕ) → All (λ b. b < 256) xs → (i : ℕ) → get_or xs i 0 < 256
everywhere xs all i = elim (cases_lt i (length xs)) [
  | inl inside ↦ all i 0 inside
  | inr outside ↦ subst (λ n. n < 256) (sym (get_or_past xs i 0 outside)) (omega arith)
]

are_units : (xs : List ℕ) → All (λ x. 0 < x) xs → ((i : ℕ) → get_or xs i 0 < 256) → AllByRecursion IsUnit xs
are_units [] some small = tt
are_units (x ∷ xs) some small =
    (record { some = some 0 0 (omega arith); small = small 0 }, are_units xs (λ k d less. some (suc k) d (omega (arith, less))) (λ i. small (suc i)))

pub units : (xs : List ℕ) → ArePoints xs → ((i : ℕ) → get_or xs i 0 < 256) → AreUnits xs
units xs are small = (are_units xs are.some small, are.distinct)

pub column_bytes : (size y n : ℕ) (bytes : List ℕ) → ((i : ℕ) → get_or bytes i 0 < 256) → AreBytes (column size y n bytes)
column_bytes size y zero bytes small = tt
column_bytes size y (suc n) bytes small = (small y, column_bytes size y n (drop size bytes) (λ i. subst (λ b. b < 256) (sym (get_or-drop size bytes i 0)) (small (size + i))))

pub column_length : (size y n : ℕ) (bytes : List ℕ) → length (column size y n bytes) ≡ n
column_length size y zero bytes = refl
column_length size y (suc n) bytes = ap suc (column_length size y n (drop size bytes))

-- ---- columns of joined pieces

pub column_first : (size y n : ℕ) (row rest : List ℕ) → length row ≡ size → y < size → column size y (suc n) (row ++ rest) ≡ get_or row y 0 ∷ column size y n rest
column_first size y n row rest same less =
    let inside : y < length row = omega (arith, same, less) in
    ap₂ (λ (b : ℕ) (bs : List ℕ). b ∷ bs) (get_or_append_left row rest 0 y inside)
    (ap (column size y n) (drop_at row rest size same))

pub evaluated_length : (secret coefs : List ℕ) (x : ℕ) → length (evaluated secret coefs x) ≡ length secret
evaluated_length secret coefs x = length-map-range_with_len _ 0 (length secret)

pub evaluated_at : (secret coefs : List ℕ) (x y : ℕ) → y < length secret
    → get_or (evaluated secret coefs x) y 0 ≡ value (get_or secret y 0 ∷ column (length secret) y (length coefs / length secret) coefs) x
evaluated_at secret coefs x y less = get_or-map-range_with_len _ 0 (length secret) y y 0 less (omega arith)

pub column_evaluated : (secret coefs : List ℕ) (y : ℕ) → y < length secret → (xs : List ℕ)
    → column (length secret) y (length xs) (flat_map (evaluated secret coefs) xs)
    ≡ map (value (get_or secret y 0 ∷ column (length secret) y (length coefs / length secret) coefs)) xs
column_evaluated secret coefs y less [] = refl
column_evaluated secret coefs y less (x ∷ xs) =
    column_first (length secret) y (length xs) (evaluated secret coefs x) (flat_map (evaluated secret coefs) xs) (evaluated_length secret coefs x) less
    ∙ ap₂ (λ (b : ℕ) (bs : List ℕ). b ∷ bs) (evaluated_at secret coefs x y less) (column_evaluated secret coefs y less xs)

-- ---- the secret

few_pieces : (count size pieces : ℕ) → 0 < size → size + pieces ≡ count * size → suc (pieces / size) ≤ count
few_pieces zero size pieces some whole = absurd (omega (arith, some, whole))
few_pieces (suc m) size pieces some whole =
    let rest : pieces ≡ m * size + 0 = omega (arith, whole) in
    let number : pieces / size ≡ m = ap (λ n. n / size) rest ∙ div-mul-add m size 0 some in
    omega (arith, number)

pub gives_back : (points secret coefs : List ℕ) → ArePoints points → ((i : ℕ) → get_or points i 0 < 256)
    → All (λ b. b < 256) secret → All (λ b. b < 256) coefs → length secret + length coefs ≡ length points * length secret
    → recovered (length secret) points (flat_map (evaluated secret coefs) points) ≡ secret
gives_back points secret coefs are small bytes more whole =
    sym (listed _ (length secret) secret refl (λ y less.
    let size = length secret in
    let first = get_or secret y 0 in
    let p = first ∷ column size y (length coefs / size) coefs in
    let few = few_pieces (length points) size (length coefs) (omega (arith, less)) whole in
    let number = column_length size y (length coefs / size) coefs in
    let constant : value p 0 ≡ first = ap (bit_xor first) (zero_times _) ∙ xor_zero_r first in
    sym (ap (combined points points) (column_evaluated secret coefs y less points)
    ∙ combined_spread points points (value p)
    ∙ lagrange points p (units points are small) (everywhere secret bytes y, column_bytes size y (length coefs / size) coefs (everywhere coefs more)) (omega (arith, few, number))
    ∙ constant)))
