-- Columns of bytes, and lists by their places.
use Rattle.std.proofs.Common.{◌≡◌, ◌∙◌, ℕ, zero, suc, ◌+◌, ◌-◌, ◌*◌, ◌<◌, ◌≤◌, List, ◌∷◌, length, map, take, drop, get_or, sym, ap, ap₂, arith}
use Rattle.std.specs.Int.RustNames.{bit_xor}
use Rattle.std.proofs.lemmas.List.{get_or-take, get_or-drop, drop-drop, drop_more, drop_all}
use Rattle.std.proofs.lemmas.Grind.{same_number_lists}
use Rattle.std.proofs.lemmas.List.FromFn.{length-map-range_with_len, get_or-map-range_with_len}
use Rattle.esa_params.specs.Sizes.{below}
use Rattle.esa_shares.specs.Field.{times}
use lib.Bits.{xor_assoc, xor_zero_r}
use Rattle.esa_shares.specs.Polynomial.{value, column, combined, weight}

-- the list of a function's values below a number
pub listed : (f : ℕ → ℕ) (n : ℕ) (xs : List ℕ) → length xs ≡ n → ((y : ℕ) → y < n → get_or xs y 0 ≡ f y) → xs ≡ map f (below n)
listed f n xs size each =
    same_number_lists _ _ (size ∙ sym (length-map-range_with_len f 0 n))
    (λ y less. let inside : y < n = omega (arith, less, size) in each y inside ∙ sym (get_or-map-range_with_len f 0 n y y 0 inside (omega arith)))

-- a byte of the piece that starts behind so many pieces
pub piece_at : (size start y : ℕ) (bytes : List ℕ) → y < size → get_or (take (start + size - start) (drop start bytes)) y 0 ≡ get_or bytes (start + y) 0
piece_at size start y bytes less = get_or-take (start + size - start) (drop start bytes) y 0 (omega (arith, less)) ∙ get_or-drop start bytes y 0

-- the column behind so many pieces begins with its byte of the next piece
pub column_at : (size y left n : ℕ) (bytes : List ℕ) → column size y (suc n) (drop (left * size) bytes) ≡ get_or bytes (left * size + y) 0 ∷ column size y n (drop ((left + 1) * size) bytes)
column_at size y left n bytes =
    let more : left * size + size ≡ (left + 1) * size = omega arith in
    ap₂ (λ (b : ℕ) (bs : List ℕ). b ∷ bs) (get_or-drop (left * size) bytes y 0)
    (ap (column size y n) (drop-drop size (left * size) bytes ∙ ap (λ k. drop k bytes) more))

-- the byte of a piece
abbrev pub piece : ℕ → ℕ → ℕ → List ℕ → ℕ
piece size start y bytes = get_or (take (start + size - start) (drop start bytes)) y 0

-- one coefficient more, from behind
pub value_on : (size y left count : ℕ) (coefs : List ℕ) (x old new : ℕ) → 0 < left → left ≤ count → y < size
    → old ≡ value (column size y (count - left) (drop (left * size) coefs)) x
    → new ≡ bit_xor (piece size ((left - 1) * size) y coefs) (times x old)
    → new ≡ value (column size y (count - (left - 1)) (drop ((left - 1) * size) coefs)) x
value_on size y zero count coefs x old new some few less so_far is = absurd (omega (arith, some))
value_on size y (suc k) count coefs x old new some few less so_far is =
    let back : suc k - 1 ≡ k = omega arith in
    let next : suc k ≡ k + 1 = omega arith in
    let number : count - k ≡ suc (count - (k + 1)) = omega (arith, few) in
    let behind = column size y (count - (k + 1)) (drop ((k + 1) * size) coefs) in
    let first = is ∙ ap (λ n. bit_xor (get_or (take (n * size + size - n * size) (drop (n * size) coefs)) y 0) (times x old)) back
    ∙ ap₂ bit_xor (piece_at size (k * size) y coefs less) (ap (times x) (so_far ∙ ap (λ n. value (column size y (count - n) (drop (n * size) coefs)) x) next)) in
    let all : value (column size y (count - k) (drop (k * size) coefs)) x ≡ bit_xor (get_or coefs (k * size + y) 0) (times x (value behind x)) =
    ap (λ n. value (column size y n (drop (k * size) coefs)) x) number ∙ ap (λ p. value p x) (column_at size y k (count - (k + 1)) coefs) in
    first ∙ sym all ∙ ap (λ n. value (column size y (count - n) (drop (n * size) coefs)) x) (sym back)

-- the constant comes last
pub value_end : (size y left count : ℕ) (coefs : List ℕ) (x old new first : ℕ) → left ≡ 0
    → old ≡ value (column size y (count - left) (drop (left * size) coefs)) x → new ≡ bit_xor first (times x old)
    → new ≡ value (first ∷ column size y count coefs) x
value_end size y left count coefs x old new first none so_far is =
    let nothing : 0 * size ≡ 0 = omega arith in
    let all : count - 0 ≡ count = omega arith in
    is ∙ ap (λ n. bit_xor first (times x n))
    (so_far ∙ ap (λ n. value (column size y (count - n) (drop (n * size) coefs)) x) none
    ∙ ap₂ (λ n k. value (column size y n (drop k coefs)) x) all nothing)

-- one share more
pub combined_on : (points shares : List ℕ) (size y z old new w total : ℕ) → z < length points → y < size → w ≡ weight (get_or points z 0) points
    → bit_xor old (combined points (drop z points) (column size y (length points - z) (drop (z * size) shares))) ≡ total
    → new ≡ bit_xor old (times (piece size (z * size) y shares) w)
    → bit_xor new (combined points (drop (z + 1) points) (column size y (length points - (z + 1)) (drop ((z + 1) * size) shares))) ≡ total
combined_on points shares size y z old new w total inside less weighs so_far is =
    let n = length points in
    let p = get_or points z 0 in
    let b = get_or shares (z * size + y) 0 in
    let col = column size y (n - (z + 1)) (drop ((z + 1) * size) shares) in
    let rest = combined points (drop (z + 1) points) col in
    let term = times b (weight p points) in
    let number : n - z ≡ suc (n - (z + 1)) = omega (arith, inside) in
    let head : combined points (drop z points) (column size y (n - z) (drop (z * size) shares)) ≡ bit_xor term rest =
    ap (λ k. combined points (drop z points) (column size y k (drop (z * size) shares))) number
    ∙ ap (combined points (drop z points)) (column_at size y z (n - (z + 1)) shares)
    ∙ ap (λ xs. combined points xs (b ∷ col)) (drop_more points z 0 inside) in
    ap (λ k. bit_xor k rest) (is ∙ ap (bit_xor old) (ap₂ times (piece_at size (z * size) y shares less) weighs))
    ∙ xor_assoc old term rest ∙ ap (bit_xor old) (sym head) ∙ so_far

pub combined_none : (points shares : List ℕ) (size y z old total : ℕ) → length points ≤ z
    → bit_xor old (combined points (drop z points) (column size y (length points - z) (drop (z * size) shares))) ≡ total → old ≡ total
combined_none points shares size y z old total end is =
    sym (xor_zero_r old) ∙ sym (ap (λ xs. bit_xor old (combined points xs (column size y (length points - z) (drop (z * size) shares)))) (drop_all z points end)) ∙ is
