-- Some of the records that lie one behind another.
use Rattle.std.proofs.Common.{◌≡◌, ℕ, suc, zero, ◌+◌, ◌-◌, ◌*◌, ◌≤◌, List, ◌∷◌, ◌++◌, length, take, drop, sym, refl, ap, ◌∙◌, arith}
use Rattle.std.specs.Simd.{first_chunks}
use Rattle.std.specs.List.{concat}
use Rattle.std.proofs.Math.Nat.{mul-le-mul_right}
use Rattle.std.proofs.lemmas.List.{drop-drop, length-take, length-drop}
use Rattle.esa_header.specs.Pieces.{pieces, HaveLength}
use Rattle.esa_header.proofs.HeaderLaws.{take_split}
use Rattle.esa_header.proofs.PieceLaws.{pieces-concat, length-concat}

pub take-pieces : (size k n : ℕ) (bytes : List ℕ) → k ≤ n → take k (pieces size n bytes) ≡ pieces size k bytes
take-pieces size zero n bytes within = refl
take-pieces size (suc k) zero bytes within = absurd (omega arith)
take-pieces size (suc k) (suc n) bytes within = ap (λ rest. take size bytes ∷ rest) (take-pieces size k n (drop size bytes) (omega arith))

one_more : (size k : ℕ) → size + k * size ≡ suc k * size
one_more size k = omega arith

pub drop-pieces : (size k n : ℕ) (bytes : List ℕ) → k ≤ n → drop k (pieces size n bytes) ≡ pieces size (n - k) (drop (k * size) bytes)
drop-pieces size zero n bytes within =
    let none : 0 * size ≡ 0 = omega arith in
    let all : n - 0 ≡ n = omega arith in
    λ i. pieces size (sym all i) (drop (sym none i) bytes)
drop-pieces size (suc k) zero bytes within = absurd (omega arith)
drop-pieces size (suc k) (suc n) bytes within =
    let fewer : n - k ≡ suc n - suc k = omega arith in
    drop-pieces size k n (drop size bytes) (omega arith)
    ∙ ap (pieces size (n - k)) (drop-drop (k * size) size bytes ∙ ap (λ m. drop m bytes) (one_more size k))
    ∙ ap (λ m. pieces size m (drop (suc k * size) bytes)) fewer

-- the first pieces, joined, are a front of the bytes
pub concat-front : (size n : ℕ) (bytes : List ℕ) → concat (pieces size n bytes) ≡ take (n * size) bytes
concat-front size zero bytes = let none : 0 ≡ 0 * size = omega arith in ap (λ k. take k bytes) none
concat-front size (suc n) bytes =
    ap (λ rest. take size bytes ++ rest) (concat-front size n (drop size bytes))
    ∙ sym (take_split size (n * size) bytes)
    ∙ ap (λ k. take k bytes) (one_more size n)

-- n pieces from the place `first` on are a part of the bytes
pub part-pieces : (size count first n out : ℕ) (bytes : List ℕ) → out ≡ n * size → first + n ≤ count → take out (drop (first * size) bytes) ≡ concat (take n (drop first (pieces size count bytes)))
part-pieces size count first n out bytes part within =
    let below : first ≤ count = omega arith in
    let enough : n ≤ count - first = omega arith in
    ap (λ k. take k (drop (first * size) bytes)) part
    ∙ sym (ap (λ list. concat (take n list)) (drop-pieces size first count bytes below)
    ∙ ap concat (take-pieces size n (count - first) (drop (first * size) bytes) enough)
    ∙ concat-front size n (drop (first * size) bytes))

-- they lie inside
pub part-inside : (size count first n have out : ℕ) → have ≡ size * count → out ≡ n * size → first + n ≤ count → first * size + out ≤ have
part-inside size count first n have out whole part within =
    let more : (first + n) * size ≤ count * size = mul-le-mul_right size within in omega arith

-- the same of a list whose records are joined
pub joined-part : (size : ℕ) (list : List (List ℕ)) → HaveLength size list → (first n out : ℕ) → out ≡ n * size → first + n ≤ length list → take out (drop (first * size) (concat list)) ≡ concat (take n (drop first list))
joined-part size list have first n out part within =
    part-pieces size (length list) first n out (concat list) part within ∙ ap (λ records. concat (take n (drop first records))) (pieces-concat size list have)

pub joined-inside : (size : ℕ) (list : List (List ℕ)) → HaveLength size list → (first n out : ℕ) → out ≡ n * size → first + n ≤ length list → first * size + out ≤ length (concat list)
joined-inside size list have first n out part within = part-inside size (length list) first n (length (concat list)) out (length-concat size list have) part within

-- std's chunks are the pieces
pub pieces-chunks : (size count : ℕ) (bytes : List ℕ) → first_chunks size count bytes ≡ pieces size count bytes
pieces-chunks size zero bytes = refl
pieces-chunks size (suc count) bytes = ap (λ rest. take size bytes ∷ rest) (pieces-chunks size count (drop size bytes))

-- pieces that lie inside have their length
pub HaveLength-front : (size n : ℕ) (bytes : List ℕ) → n * size ≤ length bytes → HaveLength size (pieces size n bytes)
HaveLength-front size zero bytes enough k d below = absurd (omega arith)
HaveLength-front size (suc n) bytes enough zero d below = let fits : size + n * size ≡ suc n * size = one_more size n in omega (arith, length-take size bytes)
HaveLength-front size (suc n) bytes enough (suc k) d below =
    HaveLength-front size n (drop size bytes) (let fits : size + n * size ≡ suc n * size = one_more size n in omega (arith, length-drop size bytes)) k d (omega arith)
