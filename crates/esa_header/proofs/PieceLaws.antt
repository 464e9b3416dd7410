-- Joined records are cut into the same records again.
use Rattle.std.proofs.Common.{◌≡◌, ℕ, zero, suc, ◌+◌, ◌*◌, ◌-◌, ◌≤◌, List, [], ◌∷◌, ◌++◌, length, take, drop, refl, sym, ap, ◌∙◌, arith, mul-suc, mul-zero}
use Rattle.std.specs.List.{concat}
use Rattle.std.proofs.lemmas.List.{take_at, drop_at, length-take-le, length-drop, length-append, take-append-drop, nil_from_length}
use Rattle.std.proofs.lemmas.List.Elements.{All-cons, All-head, All-tail}
use Rattle.esa_header.specs.Pieces.{pieces, HaveLength}

pub one_more : (size count n : ℕ) → n ≡ size * suc count → (size ≤ n) × (n - size ≡ size * count)
one_more size count n whole = let e : size * suc count ≡ size * count + size = mul-suc size count in (omega arith, omega arith)

-- what is left behind the first piece
pub rest_length : (size count : ℕ) (bytes : List ℕ) → length bytes ≡ size * suc count → length (drop size bytes) ≡ size * count
rest_length size count bytes whole = length-drop size bytes ∙ (one_more size count (length bytes) whole).1

-- cut into its pieces and joined, a list is the same again
pub concat-pieces : (size count : ℕ) (bytes : List ℕ) → length bytes ≡ size * count → concat (pieces size count bytes) ≡ bytes
concat-pieces size zero bytes whole = sym (nil_from_length bytes (whole ∙ mul-zero size))
concat-pieces size (suc count) bytes whole =
    ap (λ ys. take size bytes ++ ys) (concat-pieces size count (drop size bytes) (rest_length size count bytes whole)) ∙ take-append-drop size bytes

pub length-pieces : (size count : ℕ) (bytes : List ℕ) → length (pieces size count bytes) ≡ count
length-pieces size zero bytes = refl
length-pieces size (suc count) bytes = ap suc (length-pieces size count (drop size bytes))

-- each piece has its length
pub HaveLength-pieces : (size count : ℕ) (bytes : List ℕ) → length bytes ≡ size * count → HaveLength size (pieces size count bytes)
HaveLength-pieces size zero bytes whole = λ k d below. absurd (omega arith)
HaveLength-pieces size (suc count) bytes whole =
    All-cons (λ piece. length piece ≡ size) (take size bytes) _
    (length-take-le size bytes (one_more size count (length bytes) whole).0)
    (HaveLength-pieces size count (drop size bytes) (rest_length size count bytes whole))

-- joined records, cut into pieces of their length, are the records
pub pieces-concat : (size : ℕ) (records : List (List ℕ)) → HaveLength size records → pieces size (length records) (concat records) ≡ records
pieces-concat size [] have = refl
pieces-concat size (first ∷ rest) have =
    let here : length first ≡ size = All-head (λ piece. length piece ≡ size) first rest have in
    let later : HaveLength size rest = All-tail (λ piece. length piece ≡ size) first rest have in
    (λ i. take_at first (concat rest) size here i ∷ pieces size (length rest) (drop_at first (concat rest) size here i))
    ∙ ap (λ ys. first ∷ ys) (pieces-concat size rest later)

pub length-concat : (size : ℕ) (records : List (List ℕ)) → HaveLength size records → length (concat records) ≡ size * length records
length-concat size [] have = sym (mul-zero size)
length-concat size (first ∷ rest) have =
    let here : length first ≡ size = All-head (λ piece. length piece ≡ size) first rest have in
    let later : length (concat rest) ≡ size * length rest = length-concat size rest (All-tail (λ piece. length piece ≡ size) first rest have) in
    let e : size * suc (length rest) ≡ size * length rest + size = mul-suc size (length rest) in
    let both : length (first ++ concat rest) ≡ length first + length (concat rest) = length-append first (concat rest) in
    omega arith
