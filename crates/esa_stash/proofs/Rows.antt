-- Chunks of c items, one after another, and a write to one of them.
use Rattle.std.proofs.Common.{◌≡◌, ◌≢◌, ℕ, zero, suc, ◌+◌, ◌-◌, ◌*◌, ◌<◌, ◌≤◌, List, [], ◌∷◌, ◌++◌, length, set, take, drop, flat_map, sym, ap, ap₂, ◌∙◌, arith, inl, inr}
use Rattle.std.proofs.lemmas.List.{length-take, length-drop, take-set-le, drop-set-lt, drop-set-add, take-append-drop, take_all, drop-take, take-take, append-nil}
use Rattle.std.proofs.lemmas.List.Concat.{flat_map-append}
use Rattle.std.proofs.lemmas.Slice.{between_is, between-put_mid, take-put_mid_below}
use Rattle.std.proofs.lemmas.Bool.{cases_lt}
use Rattle.std.proofs.Math.Seq.{take-set-lt}
use Rattle.std.proofs.Math.Nat.{suc-mul, zero-mul, mul-le-mul_right}
use borrow.Rule.Slice.PartMut.{put_mid}
use Rattle.esa_stash.specs.Sizes.{below}
use Rattle.esa_report.specs.declared.item.Item.{Item}
use Rattle.esa_stash.specs.Dealing.{chunk_at}
use Rattle.esa_laws.proofs.Ranges.{below-suc}

take-add : (m n : ℕ) (xs : List Item) → take (m + n) xs ≡ take m xs ++ take n (drop m xs)
take-add m n xs =
    sym (take-append-drop m (take (m + n) xs))
    ∙ ap₂ (λ (l k : List Item). l ++ k) (take-take m (m + n) xs (omega arith)) (drop-take m n xs)

-- a chunk ends where the next begins, or before
pub chunk_before : (c j i : ℕ) → j < i → j * c + c ≤ i * c
chunk_before c j i less = let next = suc-mul j c in let product = mul-le-mul_right c less in omega arith

-- c places from the start of the i-th chunk on
pub chunk_is : (c : ℕ) (chunks : List Item) (i : ℕ) → chunk_at c chunks i ≡ take c (drop (i * c) chunks)
chunk_is c chunks i = let many : i * c + c - i * c ≡ c = omega arith in ap (λ (k : ℕ). take k (drop (i * c) chunks)) many

pub length-chunk_at : (c b : ℕ) (chunks : List Item) (i : ℕ) → length chunks ≡ b * c → i < b → length (chunk_at c chunks i) ≡ c
length-chunk_at c b chunks i long inside =
    let within = chunk_before c i b inside in
    let rest = length-drop (i * c) chunks in
    let is = ap length (chunk_is c chunks i) in
    let taken = length-take c (drop (i * c) chunks) in
    omega arith

-- a chunk that is written whole, and those before it
pub chunk_at-put : (c b : ℕ) (chunks part : List Item) (i k : ℕ) → length chunks ≡ b * c → i < b → length part ≡ c → chunk_at c (put_mid (i * c) k chunks part) i ≡ part
chunk_at-put c b chunks part i k long inside full =
    let within = chunk_before c i b inside in
    between-put_mid (i * c) k chunks part (i * c + c) (omega arith) (omega arith)

pub chunk_at-put_later : (c b : ℕ) (chunks part : List Item) (i j k : ℕ) → length chunks ≡ b * c → i < b → j < i → chunk_at c (put_mid (i * c) k chunks part) j ≡ chunk_at c chunks j
chunk_at-put_later c b chunks part i j k long inside before =
    let within = chunk_before c i b inside in
    let earlier = chunk_before c j i before in
    between_is (put_mid (i * c) k chunks part) (j * c) (j * c + c)
    ∙ ap (drop (j * c)) (take-put_mid_below (i * c) k chunks part (j * c + c) earlier (omega arith))
    ∙ sym (between_is chunks (j * c) (j * c + c))

-- one place of a chunk is written
pub chunk_at-set : (c : ℕ) (chunks : List Item) (i n : ℕ) (item : Item) → n < c → chunk_at c (set chunks (i * c + n) item) i ≡ set (chunk_at c chunks i) n item
chunk_at-set c chunks i n item inside =
    chunk_is c (set chunks (i * c + n) item) i
    ∙ ap (take c) (drop-set-add (i * c) chunks n item)
    ∙ take-set-lt c (drop (i * c) chunks) n item inside
    ∙ ap (λ (l : List Item). set l n item) (sym (chunk_is c chunks i))

-- and the others stay
pub chunk_at-set_other : (c : ℕ) (chunks : List Item) (i j n : ℕ) (item : Item) → n < c → j ≢ i → chunk_at c (set chunks (i * c + n) item) j ≡ chunk_at c chunks j
chunk_at-set_other c chunks i j n item inside other = elim (cases_lt j i) [
  | inl less ↦
      let before = chunk_before c j i less in
      let from_start : i * c + n ≡ j * c + (i * c + n - j * c) = omega arith in
      chunk_is c (set chunks (i * c + n) item) j
      ∙ ap (λ (k : ℕ). take c (drop (j * c) (set chunks k item))) from_start
      ∙ ap (take c) (drop-set-add (j * c) chunks (i * c + n - j * c) item)
      ∙ take-set-le c (drop (j * c) chunks) (i * c + n - j * c) item (omega arith)
      ∙ sym (chunk_is c chunks j)
  | inr more ↦
      let after = chunk_before c i j (let apart = other in omega arith) in
      chunk_is c (set chunks (i * c + n) item) j
      ∙ ap (take c) (drop-set-lt (j * c) chunks (i * c + n) item (omega arith))
      ∙ sym (chunk_is c chunks j)
]

-- the chunks, joined
front : (c b : ℕ) (f : ℕ → List Item) (chunks : List Item) → b * c ≤ length chunks → ((i : ℕ) → i < b → chunk_at c chunks i ≡ f i) → take (b * c) chunks ≡ flat_map f (below b)
front c zero f chunks within each = ap (λ (n : ℕ). take n chunks) (zero-mul c)
front c (suc b) f chunks within each =
    let next = suc-mul b c in
    let before = front c b f chunks (omega arith) (λ i below. each i (omega arith)) in
    let last = sym (chunk_is c chunks b) ∙ each b (omega arith) in
    ap (λ (n : ℕ). take n chunks) next
    ∙ take-add (b * c) c chunks
    ∙ ap₂ (λ (l k : List Item). l ++ k) before last
    ∙ ap (λ (l : List Item). flat_map f (below b) ++ l) (sym (append-nil (f b)))
    ∙ sym (flat_map-append f (below b) (b ∷ []))
    ∙ ap (flat_map f) (sym (below-suc b))

pub joined_chunks : (c b : ℕ) (f : ℕ → List Item) (chunks : List Item) → length chunks ≡ b * c → ((i : ℕ) → i < b → chunk_at c chunks i ≡ f i) → chunks ≡ flat_map f (below b)
joined_chunks c b f chunks long each = sym (take_all (b * c) chunks (omega arith)) ∙ front c b f chunks (omega arith) each
