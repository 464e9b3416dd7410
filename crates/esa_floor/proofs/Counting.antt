-- Counts of the chunks of a bucket, in a list of those of all buckets.
use Rattle.std.proofs.Common.{◌≡◌, ◌≢◌, ℕ, zero, suc, ◌+◌, ◌-◌, ◌*◌, ◌<◌, ◌≤◌, List, [], ◌∷◌, ◌++◌, length, take, drop, get_or, refl, sym, ap, ◌∙◌, arith, inl, inr}
use Rattle.std.proofs.lemmas.Bool.{cases_lt}
use Rattle.std.proofs.lemmas.List.{get_or-append-add, get_or-drop, get_or-take, length-append, length-drop, length-take, take_at}
use Rattle.std.proofs.Math.Nat.{suc-mul, mul-le-mul_right}
use borrow.Rule.Slice.PartMut.{put_mid}
use Rattle.esa_floor.specs.Parts.{count_at}

-- the counts of a bucket end before those of the next begin
pub ends_before : (b j k : ℕ) → j < k → j * b + b ≤ k * b
ends_before b j k less = let next = suc-mul j b in let product = mul-le-mul_right b less in omega arith

pub row_inside : (b j : ℕ) → j < b → j * b + b ≤ b * b
row_inside b j inside = ends_before b j b inside

get-left : (xs ys : List ℕ) (k : ℕ) → k < length xs → get_or (xs ++ ys) k 0 ≡ get_or xs k 0
get-left [] ys k inside = absurd (omega arith)
get-left (x ∷ xs) ys zero inside = refl
get-left (x ∷ xs) ys (suc k) inside = get-left xs ys k (omega arith)

-- what stands from a place on that has so many before it
get-behind : (xs ys : List ℕ) (n k : ℕ) → length xs ≡ n → get_or (xs ++ ys) (n + k) 0 ≡ get_or ys k 0
get-behind xs ys n k long = ap (λ (m : ℕ). get_or (xs ++ ys) (m + k) 0) (sym long) ∙ get_or-append-add xs ys k 0

module _ (b j n : ℕ) (counts part : List ℕ) (long : length counts ≡ b * b) (inside : j < b) (many : n ≡ b) (full : length part ≡ b) where
  before : length (take (j * b) counts) ≡ j * b
  before = let within = row_inside b j inside in let taken = length-take (j * b) counts in omega arith

  -- the counts of the bucket are those that were put
  pub count_here : (i : ℕ) → i < b → count_at b (put_mid (j * b) n counts part) j i ≡ get_or part i 0
  count_here i within =
      get-behind (take (j * b) counts) (part ++ drop n (drop (j * b) counts)) (j * b) i before
      ∙ get-left part (drop n (drop (j * b) counts)) i (omega arith)

  -- and those of the others are as they were
  pub count_other : (k i : ℕ) → i < b → k ≢ j → count_at b (put_mid (j * b) n counts part) k i ≡ count_at b counts k i
  count_other k i within other = elim (cases_lt k j) [
    | inl less ↦
        let row = ends_before b k j less in
        get-left (take (j * b) counts) (part ++ drop n (drop (j * b) counts)) (k * b + i) (omega (arith, before, row, within))
        ∙ get_or-take (j * b) counts (k * b + i) 0 (omega (arith, row, within))
    | inr more ↦
        let after : j < k = let apart = other in omega arith in
        let row = ends_before b j k after in
        let place : k * b + i ≡ j * b + (b + (k * b + i - (j * b + b))) = omega (arith, row) in
        let again : j * b + (n + (k * b + i - (j * b + b))) ≡ k * b + i = omega (arith, row, many) in
        ap (λ (m : ℕ). get_or (put_mid (j * b) n counts part) m 0) place
        ∙ get-behind (take (j * b) counts) (part ++ drop n (drop (j * b) counts)) (j * b) (b + (k * b + i - (j * b + b))) before
        ∙ get-behind part (drop n (drop (j * b) counts)) b (k * b + i - (j * b + b)) full
        ∙ get_or-drop n (drop (j * b) counts) (k * b + i - (j * b + b)) 0
        ∙ get_or-drop (j * b) counts (n + (k * b + i - (j * b + b))) 0
        ∙ ap (λ (m : ℕ). get_or counts m 0) again
  ]

length-put : (b j n : ℕ) (counts part : List ℕ) → length counts ≡ b * b → j < b → n ≡ b → length part ≡ b → length (put_mid (j * b) n counts part) ≡ length counts
length-put b j n counts part long inside many full =
    let within = row_inside b j inside in
    let taken = length-take (j * b) counts in
    let left = length-drop (j * b) counts in
    let behind = length-drop n (drop (j * b) counts) in
    let tail = length-append part (drop n (drop (j * b) counts)) in
    let whole = length-append (take (j * b) counts) (part ++ drop n (drop (j * b) counts)) in
    omega (arith, whole, tail, behind, left, taken, within, many, full, long)

-- the same of a list that was lent and came back: `bb` is b under another name, and `was` the list
module _ (b bb j n len : ℕ) (counts was part rest : List ℕ) (same : bb ≡ b) (is : was ≡ counts) (long : length counts ≡ b * b) (all : len ≡ length counts)
    (inside : j < b) (many : n ≡ bb) (full : length part ≡ b)
  where
    back : take len (put_mid (j * bb) n was part ++ rest) ≡ put_mid (j * b) n counts part
    back =
        ap (λ (m : ℕ). take len (put_mid (j * m) n was part ++ rest)) same
        ∙ ap (λ (xs : List ℕ). take len (put_mid (j * b) n xs part ++ rest)) is
        ∙ take_at (put_mid (j * b) n counts part) rest len (length-put b j n counts part long inside (many ∙ same) full ∙ sym all)

    pub back_here : (i : ℕ) → i < b → count_at b (take len (put_mid (j * bb) n was part ++ rest)) j i ≡ get_or part i 0
    back_here i within = ap (λ (xs : List ℕ). count_at b xs j i) back ∙ count_here b j n counts part long inside (many ∙ same) full i within

    pub back_other : (k i : ℕ) → i < b → k ≢ j → count_at b (take len (put_mid (j * bb) n was part ++ rest)) k i ≡ count_at b counts k i
    back_other k i within other = ap (λ (xs : List ℕ). count_at b xs k i) back ∙ count_other b j n counts part long inside (many ∙ same) full k i within other
