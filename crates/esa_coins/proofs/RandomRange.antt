-- Numbers drawn below a bound, one after another.
use Rattle.std.proofs.Common.{◌≡◌, ℕ, pos, suc, ◌+◌, ◌-◌, ◌^◌, ◌<◌, ◌≤◌, ◌+ℤ◌, ◌-ℤ◌, List, [], ◌∷◌, ◌++◌, take, length, get_or, set, refl, ap, sym, subst, ◌∙◌, arith, add-one, length-set}
use Rattle.std.specs.Int.RustNames.{unsigned_abs}
use Rattle.std.proofs.lemmas.Grind.{common_steps}
use Rattle.std.proofs.lemmas.Int.{ints}
use Rattle.std.proofs.lemmas.List.{append-nil, take_all}
use Rattle.std.proofs.Math.Seq.{take-suc-set, append_snoc}
use Rattle.rand_core.specs.Stream.{Stream, next_u32}
use Rattle.rand.specs.Uniform.{canon, DrawsBetween}
use Rattle.esa_coins.specs.Seeded.{drawn_below}

width : (bound : ℕ) → unsigned_abs (pos bound -ℤ pos 0) ≡ bound
width bound = omega (arith, ints)

from_zero : (x y : ℕ) → pos x ≡ pos 0 +ℤ pos y → x ≡ y
from_zero x y is = omega (arith, ints)

-- what a draw from a range that begins at 0 gives, and leaves
pub range_drawn : (bound x : ℕ) (words rest : Stream) (standard : Stream → ℕ → Stream → Type 0) → bound < 2 ^ 32 → DrawsBetween pos 4294967296 standard (canon 4294967296 next_u32) (pos 0) (pos bound) words x rest → (x, rest) ≡ canon 4294967296 next_u32 bound words
range_drawn bound x words rest standard fits drawn =
    let part : unsigned_abs (pos bound -ℤ pos 0) ≡ 4294967296 → ⊥ = λ whole. narrow (sym (width bound) ∙ whole) in
    let value : x ≡ (canon 4294967296 next_u32 bound words).0 = from_zero _ _ (subst (λ b. pos x ≡ pos 0 +ℤ pos (canon 4294967296 next_u32 b words).0) (width bound) (drawn.value part)) in
    let left : rest ≡ (canon 4294967296 next_u32 bound words).1 = subst (λ b. rest ≡ (canon 4294967296 next_u32 b words).1) (width bound) (drawn.rest part) in
    ap (λ v. (v, rest)) value ∙ ap (λ r. ((canon 4294967296 next_u32 bound words).0, r)) left
  where
    narrow : bound ≡ 4294967296 → ⊥
    narrow whole = omega arith

drawn_below-suc : (wanted bound : ℕ) (words : Stream) → drawn_below (suc wanted) bound words ≡ (canon 4294967296 next_u32 bound words).0 ∷ drawn_below wanted bound (canon 4294967296 next_u32 bound words).1
unfolding drawn_below
drawn_below-suc wanted bound words = refl

drawn_below-none : (bound : ℕ) (words : Stream) → drawn_below 0 bound words ≡ []
unfolding drawn_below
drawn_below-none bound words = refl

-- one number more
pub one_drawn : (all out : List ℕ) (k bound x : ℕ) (words rest : Stream) → k < length out → all ≡ take k out ++ drawn_below (length out - k) bound words → (x, rest) ≡ canon 4294967296 next_u32 bound words → all ≡ take (k + 1) (set out k x) ++ drawn_below (length (set out k x) - (k + 1)) bound rest
one_drawn all out k bound x words rest inside so_far drawn =
    let wanted = length (set out k x) - (k + 1) in
    let more : length out - k ≡ suc (length (set out k x) - (k + 1)) = omega (arith, length-set out k x) in
    let next : drawn_below (length out - k) bound words ≡ x ∷ drawn_below wanted bound rest =
    ap (λ n. drawn_below n bound words) more ∙ drawn_below-suc wanted bound words ∙ ap (λ (p : ℕ × Stream). p.0 ∷ drawn_below wanted bound p.1) (sym drawn) in
    let front : take (k + 1) (set out k x) ≡ take k out ++ (x ∷ []) = ap (λ n. take n (set out k x)) (add-one k) ∙ take-suc-set out k x inside in
    so_far ∙ ap (λ tail. take k out ++ tail) next ∙ sym (append_snoc (take k out) x _) ∙ ap (λ done. done ++ drawn_below wanted bound rest) (sym front)

pub one_below : (out : List ℕ) (i x bound : ℕ) → i < length out → x < bound → ((k : ℕ) → k < i → get_or out k 0 < bound) → (k : ℕ) → k < i + 1 → get_or (set out i x) k 0 < bound
one_below out i x bound inside fits before k within = grind (arith, common_steps)

-- no number more
pub all_drawn : (all out : List ℕ) (k bound : ℕ) (words : Stream) → length out ≤ k → all ≡ take k out ++ drawn_below (length out - k) bound words → out ≡ all
all_drawn all out k bound words whole so_far =
    let none : length out - k ≡ 0 = omega arith in
    sym (so_far ∙ ap (λ n. take k out ++ drawn_below n bound words) none ∙ ap (λ tail. take k out ++ tail) (drawn_below-none bound words) ∙ append-nil (take k out) ∙ take_all k out whole)
