-- Records in which none is below the one before it are sorted.
use Rattle.std.proofs.Common.{◌≡◌, ℕ, suc, zero, ◌+◌, ◌-◌, ◌*◌, ◌<◌, ◌≤◌, Bool, true, false, cond, List, [], ◌∷◌, length, take, drop, get_or, Option, Some, None, sym, refl, ap, subst, ◌∙◌, arith, add-one, mul-suc, length-drop}
use Rattle.std.specs.Ordering.{is_lt}
use Rattle.std.specs.List.Sorted.{IsSorted}
use Rattle.esa_header.specs.Pieces.{pieces}
use Rattle.esa_batcher.specs.Rising.{by_bytes, fall_behind, fall_at}

-- no record is below the one before it
abbrev pub NoneFalls : List (List ℕ) → Type 0
NoneFalls records = (k : ℕ) (d : List ℕ) → suc k < length records → is_lt (by_bytes (get_or records (suc k) d) (get_or records k d)) ≡ false

passes : (b : Bool) (place : ℕ) (later : Option ℕ) → cond b (Some place) later ≡ None → (b ≡ false) × (later ≡ None)
passes true place later none = cc
passes false place later none = (refl, none)

none_falls : (next : ℕ) (first : List ℕ) (rest : List (List ℕ)) → fall_behind next first rest ≡ None → NoneFalls (first ∷ rest)
none_falls next first [] none k d below = absurd (omega arith)
none_falls next first (found ∷ rest) none zero d below = (passes _ next _ none).0
none_falls next first (found ∷ rest) none (suc k) d below = none_falls (next + 1) found rest (passes (is_lt (by_bytes found first)) next _ none).1 k d (omega arith)

pub IsSorted-from_none : (place : ℕ) (records : List (List ℕ)) → fall_at place records ≡ None → IsSorted by_bytes records
IsSorted-from_none place [] none = λ k d low below. absurd (omega arith)
IsSorted-from_none place (first ∷ rest) none = λ k d low below. rw add-one (none_falls (place + 1) first rest none k d (omega arith))

falls_not : (next : ℕ) (first : List ℕ) (rest : List (List ℕ)) → NoneFalls (first ∷ rest) → fall_behind next first rest ≡ None
falls_not next first [] none = refl
falls_not next first (found ∷ rest) none =
    ap (λ b. cond b (Some next) (fall_behind (next + 1) found rest)) (none 0 first (omega arith))
    ∙ falls_not (next + 1) found rest (λ k d below. none (suc k) d (omega arith))

pub fall_at-sorted : (place : ℕ) (records : List (List ℕ)) → IsSorted by_bytes records → fall_at place records ≡ None
fall_at-sorted place [] up = refl
fall_at-sorted place (first ∷ rest) up = falls_not (place + 1) first rest (λ k d below. subst (λ n. is_lt (by_bytes (get_or (first ∷ rest) n d) (get_or (first ∷ rest) k d)) ≡ false) (add-one k) (up k d (omega arith) (omega arith)))

two_sizes : (size k : ℕ) → size * suc (suc k) ≡ size * k + size + size
two_sizes size k = mul-suc size (suc k) ∙ ap (λ m. m + size) (mul-suc size k)

-- while a record follows, two records are left
pub two_left : (size count next have : ℕ) → 1 ≤ next → next < count → have ≡ size * (count - (next - 1)) → size + size ≤ have
two_left size count next have low below left =
    let number : count - (next - 1) ≡ suc (suc (count - (next + 1))) = omega arith in
    let whole : have ≡ size * (count - (next + 1)) + size + size = left ∙ ap (λ m. size * m) number ∙ two_sizes size (count - (next + 1)) in
    omega arith

-- one record further
pub fall_at-step : (size count first next : ℕ) (rest others : List ℕ) → 1 ≤ next → next < count → others ≡ drop size rest
    → fall_at (first + (next - 1)) (pieces size (count - (next - 1)) rest)
    ≡ cond (is_lt (by_bytes (take size others) (take size rest))) (Some (first + next)) (fall_at (first + next) (pieces size (count - next) others))
fall_at-step size count first next rest others low below behind =
    let number : count - (next - 1) ≡ suc (suc (count - (next + 1))) = omega arith in
    let fewer : suc (count - (next + 1)) ≡ count - next = omega arith in
    let place : first + (next - 1) + 1 ≡ first + next = omega arith in
    ap (λ m. fall_at (first + (next - 1)) (pieces size m rest)) number
    ∙ (λ i. cond (is_lt (by_bytes (take size (sym behind i)) (take size rest))) (Some (place i)) (fall_at (place i) (pieces size (suc (count - (next + 1))) (sym behind i))))
    ∙ ap (λ m. cond (is_lt (by_bytes (take size others) (take size rest))) (Some (first + next)) (fall_at (first + next) (pieces size m others))) fewer

module _ (size count first next : ℕ) (rest last others : List ℕ) (low : 1 ≤ next) (below : next < count) (front : last ≡ take size rest) (back : others ≡ drop size rest) where
  step : (all : Option ℕ) (b : Bool) → all ≡ fall_at (first + (next - 1)) (pieces size (count - (next - 1)) rest) → b ≡ is_lt (by_bytes (take size others) last)
      → all ≡ cond b (Some (first + next)) (fall_at (first + next) (pieces size (count - next) others))
  step all b so_far test =
      so_far ∙ fall_at-step size count first next rest others low below back
      ∙ ap (λ t. cond t (Some (first + next)) (fall_at (first + next) (pieces size (count - next) others))) (ap (λ ys. is_lt (by_bytes (take size others) ys)) (sym front) ∙ sym test)

  -- the next record falls
  pub falls_here : (all : Option ℕ) (b : Bool) → all ≡ fall_at (first + (next - 1)) (pieces size (count - (next - 1)) rest) → b ≡ is_lt (by_bytes (take size others) last) → b ≡ true
      → Some (first + next) ≡ all
  falls_here all b so_far test found =
      sym (step all b so_far test ∙ ap (λ t. cond t (Some (first + next)) (fall_at (first + next) (pieces size (count - next) others))) found)

  -- or the records behind it decide
  pub falls_later : (all : Option ℕ) (b : Bool) → all ≡ fall_at (first + (next - 1)) (pieces size (count - (next - 1)) rest) → b ≡ is_lt (by_bytes (take size others) last) → b ≡ false
      → all ≡ fall_at (first + (next + 1 - 1)) (pieces size (count - (next + 1 - 1)) others)
  falls_later all b so_far test found =
      let same : next ≡ next + 1 - 1 = omega arith in
      step all b so_far test ∙ ap (λ t. cond t (Some (first + next)) (fall_at (first + next) (pieces size (count - next) others))) found
      ∙ ap (λ n. fall_at (first + n) (pieces size (count - n) others)) same

  -- what is left of the bytes
  pub left_later : length rest ≡ size * (count - (next - 1)) → length others ≡ size * (count - (next + 1 - 1))
  left_later left =
      let more : count - (next - 1) ≡ suc (count - next) = omega arith in
      let same : next ≡ next + 1 - 1 = omega arith in
      let whole : length rest ≡ size * (count - next) + size = left ∙ ap (λ m. size * m) more ∙ mul-suc size (count - next) in
      let rest_is : length others ≡ size * (count - next) = omega (arith, ap length back, length-drop size rest) in
      rest_is ∙ ap (λ n. size * (count - n)) same

-- at most one record doesn't fall
pub fall_at-last : (size count place : ℕ) (bytes : List ℕ) → count ≤ 1 → fall_at place (pieces size count bytes) ≡ None
fall_at-last size zero place bytes few = refl
fall_at-last size (suc zero) place bytes few = refl
fall_at-last size (suc (suc count)) place bytes few = absurd (omega arith)
