-- Places in a list: all of them in order, and what stands at them.
use Rattle.std.proofs.Common.{◌≡◌, ℕ, zero, suc, ◌+◌, ◌<◌, ◌≤◌, List, [], ◌∷◌, ◌++◌, length, get_or, drop, map, refl, sym, ap, ◌∙◌, arith, drop-cons, add-one}
use Rattle.std.specs.Prelude.{All}
use Rattle.std.specs.List.{range_with_len}
use Rattle.std.proofs.lemmas.List.Elements.{All-cons}
use Rattle.esa_params.specs.Sizes.{below}

pub length-range : (a n : ℕ) → length (range_with_len a n) ≡ n
length-range a zero = refl
length-range a (suc n) = ap suc (length-range (a + 1) n)

range-push : (a n : ℕ) → range_with_len a n ++ (a + n) ∷ [] ≡ range_with_len a (suc n)
range-push a zero = let same : a + 0 ≡ a = omega arith in ap (λ m. m ∷ []) same
range-push a (suc n) =
    let same : a + suc n ≡ a + 1 + n = omega arith in
    ap (λ m. a ∷ (range_with_len (a + 1) n ++ m ∷ [])) same ∙ ap (λ ns. a ∷ ns) (range-push (a + 1) n)

pub below-push : (n : ℕ) → below n ++ n ∷ [] ≡ below (n + 1)
below-push n = let same : n ≡ 0 + n = omega arith in ap (λ m. below n ++ m ∷ []) same ∙ range-push 0 n ∙ ap below (sym (add-one n))

inside-from : (a n high : ℕ) → a + n ≤ high → All (λ place. place < high) (range_with_len a n)
inside-from a zero high fits = λ k d under. absurd (omega arith)
inside-from a (suc n) high fits = All-cons (λ place. place < high) a _ (omega arith) (inside-from (a + 1) n high (omega arith))

pub inside-below : (n : ℕ) → All (λ place. place < n) (below n)
inside-below n = inside-from 0 n n (omega arith)

module _ {X Y : Type 0} (f : X → Y) (d : X) (xs : List X) where
  picked-from : (a n : ℕ) → a + n ≡ length xs → map (λ place. f (get_or xs place d)) (range_with_len a n) ≡ map f (drop a xs)
  picked-from a zero whole = sym (ap (map f) (drop_whole a xs (omega arith)))
    where
      drop_whole : (n : ℕ) (ys : List X) → length ys ≤ n → drop n ys ≡ []
      drop_whole zero [] few = refl
      drop_whole (suc n) [] few = refl
      drop_whole zero (y ∷ ys) few = absurd (omega arith)
      drop_whole (suc n) (y ∷ ys) few = drop_whole n ys (omega arith)
  picked-from a (suc n) whole =
      ap (λ ys. f (get_or xs a d) ∷ ys) (picked-from (a + 1) n (omega arith))
      ∙ ap (λ m. f (get_or xs a d) ∷ map f (drop m xs)) (add-one a)
      ∙ sym (ap (map f) (drop-cons xs a d (omega arith)))

  -- what stands at all places
  pub picked-all : map (λ place. f (get_or xs place d)) (below (length xs)) ≡ map f xs
  picked-all = picked-from 0 (length xs) (omega arith)
