-- Envelopes that are opened one after another.
use Rattle.std.proofs.Common.{◌≡◌, ℕ, suc, ◌+◌, ◌-◌, ◌*◌, ◌<◌, ◌≤◌, List, [], ◌++◌, length, take, drop, Option, Some, None, refl, sym, ap, ◌∙◌, arith, append_assoc}
use Rattle.std.specs.Prelude.{filter_map}
use Rattle.std.specs.List.{cons_option, sum_by}
use Rattle.std.proofs.lemmas.List.Sums.{sum_by-append}
use Rattle.std.specs.Option.{option_to_list}
use Rattle.esa_header.specs.Pieces.{pieces}
use Rattle.esa_header.proofs.PieceLaws.{rest_length}

-- there is at most one
pub at_most_one : {X : Type 0} (o : Option X) → sum_by (λ x. 1) (option_to_list o) ≤ 1
at_most_one None = omega arith
at_most_one (Some x) = omega arith

first_or_none : {X : Type 0} (o : Option X) (xs : List X) → cons_option o xs ≡ option_to_list o ++ xs
first_or_none None xs = refl
first_or_none (Some x) xs = refl

one_less : (number counter : ℕ) → counter < number → number - counter ≡ suc (number - (counter + 1))
one_less number counter below = omega arith

-- what is left behind the next piece
pub left_over : (size number counter : ℕ) (rest others : List ℕ) → counter < number → length rest ≡ size * (number - counter) → others ≡ drop size rest → length others ≡ size * (number - (counter + 1))
left_over size number counter rest others below whole behind =
    ap length behind ∙ rest_length size (number - (counter + 1)) rest (whole ∙ ap (λ n. size * n) (one_less number counter below))

-- the values so far, with that of the next piece
pub one_further : (given : List ℕ → Option (List ℕ)) (size number counter : ℕ) (rest envelope others : List ℕ) (all values more : List (List ℕ)) → counter < number → envelope ≡ take size rest → others ≡ drop size rest
    → all ≡ values ++ filter_map given (pieces size (number - counter) rest) → more ≡ values ++ option_to_list (given envelope)
    → all ≡ more ++ filter_map given (pieces size (number - (counter + 1)) others)
one_further given size number counter rest envelope others all values more below front behind so_far pushed =
    let later = filter_map given (pieces size (number - (counter + 1)) others) in
    so_far
    ∙ ap (λ n. values ++ filter_map given (pieces size n rest)) (one_less number counter below)
    ∙ first_piece
    ∙ ap (λ xs. values ++ xs) (first_or_none (given envelope) later)
    ∙ sym (append_assoc values (option_to_list (given envelope)) later)
    ∙ ap (λ xs. xs ++ later) (sym pushed)
  where
    first_piece : values ++ filter_map given (pieces size (suc (number - (counter + 1))) rest) ≡ values ++ cons_option (given envelope) (filter_map given (pieces size (number - (counter + 1)) others))
    first_piece = λ i. values ++ cons_option (given (sym front i)) (filter_map given (pieces size (number - (counter + 1)) (sym behind i)))

-- a sum over the values so far, with that of the next piece
pub sum_further : (f : List ℕ → ℕ) (given : List ℕ → Option (List ℕ)) (size number counter : ℕ) (rest envelope others : List ℕ) (all so_far more : ℕ) → counter < number → envelope ≡ take size rest → others ≡ drop size rest
    → all ≡ so_far + sum_by f (filter_map given (pieces size (number - counter) rest)) → more ≡ so_far + sum_by f (option_to_list (given envelope))
    → all ≡ more + sum_by f (filter_map given (pieces size (number - (counter + 1)) others))
sum_further f given size number counter rest envelope others all so_far more below front behind is pushed =
    let later = filter_map given (pieces size (number - (counter + 1)) others) in
    let parts : filter_map given (pieces size (number - counter) rest) ≡ option_to_list (given envelope) ++ later = one_further given size number counter rest envelope others _ [] _ below front behind refl refl in
    omega (arith, is, pushed, ap (sum_by f) parts, sum_by-append f (option_to_list (given envelope)) later)
