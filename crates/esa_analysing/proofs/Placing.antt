-- A number in its places.
use Rattle.std.proofs.Common.{◌≡◌, ℕ, ◌-◌, ◌≤◌, List, ◌++◌, length, take, replicate, ap, ◌∙◌, arith, append_assoc}
use Rattle.std.proofs.lemmas.List.{take-replicate}
use Rattle.esa_bytes.specs.Decimal.{decimal_of}
use Rattle.esa_analysing.specs.RowText.{placed}

-- spaces and digits are a number in its places
pub placed_parts : (self first second spaces digits : List ℕ) (number count pad : ℕ) → first ≡ self ++ spaces → second ≡ first ++ digits → spaces ≡ take pad (replicate 10 32) → pad ≡ 10 - count → count ≡ length (decimal_of number) → digits ≡ decimal_of number → second ≡ self ++ placed number
placed_parts self first second spaces digits number count pad first_is second_is spaces_are pad_is count_is digits_are =
    let few : pad ≤ 10 = omega arith in
    let fill : spaces ≡ replicate (10 - length (decimal_of number)) 32 = spaces_are ∙ take-replicate pad 10 32 few ∙ ap (λ n. replicate n 32) (pad_is ∙ ap (λ n. 10 - n) count_is) in
    second_is ∙ ap (λ ys. ys ++ digits) first_is ∙ append_assoc self spaces digits ∙ (λ i. self ++ (fill i ++ digits_are i))
