-- A row, written field by field.
use Rattle.std.proofs.Common.{◌≡◌, ℕ, ◌+◌, ◌-◌, ◌<◌, ◌≤◌, List, [], ◌∷◌, ◌++◌, length, take, set, refl, ap, ◌∙◌, arith}
use Rattle.std.proofs.lemmas.List.{length-set, length-take, length-append}
use Rattle.std.proofs.lemmas.Slice.{take-put_mid}
use borrow.Rule.Slice.PartMut.{put_mid}
use Rattle.std.specs.Int.{w32, to_be_bytes}
use Rattle.esa_analyser.specs.Rows.{row_bytes}

first_set : (out : List ℕ) (v : ℕ) → 0 < length out → take 1 (set out 0 v) ≡ v ∷ []
first_set [] v some = absurd (omega arith)
first_set (x ∷ xs) v some = refl

pub take-row : (value out first last : List ℕ) (count : ℕ) → length value ≤ 190 → length out ≡ 195 → first ≡ value → last ≡ to_be_bytes w32 count
    → take (1 + length value + 4) (put_mid (1 + length value) (1 + length value + 4 - (1 + length value)) (put_mid 1 (1 + length value - 1) (set out 0 (length value)) first) last) ≡ row_bytes (value, count)
take-row value out first last count short room first_is last_is =
    let started = set out 0 (length value) in
    let size : length started ≡ 195 = length-set out 0 (length value) ∙ room in
    let inner = put_mid 1 (1 + length value - 1) started first in
    let front : take (1 + length value) inner ≡ take 1 started ++ first = take-put_mid 1 (1 + length value - 1) started first (1 + length value) (omega (arith, ap length first_is)) (omega arith) in
    let long : 1 + length value ≤ length inner =
    omega (arith, ap length front, length-take (1 + length value) inner, length-append (take 1 started) first, length-take 1 started, ap length first_is) in
    let head : take 1 started ≡ length value ∷ [] = first_set out (length value) (omega arith) in
    take-put_mid (1 + length value) (1 + length value + 4 - (1 + length value)) inner last (1 + length value + 4) (omega (arith, ap length last_is)) long
    ∙ (λ i. (front ∙ ap (λ ys. ys ++ first) head) i ++ last_is i)
    ∙ ap (λ ys. (length value ∷ ys) ++ to_be_bytes w32 count) first_is
