use Rattle.std.proofs.Common.{◌≡◌, ℕ, zero, suc, List, [], ◌∷◌, bit_xor, get_or, refl, arith}
use Rattle.std.proofs.lemmas.List.Edits.{map_over_more}
use Rattle.esa_hmac.proofs.key.masked.Goals as goal

-- what a place holds, where anything at all is the default
read_again : (xs : List ℕ) (i : ℕ) → get_or xs i 0 ≡ get_or xs i (get_or xs i 0)
read_again [] i = refl
read_again (x ∷ xs) zero = refl
read_again (x ∷ xs) (suc i) = read_again xs i

pub loop-place-preserved : goal.loop-place-preserved
loop-place-preserved c =
    map_over_more (λ byte. bit_xor byte c.args.mask) c.args.block.now c.loop-place.out c.loop-place.place
    (get_or c.loop-place.out c.loop-place.place 0) (omega arith) c.loop-place.invariant
    (read_again c.loop-place.out c.loop-place.place)
