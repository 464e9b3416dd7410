-- Pieces of coefficients, one by one.
use Rattle.std.proofs.Common.{◌≡◌, ◌≢◌, ℕ, zero, suc, ◌+◌, ◌-◌, List, ◌++◌, refl, ap, arith}
use Rattle.std.specs.Prelude.{flat_map}
use Rattle.std.specs.List.{range_with_len}

-- the piece of the first power, and those behind it
pub pieces_more : (f : ℕ → List ℕ) (power count : ℕ) → count ≢ 0 → f power ++ flat_map f (range_with_len (power + 1) (count - 1)) ≡ flat_map f (range_with_len power count)
pieces_more f power zero some = absurd (some refl)
pieces_more f power (suc m) some =
    let back : suc m - 1 ≡ m = omega arith in
    ap (λ n. f power ++ flat_map f (range_with_len (power + 1) n)) back
