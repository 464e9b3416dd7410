-- Zero bytes are copies of zero.
use Rattle.std.proofs.Common.{◌≡◌, ℕ, zero, suc, ◌-◌, true, List, [], ◌∷◌, length, take, drop, get_or, eqb, refl, ap, arith}
use Rattle.std.specs.Prelude.{bytes_eq, replicate}
use Rattle.std.proofs.lemmas.Bool.{and_parts, eqb-true}
use Rattle.std.proofs.lemmas.List.{take_all}
use Rattle.std.proofs.Math.Dec.{eqb-suc-zero, eqb-zero-suc}
use Rattle.esa_report.specs.Item.{zero_body}
use Rattle.esa_report.specs.Zero.{is_zero}

pub replicate-zero : (bytes : List ℕ) → is_zero bytes ≡ true → bytes ≡ replicate (length bytes) 0
replicate-zero [] h = refl
replicate-zero (byte ∷ rest) h =
    let parts = and_parts (eqb byte 0) (is_zero rest) h in
    rw (eqb-true byte 0 parts.0) (ap (λ more. 0 ∷ more) (replicate-zero rest parts.1))

pub is_zero-replicate : (n : ℕ) → is_zero (replicate n 0) ≡ true
is_zero-replicate zero = refl
is_zero-replicate (suc n) = is_zero-replicate n

pub is_zero-drop : (n : ℕ) (bytes : List ℕ) → is_zero bytes ≡ true → is_zero (drop n bytes) ≡ true
is_zero-drop zero bytes h = h
is_zero-drop (suc n) [] h = refl
is_zero-drop (suc n) (byte ∷ rest) h = is_zero-drop n rest (and_parts (eqb byte 0) (is_zero rest) h).1

pub is_zero-zero_body : is_zero zero_body ≡ true
unfolding zero_body
is_zero-zero_body = is_zero-replicate 264

same_behind : (bytes : List ℕ) → bytes_eq (take (length bytes) (0 ∷ bytes)) bytes ≡ is_zero bytes
same_behind [] = refl
same_behind (zero ∷ rest) = same_behind rest
same_behind (suc n ∷ rest) = rw (eqb-suc-zero n, eqb-zero-suc n) refl

-- bytes behind a zero byte are zero where each equals the one before it
pub is_zero-shifted : (bytes : List ℕ) → get_or bytes 0 0 ≡ 0
    → bytes_eq (take (length bytes - 1) bytes) (take (length bytes - 1) (drop 1 bytes)) ≡ is_zero bytes
is_zero-shifted [] first = refl
is_zero-shifted (byte ∷ rest) first =
    let n : length (byte ∷ rest) - 1 ≡ length rest = omega arith in
    rw (n, first, take_all (length rest) rest (omega arith)) (same_behind rest)
