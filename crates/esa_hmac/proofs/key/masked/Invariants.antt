use Rattle.std.proofs.Common.{◌≡◌, ◌++◌, map, take, drop, bit_xor}
use Rattle.esa_hmac.proofs.key.masked.Given as goal

-- the bytes before the place are masked, and the others are as they were
abbrev pub invariant-loop-place : goal.invariant-loop-place
invariant-loop-place l =
    l.out ≡ map (λ byte. bit_xor byte l.mask) (take l.place l.initial.out) ++ drop l.place l.initial.out
