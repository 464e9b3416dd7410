use Rattle.std.proofs.Common.{◌≡◌, ◌<◌, ℕ, bit_xor, get_or}
use Rattle.esa_envelope.proofs.keystream.mask_word.Given as goal

-- the bytes before the place are masked
abbrev pub invariant-loop-place : goal.invariant-loop-place
invariant-loop-place l =
    (k : ℕ) → k < l.place → get_or l.into k 0 ≡ bit_xor (get_or l.from k 0) (get_or l.mask k 0)
