use Rattle.std.proofs.Common.{◌≡◌, ◌*◌, take, drop}
use Rattle.hex.specs.Hex.{decode_pairs}
use Rattle.hex.proofs.Pairs.{prepend}
use Rattle.esa_bytes.proofs.hexadecimal.hex_into.Given as goal

-- the bytes so far stand before those of the digits that are left
abbrev pub invariant-loop-place : goal.invariant-loop-place
invariant-loop-place l =
    decode_pairs 0 l.text ≡ prepend (take l.place l.out) (decode_pairs (2 * l.place) (drop (2 * l.place) l.text))
