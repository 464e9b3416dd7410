-- What is heard of a file that is read in pieces.
use Rattle.std.specs.Prelude.{ℕ, ◌+◌, List, [], ◌∷◌, length}
use Rattle.esa_outside.specs.Heard.{Event, part_of}

-- pieces that are given one behind another, from a place on
abbrev pub pieces_heard : List ℕ → ℕ → List (List ℕ) → List Event
pieces_heard name at [] = []
pieces_heard name at (piece ∷ pieces) = part_of name at piece ∷ pieces_heard name (at + length piece) pieces
