-- Records of one length, one after another.
use Rattle.std.specs.Prelude.{◌≡◌, ℕ, zero, suc, List, [], ◌∷◌, length, take, drop, All}

-- the first `count` pieces of `size` bytes each
abbrev pub pieces : ℕ → ℕ → List ℕ → List (List ℕ)
pieces size zero bytes = []
pieces size (suc count) bytes = take size bytes ∷ pieces size count (drop size bytes)

-- each record has this length
abbrev pub HaveLength : ℕ → List (List ℕ) → Type 0
HaveLength size records = All (λ record_bytes. length record_bytes ≡ size) records
