-- The turns of a run as a file.
use Rattle.std.specs.Prelude.{◌≡◌, ℕ, ◌-◌, ◌==◌, if◌then◌else◌, List, [], ◌∷◌, ◌++◌, length, take, drop, flat_map}
use Rattle.esa_spec.specs.Files.{turn_line, next_line}
use Rattle.esa_spec.specs.Histories.{lists}

-- the line of an entry: that of a turn, or `next` for the owner's entry
abbrev pub entry_line : ℕ → ℕ → List ℕ
entry_line owner entry = if entry == owner then next_line else turn_line entry

-- the entries between the first and the last one
abbrev pub inner : List ℕ → List ℕ
inner history = take (length history - 2) (drop 1 history)

-- the owner's entry, and then the turns of each attempt with the owner's entry behind them
abbrev pub IsHistory : ℕ → List ℕ → Type 0
IsHistory owner history = history ≡ owner ∷ flat_map (λ (h : List ℕ). h ++ owner ∷ []) (lists owner history)
