-- Lists of entries.
use Rattle.std.specs.Prelude.{ℕ, ◌==◌, List, count_by}

-- how often x stands in the list
abbrev pub times : ℕ → List ℕ → ℕ
times x xs = count_by (λ y. y == x) xs
