-- Records in rising order.
use Rattle.std.specs.Prelude.{ℕ, ◌+◌, if◌then◌else◌, List, [], ◌∷◌, Option, Some, None}
use Rattle.std.specs.declared.cmp.Ordering.{Ordering}
use Rattle.std.specs.Ordering.{nat_cmp, is_lt}
use Rattle.std.specs.Cmp.Lexicographic.{slice_cmp}

-- records are compared byte by byte
abbrev pub by_bytes : List ℕ → List ℕ → Ordering
by_bytes = slice_cmp nat_cmp

-- the first place whose record is below the one before it, where `last` stands before the place `next`
abbrev pub fall_behind : ℕ → List ℕ → List (List ℕ) → Option ℕ
fall_behind next last [] = None
fall_behind next last (found ∷ rest) = if is_lt (by_bytes found last) then Some next else fall_behind (next + 1) found rest

-- the first place whose record is below the one before it, where the first record stands at a place
abbrev pub fall_at : ℕ → List (List ℕ) → Option ℕ
fall_at place [] = None
fall_at place (first ∷ rest) = fall_behind (place + 1) first rest
