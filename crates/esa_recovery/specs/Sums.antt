-- Sums of counts by values, as they are kept.
use Rattle.std.specs.Prelude.{Bool, cond, ℕ, ◌+◌, List, [], ◌∷◌, map, Option, sum_by}
use Rattle.esa_recovery.specs.declared.sums.Sum.{Sum}

-- a count where what was meant passes the test, and else none of it
abbrev pub counted : (Option (List ℕ) → Bool) → Option (List ℕ) → ℕ → ℕ
counted test meant count = cond (test meant) count 0

-- the count of the rows whose meaning passes the test
abbrev pub tested : (Option (List ℕ) → Bool) → (List ℕ → Option (List ℕ)) → List (List ℕ × ℕ) → ℕ
tested test means rows = sum_by (λ row. counted test (means row.0) row.1) rows

-- the same of groups, by what each gave back
abbrev pub tested_groups : (Option (List ℕ) → Bool) → List (Option (List ℕ)) → List ℕ → ℕ
tested_groups test [] counts = 0
tested_groups test (value ∷ values) [] = 0
tested_groups test (value ∷ values) (count ∷ counts) = counted test value count + tested_groups test values counts

-- values with their counts
abbrev pub plain : List Sum → List (List ℕ × ℕ)
plain sums = map (λ sum. (sum.value.now, sum.count)) sums
