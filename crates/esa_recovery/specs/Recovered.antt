-- The database of what the rows of a database mean.
use Rattle.std.specs.Prelude.{ℕ, ◌+◌, List, [], ◌∷◌, Option, Some, None, unwrap_or, sum_by}
use Rattle.std.specs.Ordering.{nat_cmp}
use Rattle.std.specs.Cmp.Lexicographic.{slice_cmp}
use Rattle.std.specs.FinMap as finite
use Rattle.esa_analyser.specs.Database.{Database}
use Rattle.esa_recovery.specs.Meaning.{meaning}

-- from values to how often each was reported
abbrev pub Sums : Type 0
Sums = finite.FinMap (slice_cmp nat_cmp) ℕ

-- a count more, where the row means a value
abbrev pub added : Option (List ℕ) → ℕ → Sums → Sums
added None count sums = sums
added (Some value) count sums = finite.insert sums value (unwrap_or (finite.get sums value) 0 + count)

-- the counts of the rows, by what they mean
abbrev pub summed : (List ℕ → Option (List ℕ)) → List (List ℕ × ℕ) → Sums
summed means [] = finite.empty
summed means (row ∷ rows) = added (means row.0) row.1 (summed means rows)

-- the count of a row that means nothing
abbrev pub lost : Option (List ℕ) → ℕ → ℕ
lost None count = count
lost (Some value) count = 0

-- the sum of all counts and of the number unopened
abbrev pub total : Database → ℕ
total database = database.unopened + sum_by (λ row. row.1) database.rows

-- the values that the rows mean, with the sums of their counts; what means nothing adds to the number unopened
abbrev pub recovered_database : Database → Database
recovered_database database = record {
  rows = finite.entries (summed (meaning database.rows) database.rows);
  unopened = database.unopened + sum_by (λ row. lost (meaning database.rows row.0) row.1) database.rows;
}
