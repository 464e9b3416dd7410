-- What a list of inner envelopes says.
use Rattle.std.specs.Prelude.{ℕ, ◌-◌, Bool, false, List, length, filter_map, Option, bytes_eq, unwrap_or}
use Rattle.std.specs.Ordering.{nat_cmp}
use Rattle.std.specs.Cmp.Lexicographic.{slice_cmp}
use Rattle.std.specs.FinMap as finite
use Rattle.std.specs.Option.{option_and_then, option_map_or}
use Rattle.esa_envelope.specs.declared.keys.Keys.{Keys}
use Rattle.esa_envelope.specs.declared.label.Label.TheVariants.{Inner}
use Rattle.esa_envelope.specs.Envelope.{opened}
use Rattle.esa_report.specs.Report.{value_in}
use Rattle.esa_analyser.specs.Database.{Database, rows_of}

-- the value of an envelope: it opens under the inner keys, to a report that spells the value
abbrev pub reported : Keys → List ℕ → Option (List ℕ)
reported keys envelope = option_and_then value_in (opened keys Inner envelope)

-- the values of a list of envelopes, each with how often it was reported, and the number of the other envelopes
abbrev pub database_of : Keys → List (List ℕ) → Database
database_of keys envelopes =
    record { rows = rows_of (filter_map (reported keys) envelopes); unopened = length envelopes - length (filter_map (reported keys) envelopes) }

-- an envelope gives a value
abbrev pub gives : Keys → List ℕ → List ℕ → Bool
gives keys value envelope = option_map_or (λ reported_value. bytes_eq reported_value value) (reported keys envelope) false

-- the count of a value in a database: 0 where it has no row
abbrev pub count_in : Database → List ℕ → ℕ
count_in database value = unwrap_or (finite.find (slice_cmp nat_cmp) value database.rows) 0
