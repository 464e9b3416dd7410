-- What an `Analysis` stands for.
use Rattle.std.specs.Prelude.{◌≡◌, ◌-◌, ◌≤◌, ◌<◌, ◌^◌, length}
use Rattle.esa_analyser.specs.declared.analysis.Analysis.TheInside.{Inside}
use Rattle.esa_analyser.specs.Database.{rows_of}
use Rattle.esa_analyser.specs.Counted.{Counted}
use Rattle.esa_analyser.specs.Kept.{keys_of, form_of, capacity_of, values_of, AreSorted}

-- the rows of the kept values; the envelopes that gave none are the others
abbrev pub counted_in : Inside → Counted
counted_in a = record {
  form = form_of a.kept;
  room = a.room;
  database = record { rows = rows_of (values_of a.kept); unopened = a.total - length (keys_of a.kept) };
}

-- the keys are in order, the number of rows is known, and there is room for the keys of so many envelopes
pub record IsCounted (a : Inside) : Type 0 where
  pub sorted : AreSorted a.kept
  pub rows : a.rows ≡ length (rows_of (values_of a.kept))
  pub few : length (keys_of a.kept) ≤ a.total
  pub small : a.total < 2 ^ 32
  pub within : a.total ≤ a.room
  pub room : a.room ≤ capacity_of a.kept
