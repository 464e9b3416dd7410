-- How a table holds it.
use Rattle.std.specs.Prelude.{◌≡◌, ◌≤◌, ◌<◌, ◌^◌, length, vec_capacity, All}
use Rattle.esa_crowds.specs.declared.table.Table.TheInside.{Inside}
use Rattle.esa_crowds.specs.Gathered.{Gathered}
use Rattle.esa_crowds.specs.Rows.{IsPadded, RiseWithin, entries_in}

abbrev pub gathered_in : Inside → Gathered
gathered_in table = record { form = table.form; room = table.room; next = table.next; entries = entries_in table.form table.rows.items; kept = table.marks.items }

-- there is room for a row, a place and a mark of each record, and the positions rise
pub record IsTable (table : Inside) : Type 0 where
  pub rise : RiseWithin 0 table.next (entries_in table.form table.rows.items)
  pub padded : All (IsPadded table.form) table.rows.items
  pub within : table.next ≤ table.room
  pub rows : table.room ≤ vec_capacity table.rows
  pub places : table.room ≤ vec_capacity table.order
  pub marks : length table.marks.items ≡ table.room
  pub small : table.room < 2 ^ 32
