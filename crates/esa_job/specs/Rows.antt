-- What contracts see in a row of the table.
use Rattle.esa_job.specs.Table as table
use Rattle.esa_job.specs.declared.table.Row.{Row}

abbrev pub seen_row : Row → table.Row
seen_row row = record { word = row.word.now; kind = row.kind; needed = row.needed.now; optional = row.optional.now; limits = row.limits }
