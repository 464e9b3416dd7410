use Rattle.std.proofs.Common.{◌≡◌, ℕ, List, ◌++◌, Option, drop}
use Rattle.std.specs.Prelude.{flat_map}
use Rattle.esa_lists.specs.Files.{Files}
use Rattle.esa_outside.specs.Heard.{Event}
use Rattle.esa_page.specs.Underway.{IsUnderway}
use Rattle.esa_page.specs.Writing.{IsWriting}
use Rattle.esa_analyser.specs.Rows.{row_bytes}
use Rattle.esa_analyser.proofs.write.put_rows.Given as goal

abbrev pub invariant-loop-row : goal.invariant-loop-row
invariant-loop-row g l =
    (done : List ℕ) × (flat_map row_bytes l.db.database.rows ≡ done ++ flat_map row_bytes (drop l.row l.db.database.rows))
    × ((before : Option Files) (text : List ℕ) → IsUnderway before l.name text l.initial.page (g.K.Cabinet.told l.initial.cabinet)
    → IsUnderway before l.name (text ++ done) l.page (g.K.Cabinet.told l.cabinet) × (g.K.Cabinet.faults l.cabinet ≡ g.K.Cabinet.faults l.initial.cabinet))
    × ((before : List Event) (text : List ℕ) → IsWriting before l.name text l.initial.page (g.K.Cabinet.heard l.initial.cabinet)
    → IsWriting before l.name (text ++ done) l.page (g.K.Cabinet.heard l.cabinet))
