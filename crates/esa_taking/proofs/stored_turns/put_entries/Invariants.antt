use Rattle.std.proofs.Common.{◌≡◌, ℕ, List, ◌++◌, Option, drop}
use Rattle.std.specs.Prelude.{flat_map}
use Rattle.esa_lists.specs.Files.{Files}
use Rattle.esa_outside.specs.Heard.{Event}
use Rattle.esa_page.specs.Underway.{IsUnderway}
use Rattle.esa_page.specs.Writing.{IsWriting}
use Rattle.esa_taking.specs.StoredTurns.{entry_line}
use Rattle.esa_taking.proofs.stored_turns.put_entries.Given as goal

abbrev pub invariant-loop-entry : goal.invariant-loop-entry
invariant-loop-entry g l =
    (done : List ℕ) × (flat_map (entry_line l.owner) l.entries ≡ done ++ flat_map (entry_line l.owner) (drop l.entry-index l.entries))
    × ((before : Option Files) (text : List ℕ) → IsUnderway before l.name text l.initial.page (g.K.Cabinet.told l.initial.cabinet)
    → IsUnderway before l.name (text ++ done) l.page (g.K.Cabinet.told l.cabinet) × (g.K.Cabinet.faults l.cabinet ≡ g.K.Cabinet.faults l.initial.cabinet))
    × ((before : List Event) (text : List ℕ) → IsWriting before l.name text l.initial.page (g.K.Cabinet.heard l.initial.cabinet)
    → IsWriting before l.name (text ++ done) l.page (g.K.Cabinet.heard l.cabinet))
