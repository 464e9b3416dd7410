use Rattle.std.proofs.Common.{◌≡◌, ℕ, List, ◌++◌, Option, drop}
use Rattle.std.specs.Prelude.{flat_map}
use Rattle.esa_lists.specs.Files.{Files}
use Rattle.esa_outside.specs.Heard.{Event}
use Rattle.esa_page.specs.Underway.{IsUnderway}
use Rattle.esa_page.specs.Writing.{IsWriting}
use Rattle.esa_spec.specs.Files.{access_bytes}
use Rattle.esa_trace.proofs.write.put_accesses.Given as goal

abbrev pub invariant-loop-access : goal.invariant-loop-access
invariant-loop-access g l =
    (done : List ℕ) × (flat_map access_bytes l.accesses ≡ done ++ flat_map access_bytes (drop l.access-index l.accesses))
    × ((before : Option Files) (text : List ℕ) → IsUnderway before l.name text l.initial.page (g.K.Cabinet.told l.initial.cabinet)
    → IsUnderway before l.name (text ++ done) l.page (g.K.Cabinet.told l.cabinet) × (g.K.Cabinet.faults l.cabinet ≡ g.K.Cabinet.faults l.initial.cabinet))
    × ((before : List Event) (text : List ℕ) → IsWriting before l.name text l.initial.page (g.K.Cabinet.heard l.initial.cabinet)
    → IsWriting before l.name (text ++ done) l.page (g.K.Cabinet.heard l.cabinet))
