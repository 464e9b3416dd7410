use Rattle.std.proofs.Common.{◌≡◌, ◌≤◌, ℕ, List, ◌++◌, Option, length}
use Rattle.std.specs.Prelude.{All}
use Rattle.esa_lists.specs.Files.{Files}
use Rattle.esa_outside.specs.Heard.{Event}
use Rattle.esa_page.specs.Underway.{IsUnderway}
use Rattle.esa_page.specs.Writing.{IsWriting}
use Rattle.esa_analyser.specs.Repeated.{all_keys, IsRepeated}
use Rattle.esa_analyser.specs.RunBytes.{run_bytes}
use Rattle.esa_analyser.proofs.keys.put_runs.Given as goal

abbrev pub invariant-loop-rest : goal.invariant-loop-rest
invariant-loop-rest g l = record {
  each : All IsRepeated l.rest;
  few : length (all_keys l.rest) ≤ length (all_keys l.keys);
  so_far : (done : List ℕ) × (run_bytes (all_keys l.keys) ≡ done ++ run_bytes (all_keys l.rest))
      × ((before : Option Files) (text : List ℕ) → IsUnderway before l.name text l.initial.page (g.K.Cabinet.told l.initial.cabinet)
      → IsUnderway before l.name (text ++ done) l.page (g.K.Cabinet.told l.cabinet) × (g.K.Cabinet.faults l.cabinet ≡ g.K.Cabinet.faults l.initial.cabinet))
      × ((before : List Event) (text : List ℕ) → IsWriting before l.name text l.initial.page (g.K.Cabinet.heard l.initial.cabinet)
      → IsWriting before l.name (text ++ done) l.page (g.K.Cabinet.heard l.cabinet));
}

abbrev pub decreases-loop-rest : goal.decreases-loop-rest
decreases-loop-rest g l = length l.rest
