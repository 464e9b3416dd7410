-- What comes out of a run whose output is scanned.
use Rattle.std.specs.Prelude.{◌≡◌, ℕ, List, IsPermutation}
use Rattle.std.specs.List.{concat}
use Rattle.esa_analyser.specs.Opened.{database_of}
use Rattle.esa_crowds.specs.Kept.{forward}
use Rattle.esa_ending.specs.Endings.{ComesOut}
use Rattle.esa_envelope.specs.declared.keys.Keys.{Keys}
use Rattle.esa_params.specs.Sizes.{Sizes}
use Rattle.esa_report.specs.declared.item.Item.{Item}
use Rattle.esa_scans.specs.Scans.{items_from}
use Rattle.esa_spec.specs.Draws.{Draw}
use Rattle.esa_shuffle.specs.Records.{records_given}

-- the records of a batch, by the bytes that it gave, come out in the order of attempt a, none lost or doubled, and both scans
-- of the output were given them. What is sent is what is kept of them, and has the database of what would be kept of the
-- batch by place
pub record BatchComesOut (p : Sizes) (ds : ℕ → Draw) (hs : List (List ℕ)) (a : ℕ) (outer run : Keys) (key drops : List ℕ) (t : ℕ) (given : List ℕ) (first second : List (List ℕ)) (sent : List ℕ) : Type 0 where
  pub out : List Item
  pub order : ComesOut p ds hs a (records_given p outer given) out
  pub permuted : IsPermutation (records_given p outer given) out
  pub first_scan : items_from p run a 0 first ≡ out
  pub second_scan : items_from p run a 0 second ≡ out
  pub kept : sent ≡ concat (forward p.form key drops t out)
  pub database : (inner : Keys) → database_of inner (forward p.form key drops t out) ≡ database_of inner (forward p.form key drops t (records_given p outer given))
