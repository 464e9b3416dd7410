-- A queue that is fed and emptied along steps of a compression, item by item. What it gives and where it stops is for the
-- laws to tie to the places and the verdict.
use Rattle.std.specs.Prelude.{ℕ, ◌+◌, nat_lt, if◌then◌else◌, List, [], ◌∷◌, ◌++◌, length, take, drop}
use Rattle.esa_params.specs.Sizes.{Sizes, size}
use Rattle.esa_report.specs.declared.item.Item.{Item}
use Rattle.esa_spec.specs.Draws.{Draw}
use Rattle.esa_spec.specs.Verdicts.{Step, Import, Put, is_good}
use Rattle.esa_spec.specs.declared.event.Verdict.{Verdict}
use Rattle.esa_spec.specs.declared.event.Verdict.TheVariants.{Good, QueueOverflow, QueueStarved}
use Rattle.esa_compress.specs.Held.{held_in, held_count}
use Rattle.esa_compress.specs.Imported.{import_items}

module _ (record_of : ℕ → Item) (p : Sizes) (d : Draw) (o : List ℕ) where
  -- the queue after a step: what enters goes behind it, and an output bucket takes its front
  abbrev pub after : List Item → Step → List Item
  after queue (Import j i) = queue ++ held_in (import_items record_of p d o i) (d.order i)
  after queue (Put j) = drop (size p j) queue

  -- whether a step can be done: no more than q items may be held, and no fewer than are taken
  abbrev pub answer : List Item → Step → Verdict
  answer queue (Import j i) = if nat_lt p.q (length queue + held_count (import_items record_of p d o i)) then QueueOverflow i else Good
  answer queue (Put j) = if nat_lt (length queue) (size p j) then QueueStarved j else Good

  -- what a step gives out
  abbrev pub given : List Item → Step → List (List Item)
  given queue (Import j i) = []
  given queue (Put j) = take (size p j) queue ∷ []

  -- how steps end, up to the first that can't be done
  abbrev pub fed_verdict : List Item → List Step → Verdict
  fed_verdict queue [] = Good
  fed_verdict queue (x ∷ xs) = if is_good (answer queue x) then fed_verdict (after queue x) xs else answer queue x

  -- the items of the output buckets, one after another, where all steps are done
  abbrev pub fed_outputs : List Item → List Step → List (List Item)
  fed_outputs queue [] = []
  fed_outputs queue (x ∷ xs) = given queue x ++ fed_outputs (after queue x) xs
