-- How many places have come for a target when each bucket was exchanged.
use Rattle.std.proofs.Common.{◌≡◌, ℕ, ◌+◌, ◌*◌, ◌<◌, List, [], ◌∷◌, length, map, refl, sym, ap, ◌∙◌, length-append}
use Rattle.std.specs.Prelude.{count_by, sum_by, ◌==◌}
use Rattle.std.proofs.lemmas.List.FromFn.{length-range_with_len}
use Rattle.std.proofs.lemmas.List.Sorted.{sum_by-IsPermutation}
use Rattle.std.proofs.lemmas.List.Sums.{sum_by-cons}
use Rattle.esa_params.specs.Sizes.{Sizes, first, size, below, places_of}
use Rattle.esa_laws.proofs.PlaceLaws.{length-chosen}
use Rattle.esa_laws.proofs.Ranges.{sum-below-same}
use Rattle.esa_laws.proofs.Sums.{sum-of-map, sum-of-flat_map}
use Rattle.esa_laws.proofs.Tests.{bit}
use Rattle.esa_laws.proofs.TotalLaws.{order-permutes}
use Rattle.esa_spec.specs.Draws.{Draw}
use Rattle.esa_spec.specs.Lines.{chosen_places, batches, arrivals}
use Rattle.esa_spec.specs.Queue.{joined}
use Rattle.esa_spec.specs.Turns.{order, writes}
use Rattle.esa_spec.specs.Verdicts.{targets}
use Rattle.esa_model.specs.Passed.{occurrences}
use Rattle.esa_model.proofs.LineLemmas.{arrivals-all}

-- as many as were chosen from each bucket
length-joined : (p : Sizes) (d : Draw) (i : ℕ) (o : List ℕ) → length (joined (batches p d o i)) ≡ sum_by (λ j. length (chosen_places p d i j)) o
length-joined p d i [] = refl
length-joined p d i (j ∷ o) =
    length-append (chosen_places p d i j) (joined (batches p d o i))
    ∙ ap (λ (n : ℕ). length (chosen_places p d i j) + n) (length-joined p d i o)
    ∙ sym (sum_by-cons (λ k. length (chosen_places p d i k)) j o)

pub all-counted : (p : Sizes) (d : Draw) (h : List ℕ) → ((j : ℕ) → j < p.b → length (d.targets j) ≡ size p j) → writes p.b h ≡ p.b * p.b
    → (i : ℕ) → arrivals p d (order p.b h) (length (order p.b h)) i ≡ occurrences i (targets p d)
all-counted p d h each all i =
    arrivals-all p d (order p.b h) i
    ∙ length-joined p d i (order p.b h)
    ∙ sum_by-IsPermutation (λ j. length (chosen_places p d i j)) (below p.b) (order p.b h) (order-permutes p.b h all)
    ∙ sum-below-same (λ j. length (chosen_places p d i j)) (λ j. occurrences i (d.targets j)) p.b
    (λ j j_in. length-chosen i (d.targets j) (places_of p j) (each j j_in ∙ sym (length-range_with_len (first p j) (size p j))))
    ∙ sym (sum-of-flat_map (λ t. bit (t == i)) (λ e. e) (map d.targets (below p.b)) ∙ sum-of-map (count_by (λ t. t == i)) d.targets (below p.b))
