-- One exchange, by lengths alone: what it makes of the queues and the counts is what the definitions say of one bucket more.
use Rattle.std.proofs.Common.{◌≡◌, ℕ, suc, ◌+◌, ◌<◌, List, [], ◌∷◌, ◌++◌, length, sum_by, sym, ap, ◌∙◌, arith}
use Rattle.std.specs.Prelude.{count_by, ◌==◌}
use Rattle.std.proofs.lemmas.List.{length-append, length-drop, length-take}
use Rattle.std.proofs.lemmas.List.Folds.{fold-map}
use Rattle.std.proofs.lemmas.List.FromFn.{get_or-map-range_with_len, length-range_with_len}
use Rattle.esa_laws.proofs.LineLaws.{backlog-push, chunk-push, length-queued}
use Rattle.esa_laws.proofs.PlaceLaws as place
use Rattle.esa_params.specs.Sizes.{Sizes, below, first, places_of, size}
use Rattle.esa_report.specs.declared.item.Item.{Item}
use Rattle.esa_spec.specs.Draws.{Draw}
use Rattle.esa_spec.specs.Lines.{backlog, chosen_places, chunk, queued, stashed}
use Rattle.esa_laws.proofs.Ranges.{sum-below-same}
use Rattle.esa_stash.specs.Stash.{Held, coming, count, exchanged, line, queue_at, rest, targets_of, total}
use Rattle.esa_floor.specs.Exchanges.{AreOf}

places : (p : Sizes) (j : ℕ) → length (places_of p j) ≡ size p j
places p j = length-range_with_len (first p j) (size p j)

module _ (p : Sizes) (d : Draw) (o : List ℕ) (j : ℕ) (held : Held) (targets : List ℕ) (items : List Item) (counts : List ℕ)
    (of : AreOf p held counts) (drawn : length (d.targets j) ≡ size p j) (is : targets ≡ d.targets j) (each : length items ≡ length targets)
    (waits : (i : ℕ) → i < p.b → length (queue_at held i) ≡ backlog p d o (length o) i)
  where
    -- as many items come for a target as places were drawn for it
    came : (i : ℕ) → length (coming (targets, items) i) ≡ length (chosen_places p d i j)
    came i =
        place.length-chosen i targets items (sym each) ∙ ap (count_by (λ t. t == i)) is
        ∙ sym (place.length-chosen i (d.targets j) (places_of p j) (drawn ∙ sym (places p j)))

    rest-length : (i : ℕ) → i < p.b → length (rest held (targets, items) i) ≡ backlog p d (o ++ j ∷ []) (suc (length o)) i
    rest-length i inside =
        let shorter = length-drop held.c (line held (targets, items) i) in
        let long = length-append (queue_at held i) (coming (targets, items) i) in
        let more = came i in
        let before = waits i inside in
        let after = backlog-push p d o j i in
        let c = of.chunk in
        omega arith

    -- how many items the stash holds after it
    pub total_is : total (exchanged held (targets, items)) ≡ stashed p d (o ++ j ∷ []) (suc (length o))
    total_is =
        fold-map (λ (a : ℕ) (q : List Item). a + length q) (rest held (targets, items)) 0 (targets_of held)
        ∙ ap (λ (n : ℕ). sum_by (λ i. length (rest held (targets, items) i)) (below n)) of.queue_each
        ∙ sum-below-same (λ i. length (rest held (targets, items) i)) (backlog p d (o ++ j ∷ []) (suc (length o))) p.b rest-length

    pub waits_after : (i : ℕ) → i < p.b → length (queue_at (exchanged held (targets, items)) i) ≡ backlog p d (o ++ j ∷ []) (length (o ++ j ∷ [])) i
    waits_after i inside =
        let many : i < length held.queues = let q = of.queue_each in omega arith in
        let one_more : suc (length o) ≡ length (o ++ j ∷ []) = let l = length-append o (j ∷ []) in omega arith in
        ap length (get_or-map-range_with_len (rest held (targets, items)) 0 (length held.queues) i i [] many (omega arith))
        ∙ rest-length i inside ∙ ap (λ (k : ℕ). backlog p d (o ++ j ∷ []) k i) one_more

    pub count_is : (i : ℕ) → i < p.b → count held (targets, items) i ≡ length (chunk p d (o ++ j ∷ []) (length o) i)
    count_is i inside =
        let taken = length-take held.c (line held (targets, items) i) in
        let long = length-append (queue_at held i) (coming (targets, items) i) in
        let more = came i in
        let before = waits i inside in
        let chunk_is = ap length (chunk-push p d o j i) in
        let other = length-take p.c (queued p d o (length o) i ++ chosen_places p d i j) in
        let other_long = length-append (queued p d o (length o) i) (chosen_places p d i j) in
        let queue_is = length-queued p d o (length o) i in
        let c = of.chunk in
        omega arith
