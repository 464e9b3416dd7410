-- What the lines of an attempt tell when one more bucket is exchanged.
use Rattle.std.proofs.Common.{◌≡◌, ℕ, suc, ◌+◌, ◌-◌, ◌≤◌, ◌<◌, cond, List, [], ◌∷◌, ◌++◌, length, take, drop, sym, ◌∙◌, ap, add-one, arith}
use Rattle.std.specs.List.{find}
use Rattle.std.specs.Prelude.{Some, None, nat_lt}
use Rattle.std.specs.Option.{option_or}
use Rattle.std.proofs.lemmas.List.{map-append, length-map, length_push}
use Rattle.esa_params.specs.Sizes.{Sizes, below}
use Rattle.esa_laws.proofs.QueueLaws.{waiting-append, waiting-push, leaving-append, leaving-push, queue-append, queue-push, length-queue}
use Rattle.esa_laws.proofs.Ranges.{sum-below-same, find-below-same, find-below-suc}
use Rattle.esa_spec.specs.Draws.{Draw}
use Rattle.esa_spec.specs.Lines.{chosen_places, batches, backlog, chunk, queued, stashed, overflows}
use Rattle.esa_spec.specs.Queue.{waiting, leaving, queue}
use Rattle.esa_spec.specs.Verdicts.{failing}

module _ (p : Sizes) (d : Draw) (o : List ℕ) where
  -- there is a batch for each exchange
  pub length-batches : (i : ℕ) → length (batches p d o i) ≡ length o
  length-batches i = length-map o (chosen_places p d i)

  batches-append : (more : List ℕ) (i : ℕ) → batches p d (o ++ more) i ≡ batches p d o i ++ batches p d more i
  batches-append more i = map-append (chosen_places p d i) o more

  -- exchanges that come later
  pub backlog-append : (more : List ℕ) (k i : ℕ) → k ≤ length o → backlog p d (o ++ more) k i ≡ backlog p d o k i
  backlog-append more k i h =
      ap (λ es. waiting p.c es k) (batches-append more i)
      ∙ waiting-append p.c (batches p d o i) (batches p d more i) k (omega (arith, length-batches i))

  pub chunk-append : (more : List ℕ) (k i : ℕ) → k < length o → chunk p d (o ++ more) k i ≡ chunk p d o k i
  chunk-append more k i h =
      ap (λ es. leaving p.c es k) (batches-append more i)
      ∙ leaving-append p.c (batches p d o i) (batches p d more i) k (omega (arith, length-batches i))

  pub queued-append : (more : List ℕ) (k i : ℕ) → k ≤ length o → queued p d (o ++ more) k i ≡ queued p d o k i
  queued-append more k i h =
      ap (λ es. queue p.c es k) (batches-append more i)
      ∙ queue-append p.c (batches p d o i) (batches p d more i) k (omega (arith, length-batches i))

  pub stashed-append : (more : List ℕ) (k : ℕ) → k ≤ length o → stashed p d (o ++ more) k ≡ stashed p d o k
  stashed-append more k h = sum-below-same (backlog p d (o ++ more) k) (backlog p d o k) p.b (λ i i_in. backlog-append more k i h)

  pub overflows-append : (more : List ℕ) (k : ℕ) → k < length o → overflows p d (o ++ more) k ≡ overflows p d o k
  overflows-append more k h = ap (nat_lt p.s) (stashed-append more (suc k) (omega arith))

  -- one exchange more
  pub backlog-push : (j i : ℕ) → backlog p d (o ++ j ∷ []) (suc (length o)) i ≡ backlog p d o (length o) i + length (chosen_places p d i j) - p.c
  backlog-push j i =
      ap (λ es. waiting p.c es (suc (length o))) (batches-append (j ∷ []) i)
      ∙ ap (λ k. waiting p.c (batches p d o i ++ chosen_places p d i j ∷ []) (suc k)) (sym (length-batches i))
      ∙ waiting-push p.c (batches p d o i) (chosen_places p d i j)
      ∙ ap (λ k. waiting p.c (batches p d o i) k + length (chosen_places p d i j) - p.c) (length-batches i)

  pub chunk-push : (j i : ℕ) → chunk p d (o ++ j ∷ []) (length o) i ≡ take p.c (queued p d o (length o) i ++ chosen_places p d i j)
  chunk-push j i =
      ap (λ es. leaving p.c es (length o)) (batches-append (j ∷ []) i)
      ∙ ap (λ k. leaving p.c (batches p d o i ++ chosen_places p d i j ∷ []) k) (sym (length-batches i))
      ∙ leaving-push p.c (batches p d o i) (chosen_places p d i j)
      ∙ ap (λ k. take p.c (queue p.c (batches p d o i) k ++ chosen_places p d i j)) (length-batches i)

  pub queued-push : (j i : ℕ) → queued p d (o ++ j ∷ []) (suc (length o)) i ≡ drop p.c (queued p d o (length o) i ++ chosen_places p d i j)
  queued-push j i =
      ap (λ es. queue p.c es (suc (length o))) (batches-append (j ∷ []) i)
      ∙ ap (λ k. queue p.c (batches p d o i ++ chosen_places p d i j ∷ []) (suc k)) (sym (length-batches i))
      ∙ queue-push p.c (batches p d o i) (chosen_places p d i j)
      ∙ ap (λ k. drop p.c (queue p.c (batches p d o i) k ++ chosen_places p d i j)) (length-batches i)

  -- as many wait as are queued
  pub length-queued : (k i : ℕ) → length (queued p d o k i) ≡ backlog p d o k i
  length-queued k i = length-queue p.c (batches p d o i) k

  -- the failing exchange
  find-kept : (more : List ℕ) → find (overflows p d (o ++ more)) (below (length o)) ≡ failing p d o
  find-kept more = find-below-same (overflows p d (o ++ more)) (overflows p d o) (length o) (overflows-append more)

  pub failing-push : (j : ℕ) → failing p d (o ++ j ∷ []) ≡ option_or (failing p d o) (cond (overflows p d (o ++ j ∷ []) (length o)) (Some (length o)) None)
  failing-push j =
      let next = cond (overflows p d (o ++ j ∷ []) (length o)) (Some (length o)) None in
      ap (λ n. find (overflows p d (o ++ j ∷ [])) (below n)) (length_push o j ∙ add-one (length o))
      ∙ find-below-suc (overflows p d (o ++ j ∷ [])) (length o)
      ∙ ap (λ y. option_or y next) (find-kept (j ∷ []))
