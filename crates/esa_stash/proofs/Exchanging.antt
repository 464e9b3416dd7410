-- What an exchange leaves, by its lines and by all that was handed over before.
use Rattle.std.proofs.Common.{◌≡◌, ℕ, zero, suc, ◌+◌, ◌*◌, ◌<◌, ◌≤◌, List, [], ◌∷◌, ◌++◌, length, map, take, drop, replicate, flat_map, sum_by, eqb, Bool, cond, refl, sym, ap, ap₂, ◌∙◌, arith, inl, inr}
use Rattle.std.specs.List.{range_with_len}
use Rattle.std.proofs.lemmas.List.{length-map, length-drop, length-append, length-replicate, map_push, get_or-replicate, drop_all}
use Rattle.std.proofs.lemmas.List.Folds.{fold-map}
use Rattle.std.proofs.lemmas.List.Concat.{flat_map-append}
use Rattle.std.proofs.lemmas.List.FromFn.{get_or-map-range_with_len, fill_by_all, length-map-range_with_len}
use Rattle.std.proofs.lemmas.Bool.{cases_eq, eq-eqb, ne_eqb}
use Rattle.esa_laws.proofs.PlaceLaws.{length-chosen}
use Rattle.esa_laws.proofs.QueueLaws.{queue-push, leaving-push, waiting-push, length-queue}
use Rattle.esa_stash.specs.Sizes.{below}
use Rattle.esa_stash.specs.Draws.{chosen}
use Rattle.esa_stash.specs.Queue.{queue, leaving, waiting, departed}
use Rattle.esa_report.specs.declared.item.Item.{Item}
use Rattle.esa_stash.specs.Arena.{Arena, empty_arena, queues_of, items_in, chain_at, IsShared}
use Rattle.esa_stash.specs.Stash.{Held, Handed, empty_stash, targets_of, queue_at, coming, line, chunk, rest, padded, padded_chunk, chunks, count, counts, exchanged, total}
use Rattle.esa_stash.specs.Since.{batches, tail_length, HasTail, IsSince, last_chunk, last_chunks, last_count, last_counts, backlog, total_backlog}
use Rattle.esa_stash.specs.Dealing.{queue_of, line_after, left_of, left_after, arrivals, AreDealt}
use Rattle.esa_stash.proofs.Partitions.{occurrences-cons}
use Rattle.esa_stash.proofs.Rising.{occurrences-range, map-replicate}
use Rattle.esa_stash.proofs.TotalLemmas.{sum_by-below}
use Rattle.esa_laws.proofs.Ranges.{below-suc, map-below-same, sum-below-same}
use Rattle.esa_stash.proofs.Lines.{sum_by-least, queues_are, queued_together}
use Rattle.esa_stash.proofs.Drawing.{queue_of_chain}
use Rattle.esa_stash.proofs.Dealt.{free_cells}
use Rattle.esa_stash.proofs.Rows.{joined_chunks}

-- lists over the same numbers
flat_map-same : {X : Type 0} (f g : ℕ → List X) (n : ℕ) → ((i : ℕ) → i < n → f i ≡ g i) → flat_map f (below n) ≡ flat_map g (below n)
flat_map-same f g zero each = refl
flat_map-same {X} f g (suc n) each =
    ap (flat_map f) (below-suc n) ∙ flat_map-append f (below n) (n ∷ [])
    ∙ ap₂ (λ (l k : List X). l ++ (k ++ [])) (flat_map-same f g n (λ i inside. each i (omega arith))) (each n (omega arith))
    ∙ sym (ap (flat_map g) (below-suc n) ∙ flat_map-append g (below n) (n ∷ []))

-- two sums in one
sum_by-two : (f g : ℕ → ℕ) (n : ℕ) → sum_by (λ i. f i + g i) (below n) ≡ sum_by f (below n) + sum_by g (below n)
sum_by-two f g zero = refl
sum_by-two f g (suc n) =
    let more : suc n ≡ n + 1 = omega arith in
    let rest = sum_by-two f g n in
    let both = ap (λ (k : ℕ). sum_by (λ i. f i + g i) (below k)) more ∙ sum_by-below (λ i. f i + g i) n in
    let one = ap (λ (k : ℕ). sum_by f (below k)) more ∙ sum_by-below f n in
    let other = ap (λ (k : ℕ). sum_by g (below k)) more ∙ sum_by-below g n in
    omega arith

-- each target is counted once, if at all
one_target : (t n : ℕ) → sum_by (λ i. cond (eqb t i) 1 0) (below n) ≤ 1
one_target t n =
    let same = sum-below-same (λ i. cond (eqb t i) 1 0) (λ i. cond (eqb i t) 1 0) n (λ i _. ap (λ (b : Bool). cond {A = ℕ} b 1 0) (eqb-sym t i)) in
    let once = occurrences-range t 0 n (omega arith) in
    grind arith
  where
    eqb-sym : (a b : ℕ) → eqb a b ≡ eqb b a
    eqb-sym a b = elim (cases_eq a b) [
      | inl same ↦ eq-eqb a b same ∙ sym (eq-eqb b a (sym same))
      | inr other ↦ ne_eqb a b other ∙ sym (ne_eqb b a (λ e. other (sym e)))
    ]

arrivals-together : (ts : List ℕ) (n : ℕ) → sum_by (arrivals ts) (below n) ≤ length ts
arrivals-together [] n = let none = sum_by-none n in omega arith
  where
    sum_by-none : (n : ℕ) → sum_by (arrivals []) (below n) ≡ 0
    sum_by-none zero = refl
    sum_by-none (suc n) =
        let more : suc n ≡ n + 1 = omega arith in
        let rest = sum_by-none n in
        let last = ap (λ (k : ℕ). sum_by (arrivals []) (below k)) more ∙ sum_by-below (arrivals []) n in
        omega arith
arrivals-together (t ∷ ts) n =
    let rest = arrivals-together ts n in
    let one = one_target t n in
    let both = sum_by-two (λ i. cond (eqb t i) 1 0) (arrivals ts) n in
    let split = sum-below-same (arrivals (t ∷ ts)) (λ i. cond (eqb t i) 1 0 + arrivals ts i) n (λ i _. occurrences-cons i t ts) in
    omega arith

-- a queue is as long as its target's tail
pub length-tail : (held : Held) (all : List Handed) (i : ℕ) → HasTail all held i → length (queue_at held i) ≡ tail_length held.c all i
length-tail held all i has = ap length has ∙ length-queue held.c (batches all i) (length all)

-- ---- by all that was handed over before
module _ (held : Held) (all : List Handed) (last : Handed) (since : IsSince all held) where
  came : (i : ℕ) → batches (all ++ last ∷ []) i ≡ batches all i ++ coming last i ∷ []
  came i = map_push (λ (handed : Handed). coming handed i) all last

  as_many : (i : ℕ) → length (batches all i) ≡ length all
  as_many i = length-map all (λ (handed : Handed). coming handed i)

  line_is : (i : ℕ) → i < length held.queues → line held last i ≡ queue held.c (batches all i) (length (batches all i)) ++ coming last i
  line_is i inside =
      ap (λ (q : List Item). q ++ coming last i) (since i inside ∙ ap (queue held.c (batches all i)) (sym (as_many i)))

  rest_is : (i : ℕ) → i < length held.queues → rest held last i ≡ queue held.c (batches (all ++ last ∷ []) i) (suc (length all))
  rest_is i inside =
      ap (drop held.c) (line_is i inside)
      ∙ sym (queue-push held.c (batches all i) (coming last i))
      ∙ ap₂ (λ (bs : List (List Item)) (n : ℕ). queue held.c bs (suc n)) (sym (came i)) (as_many i)

  chunk_is : (i : ℕ) → i < length held.queues → chunk held last i ≡ leaving held.c (batches (all ++ last ∷ []) i) (length all)
  chunk_is i inside =
      ap (take held.c) (line_is i inside)
      ∙ sym (leaving-push held.c (batches all i) (coming last i))
      ∙ ap₂ (λ (bs : List (List Item)) (n : ℕ). leaving held.c bs n) (sym (came i)) (as_many i)

  backlog_is : (i : ℕ) → i < length held.queues → length (rest held last i) ≡ backlog held.c all last i
  backlog_is i inside =
      let before = queue held.c (batches all i) (length (batches all i)) in
      let shorter = length-drop held.c (line held last i) in
      let long = ap length (line_is i inside) ∙ length-append before (coming last i) in
      let waits = length-queue held.c (batches all i) (length (batches all i)) in
      let one_on = waiting-push held.c (batches all i) (coming last i) in
      let after = ap₂ (λ (bs : List (List Item)) (n : ℕ). waiting held.c bs (suc n)) (sym (came i)) (as_many i) in
      omega arith

  pub IsSince-more : IsSince (all ++ last ∷ []) (exchanged held last)
  IsSince-more i inside =
      let targets = length-map-range_with_len (rest held last) 0 (length held.queues) in
      let many = length-append all (last ∷ []) in
      let one_more : suc (length all) ≡ length (all ++ last ∷ []) = omega arith in
      let inside_before : i < length held.queues = omega arith in
      get_or-map-range_with_len (rest held last) 0 (length held.queues) i i [] inside_before (omega arith)
      ∙ rest_is i inside_before
      ∙ ap (queue held.c (batches (all ++ last ∷ []) i)) one_more

  pub chunks_are : chunks held last ≡ last_chunks held all last
  chunks_are = flat_map-same (padded_chunk held last) (last_chunk held.c all last) (length held.queues) (λ i inside. ap (padded held.c) (chunk_is i inside))

  pub counts_are : counts held last ≡ last_counts held all last
  counts_are = map-below-same (count held last) (last_count held.c all last) (length held.queues) (λ i inside. ap length (chunk_is i inside))

  pub total_is : total (exchanged held last) ≡ total_backlog held all last
  total_is =
      fold-map (λ (a : ℕ) (q : List Item). a + length q) (rest held last) 0 (targets_of held)
      ∙ sum-below-same (λ i. length (rest held last i)) (backlog held.c all last) (length held.queues) backlog_is

-- nothing was handed over
pub IsSince-empty : (b c s : ℕ) → IsSince [] (empty_stash b c s)
IsSince-empty b c s i inside =
    let none : List Item = [] in
    let many = length-replicate b none in
    get_or-replicate b i [] [] (omega arith) ∙ sym (drop_all (departed c (batches [] i) 0) [] (omega arith))

-- what clauses see of a stash, by its arena
abbrev pub seen : Arena → ℕ → Held
seen arena c = record { c = c; s = arena.room; queues = queues_of arena }

pub seen_empty : (b c s : ℕ) → seen (empty_arena b s) c ≡ empty_stash b c s
seen_empty b c s = ap (λ (qs : List (List Item)). record { c = c; s = s; queues = qs }) (map-replicate items_in b [])

abbrev nil : List Item
nil = []

none_queued : (a n : ℕ) → map (λ (i : ℕ). nil) (range_with_len a n) ≡ replicate n []
none_queued a zero = refl
none_queued a (suc n) = ap (λ (qs : List (List Item)). [] ∷ qs) (none_queued (a + 1) n)

pub seen_cleared : (arena : Arena) (c b : ℕ) → length arena.chains ≡ b → ((i : ℕ) → i < b → queue_of arena i ≡ []) → seen arena c ≡ empty_stash b c arena.room
seen_cleared arena c b chains cleared =
    ap (λ (qs : List (List Item)). record { c = c; s = arena.room; queues = qs })
    (queues_are arena ∙ ap (λ (n : ℕ). map (queue_of arena) (below n)) chains ∙ map-below-same (queue_of arena) (λ (i : ℕ). nil) b cleared ∙ none_queued 0 b)

-- ---- by an arena
module _ (arena : Arena) (c b : ℕ) (ts : List ℕ) (xs : List Item) (chains : length arena.chains ≡ b) (each : length xs ≡ length ts) where
  abbrev before : Held
  before = seen arena c

  many : length (queues_of arena) ≡ b
  many = length-map arena.chains items_in ∙ chains

  -- how many stay, by their items and by the lengths alone
  pub total_of_lines : total (exchanged before (ts, xs)) ≡ sum_by (left_of c (line_after arena ts xs)) (below b)
  total_of_lines =
      fold-map (λ (a : ℕ) (q : List Item). a + length q) (rest before (ts, xs)) 0 (targets_of before)
      ∙ ap (λ (n : ℕ). sum_by (left_of c (line_after arena ts xs)) (below n)) many

  one_left : (i : ℕ) → i < b → left_after arena c (map (arrivals ts) (below b)) i ≡ left_of c (line_after arena ts xs) i
  one_left i inside =
      let chain = ap length (queue_of_chain arena i (omega arith)) ∙ length-map (chain_at arena i) (λ (held : ℕ × Item). held.1) in
      let came : length (chosen i ts xs) ≡ arrivals ts i = length-chosen i ts xs (sym each) in
      let read = get_or-map-range_with_len (arrivals ts) 0 b i i 0 inside (omega arith) in
      let shorter = length-drop c (line_after arena ts xs i) in
      let long = length-append (queue_of arena i) (chosen i ts xs) in
      omega arith

  pub total_of_lengths : sum_by (left_after arena c (map (arrivals ts) (below b))) (below b) ≡ sum_by (left_of c (line_after arena ts xs)) (below b)
  total_of_lengths = sum-below-same (left_after arena c (map (arrivals ts) (below b))) (left_of c (line_after arena ts xs)) b one_left

  -- no more stay than were queued and came
  pub total_bounded : IsShared arena → sum_by (left_of c (line_after arena ts xs)) (below b) ≤ arena.room + length ts
  total_bounded shared =
      let apart = sum_by-two (λ i. length (queue_of arena i)) (arrivals ts) b in
      let queued = queued_together arena b chains in
      let came = arrivals-together ts b in
      let cells = free_cells arena shared in
      let least = sum_by-least (left_of c (line_after arena ts xs)) (λ i. length (queue_of arena i) + arrivals ts i) b (λ i.
      let shorter = length-drop c (line_after arena ts xs i) in
      let long = length-append (queue_of arena i) (chosen i ts xs) in
      let came : length (chosen i ts xs) ≡ arrivals ts i = length-chosen i ts xs (sym each) in
      omega arith)
      in
      omega arith

  -- what is dealt out is what an exchange leaves
  module _ (new : Arena) (chunks' : List Item) (counts' : List ℕ) (long : length chunks' ≡ b * c) (count_each : length counts' ≡ b) (chains_after : length new.chains ≡ b)
      (dealt : AreDealt b c (line_after arena ts xs) new chunks' counts')
    where
      pub queues_left : queues_of new ≡ map (rest before (ts, xs)) (targets_of before)
      queues_left =
          queues_are new
          ∙ ap (λ (n : ℕ). map (queue_of new) (below n)) chains_after
          ∙ map-below-same (queue_of new) (rest before (ts, xs)) b (λ i inside. (dealt i inside).queue)
          ∙ ap (λ (n : ℕ). map (rest before (ts, xs)) (below n)) (sym many)

      pub chunks_left : chunks' ≡ chunks before (ts, xs)
      chunks_left =
          joined_chunks c b (padded_chunk before (ts, xs)) chunks' long (λ i inside. (dealt i inside).chunk)
          ∙ ap (λ (n : ℕ). flat_map (padded_chunk before (ts, xs)) (below n)) (sym many)

      pub counts_left : counts' ≡ counts before (ts, xs)
      counts_left =
          fill_by_all (count before (ts, xs)) counts' b 0 count_each (λ i inside. (dealt i inside).count)
          ∙ ap (λ (n : ℕ). map (count before (ts, xs)) (below n)) (sym many)
