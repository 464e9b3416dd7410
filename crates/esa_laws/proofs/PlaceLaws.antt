-- Where an attempt is good, each place comes out once.
use Rattle.std.proofs.Common.{◌≡◌, ◌≢◌, ℕ, zero, suc, ◌+◌, ◌-◌, ◌*◌, ◌≤◌, ◌<◌, Bool, true, false, not, cond, ◌==◌, List, [], ◌∷◌, ◌++◌, length, get_or, take, drop, map, replicate, refl, sym, ◌∙◌, ap, subst, arith, add-one, add-zero, append-nil, length-append, length-take, length-drop}
use Rattle.std.specs.List.{sum_by, count_by, flat_map, filter_map, cons_option, position_or_len, All}
use Rattle.std.specs.List.Sorted.{IsPermutation}
use Rattle.std.specs.Prelude.{Option, Some, None}
use Rattle.std.proofs.lemmas.Bool.{eq-eqb}
use Rattle.std.proofs.lemmas.List.{get_or-take, get_or-drop, take-append-drop, take_all, drop_all, length-map, length-replicate}
use Rattle.std.proofs.lemmas.List.Concat.{length-flat_map, flat_map-append}
use Rattle.std.proofs.lemmas.List.Folds.{sum_by-replicate}
use Rattle.std.proofs.lemmas.List.FromFn.{fill_by_all, length-range_with_len, get_or-range_with_len}
use Rattle.std.proofs.lemmas.List.Sorted.{sum_by-IsPermutation, All-permutation, length_permutation}
use Rattle.std.proofs.lemmas.List.Sums.{sum_by-cons, sum_by-append, get_or-le-sum_by, position_or_len_is}
use Rattle.std.proofs.lemmas.Option.{unwrap_or-slice_get}
use Rattle.esa_laws.proofs.Tests.{bit, unequal, not_above}
use Rattle.esa_params.specs.Sizes.{Sizes, first, size, below, places_of}
use Rattle.esa_laws.proofs.AfterLaws.{Ended, ended, failed, done}
use Rattle.esa_laws.proofs.FinishLaws.{none-found}
use Rattle.esa_laws.proofs.LineLaws.{length-batches, length-queued}
use Rattle.esa_laws.proofs.PermLaws.{occurrences, occurs-cons, occurs-append, permutes-counted}
use Rattle.esa_laws.proofs.QueueLaws.{batch, queue-more, leaving-more, joined-take}
use Rattle.esa_laws.proofs.Ranges.{below-suc, below-add, sum-below-suc, sum-below-same}
use Rattle.esa_laws.proofs.Sums.{sum-below-add, sum-below-each, sum-below-zero, sum-below-swap, hit-value, sum-of-map, sum-of-flat_map}
use Rattle.esa_laws.proofs.TotalLaws.{all-exchanged, once, order-permutes}
use Rattle.esa_spec.specs.Draws.{Draw, IsDrawn, chosen}
use Rattle.esa_spec.specs.Lines.{chosen_places, batches, backlog, chunk, tail}
use Rattle.esa_spec.specs.Places.{exchange_of, padded, padded_chunk, imports, entry, arranged, places}
use Rattle.esa_spec.specs.Queue.{joined, departed, leaving, queue}
use Rattle.esa_spec.specs.Turns.{order, writes}
use Rattle.esa_laws.proofs.WalkLaws.{reached-more, reached-zero}
use Rattle.esa_spec.specs.Verdicts.{targets, reached, left, is_left, drained, settled, is_finished, verdict}
use Rattle.esa_spec.specs.declared.event.Verdict.TheVariants.{Good}

-- the numbers of a list by its indexes
pub by-index : {X : Type 0} (xs : List X) (d : X) → xs ≡ map (λ y. get_or xs y d) (below (length xs))
by-index xs d = fill_by_all (λ y. get_or xs y d) xs (length xs) d refl (λ k k_in. refl)

-- how often x stands in an optional place
abbrev pub hits : ℕ → Option ℕ → ℕ
hits x None = 0
hits x (Some z) = bit (z == x)

occurs-option : (x : ℕ) (o : Option ℕ) (xs : List ℕ) → occurrences x (cons_option o xs) ≡ hits x o + occurrences x xs
occurs-option x None xs = omega arith
occurs-option x (Some z) xs = occurs-cons z x xs

occurs-filter_map : (x : ℕ) (h : ℕ → Option ℕ) (ys : List ℕ) → occurrences x (filter_map h ys) ≡ sum_by (λ y. hits x (h y)) ys
occurs-filter_map x h [] = refl
occurs-filter_map x h (y ∷ ys) =
    occurs-option x (h y) (filter_map h ys) ∙ ap (λ z. hits x (h y) + z) (occurs-filter_map x h ys) ∙ sym (sum_by-cons (λ y. hits x (h y)) y ys)

-- arranged by an order, the entries have the same sum as before
arranged-sum : (weight : Option ℕ → ℕ) (xs : List (Option ℕ)) (ys : List ℕ) → IsPermutation (below (length xs)) ys
    → sum_by (λ y. weight (entry xs y)) ys ≡ sum_by weight xs
arranged-sum weight xs ys perm =
    sum_by-IsPermutation (λ y. weight (entry xs y)) (below (length xs)) ys perm
    ∙ sum-below-same (λ y. weight (entry xs y)) (λ y. weight (get_or xs y None)) (length xs) (λ y y_in. ap weight (unwrap_or-slice_get xs y None))
    ∙ sym (sum-of-map weight (λ y. get_or xs y None) (below (length xs)))
    ∙ sym (ap (sum_by weight) (by-index xs None))

arranged-counts : (x : ℕ) (xs : List (Option ℕ)) (ys : List ℕ) → IsPermutation (below (length xs)) ys → occurrences x (filter_map (entry xs) ys) ≡ sum_by (hits x) xs
arranged-counts x xs ys perm = occurs-filter_map x (entry xs) ys ∙ arranged-sum (hits x) xs ys perm

-- how many values there are
abbrev pub there : {X : Type 0} → Option X → ℕ
there None = 0
there (Some z) = 1

length-option : {X : Type 0} (o : Option X) (xs : List X) → length (cons_option o xs) ≡ there o + length xs
length-option None xs = omega arith
length-option (Some z) xs = omega arith

pub length-filter_map : {X Y : Type 0} (h : X → Option Y) (ys : List X) → length (filter_map h ys) ≡ sum_by (λ y. there (h y)) ys
length-filter_map h [] = refl
length-filter_map h (y ∷ ys) =
    length-option (h y) (filter_map h ys) ∙ ap (λ z. there (h y) + z) (length-filter_map h ys) ∙ sym (sum_by-cons (λ y. there (h y)) y ys)

one-each : (xs : List ℕ) → sum_by (λ (z : ℕ). 1) xs ≡ length xs
one-each [] = refl
one-each (x ∷ xs) = omega (arith, sum_by-cons (λ (z : ℕ). 1) x xs, one-each xs)

padded-there : (n : ℕ) (xs : List ℕ) → sum_by there (padded n xs) ≡ length xs
padded-there n xs =
    sum_by-append there (map Some xs) (replicate (n - length xs) None)
    ∙ omega (arith, sum-of-map (there {X = ℕ}) Some xs, one-each xs, sum_by-replicate (there {X = ℕ}) (n - length xs) None)

-- pads don't count
padded-counts : (x n : ℕ) (xs : List ℕ) → sum_by (hits x) (padded n xs) ≡ occurrences x xs
padded-counts x n xs =
    sum_by-append (hits x) (map Some xs) (replicate (n - length xs) None)
    ∙ omega (arith, sum-of-map (hits x) Some xs, sum_by-replicate (hits x) (n - length xs) None)

length-padded : (n : ℕ) (xs : List ℕ) → length xs ≤ n → length (padded n xs) ≡ n
length-padded n xs short =
    length-append (map Some xs) (replicate (n - length xs) None)
    ∙ omega (arith, length-map xs (λ (z : ℕ). Some z), length-replicate {A = Option ℕ} (n - length xs) None)

-- what left and what waits is what came
module _ (x c : ℕ) (es : List (List ℕ)) where
  queue-counts : (k : ℕ) → k ≤ length es
      → sum_by (λ j. occurrences x (leaving c es j)) (below k) + occurrences x (queue c es k) ≡ occurrences x (joined (take k es))
  queue-counts zero k_in =
      let none : queue c es 0 ≡ [] = drop_all (departed c es 0) [] (omega arith) in
      ap (λ y. 0 + occurrences x y) none
  queue-counts (suc k) k_in =
      let came = queue c es k ++ batch es k in
      let before = queue-counts k (omega arith) in
      let more = sum-below-suc (λ j. occurrences x (leaving c es j)) k in
      let left = ap (occurrences x) (leaving-more c es k k_in) in
      let waits = ap (occurrences x) (queue-more c es k k_in) in
      let parts = sym (ap (occurrences x) (take-append-drop c came)) ∙ occurs-append x (take c came) (drop c came) in
      let whole = occurs-append x (queue c es k) (batch es k) in
      let joins = ap (occurrences x) (joined-take es k k_in) ∙ occurs-append x (joined (take k es)) (batch es k) in
      omega (arith, before, more, left, waits, parts, whole, joins)

  all-counts : sum_by (λ j. occurrences x (leaving c es j)) (below (length es)) + occurrences x (queue c es (length es)) ≡ occurrences x (joined es)
  all-counts = queue-counts (length es) (omega arith) ∙ ap (λ y. occurrences x (joined y)) (take_all (length es) es (omega arith))

-- a number that occurs once stands at one index
occurs-at : (xs : List ℕ) (k j : ℕ) → k < length xs → get_or xs k 0 ≡ j → 1 ≤ occurrences j xs
occurs-at xs k j k_in is =
    let here = get_or-le-sum_by (λ i. bit (i == j)) xs k 0 k_in in
    omega (arith, here, ap bit (eq-eqb (get_or xs k 0) j is))

earlier-differs : (xs : List ℕ) (m k : ℕ) → m < k → k < length xs → occurrences (get_or xs k 0) xs ≤ 1 → get_or xs m 0 ≢ get_or xs k 0
earlier-differs xs m k m_in k_in single same =
    let j = get_or xs k 0 in
    let front = occurs-at (take k xs) m j (omega (arith, length-take k xs)) (get_or-take k xs m 0 m_in ∙ same) in
    let back = occurs-at (drop k xs) 0 j (omega (arith, length-drop k xs)) (get_or-drop k xs 0 0 ∙ ap (λ y. get_or xs y 0) (add-zero k)) in
    let both = sym (ap (occurrences j) (take-append-drop k xs)) ∙ occurs-append j (take k xs) (drop k xs) in
    omega (arith, front, back, both, single)

exchange-at : (o : List ℕ) (k : ℕ) → k < length o → occurrences (get_or o k 0) o ≤ 1 → exchange_of o (get_or o k 0) ≡ k
exchange-at o k k_in single = position_or_len_is (λ x. x == get_or o k 0) o k 0 (omega arith)
    (λ m m_in. unequal (get_or o m 0) (get_or o k 0) (earlier-differs o m k m_in k_in single))
    (λ _. eq-eqb (get_or o k 0) (get_or o k 0) refl)

-- a test that passes somewhere passes at an index
position-here : (test : ℕ → Bool) (x : ℕ) (xs : List ℕ) (c : Bool) → test x ≡ c → (c ≡ false → position_or_len test xs < length xs)
    → position_or_len test (x ∷ xs) < length (x ∷ xs)
position-here test x xs true e later = let here = ap (λ y. cond (not y) (1 + position_or_len test xs) 0) e in omega (arith, here)
position-here test x xs false e later = let here = ap (λ y. cond (not y) (1 + position_or_len test xs) 0) e in omega (arith, here, later refl)

pub position-in : (test : ℕ → Bool) (xs : List ℕ) → 1 ≤ count_by test xs → position_or_len test xs < length xs
position-in test [] some = absurd (omega arith)
position-in test (x ∷ xs) some = position-here test x xs (test x) refl
    (λ e. position-in test xs (omega (arith, sum_by-cons (λ y. bit (test y)) x xs, ap bit e)))

-- how many elements have a target
length-chosen-step : {X : Type 0} (i t : ℕ) (y : X) (ts : List ℕ) (ys : List X) (c : Bool) → length (cond c (y ∷ chosen i ts ys) (chosen i ts ys)) ≡ bit c + length (chosen i ts ys)
length-chosen-step i t y ts ys true = omega arith
length-chosen-step i t y ts ys false = omega arith

pub length-chosen : {X : Type 0} (i : ℕ) (ts : List ℕ) (ys : List X) → length ts ≡ length ys → length (chosen i ts ys) ≡ count_by (λ t. t == i) ts
length-chosen i [] ys long = refl
length-chosen i (t ∷ ts) [] long = absurd (omega arith)
length-chosen i (t ∷ ts) (y ∷ ys) long =
    omega (arith, length-chosen-step i t y ts ys (t == i), sum_by-cons (λ z. bit (z == i)) t ts, length-chosen i ts ys (omega arith))

-- the places of a bucket are those of its targets
chosen-step : (x i t y : ℕ) (ts ys : List ℕ) (c : Bool)
    → occurrences x (cond c (y ∷ chosen i ts ys) (chosen i ts ys)) ≡ cond c (bit (y == x)) 0 + occurrences x (chosen i ts ys)
chosen-step x i t y ts ys true = occurs-cons y x (chosen i ts ys)
chosen-step x i t y ts ys false = omega arith

chosen-counts : (x b : ℕ) (ts ys : List ℕ) → length ts ≡ length ys → All (λ t. t < b) ts
    → sum_by (λ i. occurrences x (chosen i ts ys)) (below b) ≡ occurrences x ys
chosen-counts x b [] [] long all = sum-below-zero (λ i. occurrences x (chosen {X = ℕ} i [] [])) b (λ i i_in. refl)
chosen-counts x b [] (y ∷ ys) long all = absurd (omega arith)
chosen-counts x b (t ∷ ts) [] long all = absurd (omega arith)
chosen-counts x b (t ∷ ts) (y ∷ ys) long all =
    let here : t < b = all 0 0 (omega arith) in
    let rest = chosen-counts x b ts ys (omega arith) (λ k d k_in. all (suc k) d (omega arith)) in
    sum-below-same (λ i. occurrences x (chosen i (t ∷ ts) (y ∷ ys))) (λ i. cond (t == i) (bit (y == x)) 0 + occurrences x (chosen i ts ys)) b
    (λ i i_in. chosen-step x i t y ts ys (t == i))
    ∙ sum-below-add (λ i. cond (t == i) (bit (y == x)) 0) (λ i. occurrences x (chosen i ts ys)) b
    ∙ omega (arith, hit-value t b (bit (y == x)) here, rest, occurs-cons y x ys)

module _ (p : Sizes) (x : ℕ) where
  places-counts : (m : ℕ) → sum_by (λ j. occurrences x (places_of p j)) (below m) ≡ occurrences x (below (first p m))
  places-counts zero = let none : first p 0 ≡ 0 = omega arith in ap (λ y. occurrences x (below y)) (sym none)
  places-counts (suc m) =
      let next : first p (suc m) ≡ first p m + size p m = ap (first p) (sym (add-one m)) ∙ omega arith in
      sum-below-suc (λ j. occurrences x (places_of p j)) m
      ∙ ap (λ y. y + occurrences x (places_of p m)) (places-counts m)
      ∙ sym (ap (λ y. occurrences x (below y)) next ∙ ap (occurrences x) (below-add (first p m) (size p m))
      ∙ occurs-append x (below (first p m)) (places_of p m))

  whole-counts : 1 ≤ p.b → sum_by (λ j. occurrences x (places_of p j)) (below p.b) ≡ occurrences x (below p.n)
  whole-counts some = let whole : first p p.b ≡ p.n = omega arith in places-counts p.b ∙ ap (λ y. occurrences x (below y)) whole

module _ (p : Sizes) (d : Draw) (drawn : IsDrawn p d) (o : List ℕ) (each : length o ≡ p.b) (perm : IsPermutation (below p.b) o) (single : (j : ℕ) → j < p.b → occurrences j o ≡ 1) where
  -- a sum over the exchanges, by the buckets
  in-range : (k : ℕ) → k < p.b → get_or o k 0 < p.b
  in-range k k_in = All-permutation (λ v. v < p.b) (below p.b) o perm (λ y e y_in. all-below y e y_in) k 0 (omega (arith, each))
    where
      all-below : (y e : ℕ) → y < length (below p.b) → get_or (below p.b) y e < p.b
      all-below y e y_in =
          let short : y < p.b = omega (arith, length-range_with_len 0 p.b) in
          omega (arith, get_or-range_with_len 0 p.b y e short)

  by-exchange : (f : ℕ → ℕ) → sum_by (λ j. f (exchange_of o j)) (below p.b) ≡ sum_by f (below p.b)
  by-exchange f =
      sym (sum_by-IsPermutation (λ j. f (exchange_of o j)) (below p.b) o perm)
      ∙ ap (sum_by (λ j. f (exchange_of o j))) (by-index o 0)
      ∙ sum-of-map (λ j. f (exchange_of o j)) (λ y. get_or o y 0) (below (length o))
      ∙ ap (λ n. sum_by (λ y. f (exchange_of o (get_or o y 0))) (below n)) each
      ∙ sum-below-same (λ y. f (exchange_of o (get_or o y 0))) f p.b
      (λ k k_in. ap f (exchange-at o k (omega (arith, each)) (omega (arith, single (get_or o k 0) (in-range k k_in)))))

  -- a chunk has c places at most
  chunk-short : (k i : ℕ) → k < p.b → length (chunk p d o k i) ≤ p.c
  chunk-short k i k_in =
      let es = batches p d o i in
      let there : k < length es = omega (arith, length-batches p d o i, each) in
      omega (arith, ap length (leaving-more p.c es k there), length-take p.c (queue p.c es k ++ batch es k))

  exchange-in : (j : ℕ) → j < p.b → exchange_of o j < p.b
  exchange-in j j_in = omega (arith, each, position-in (λ v. v == j) o (omega (arith, single j j_in)))

  module _ (i : ℕ) (x : ℕ) where
    line-counts : sum_by (λ k. occurrences x (chunk p d o k i)) (below p.b) + occurrences x (tail p d o i) ≡ sum_by (λ j. occurrences x (chosen_places p d i j)) (below p.b)
    line-counts =
        let es = batches p d o i in
        let long : length es ≡ p.b = length-batches p d o i ∙ each in
        ap (λ n. sum_by (λ k. occurrences x (chunk p d o k i)) (below n) + occurrences x (queue p.c es n)) (sym long)
        ∙ all-counts x p.c es
        ∙ sum-of-flat_map (λ z. bit (z == x)) (λ e. e) es
        ∙ sum-of-map (occurrences x) (chosen_places p d i) o
        ∙ sum_by-IsPermutation (λ j. occurrences x (chosen_places p d i j)) (below p.b) o perm

    import-counts : sum_by (hits x) (imports p d o i) ≡ sum_by (λ j. occurrences x (chosen_places p d i j)) (below p.b)
    import-counts =
        sum_by-append (hits x) (flat_map (padded_chunk p d o i) (below p.b)) (padded p.k (tail p d o i))
        ∙ ap (λ y. y + sum_by (hits x) (padded p.k (tail p d o i))) (sum-of-flat_map (hits x) (padded_chunk p d o i) (below p.b))
        ∙ ap (λ y. y + sum_by (hits x) (padded p.k (tail p d o i)))
        (sum-below-same (λ j. sum_by (hits x) (padded_chunk p d o i j)) (λ j. occurrences x (chunk p d o (exchange_of o j) i)) p.b
        (λ j j_in. padded-counts x p.c (chunk p d o (exchange_of o j) i)))
        ∙ ap (λ y. sum_by (λ j. occurrences x (chunk p d o (exchange_of o j) i)) (below p.b) + y) (padded-counts x p.k (tail p d o i))
        ∙ ap (λ y. y + occurrences x (tail p d o i)) (by-exchange (λ k. occurrences x (chunk p d o k i)))
        ∙ line-counts

  pub length-imports : (i : ℕ) → backlog p d o p.b i ≤ p.k → length (imports p d o i) ≡ p.b * p.c + p.k
  length-imports i fits =
      length-append (flat_map (padded_chunk p d o i) (below p.b)) (padded p.k (tail p d o i))
      ∙ omega (
        arith,
        length-flat_map (padded_chunk p d o i) (below p.b),
        sum-below-each (λ j. length (padded_chunk p d o i j)) p.b p.c
            (λ j j_in. length-padded p.c (chunk p d o (exchange_of o j) i) (chunk-short (exchange_of o j) i (exchange-in j j_in))),
        length-padded p.k (tail p d o i) (omega (arith, length-queued p d o p.b i)),
      )

  places-once : 1 ≤ p.b → ((i : ℕ) → i < p.b → backlog p d o p.b i ≤ p.k) → IsPermutation (below p.n) (flat_map (arranged p d o) (below p.b))
  places-once some fits = permutes-counted (below p.n) (flat_map (arranged p d o) (below p.b)) (λ x.
      sum-of-flat_map (λ z. bit (z == x)) (arranged p d o) (below p.b)
      ∙ sum-below-same (λ i. occurrences x (arranged p d o i)) (λ i. sum_by (λ j. occurrences x (chosen_places p d i j)) (below p.b)) p.b
      (λ i i_in.
      arranged-counts x (imports p d o i) (d.order i)
      (subst (λ n. IsPermutation (below n) (d.order i)) (sym (length-imports i (fits i i_in))) (drawn.orders_permute i i_in))
      ∙ import-counts i x)
      ∙ sum-below-swap (λ i j. occurrences x (chosen_places p d i j)) p.b p.b
      ∙ sum-below-same (λ j. sum_by (λ i. occurrences x (chosen_places p d i j)) (below p.b)) (λ j. occurrences x (places_of p j)) p.b
      (λ j j_in. chosen-counts x p.b (d.targets j) (places_of p j)
      (drawn.target_for_each j j_in ∙ sym (length-range_with_len (first p j) (size p j))) (drawn.targets_below j j_in))
      ∙ whole-counts p x some)

-- where no target leaves more than a tail holds, each leaves no more
pub fits-each : (p : Sizes) (d : Draw) (o : List ℕ) → left p d o ≡ None → (i : ℕ) → i < p.b → backlog p d o p.b i ≤ p.k
fits-each p d o fits i i_in = not_above p.k (backlog p d o p.b i) (none-found (is_left p d o) p.b fits i i_in)

-- a good attempt has written all, and left nothing that a tail doesn't hold
fits-by : (p : Sizes) (d : Draw) (o : List ℕ) (l : Option ℕ) → left p d o ≡ l → drained p d l ≡ Good → (i : ℕ) → i < p.b → backlog p d o p.b i ≤ p.k
fits-by p d o (Some j) e good i i_in = absurd (cc)
fits-by p d o None e good i i_in = fits-each p d o e i i_in

good-by : (p : Sizes) (d : Draw) (h : List ℕ) → 1 ≤ p.b → IsDrawn p d → Ended p d h → verdict p d h ≡ Good → IsPermutation (below p.n) (places p d h)
good-by p d h some drawn (failed k e) good = let is = ap (settled p d (order p.b h)) e in absurd (cc)
good-by p d h some drawn (done ok all) good =
    let o = order p.b h in
    let drains : drained p d (left p d o) ≡ Good = sym (ap (settled p d o) ok) ∙ good in
    places-once p d drawn o (all-exchanged p.b h all) (order-permutes p.b h all) (λ j j_in. once p.b h j all j_in) some (fits-by p d o (left p d o) refl drains)

pub places-permute : (p : Sizes) (d : Draw) (h : List ℕ) → 1 ≤ p.b → IsDrawn p d → is_finished p d h ≡ true → verdict p d h ≡ Good → IsPermutation (below p.n) (places p d h)
places-permute p d h some drawn finished good = good-by p d h some drawn (ended p d h finished) good

-- what is imported for a target is the places that have it
abbrev pub by_target : Sizes → Draw → ℕ → List ℕ
by_target p d i = flat_map (chosen_places p d i) (below p.b)

module _ (p : Sizes) (d : Draw) (h : List ℕ) (drawn : IsDrawn p d) (all : writes p.b h ≡ p.b * p.b) (fits : left p d (order p.b h) ≡ None) where
  pub arranged-permutes : (i : ℕ) → i < p.b → IsPermutation (by_target p d i) (arranged p d (order p.b h) i)
  arranged-permutes i i_in =
      let o = order p.b h in
      let each = all-exchanged p.b h all in
      let perm = order-permutes p.b h all in
      let single = λ (j : ℕ) (j_in : j < p.b). once p.b h j all j_in in
      permutes-counted (by_target p d i) (arranged p d o i) (λ x.
      arranged-counts x (imports p d o i) (d.order i)
      (subst (λ n. IsPermutation (below n) (d.order i)) (sym (length-imports p d drawn o each perm single i (fits-each p d (order p.b h) fits i i_in))) (drawn.orders_permute i i_in))
      ∙ import-counts p d drawn o each perm single i x
      ∙ sym (sum-of-flat_map (λ z. bit (z == x)) (chosen_places p d i) (below p.b)))

  -- what is arranged is the chunks and the tail, by length
  pub length-parts : (i : ℕ) → i < p.b
      → sum_by (λ j. length (chunk p d (order p.b h) (exchange_of (order p.b h) j) i)) (below p.b) + backlog p d (order p.b h) p.b i
      ≡ length (arranged p d (order p.b h) i)
  length-parts i i_in =
      let o = order p.b h in
      let each = all-exchanged p.b h all in
      let perm = order-permutes p.b h all in
      let single = λ (j : ℕ) (j_in : j < p.b). once p.b h j all j_in in
      let chunks = sum_by (λ j. length (chunk p d o (exchange_of o j) i)) (below p.b) in
      sym (
      length-filter_map (entry (imports p d o i)) (d.order i)
      ∙ arranged-sum there (imports p d o i) (d.order i)
      (subst (λ n. IsPermutation (below n) (d.order i)) (sym (length-imports p d drawn o each perm single i (fits-each p d (order p.b h) fits i i_in))) (drawn.orders_permute i i_in))
      ∙ sum_by-append there (flat_map (padded_chunk p d o i) (below p.b)) (padded p.k (tail p d o i))
      ∙ ap (λ y. y + sum_by there (padded p.k (tail p d o i))) (sum-of-flat_map there (padded_chunk p d o i) (below p.b))
      ∙ ap (λ y. y + sum_by there (padded p.k (tail p d o i)))
      (sum-below-same (λ j. sum_by there (padded_chunk p d o i j)) (λ j. length (chunk p d o (exchange_of o j) i)) p.b
      (λ j j_in. padded-there p.c (chunk p d o (exchange_of o j) i)))
      ∙ ap (λ y. chunks + y) (padded-there p.k (tail p d o i))
      ∙ ap (λ y. chunks + y) (length-queued p d o p.b i)
      )

  pub length-all_parts : (m : ℕ) → m ≤ p.b
      → length (flat_map (arranged p d (order p.b h)) (below m))
      ≡ sum_by (λ i. sum_by (λ j. length (chunk p d (order p.b h) (exchange_of (order p.b h) j) i)) (below p.b) + backlog p d (order p.b h) p.b i) (below m)
  length-all_parts m m_in =
      let o = order p.b h in
      length-flat_map (arranged p d o) (below m)
      ∙ sum-below-same (λ i. length (arranged p d o i))
      (λ i. sum_by (λ j. length (chunk p d o (exchange_of o j) i)) (below p.b) + backlog p d o p.b i) m
      (λ i i_in. sym (length-parts i (omega arith)))

  pub length-arranged : (i : ℕ) → i < p.b → length (arranged p d (order p.b h) i) ≡ count_by (λ t. t == i) (targets p d)
  length-arranged i i_in =
      length_permutation (by_target p d i) (arranged p d (order p.b h) i) (arranged-permutes i i_in)
      ∙ length-flat_map (chosen_places p d i) (below p.b)
      ∙ sum-below-same (λ j. length (chosen_places p d i j)) (λ j. count_by (λ t. t == i) (d.targets j)) p.b
      (λ j j_in. length-chosen i (d.targets j) (places_of p j) (drawn.target_for_each j j_in ∙ sym (length-range_with_len (first p j) (size p j))))
      ∙ sym (sum-of-flat_map (λ t. bit (t == i)) (λ e. e) (map d.targets (below p.b)) ∙ sum-of-map (count_by (λ t. t == i)) d.targets (below p.b))

  -- the queue takes as many places with each target as are reached more
  pub reached-arranged : (i : ℕ) → i < p.b → reached p d (i + 1) ≡ reached p d i + length (arranged p d (order p.b h) i)
  reached-arranged i i_in = reached-more p d i ∙ ap (λ y. reached p d i + y) (sym (length-arranged i i_in))

  pub length-imported : (m : ℕ) → m ≤ p.b → length (flat_map (arranged p d (order p.b h)) (below m)) ≡ reached p d m
  length-imported zero m_in = sym (reached-zero p d)
  length-imported (suc m) m_in =
      let o = order p.b h in
      let one : flat_map (arranged p d o) (below (suc m)) ≡ flat_map (arranged p d o) (below m) ++ arranged p d o m =
      ap (flat_map (arranged p d o)) (below-suc m) ∙ flat_map-append (arranged p d o) (below m) (m ∷ [])
      ∙ ap (λ y. flat_map (arranged p d o) (below m) ++ y) (append-nil (arranged p d o m)) in
      ap length one ∙ length-append (flat_map (arranged p d o) (below m)) (arranged p d o m)
      ∙ ap (λ y. y + length (arranged p d o m)) (length-imported m (omega arith))
      ∙ sym (reached-arranged m m_in) ∙ ap (reached p d) (add-one m)
