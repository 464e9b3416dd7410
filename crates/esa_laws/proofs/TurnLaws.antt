-- What a history tells of its turns when it goes on.
use Rattle.std.proofs.Common.{◌≡◌, ◌≢◌, ℕ, zero, suc, ◌+◌, ◌%◌, ◌≤◌, ◌<◌, ⊎_elim, Bool, true, false, cond, ◌&&◌, ◌==◌, List, [], ◌∷◌, ◌++◌, length, take, map, refl, sym, ◌∙◌, ap, add-one, arith}
use Rattle.std.specs.List.{count_by, filter_map, cons_option}
use Rattle.std.specs.Prelude.{Option, Some, None, slice_index, option_to_list}
use Rattle.std.proofs.lemmas.Bool.{cases_lt, eq-eqb}
use Rattle.std.proofs.lemmas.List.{take-append-le, get_or_append_left, get_or_at, take_at, length_push}
use Rattle.std.proofs.lemmas.List.Elements.{filter_map-append}
use Rattle.std.proofs.lemmas.List.Sums.{sum_by_push}
use Rattle.esa_laws.proofs.Tests.{unequal}
use Rattle.esa_params.specs.Sizes.{below}
use Rattle.esa_laws.proofs.Ranges.{map-below-suc, map-below-same, count-below-suc, count-below-same}
use Rattle.esa_spec.specs.Turns.{turns_of, phase, is_claim, last_such, is_own_claim, claim, bucket, event_of, event_at, events, next, next_phase, claims, held, acted, exchanged, order, is_write, writes}

-- the greatest number up to x that passes
pub last_such-le : (f : ℕ → Bool) (x : ℕ) → last_such f x ≤ x
last_such-le f zero = omega arith
last_such-le f (suc x) = let P : Bool → Type 0 = λ b. cond b (suc x) (last_such f x) ≤ suc x in
    elim (f (suc x)) as P [ true ↦ omega arith | false ↦ omega (arith, last_such-le f x) ]

pub last_such-same : (f g : ℕ → Bool) (x : ℕ) → ((y : ℕ) → y ≤ x → f y ≡ g y) → last_such f x ≡ last_such g x
last_such-same f g zero same = refl
last_such-same f g (suc x) same =
    ap (λ b. cond b (suc x) (last_such f x)) (same (suc x) (omega arith))
    ∙ ap (λ y. cond (g (suc x)) (suc x) y) (last_such-same f g x (λ y h. same y (omega arith)))

-- where neither passes at x itself, what is below counts
pub last_such-below : (f g : ℕ → Bool) (x : ℕ) → f x ≡ false → g x ≡ false → ((y : ℕ) → y < x → f y ≡ g y) → last_such f x ≡ last_such g x
last_such-below f g x f_not g_not same = last_such-same f g x (λ y h. ⊎_elim
    (λ (before : y < x). same y before)
    (λ (here : x ≤ y). let e : y ≡ x = omega arith in ap f e ∙ f_not ∙ sym g_not ∙ sym (ap g e))
    (cases_lt y x))

pub last_such-at : (f : ℕ → Bool) (x : ℕ) → f x ≡ true → last_such f x ≡ x
last_such-at f zero h = refl
last_such-at f (suc x) h = ap (λ b. cond b (suc x) (last_such f x)) h

pub last_such-not : (f : ℕ → Bool) (x : ℕ) → f (suc x) ≡ false → last_such f (suc x) ≡ last_such f x
last_such-not f x h = ap (λ b. cond b (suc x) (last_such f x)) h

-- one turn more of a worker
pub turns_of-push : (v : ℕ) (h : List ℕ) (w : ℕ) → turns_of v (h ++ w ∷ []) ≡ turns_of v h + cond (w == v) 1 0
turns_of-push v h w = sum_by_push (λ u. cond (u == v) 1 0) h w

-- a history that is longer: turn x stays what it was
module _ (b : ℕ) (h more : List ℕ) where
  pub worker-append : (x : ℕ) → x < length h → slice_index (h ++ more) x ≡ slice_index h x
  worker-append x x_in = get_or_append_left h more 0 x x_in

  pub phase-append : (x : ℕ) → x < length h → phase b (h ++ more) x ≡ phase b h x
  phase-append x x_in =
      ap (λ y. turns_of y (take x (h ++ more)) % (b + 3)) (worker-append x x_in)
      ∙ ap (λ y. turns_of (slice_index h x) y % (b + 3)) (take-append-le x h more (omega arith))

  pub is_claim-append : (x : ℕ) → x < length h → is_claim b (h ++ more) x ≡ is_claim b h x
  is_claim-append x x_in = ap (λ y. y == 0) (phase-append x x_in)

  pub is_own_claim-append : (x y : ℕ) → x < length h → y < length h → is_own_claim b (h ++ more) x y ≡ is_own_claim b h x y
  is_own_claim-append x y x_in y_in =
      ap (λ u. (u == slice_index (h ++ more) x) && is_claim b (h ++ more) y) (worker-append y y_in)
      ∙ ap (λ u. (slice_index h y == u) && is_claim b (h ++ more) y) (worker-append x x_in)
      ∙ ap (λ u. (slice_index h y == slice_index h x) && u) (is_claim-append y y_in)

  pub claim-append : (x : ℕ) → x < length h → claim b (h ++ more) x ≡ claim b h x
  claim-append x x_in = last_such-same (is_own_claim b (h ++ more) x) (is_own_claim b h x) x (λ y y_in. is_own_claim-append x y x_in (omega arith))

  pub claims_below-append : (n : ℕ) → n ≤ length h → count_by (is_claim b (h ++ more)) (below n) ≡ count_by (is_claim b h) (below n)
  claims_below-append n n_in = count-below-same (is_claim b (h ++ more)) (is_claim b h) n (λ x x_in. is_claim-append x (omega arith))

  pub bucket-append : (x : ℕ) → x < length h → bucket b (h ++ more) x ≡ bucket b h x
  bucket-append x x_in =
      ap (λ y. count_by (is_claim b (h ++ more)) (below y)) (claim-append x x_in)
      ∙ claims_below-append (claim b h x) (omega (arith, last_such-le (is_own_claim b h x) x))

  pub event_at-append : (x : ℕ) → x < length h → event_at b (h ++ more) x ≡ event_at b h x
  event_at-append x x_in =
      ap (λ y. event_of b y (phase b (h ++ more) x)) (bucket-append x x_in) ∙ ap (event_of b (bucket b h x)) (phase-append x x_in)

pub one_of : {X : Type 0} (o : Option X) → cons_option o [] ≡ option_to_list o
one_of None = refl
one_of (Some x) = refl

-- one turn more
module _ (b : ℕ) (h : List ℕ) (w : ℕ) where
  last-worker : slice_index (h ++ w ∷ []) (length h) ≡ w
  last-worker = get_or_at h w [] 0 (length h) refl

  pub phase-next : phase b (h ++ w ∷ []) (length h) ≡ next_phase b h w
  phase-next =
      ap (λ y. turns_of y (take (length h) (h ++ w ∷ [])) % (b + 3)) last-worker
      ∙ ap (λ y. turns_of w y % (b + 3)) (take_at h (w ∷ []) (length h) refl)

  pub events-push : events b (h ++ w ∷ []) ≡ events b h ++ next b h w ∷ []
  events-push =
      ap (λ y. map (event_at b (h ++ w ∷ [])) (below y)) (length_push h w)
      ∙ ap (map (event_at b (h ++ w ∷ []))) (ap below (add-one (length h)))
      ∙ map-below-suc (event_at b (h ++ w ∷ [])) (length h)
      ∙ ap (λ y. y ++ next b h w ∷ []) (map-below-same (event_at b (h ++ w ∷ [])) (event_at b h) (length h) (event_at-append b h (w ∷ [])))

  pub order-push : order b (h ++ w ∷ []) ≡ order b h ++ option_to_list (exchanged (next b h w))
  order-push = ap (filter_map exchanged) events-push ∙ filter_map-append exchanged (events b h) (next b h w ∷ []) ∙ ap (λ y. order b h ++ y) (one_of (exchanged (next b h w)))

  pub writes-push : writes b (h ++ w ∷ []) ≡ writes b h + cond (is_write (next b h w)) 1 0
  writes-push = ap (count_by is_write) events-push ∙ sum_by_push (λ e. cond (is_write e) 1 0) (events b h) (next b h w)

  pub claims-push : claims b (h ++ w ∷ []) ≡ claims b h + cond (next_phase b h w == 0) 1 0
  claims-push =
      ap (λ y. count_by (is_claim b (h ++ w ∷ [])) (below y)) (length_push h w ∙ add-one (length h))
      ∙ count-below-suc (is_claim b (h ++ w ∷ [])) (length h)
      ∙ ap (λ y. y + cond (is_claim b (h ++ w ∷ []) (length h)) 1 0) (claims_below-append b h (w ∷ []) (length h) (omega arith))
      ∙ ap (λ y. claims b h + cond (y == 0) 1 0) phase-next

  -- at a claim the bucket is the next one
  pub held-at_claim : next_phase b h w ≡ 0 → held b h w ≡ claims b h
  held-at_claim start =
      let begins : is_claim b (h ++ w ∷ []) (length h) ≡ true = eq-eqb (phase b (h ++ w ∷ []) (length h)) 0 (phase-next ∙ start) in
      let same : (slice_index (h ++ w ∷ []) (length h) == slice_index (h ++ w ∷ []) (length h)) ≡ true = eq-eqb _ _ refl in
      let own : is_own_claim b (h ++ w ∷ []) (length h) (length h) ≡ true = ap (λ y. y && is_claim b (h ++ w ∷ []) (length h)) same ∙ begins in
      ap (λ y. count_by (is_claim b (h ++ w ∷ [])) (below y)) (last_such-at (is_own_claim b (h ++ w ∷ []) (length h)) (length h) own)
      ∙ claims_below-append b h (w ∷ []) (length h) (omega arith)

-- within a round the bucket stays
module _ (b : ℕ) (h : List ℕ) (w : ℕ) where
  longer : length (h ++ w ∷ []) ≡ suc (length h)
  longer = length_push h w ∙ add-one (length h)

  -- where the next turn of v is no claim, its own round began before
  no-claim : (v : ℕ) → next_phase b h v ≢ 0 → is_own_claim b (h ++ v ∷ []) (length h) (length h) ≡ false
  no-claim v inside =
      let same : (slice_index (h ++ v ∷ []) (length h) == slice_index (h ++ v ∷ []) (length h)) ≡ true = eq-eqb _ _ refl in
      let not_start : is_claim b (h ++ v ∷ []) (length h) ≡ false = ap (λ y. y == 0) (phase-next b h v) ∙ unequal (next_phase b h v) 0 inside in
      ap (λ y. y && is_claim b (h ++ v ∷ []) (length h)) same ∙ not_start

-- the next turn of the same worker
pub held-own : (b : ℕ) (h : List ℕ) (w : ℕ) → next_phase b (h ++ w ∷ []) w ≢ 0 → held b (h ++ w ∷ []) w ≡ held b h w
held-own b h w inside =
    let n = length h in
    let h' = h ++ w ∷ [] in
    let h'' = h' ++ w ∷ [] in
    let last : slice_index h'' (length h') ≡ slice_index h' n = last-worker b h' w ∙ sym (last-worker b h w) in
    let now = is_own_claim b h'' (length h') in
    let same = λ (y : ℕ) (y_in : y ≤ n).
    let y_short : y < length h' = omega (arith, longer b h w) in
    ap (λ u. (slice_index h'' y == u) && is_claim b h'' y) last
    ∙ ap (λ u. (u == slice_index h' n) && is_claim b h'' y) (worker-append b h' (w ∷ []) y y_short)
    ∙ ap (λ u. (slice_index h' y == slice_index h' n) && u) (is_claim-append b h' (w ∷ []) y y_short) in
    let not_now : now (suc n) ≡ false = ap now (sym (longer b h w)) ∙ no-claim b h' w w inside in
    let began : claim b h'' (length h') ≡ claim b h' n =
    ap (last_such now) (longer b h w) ∙ last_such-not now n not_now ∙ last_such-same now (is_own_claim b h' n) n same in
    ap (λ y. count_by (is_claim b h'') (below y)) began
    ∙ claims_below-append b h' (w ∷ []) (claim b h' n) (omega (arith, last_such-le (is_own_claim b h' n) n, longer b h w))

-- a turn of another worker
pub held-other : (b : ℕ) (h : List ℕ) (v w : ℕ) → v ≢ w → next_phase b h v ≢ 0 → held b (h ++ w ∷ []) v ≡ held b h v
held-other b h v w ne inside =
    let n = length h in
    let h' = h ++ w ∷ [] in
    let h'' = h' ++ v ∷ [] in
    let hv = h ++ v ∷ [] in
    let now = is_own_claim b h'' (length h') in
    let then = is_own_claim b hv n in
    let phase_stays : next_phase b h' v ≡ next_phase b h v =
    ap (λ y. y % (b + 3)) (turns_of-push v h w ∙ ap (λ y. turns_of v h + cond y 1 0) (unequal w v (λ e. ne (sym e))) ∙ omega arith) in
    let not_now : now (suc n) ≡ false = ap now (sym (longer b h w)) ∙ no-claim b h' w v (λ e. inside (sym phase_stays ∙ e)) in
    let here : n < length h' = omega (arith, longer b h w) in
    let other : (slice_index h'' n == slice_index h'' (length h')) ≡ false =
    ap (λ u. u == slice_index h'' (length h')) (worker-append b h' (v ∷ []) n here ∙ last-worker b h w)
    ∙ ap (λ u. w == u) (last-worker b h' v) ∙ unequal w v (λ e. ne (sym e)) in
    let not_here : now n ≡ false = ap (λ u. u && is_claim b h'' n) other in
    let same = λ (y : ℕ) (y_in : y < n).
    let y_short : y < length h' = omega (arith, longer b h w) in
    ap (λ u. (slice_index h'' y == u) && is_claim b h'' y) (last-worker b h' v)
    ∙ ap (λ u. (u == v) && is_claim b h'' y) (worker-append b h' (v ∷ []) y y_short ∙ worker-append b h (w ∷ []) y y_in)
    ∙ ap (λ u. (slice_index h y == v) && u) (is_claim-append b h' (v ∷ []) y y_short ∙ is_claim-append b h (w ∷ []) y y_in)
    ∙ sym (ap (λ u. (slice_index hv y == u) && is_claim b hv y) (last-worker b h v)
    ∙ ap (λ u. (u == v) && is_claim b hv y) (worker-append b h (v ∷ []) y y_in)
    ∙ ap (λ u. (slice_index h y == v) && u) (is_claim-append b h (v ∷ []) y y_in)) in
    let began : claim b h'' (length h') ≡ claim b hv n =
    ap (last_such now) (longer b h w) ∙ last_such-not now n not_now ∙ last_such-below now then n not_here (no-claim b h v v inside) same in
    let early = last_such-le then n in
    ap (λ y. count_by (is_claim b h'') (below y)) began
    ∙ claims_below-append b h' (v ∷ []) (claim b hv n) (omega (arith, early, longer b h w))
    ∙ claims_below-append b h (w ∷ []) (claim b hv n) early
    ∙ sym (claims_below-append b h (v ∷ []) (claim b hv n) early)

-- what a turn does, by the worker's phase and bucket
pub next-is : (b : ℕ) (h : List ℕ) (w : ℕ) → next b h w ≡ acted b (claims b h) (next_phase b h w) (held b h w)
next-is b h w =
    let by_phase : next b h w ≡ event_of b (held b h w) (next_phase b h w) = ap (event_of b (held b h w)) (phase-next b h w) in
    ⊎_elim
    (λ (inside : 0 < next_phase b h w).
    let no : (next_phase b h w == 0) ≡ false = unequal (next_phase b h w) 0 (λ e. absurd (omega arith)) in
    by_phase ∙ sym (ap (λ y. cond y (event_of b (claims b h) 0) (event_of b (held b h w) (next_phase b h w))) no))
    (λ (start : next_phase b h w ≤ 0).
    let zero_is : next_phase b h w ≡ 0 = omega arith in
    let yes : (next_phase b h w == 0) ≡ true = eq-eqb _ _ zero_is in
    by_phase ∙ ap (λ y. event_of b (held b h w) y) zero_is ∙ ap (λ y. event_of b y 0) (held-at_claim b h w zero_is)
    ∙ sym (ap (λ y. cond y (event_of b (claims b h) 0) (event_of b (held b h w) (next_phase b h w))) yes))
    (cases_lt 0 (next_phase b h w))
