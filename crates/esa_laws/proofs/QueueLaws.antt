-- How a queue goes on when one more batch comes in.
use Rattle.std.proofs.Common.{◌≡◌, ℕ, zero, suc, ◌+◌, ◌-◌, ◌*◌, ◌≤◌, ◌<◌, min, ⊎_elim, List, [], ◌∷◌, ◌++◌, length, get_or, take, drop, refl, sym, ◌∙◌, ap, subst, add-one, arith, append-nil, length-append, length-drop}
use Rattle.std.proofs.lemmas.Bool.{cases_lt}
use Rattle.std.proofs.lemmas.List.{take-append-le, take_more, drop-append-le, drop-drop, drop_min, take_min, get_or_at, get_or_append_left, take-append-drop}
use Rattle.std.proofs.lemmas.List.Concat.{flat_map-append}
use Rattle.esa_spec.specs.Queue.{joined, arrived, greatest, excess, waiting, departed, leaving, queue}

-- the greatest is at least each
pub le-greatest : (f : ℕ → ℕ) (k j : ℕ) → j ≤ k → f j ≤ greatest f k
le-greatest f zero j h = let e : j ≡ 0 = omega arith in rw e (omega arith)
le-greatest f (suc k) j h = ⊎_elim
    (λ (before : j < suc k). omega (arith, le-greatest f k j (omega arith)))
    (λ (last : suc k ≤ j). let e : j ≡ suc k = omega arith in rw e (omega arith))
    (cases_lt j (suc k))

-- and at most what each is at most
pub greatest-le : (f : ℕ → ℕ) (k m : ℕ) → ((j : ℕ) → j ≤ k → f j ≤ m) → greatest f k ≤ m
greatest-le f zero m each = each 0 (omega arith)
greatest-le f (suc k) m each =
    let first = greatest-le f k m (λ j h. each j (omega arith)) in
    let last = each (suc k) (omega arith) in
    omega (arith, first, last)

-- and one of them
pub greatest-reached : (f : ℕ → ℕ) (k : ℕ) → (j : ℕ) × (j ≤ k) × (greatest f k ≡ f j)
greatest-reached f zero = (0, omega arith, refl)
greatest-reached f (suc k) =
    let before = greatest-reached f k in
    ⊎_elim
    (λ (more : greatest f k < f (suc k)). (suc k, omega arith, omega arith))
    (λ (no_more : f (suc k) ≤ greatest f k). (before.0, omega (arith, before.1), omega (arith, before.2)))
    (cases_lt (greatest f k) (f (suc k)))

pub greatest-same : (f g : ℕ → ℕ) (k : ℕ) → ((j : ℕ) → j ≤ k → f j ≡ g j) → greatest f k ≡ greatest g k
greatest-same f g zero each = each 0 (omega arith)
greatest-same f g (suc k) each =
    let before = greatest-same f g k (λ j h. each j (omega arith)) in
    let last = each (suc k) (omega arith) in
    omega (arith, before, last)

later : (k j c : ℕ) → j ≤ k → (suc k - j) * c ≡ (k - j) * c + c
later k j c h = let e : suc k - j ≡ suc (k - j) = omega arith in ap (λ y. y * c) e ∙ omega arith

none_later : (k c : ℕ) → (k - k) * c ≡ 0
none_later k c = let e : k - k ≡ 0 = omega arith in ap (λ y. y * c) e ∙ omega arith

module _ {X : Type 0} where
  -- batch k
  abbrev pub batch : List (List X) → ℕ → List X
  batch es k = get_or es k []

  pub joined-append : (es more : List (List X)) → joined (es ++ more) ≡ joined es ++ joined more
  joined-append es more = flat_map-append (λ e. e) es more

  -- what came in with one batch more
  pub joined-take : (es : List (List X)) (k : ℕ) → k < length es → joined (take (suc k) es) ≡ joined (take k es) ++ batch es k
  joined-take es k h =
      ap (λ y. joined (take y es)) (sym (add-one k)) ∙ ap joined (take_more es k [] h) ∙ joined-append (take k es) (batch es k ∷ [])
      ∙ ap (λ y. joined (take k es) ++ y) (append-nil (batch es k))

  pub arrived-more : (es : List (List X)) (k : ℕ) → k < length es → arrived es (suc k) ≡ arrived es k + length (batch es k)
  arrived-more es k h = ap length (joined-take es k h) ∙ length-append (joined (take k es)) (batch es k)

  pub waiting-le-arrived : (c : ℕ) (es : List (List X)) (k : ℕ) → waiting c es k ≤ arrived es k
  waiting-le-arrived c es k = greatest-le (excess c es k) k (arrived es k) (λ j h. omega arith)

  -- one batch more: up to c leave
  pub waiting-more : (c : ℕ) (es : List (List X)) (k : ℕ) → k < length es → waiting c es (suc k) ≡ waiting c es k + length (batch es k) - c
  waiting-more c es k h =
      let n = length (batch es k) in
      let came : arrived es (suc k) ≡ arrived es k + n = arrived-more es k h in
      let reached = greatest-reached (excess c es k) k in
      let j = reached.0 in
      let early : j ≤ k = reached.1 in
      let is_excess : waiting c es k ≡ arrived es k - (arrived es j + (k - j) * c) = reached.2 in
      -- none exceeds it
      let above : waiting c es (suc k) ≤ waiting c es k + n - c =
      greatest-le (excess c es (suc k)) (suc k) (waiting c es k + n - c) (λ i i_in. ⊎_elim
      (λ (before : i < suc k).
      let further : (suc k - i) * c ≡ (k - i) * c + c = later k i c (omega arith) in
      let bound : arrived es k - (arrived es i + (k - i) * c) ≤ waiting c es k = le-greatest (excess c es k) k i (omega arith) in
      omega (arith, further, bound, came))
      (λ (last : suc k ≤ i). let e : i ≡ suc k = omega arith in
      let P : ℕ → Type 0 = λ y. excess c es (suc k) y ≤ waiting c es k + n - c in
      subst P (sym e) (omega arith))
      (cases_lt i (suc k))) in
      -- and one reaches it
      let at_j : excess c es (suc k) j ≤ waiting c es (suc k) = le-greatest (excess c es (suc k)) (suc k) j (omega arith) in
      let at_k : excess c es (suc k) k ≤ waiting c es (suc k) = le-greatest (excess c es (suc k)) (suc k) k (omega arith) in
      let further_j : (suc k - j) * c ≡ (k - j) * c + c = later k j c early in
      let further_k : (suc k - k) * c ≡ c = later k k c (omega arith) ∙ omega (arith, none_later k c) in
      omega (arith, above, at_j, at_k, further_j, further_k, is_excess, came)

  pub departed-more : (c : ℕ) (es : List (List X)) (k : ℕ) → k < length es
      → departed c es (suc k) ≡ departed c es k + min c (waiting c es k + length (batch es k))
  departed-more c es k h = omega (arith, waiting-more c es k h, arrived-more es k h, waiting-le-arrived c es k)

  pub length-queue : (c : ℕ) (es : List (List X)) (k : ℕ) → length (queue c es k) ≡ waiting c es k
  length-queue c es k = omega (arith, length-drop (departed c es k) (joined (take k es)), waiting-le-arrived c es k)

  -- the queue with what comes in
  pub queue-came : (c : ℕ) (es : List (List X)) (k : ℕ) → k < length es → drop (departed c es k) (joined (take (suc k) es)) ≡ queue c es k ++ batch es k
  queue-came c es k h =
      let short : departed c es k ≤ length (joined (take k es)) = omega arith in
      ap (drop (departed c es k)) (joined-take es k h) ∙ drop-append-le (departed c es k) (joined (take k es)) (batch es k) short

  length-came : (c : ℕ) (es : List (List X)) (k : ℕ) → length (queue c es k ++ batch es k) ≡ waiting c es k + length (batch es k)
  length-came c es k = length-append (queue c es k) (batch es k) ∙ ap (λ y. y + length (batch es k)) (length-queue c es k)

  pub queue-more : (c : ℕ) (es : List (List X)) (k : ℕ) → k < length es → queue c es (suc k) ≡ drop c (queue c es k ++ batch es k)
  queue-more c es k h =
      let m = min c (waiting c es k + length (batch es k)) in
      ap (λ y. drop y (joined (take (suc k) es))) (departed-more c es k h)
      ∙ sym (drop-drop m (departed c es k) (joined (take (suc k) es)))
      ∙ ap (drop m) (queue-came c es k h)
      ∙ ap (λ y. drop (min c y) (queue c es k ++ batch es k)) (sym (length-came c es k))
      ∙ drop_min c (queue c es k ++ batch es k)

  -- the batches are those up to k and the ones behind
  joined-split : (es : List (List X)) (k : ℕ) → joined es ≡ joined (take k es) ++ joined (drop k es)
  joined-split es k = ap joined (sym (take-append-drop k es)) ∙ joined-append (take k es) (drop k es)

  pub leaving-more : (c : ℕ) (es : List (List X)) (k : ℕ) → k < length es → leaving c es k ≡ take c (queue c es k ++ batch es k)
  leaving-more c es k h =
      let d = departed c es k in
      let m = min c (waiting c es k + length (batch es k)) in
      let behind = joined (drop (suc k) es) in
      let short : d ≤ length (joined (take (suc k) es)) = omega (arith, arrived-more es k h) in
      let count : departed c es (suc k) - d ≡ m = omega (arith, departed-more c es k h) in
      let rest : drop d (joined es) ≡ (queue c es k ++ batch es k) ++ behind =
      ap (drop d) (joined-split es (suc k)) ∙ drop-append-le d (joined (take (suc k) es)) behind short ∙ ap (λ y. y ++ behind) (queue-came c es k h) in
      let few : m ≤ length (queue c es k ++ batch es k) = omega (arith, length-came c es k) in
      ap (λ y. take y (drop d (joined es))) count ∙ ap (take m) rest ∙ take-append-le m (queue c es k ++ batch es k) behind few
      ∙ ap (λ y. take (min c y) (queue c es k ++ batch es k)) (sym (length-came c es k)) ∙ take_min c (queue c es k ++ batch es k)

  -- batches that come later
  pub arrived-append : (es more : List (List X)) (k : ℕ) → k ≤ length es → arrived (es ++ more) k ≡ arrived es k
  arrived-append es more k h = ap (λ y. length (joined y)) (take-append-le k es more h)

  pub waiting-append : (c : ℕ) (es more : List (List X)) (k : ℕ) → k ≤ length es → waiting c (es ++ more) k ≡ waiting c es k
  waiting-append c es more k h = greatest-same (excess c (es ++ more) k) (excess c es k) k
      (λ j j_in. omega (arith, arrived-append es more k h, arrived-append es more j (omega arith)))

  pub departed-append : (c : ℕ) (es more : List (List X)) (k : ℕ) → k ≤ length es → departed c (es ++ more) k ≡ departed c es k
  departed-append c es more k h = omega (arith, arrived-append es more k h, waiting-append c es more k h)

  pub queue-append : (c : ℕ) (es more : List (List X)) (k : ℕ) → k ≤ length es → queue c (es ++ more) k ≡ queue c es k
  queue-append c es more k h =
      ap (λ y. drop y (joined (take k (es ++ more)))) (departed-append c es more k h)
      ∙ ap (λ y. drop (departed c es k) (joined y)) (take-append-le k es more h)

  batch-append : (es more : List (List X)) (k : ℕ) → k < length es → batch (es ++ more) k ≡ batch es k
  batch-append es more k h = get_or_append_left es more [] k h

  longer : (es more : List (List X)) (k : ℕ) → k < length es → k < length (es ++ more)
  longer es more k h = omega (arith, length-append es more)

  pub leaving-append : (c : ℕ) (es more : List (List X)) (k : ℕ) → k < length es → leaving c (es ++ more) k ≡ leaving c es k
  leaving-append c es more k h =
      leaving-more c (es ++ more) k (longer es more k h)
      ∙ ap (λ y. take c (y ++ batch (es ++ more) k)) (queue-append c es more k (omega arith))
      ∙ ap (λ y. take c (queue c es k ++ y)) (batch-append es more k h)
      ∙ sym (leaving-more c es k h)

  -- the last batch of a list
  last-batch : (es : List (List X)) (e : List X) → batch (es ++ e ∷ []) (length es) ≡ e
  last-batch es e = get_or_at es e [] [] (length es) refl

  has-last : (es : List (List X)) (e : List X) → length es < length (es ++ e ∷ [])
  has-last es e = omega (arith, length-append es (e ∷ []))

  pub waiting-push : (c : ℕ) (es : List (List X)) (e : List X) → waiting c (es ++ e ∷ []) (suc (length es)) ≡ waiting c es (length es) + length e - c
  waiting-push c es e =
      waiting-more c (es ++ e ∷ []) (length es) (has-last es e)
      ∙ ap (λ y. y + length (batch (es ++ e ∷ []) (length es)) - c) (waiting-append c es (e ∷ []) (length es) (omega arith))
      ∙ ap (λ y. waiting c es (length es) + length y - c) (last-batch es e)

  pub leaving-push : (c : ℕ) (es : List (List X)) (e : List X) → leaving c (es ++ e ∷ []) (length es) ≡ take c (queue c es (length es) ++ e)
  leaving-push c es e =
      leaving-more c (es ++ e ∷ []) (length es) (has-last es e)
      ∙ ap (λ y. take c (y ++ batch (es ++ e ∷ []) (length es))) (queue-append c es (e ∷ []) (length es) (omega arith))
      ∙ ap (λ y. take c (queue c es (length es) ++ y)) (last-batch es e)

  pub queue-push : (c : ℕ) (es : List (List X)) (e : List X) → queue c (es ++ e ∷ []) (suc (length es)) ≡ drop c (queue c es (length es) ++ e)
  queue-push c es e =
      queue-more c (es ++ e ∷ []) (length es) (has-last es e)
      ∙ ap (λ y. drop c (y ++ batch (es ++ e ∷ []) (length es))) (queue-append c es (e ∷ []) (length es) (omega arith))
      ∙ ap (λ y. drop c (queue c es (length es) ++ y)) (last-batch es e)
