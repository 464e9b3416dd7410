-- A history that goes on with the turns of an attempt.
use Rattle.std.proofs.Common.{◌≡◌, ◌≢◌, ℕ, ◌+◌, ◌-◌, ◌<◌, ◌≤◌, List, [], ◌∷◌, ◌++◌, length, map, take, drop, refl, sym, ap, ◌∙◌, subst, arith, append-nil, append_assoc, take-append-drop, length-append, take_all, add-one}
use Rattle.std.specs.Prelude.{All, flat_map}
use Rattle.std.proofs.lemmas.List.{length-map, map-append, take-append-le}
use Rattle.std.proofs.lemmas.List.Concat.{flat_map-append}
use Rattle.std.proofs.lemmas.List.Elements.{All-head, All-tail}
use Rattle.std.proofs.lemmas.List.FromFn.{length-range_with_len}
use Rattle.std.specs.List.{range_with_len}
use Rattle.esa_laws.proofs.HistoryLaws.{begun-owner, begun-worker, latest-owner, latest-worker, lists-owner, lists-worker}
use Rattle.esa_laws.proofs.Ranges.{below-add, map-below-suc}
use Rattle.esa_params.specs.Sizes.{Sizes, below}
use Rattle.esa_spec.specs.Histories.{begun, latest, lists}
use Rattle.esa_spec.specs.Fronts.{Begins}
use Rattle.esa_ending.specs.Seen.{AreCut, history_of}

-- entries of workers
module _ (owner : ℕ) where
  abbrev AreOthers : List ℕ → Type 0
  AreOthers turns = All (λ v. v < owner) turns

  other : (v : ℕ) → v < owner → v ≢ owner
  other v less same = absurd (omega (arith, less, same))

  pub lists-more : (h turns : List ℕ) → AreOthers turns → lists owner (h ++ turns) ≡ lists owner h
  lists-more h [] all = ap (lists owner) (append-nil h)
  lists-more h (v ∷ turns) all =
      ap (lists owner) (sym (append_assoc h (v ∷ []) turns))
      ∙ lists-more (h ++ v ∷ []) turns (All-tail (λ v. v < owner) v turns all)
      ∙ lists-worker owner h v (other v (All-head (λ v. v < owner) v turns all))

  pub latest-more : (h turns : List ℕ) → AreOthers turns → latest owner (h ++ turns) ≡ latest owner h ++ turns
  latest-more h [] all = ap (latest owner) (append-nil h) ∙ sym (append-nil (latest owner h))
  latest-more h (v ∷ turns) all =
      ap (latest owner) (sym (append_assoc h (v ∷ []) turns))
      ∙ latest-more (h ++ v ∷ []) turns (All-tail (λ v. v < owner) v turns all)
      ∙ ap (λ (xs : List ℕ). xs ++ turns) (latest-worker owner h v (other v (All-head (λ v. v < owner) v turns all)))
      ∙ append_assoc (latest owner h) (v ∷ []) turns

  pub begun-more : (h turns : List ℕ) → AreOthers turns → begun owner (h ++ turns) ≡ begun owner h
  begun-more h [] all = ap (begun owner) (append-nil h)
  begun-more h (v ∷ turns) all =
      ap (begun owner) (sym (append_assoc h (v ∷ []) turns))
      ∙ begun-more (h ++ v ∷ []) turns (All-tail (λ v. v < owner) v turns all)
      ∙ begun-worker owner h v (other v (All-head (λ v. v < owner) v turns all))

  -- the owner's entry and then the turns of an attempt
  module _ (h turns new : List ℕ) (all : AreOthers turns) (is : new ≡ (h ++ owner ∷ []) ++ turns) where
    pub turns_are : latest owner new ≡ turns
    turns_are = ap (latest owner) is ∙ latest-more (h ++ owner ∷ []) turns all ∙ ap (λ (xs : List ℕ). xs ++ turns) (latest-owner owner h)

    some_begun : 1 ≤ begun owner new
    some_begun =
        let same = ap (begun owner) is ∙ begun-more (h ++ owner ∷ []) turns all ∙ begun-owner owner h in
        omega (arith, same)

    pub lists_are : lists owner (new ++ owner ∷ []) ≡ lists owner (h ++ owner ∷ []) ++ turns ∷ []
    lists_are =
        lists-owner owner new some_begun
        ∙ ap (λ (xs : List (List ℕ)). xs ++ latest owner new ∷ []) (ap (lists owner) is ∙ lists-more (h ++ owner ∷ []) turns all)
        ∙ ap (λ (xs : List ℕ). lists owner (h ++ owner ∷ []) ++ xs ∷ []) turns_are

    pub length_is : length new ≡ length h + 1 + length turns
    length_is =
        let whole = ap length is ∙ length-append (h ++ owner ∷ []) turns in
        let front = length-append h (owner ∷ []) in
        omega (arith, whole, front)

-- the history of the lists with one more
pub history-more : (p : Sizes) (hs : List (List ℕ)) (h turns new : List ℕ) → h ++ p.workers ∷ [] ≡ history_of p hs
    → new ≡ (h ++ p.workers ∷ []) ++ turns → new ++ p.workers ∷ [] ≡ history_of p (hs ++ turns ∷ [])
history-more p hs h turns new before is =
    let w = p.workers in
    let each = λ (h : List ℕ). h ++ w ∷ [] in
    ap (λ (xs : List ℕ). xs ++ w ∷ []) is
    ∙ append_assoc (h ++ w ∷ []) turns (w ∷ [])
    ∙ ap (λ (xs : List ℕ). xs ++ (turns ++ w ∷ [])) before
    ∙ ap (λ (xs : List ℕ). (w ∷ flat_map each hs) ++ xs) (sym (append-nil (turns ++ w ∷ [])))
    ∙ ap (λ (xs : List ℕ). w ∷ xs) (sym (flat_map-append each hs (turns ∷ [])))

-- lists by number
module _ (f : ℕ → List ℕ) where
  abbrev pub first_lists : ℕ → List (List ℕ)
  first_lists n = map f (below n)

  pub first-more : (n : ℕ) → first_lists n ++ f n ∷ [] ≡ first_lists (n + 1)
  first-more n = sym (ap first_lists (add-one n) ∙ map-below-suc f n)

  pub length-first : (n : ℕ) → length (first_lists n) ≡ n
  length-first n = length-map (below n) f ∙ length-range_with_len 0 n

  -- those behind
  abbrev pub later : ℕ → ℕ → List (List ℕ)
  later n m = map f (range_with_len n (m - n))

  pub first-split : (n m : ℕ) → n ≤ m → first_lists m ≡ first_lists n ++ later n m
  first-split n m within =
      let whole : m ≡ n + (m - n) = omega (arith, within) in
      ap first_lists whole ∙ ap (map f) (below-add n (m - n)) ∙ map-append f (below n) (range_with_len n (m - n))

  pub take-first : (n m : ℕ) → n ≤ m → take n (first_lists m) ≡ first_lists n
  take-first n m within =
      let long = length-first n in
      ap (take n) (first-split n m within)
      ∙ take-append-le n (first_lists n) (later n m) (omega (arith, long))
      ∙ take_all n (first_lists n) (omega (arith, long))

-- lists whose last one is a front
cut-last : (xs : List (List ℕ)) (g h : List ℕ) (more : List (List ℕ)) → Begins g h → AreCut (xs ++ g ∷ []) (xs ++ h ∷ more)
cut-last [] g h more begins = begins
cut-last (x ∷ []) g h more begins = (refl, begins)
cut-last (x ∷ y ∷ xs) g h more begins = (refl, cut-last (y ∷ xs) g h more begins)

pub cut-in : (f : ℕ → List ℕ) (n m count : ℕ) → n < m → AreCut (map f (below n) ++ take count (f n) ∷ []) (map f (below m))
cut-in f n m count inside =
    let whole : first_lists f m ≡ first_lists f n ++ f n ∷ later f (n + 1) m =
    first-split f (n + 1) m (omega (arith, inside)) ∙ ap (λ (xs : List (List ℕ)). xs ++ later f (n + 1) m) (sym (first-more f n))
    ∙ append_assoc (first_lists f n) (f n ∷ []) (later f (n + 1) m) in
    subst (AreCut (first_lists f n ++ take count (f n) ∷ [])) (sym whole)
    (cut-last (first_lists f n) (take count (f n)) (f n) (later f (n + 1) m) (drop count (f n), sym (take-append-drop count (f n))))
