-- Queues and chosen elements under a map, and by lengths alone.
use Rattle.std.proofs.Common.{◌≡◌, ℕ, suc, ◌-◌, Bool, true, false, cond, ◌==◌, List, [], ◌∷◌, ◌++◌, length, take, drop, map, refl, sym, ◌∙◌, ap, arith}
use Rattle.std.specs.List.{sum_by}
use Rattle.std.specs.Prelude.{slice_range}
use Rattle.std.proofs.lemmas.List.{map-append, take-map, drop-map, length-map}
use Rattle.std.proofs.lemmas.List.Concat.{length-flat_map}
use Rattle.esa_laws.proofs.QueueLaws.{greatest-same}
use Rattle.esa_laws.proofs.Sums.{sum-of-map}
use Rattle.esa_spec.specs.Draws.{chosen}
use Rattle.esa_spec.specs.Queue.{joined, arrived, excess, waiting, departed, leaving, queue}

-- how many came in is the sum of the lengths
arrived-lengths : {X : Type 0} (es : List (List X)) (k : ℕ) → arrived es k ≡ sum_by (λ n. n) (take k (map (λ e. length e) es))
arrived-lengths {X} es k =
    length-flat_map {X = List X} (λ e. e) (take k es)
    ∙ sym (sum-of-map {X = List X} (λ n. n) (λ e. length e) (take k es))
    ∙ ap (sum_by (λ n. n)) (sym (take-map {X = List X} (λ e. length e) k es))

-- batches of the same lengths
module _ {X Y : Type 0} (c : ℕ) (es : List (List X)) (fs : List (List Y)) (same : map (λ e. length e) es ≡ map (λ e. length e) fs) where
  arrived-same : (k : ℕ) → arrived es k ≡ arrived fs k
  arrived-same k = arrived-lengths es k ∙ ap (λ y. sum_by (λ n. n) (take k y)) same ∙ sym (arrived-lengths fs k)

  pub waiting-same : (k : ℕ) → waiting c es k ≡ waiting c fs k
  waiting-same k = greatest-same (excess c es k) (excess c fs k) k (λ j j_in. omega (arith, arrived-same k, arrived-same j))

  pub departed-same : (k : ℕ) → departed c es k ≡ departed c fs k
  departed-same k = omega (arith, arrived-same k, waiting-same k)

module _ {X Y : Type 0} (f : X → Y) where
  lengths-map : (es : List (List X)) → map (λ e. length e) (map (map f) es) ≡ map (λ e. length e) es
  lengths-map [] = refl
  lengths-map (e ∷ es) = ap (λ y. y ∷ map (λ e. length e) (map (map f) es)) (length-map e f) ∙ ap (λ y. length e ∷ y) (lengths-map es)

  joined-map : (es : List (List X)) → joined (map (map f) es) ≡ map f (joined es)
  joined-map [] = refl
  joined-map (e ∷ es) = ap (λ y. map f e ++ y) (joined-map es) ∙ sym (map-append f e (joined es))

  module _ (c : ℕ) (es : List (List X)) where
    pub waiting-map : (k : ℕ) → waiting c (map (map f) es) k ≡ waiting c es k
    waiting-map k = waiting-same c (map (map f) es) es (lengths-map es) k

    departed-map : (k : ℕ) → departed c (map (map f) es) k ≡ departed c es k
    departed-map k = departed-same c (map (map f) es) es (lengths-map es) k

    pub queue-map : (k : ℕ) → queue c (map (map f) es) k ≡ map f (queue c es k)
    queue-map k =
        ap (λ y. drop y (joined (take k (map (map f) es)))) (departed-map k)
        ∙ ap (λ y. drop (departed c es k) (joined y)) (take-map (map f) k es)
        ∙ ap (drop (departed c es k)) (joined-map (take k es))
        ∙ drop-map f (departed c es k) (joined (take k es))

    pub leaving-map : (k : ℕ) → leaving c (map (map f) es) k ≡ map f (leaving c es k)
    leaving-map k =
        let from = departed c es k in
        ap (λ y. slice_range (joined (map (map f) es)) y (departed c (map (map f) es) (suc k))) (departed-map k)
        ∙ ap (λ y. slice_range (joined (map (map f) es)) from y) (departed-map (suc k))
        ∙ ap (λ y. slice_range y from (departed c es (suc k))) (joined-map es)
        ∙ ap (take (departed c es (suc k) - from)) (drop-map f from (joined es))
        ∙ take-map f (departed c es (suc k) - from) (drop from (joined es))

  -- the elements with a target
  chosen-by : (x : X) (xs : List X) (c : Bool) → cond c (f x ∷ map f xs) (map f xs) ≡ map f (cond c (x ∷ xs) xs)
  chosen-by x xs true = refl
  chosen-by x xs false = refl

  pub chosen-map : (i : ℕ) (ts : List ℕ) (xs : List X) → chosen i ts (map f xs) ≡ map f (chosen i ts xs)
  chosen-map i [] xs = refl
  chosen-map i (t ∷ ts) [] = refl
  chosen-map i (t ∷ ts) (x ∷ xs) =
      ap (λ y. cond (t == i) (f x ∷ y) y) (chosen-map i ts xs) ∙ chosen-by x (chosen i ts xs) (t == i)
