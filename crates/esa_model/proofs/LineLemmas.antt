-- The lines of an attempt, exchange by exchange.
use Rattle.std.proofs.Common.{◌≡◌, ℕ, suc, ◌+◌, ◌-◌, ◌*◌, ◌<◌, ◌≤◌, cond, ◌==◌, List, [], ◌∷◌, ◌++◌, length, get_or, refl, sym, ap, ◌∙◌, arith, append-nil, length-append}
use Rattle.std.specs.Prelude.{min, sum_by, true, false, Bool}
use Rattle.std.proofs.Math.Nat.{mul-le-mul}
use Rattle.std.proofs.lemmas.List.{map-append, length_push, take_all, get_or-replicate}
use Rattle.std.proofs.lemmas.List.FromFn.{length-range_with_len}
use Rattle.esa_params.specs.Sizes.{Sizes, ArePlanned, first, size, below, places_of}
use Rattle.esa_laws.proofs.LineLaws.{length-batches, backlog-push}
use Rattle.esa_laws.proofs.PlaceLaws.{length-chosen}
use Rattle.esa_laws.proofs.QueueLaws.{joined-append, waiting-le-arrived}
use Rattle.esa_laws.proofs.Ranges.{sum-below-same}
use Rattle.esa_laws.proofs.RoundLaws.{exchanges_of-le, exchanges_of}
use Rattle.esa_laws.proofs.Sums.{sum-below-le}
use Rattle.esa_laws.proofs.TotalLaws.{total-exchanges}
use Rattle.esa_spec.specs.Draws.{Draw, chosen}
use Rattle.esa_spec.specs.Lines.{chosen_places, batches, arrivals, backlog, gone, stashed}
use Rattle.esa_spec.specs.Queue.{joined, arrived}
use Rattle.esa_spec.specs.Turns.{order}
use Rattle.esa_model.specs.Passed.{Passed, AreFew, AreLines, AreLinesOf, AreCounted, HaveLeft, IsExchanged, occurrences, staying, all_staying, none_passed}

-- a bucket has no more places than there are
pub size-le : (p : Sizes) (j : ℕ) → size p j ≤ p.n
size-le p j = omega arith

longer : (o : List ℕ) (j : ℕ) → suc (length o) ≡ length (o ++ j ∷ [])
longer o j = omega (arith, length_push o j)

-- all that have come in
all-arrived : {X : Type 0} (es : List (List X)) (k : ℕ) → k ≡ length es → arrived es k ≡ length (joined es)
all-arrived es k all = ap (λ l. length (joined l)) (take_all k es (omega arith))

module _ (p : Sizes) (d : Draw) (o : List ℕ) where
  pub arrivals-all : (i : ℕ) → arrivals p d o (length o) i ≡ length (joined (batches p d o i))
  arrivals-all i = all-arrived (batches p d o i) (length o) (sym (length-batches p d o i))

  -- one exchange more
  pub arrivals-push : (j i : ℕ) → arrivals p d (o ++ j ∷ []) (suc (length o)) i ≡ arrivals p d o (length o) i + length (chosen_places p d i j)
  arrivals-push j i =
      let here : suc (length o) ≡ length (batches p d (o ++ j ∷ []) i) = omega (arith, length-batches p d (o ++ j ∷ []) i, length_push o j) in
      let one : joined (chosen_places p d i j ∷ []) ≡ chosen_places p d i j = append-nil (chosen_places p d i j) in
      all-arrived (batches p d (o ++ j ∷ []) i) (suc (length o)) here
      ∙ ap (λ es. length (joined es)) (map-append (chosen_places p d i) o (j ∷ []))
      ∙ ap length (joined-append (batches p d o i) (chosen_places p d i j ∷ []))
      ∙ length-append (joined (batches p d o i)) (joined (chosen_places p d i j ∷ []))
      ∙ ap (λ l. length (joined (batches p d o i)) + length l) one
      ∙ ap (λ (n : ℕ). n + length (chosen_places p d i j)) (sym (arrivals-all i))

  pub backlog-le : (i : ℕ) → backlog p d o (length o) i ≤ arrivals p d o (length o) i
  backlog-le i = waiting-le-arrived p.c (batches p d o i) (length o)

  -- up to c leave
  pub gone-push : (j i : ℕ) → gone p d (o ++ j ∷ []) (suc (length o)) i
      ≡ min (gone p d o (length o) i + p.c) (arrivals p d (o ++ j ∷ []) (suc (length o)) i)
  gone-push j i = omega (arith, arrivals-push j i, backlog-push p d o j i, backlog-le i)

  -- and the others stay
  pub staying-push : (j i : ℕ) → backlog p d (o ++ j ∷ []) (suc (length o)) i
      ≡ arrivals p d (o ++ j ∷ []) (suc (length o)) i - (gone p d o (length o) i + p.c)
  staying-push j i = omega (arith, arrivals-push j i, backlog-push p d o j i, backlog-le i)

-- no more places are chosen than there are
chosen-le : (i : ℕ) (ts xs : List ℕ) → length (chosen i ts xs) ≤ length xs
chosen-le i [] xs = omega arith
chosen-le i (t ∷ ts) [] = omega arith
chosen-le i (t ∷ ts) (x ∷ xs) = by (t == i) (chosen-le i ts xs)
  where
    by : (c : Bool) → length (chosen i ts xs) ≤ length xs → length (cond c (x ∷ chosen i ts xs) (chosen i ts xs)) ≤ length (x ∷ xs)
    by true few = omega arith
    by false few = omega arith

joined-le : (p : Sizes) (d : Draw) (i : ℕ) (o : List ℕ) → length (joined (batches p d o i)) ≤ length o * p.n
joined-le p d i [] = omega arith
joined-le p d i (j ∷ o) =
    let here = chosen-le i (d.targets j) (places_of p j) in
    let places = length-range_with_len (first p j) (size p j) in
    let few = size-le p j in
    let more : length (j ∷ o) * p.n ≡ p.n + length o * p.n = omega arith in
    omega (arith, joined-le p d i o, length-append (chosen_places p d i j) (joined (batches p d o i)))

-- at most B buckets are exchanged
order-le : (b : ℕ) (h : List ℕ) → length (order b h) ≤ b
order-le b h = omega (arith, total-exchanges b h, sum-below-le (exchanges_of b h) b 1 (exchanges_of-le b h))

module _ (p : Sizes) (d : Draw) (planned : ArePlanned p) where
  pub arrivals-few : (h : List ℕ) (i : ℕ) → arrivals p d (order p.b h) (length (order p.b h)) i ≤ 67108864
  arrivals-few h i =
      let o = order p.b h in
      let all = mul-le-mul {n₁ = length o} {m₁ = p.n} {n₂ = 256} {m₂ = 262144} (omega (arith, order-le p.b h, planned.parameters.b_greatest)) planned.n_greatest in
      omega (arith, arrivals-all p d o i, joined-le p d i o)

  pub lines-few : (h : List ℕ) (passed : Passed) → AreLinesOf p d (order p.b h) passed → AreFew passed
  lines-few h passed lines = record {
    come = λ i i_in. let few = arrivals-few h i in omega (arith, lines.arrived i (omega (arith, ap (λ (s : Sizes). s.b) lines.plan)));
    left = λ i i_in.
        let inside : i < p.b = omega (arith, ap (λ (s : Sizes). s.b) lines.plan) in
        omega (arith, lines.arrived i inside, lines.gone i inside);
  }

-- before any exchange
pub lines-start : (p : Sizes) (d : Draw) → AreLinesOf p d [] (none_passed p)
lines-start p d = record {
  plan = refl;
  arrived = λ i i_in. get_or-replicate p.b i 0 0 i_in;
  gone = λ i i_in. get_or-replicate p.b i 0 0 i_in ∙ omega arith;
}

-- one exchange more
module _ (p : Sizes) (d : Draw) (o : List ℕ) (j : ℕ) (each : length (d.targets j) ≡ size p j) (old new : Passed) (are : AreLines old) (lines : AreLinesOf p d o old) (exchanged : IsExchanged (d.targets j) old new) where
  come : (i : ℕ) → occurrences i (d.targets j) ≡ length (chosen_places p d i j)
  come i = sym (length-chosen i (d.targets j) (places_of p j) (each ∙ sym (length-range_with_len (first p j) (size p j))))

  b-is : old.p.b ≡ p.b
  b-is = ap (λ (s : Sizes). s.b) lines.plan

  c-is : old.p.c ≡ p.c
  c-is = ap (λ (s : Sizes). s.c) lines.plan

  arrived-is : (i : ℕ) → i < p.b → get_or new.arrived i 0 ≡ arrivals p d (o ++ j ∷ []) (suc (length o)) i
  arrived-is i i_in =
      let counted = exchanged.counted i (omega (arith, are.arrived_each, b-is)) in
      omega (arith, counted, come i, lines.arrived i i_in, arrivals-push p d o j i)

  pub lines-exchange : AreLinesOf p d (o ++ j ∷ []) new
  lines-exchange = record {
    plan = exchanged.plan ∙ lines.plan;
    arrived = λ i i_in. arrived-is i i_in ∙ ap (λ (k : ℕ). arrivals p d (o ++ j ∷ []) k i) (longer o j);
    gone = λ i i_in.
        let left = exchanged.left i (omega (arith, are.gone_each, b-is)) in
        let is : get_or new.gone i 0 ≡ gone p d (o ++ j ∷ []) (suc (length o)) i =
        omega (arith, left, c-is, arrived-is i i_in, lines.gone i i_in, gone-push p d o j i) in
        is ∙ ap (λ (k : ℕ). gone p d (o ++ j ∷ []) k i) (longer o j);
  }

  pub total-exchange : all_staying old.p.c new.arrived old.gone ≡ stashed p d (o ++ j ∷ []) (suc (length o))
  total-exchange =
      ap (λ (n : ℕ). sum_by (staying old.p.c new.arrived old.gone) (below n)) (are.gone_each ∙ b-is)
      ∙ sum-below-same (staying old.p.c new.arrived old.gone) (backlog p d (o ++ j ∷ []) (suc (length o))) p.b
      (λ i i_in. omega (arith, c-is, arrived-is i i_in, lines.gone i i_in, staying-push p d o j i))

-- the same of lists that are the same
pub counted-moved : (targets targets' old old' new new' : List ℕ) → targets ≡ targets' → old ≡ old' → new ≡ new'
    → AreCounted targets old new → AreCounted targets' old' new'
counted-moved targets targets' old old' new new' et eo en all i i_in =
    sym (ap (λ (l : List ℕ). get_or l i 0) en)
    ∙ all i (omega (arith, ap length eo))
    ∙ ap (λ (l : List ℕ). get_or l i 0 + occurrences i targets) eo
    ∙ ap (λ (l : List ℕ). get_or old' i 0 + occurrences i l) et

pub left-moved : (c c' : ℕ) (arrived arrived' old old' new new' : List ℕ) → c ≡ c' → arrived ≡ arrived' → old ≡ old' → new ≡ new'
    → HaveLeft c arrived old new → HaveLeft c' arrived' old' new'
left-moved c c' arrived arrived' old old' new new' ec ea eo en all i i_in =
    sym (ap (λ (l : List ℕ). get_or l i 0) en)
    ∙ all i (omega (arith, ap length eo))
    ∙ ap (λ (l : List ℕ). min (get_or l i 0 + c) (get_or arrived i 0)) eo
    ∙ ap (λ (n : ℕ). min (get_or old' i 0 + n) (get_or arrived i 0)) ec
    ∙ ap (λ (l : List ℕ). min (get_or old' i 0 + c') (get_or l i 0)) ea
