-- How often each number stands in a list of entries.
use Rattle.std.proofs.Common.{◌≡◌, ℕ, zero, suc, ◌+◌, ◌<◌, cond, eqb, List, [], ◌∷◌, ◌++◌, length, get_or, take, drop, All, refl, sym, ap, ◌∙◌, subst, arith}
use Rattle.std.proofs.lemmas.List.{take_at}
use Rattle.std.proofs.lemmas.List.Sums.{sum_by-cons}
use Rattle.std.proofs.lemmas.List.Elements.{All-head, All-tail}
use Rattle.esa_turnstile.specs.declared.pass.Pass.{Pass}
use Rattle.esa_turnstile.specs.declared.turnstile.Turnstile.{Turnstile}
use Rattle.esa_turnstile.specs.Entries.{times}
use Rattle.esa_turnstile.specs.Passes.{IsPassOf, IsNewPass, number_of, added_of}
use Rattle.esa_turnstile.specs.Rounds.{Goes}

some-pass : {T : Type 0} (ps : List (Pass T)) → 0 < length ps → Pass T
some-pass [] h = absurd (omega arith)
some-pass (p ∷ ps) h = p

-- a vector after a write to all of its places
written : {A : Type 0} (n : ℕ) (new old : List A) → n ≡ length new → take n (new ++ drop (length new) old) ≡ new
written n new old e = take_at new (drop (length new) old) n (sym e)

module _ {T O : Type 0} (turnstile : Turnstile T O) (turns tickets mark count : ℕ) (old mid new : List (Pass T)) where
  -- passes of the numbers from 0 on, none of which had entered, and each of which then entered so often
  pub each-counted : (log : List ℕ) → length old ≡ count → mid ≡ old → length new ≡ length mid
      → All (λ p. IsPassOf turnstile p × IsNewPass tickets mark p) old
      → ((x : ℕ) (d : Pass T) → x < count → (get_or old x d).number ≡ x)
      → ((k : ℕ) (d : Pass T) → k < length mid → Goes turnstile turns (get_or mid k d) (get_or new k d))
      → (n : ℕ) → n ≡ length old → All (λ p. times (number_of p) log ≡ added_of p) (take n (new ++ drop (length new) old)) → (x : ℕ) → x < count → times x log ≡ turns
  each-counted log size same_list same fresh numbers goes n n_is counts' x lt =
      let l : length mid ≡ length old = ap length same_list in
      let counts = subst (All (λ (p : Pass T). times (number_of p) log ≡ added_of p)) (written n new old (omega arith)) counts' in
      let d : Pass T = some-pass old (omega arith) in let g = goes x d (omega arith) in
      let was : get_or mid x d ≡ get_or old x d = ap (λ (z : List (Pass T)). get_or z x d) same_list in
      let number : number_of (get_or new x d) ≡ x = g.number ∙ (ap (λ (z : Pass T). number_of z) was ∙ numbers x d lt) in
      let none_yet : added_of (get_or mid x d) ≡ 0 = ap (λ (z : Pass T). added_of z) was ∙ (fresh x d (omega arith)).1.nothing_added in
      let added : added_of (get_or new x d) ≡ turns = let a = g.added in omega arith in
      ap (λ (z : ℕ). times z log) (sym number) ∙ (counts x d (omega arith) ∙ added)

two-cases : (y : ℕ) (n a b : ℕ) → y < 2 → n ≡ a + b → suc n ≡ (cond (eqb y 0) 1 0 + a) + (cond (eqb y 1) 1 0 + b)
two-cases zero n a b lt e = omega arith
two-cases (suc zero) n a b lt e = omega arith
two-cases (suc (suc y)) n a b lt e = absurd (omega arith)

-- where there are two numbers, each entry is one or the other
pub two-numbers : (log : List ℕ) → All (λ y. y < 2) log → length log ≡ times 0 log + times 1 log
two-numbers [] h = refl
two-numbers (y ∷ ys) h =
    two-cases y (length ys) (times 0 ys) (times 1 ys) (All-head (λ (z : ℕ). z < 2) y ys h) (two-numbers ys (All-tail (λ (z : ℕ). z < 2) y ys h))
    ∙ sym (let a : times 0 (y ∷ ys) ≡ cond (eqb y 0) 1 0 + times 0 ys = sum_by-cons (λ (z : ℕ). cond (eqb z 0) 1 0) y ys in
    let b : times 1 (y ∷ ys) ≡ cond (eqb y 1) 1 0 + times 1 ys = sum_by-cons (λ (z : ℕ). cond (eqb z 1) 1 0) y ys in omega arith)
