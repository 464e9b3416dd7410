-- No slot is written twice in an attempt, and no slot of the input in a run.
use Rattle.std.proofs.Common.{◌≡◌, ℕ, zero, suc, ◌+◌, ◌*◌, ◌^◌, ◌≤◌, ◌<◌, ⊎_elim, Bool, true, false, cond, ◌&&◌, ◌==◌, List, [], ◌∷◌, ◌++◌, map, refl, sym, ◌∙◌, ap, subst, arith}
use Rattle.std.specs.List.{count_by, filter_map}
use Rattle.std.specs.Prelude.{Option, Some, None, unwrap_or}
use Rattle.std.proofs.lemmas.Bool.{cases_lt, eq-eqb}
use Rattle.std.proofs.lemmas.List.Sums.{sum_by-cons, sum_by-append}
use Rattle.esa_params.specs.Sizes.{Sizes, ArePlanned, below}
use Rattle.esa_params.specs.Slots.{at, access_of, nonce_of, writes_number}
use Rattle.esa_params.specs.declared.slot.Slot.{Slot}
use Rattle.esa_params.specs.declared.slot.Region.TheVariants.{Input, Mid, Tail, Output}
use Rattle.esa_params.specs.declared.slot.Op.TheVariants.{Read as Reads, Write as Writes}
use Rattle.esa_params.specs.declared.slot.Access.{Access}
use Rattle.esa_laws.proofs.NonceLaws.{written, written-append, written-one, nonces-fresh}
use Rattle.esa_laws.proofs.PairLaws.{both-true}
use Rattle.esa_laws.proofs.PermLaws.{occurs-cons}
use Rattle.esa_laws.proofs.Ranges.{map-below-suc}
use Rattle.esa_laws.proofs.Tests.{bit, equal}
use Rattle.esa_spec.specs.Draws.{Draw}
use Rattle.esa_spec.specs.Traces.{asked, made, spread, written_input, load, read_chunk, step_accesses, walk, compression, written_tail, drain, rest, attempt_trace, is_failed, attempts, read_output, scan, scans, good_attempt, trace, written_nonce, writes_in}
use Rattle.esa_spec.specs.Turns.{events, order}
use Rattle.esa_spec.specs.Verdicts.{failing, is_finished, left, Step, Import, Put, steps, step_verdict, is_good}
use Rattle.esa_spec.specs.declared.event.Event.{Event}
use Rattle.esa_spec.specs.declared.event.Event.TheVariants.{Claim, Read, Exchange, Write, Done, Idle}

-- accesses that pass a test are no more than those that write a nonce
module _ (p : Sizes) (test : Access → Bool) (n : ℕ) where
  abbrev pub Suits : Access → Type 0
  Suits x = bit (test x) ≤ written n (x ∷ [])

  abbrev pub Within : List Access → Type 0
  Within xs = count_by test xs ≤ written n xs

  -- each access of a run suits
  pub record AllSuit : Type 0 where
    pub reads : (a : ℕ) (slot : Slot) → Suits (access_of p a Reads slot)
    pub input : (j : ℕ) → j < p.b → Suits (access_of p 0 Writes (at Input j))
    pub mid : (a x : ℕ) → Suits (access_of p a Writes (at Mid x))
    pub tail : (a i : ℕ) → Suits (access_of p a Writes (at Tail i))
    pub output : (a j : ℕ) → Suits (access_of p a Writes (at Output j))

  within-append : (xs ys : List Access) → Within xs → Within ys → Within (xs ++ ys)
  within-append xs ys f g = omega (arith, sum_by-append (λ x. bit (test x)) xs ys, written-append n xs ys, f, g)

  within-one : (x : Access) → Suits x → Within (x ∷ [])
  within-one x s = omega (arith, sum_by-cons (λ x. bit (test x)) x [], s)

  within-if : (c : Bool) (xs : List Access) → Within xs → Within (cond c xs [])
  within-if true xs w = w
  within-if false xs w = omega arith

  within-map : (f : ℕ → Access) (m : ℕ) → ((i : ℕ) → i < m → Suits (f i)) → Within (map f (below m))
  within-map f zero each = omega arith
  within-map f (suc m) each = subst Within (sym (map-below-suc f m))
      (within-append (map f (below m)) (f m ∷ []) (within-map f m (λ i i_in. each i (omega arith))) (within-one (f m) (each m (omega arith))))

  module _ (s : AllSuit) where
    within-asked : (a : ℕ) (es : List Event) → Within (filter_map (asked p a) es)
    within-asked a [] = omega arith
    within-asked a (Claim j ∷ es) = within-asked a es
    within-asked a (Read j ∷ es) = within-append (access_of p a Reads (at Input j) ∷ []) (filter_map (asked p a) es)
        (within-one (access_of p a Reads (at Input j)) (s.reads a (at Input j))) (within-asked a es)
    within-asked a (Exchange j ∷ es) = within-asked a es
    within-asked a (Write j i ∷ es) = within-append (access_of p a Writes (at Mid (j * p.b + i)) ∷ []) (filter_map (asked p a) es)
        (within-one (access_of p a Writes (at Mid (j * p.b + i))) (s.mid a (j * p.b + i))) (within-asked a es)
    within-asked a (Done ∷ es) = within-asked a es
    within-asked a (Idle ∷ es) = within-asked a es

    within-step : (d : Draw) (a : ℕ) (x : Step) → Within (step_accesses p d a x)
    within-step d a (Import j i) = within-append (map (read_chunk p a i) (below p.b)) (access_of p a Reads (at Tail i) ∷ [])
        (within-map (read_chunk p a i) p.b (λ k k_in. s.reads a (at Mid (k * p.b + i)))) (within-one (access_of p a Reads (at Tail i)) (s.reads a (at Tail i)))
    within-step d a (Put j) = within-if (is_good (step_verdict p d (Put j))) (access_of p a Writes (at Output j) ∷ []) (within-one (access_of p a Writes (at Output j)) (s.output a j))

    within-walk : (d : Draw) (a : ℕ) (xs : List Step) → Within (walk p d a xs)
    within-walk d a [] = omega arith
    within-walk d a (x ∷ xs) = within-append (step_accesses p d a x) (cond (is_good (step_verdict p d x)) (walk p d a xs) [])
        (within-step d a x) (within-if (is_good (step_verdict p d x)) (walk p d a xs) (within-walk d a xs))

    within-compression : (d : Draw) (a : ℕ) (l : Option ℕ) → Within (compression p d a l)
    within-compression d a (Some i) = omega arith
    within-compression d a None = within-walk d a (steps p)

    within-drain : (d : Draw) (a : ℕ) (l : Option ℕ) → Within (drain p d a l)
    within-drain d a l = within-append (map (written_tail p a) (below (unwrap_or l p.b))) (compression p d a l)
        (within-map (written_tail p a) (unwrap_or l p.b) (λ i i_in. s.tail a i)) (within-compression d a l)

    within-rest : (d : Draw) (a : ℕ) (h : List ℕ) (f : Option ℕ) → Within (rest p d a h f)
    within-rest d a h (Some k) = omega arith
    within-rest d a h None = within-if (is_finished p d h) (drain p d a (left p d (order p.b h))) (within-drain d a (left p d (order p.b h)))

    within-attempt : (d : Draw) (a : ℕ) (h : List ℕ) → Within (attempt_trace p d a h)
    within-attempt d a h =
        let f = failing p d (order p.b h) in
        within-append (spread p d a h) (rest p d a h f) (within-asked a (made f (events p.b h))) (within-rest d a h f)

    within-attempts : (ds : ℕ → Draw) (a : ℕ) (hs : List (List ℕ)) → Within (attempts p ds a hs)
    within-attempts ds a [] = omega arith
    within-attempts ds a (h ∷ hs) = within-append (attempt_trace p (ds a) a h) (cond (is_failed p (ds a) h) (attempts p ds (a + 1) hs) [])
        (within-attempt (ds a) a h) (within-if (is_failed p (ds a) h) (attempts p ds (a + 1) hs) (within-attempts ds (a + 1) hs))

    within-scans : (o : Option ℕ) → Within (scans p o)
    within-scans None = omega arith
    within-scans (Some a) =
        let one = within-map (read_output p a) p.b (λ j j_in. s.reads a (at Output j)) in
        within-append (scan p a) (scan p a) one one

    pub within-trace : (ds : ℕ → Draw) (hs : List (List ℕ)) → Within (trace p ds hs)
    within-trace ds hs =
        within-append (load p ++ attempts p ds 0 hs) (scans p (good_attempt p ds 0 hs))
        (within-append (load p) (attempts p ds 0 hs) (within-map (written_input p) p.b s.input) (within-attempts ds 0 hs))
        (within-scans (good_attempt p ds 0 hs))

  -- a write suits where it writes the nonce, if it passes
  pub suits : (x : Access) (m : ℕ) (c : Bool) → test x ≡ c → written_nonce x ≡ Some m → (c ≡ true → m ≡ n) → Suits x
  suits x m false e nonce is = omega (arith, ap bit e)
  suits x m true e nonce is = omega (arith, ap bit e, written-one n x (Some m) nonce, occurs-cons m n [], ap bit (eq-eqb m n (is refl)))

-- the slots of the input, which have the first numbers
module _ (p : Sizes) (number : ℕ) (number_in : number < p.b) where
  input-suits : AllSuit p (writes_number p number) number
  input-suits =
      let later = λ (m : ℕ) (y : ℕ) (above : p.b ≤ y) (e : (y == number) ≡ true). let is = equal y number e in absurd {A = m ≡ number} (omega arith) in
      record {
        reads = λ a slot. omega arith;
        input = λ j j_in. suits p (writes_number p number) number (access_of p 0 Writes (at Input j)) (nonce_of p 0 (at Input j)) (0 + j == number) refl refl
            (λ e. let is = equal (0 + j) number e in omega (arith, is));
        mid = λ a x. suits p (writes_number p number) number (access_of p a Writes (at Mid x)) (nonce_of p a (at Mid x)) (p.b + x == number) refl refl
            (later (nonce_of p a (at Mid x)) (p.b + x) (omega arith));
        tail = λ a i. suits p (writes_number p number) number (access_of p a Writes (at Tail i)) (nonce_of p a (at Tail i)) (p.b + p.b * p.b + i == number) refl refl
            (later (nonce_of p a (at Tail i)) (p.b + p.b * p.b + i) (omega arith));
        output = λ a j. suits p (writes_number p number) number (access_of p a Writes (at Output j)) (nonce_of p a (at Output j)) (2 * p.b + p.b * p.b + j == number) refl refl
            (later (nonce_of p a (at Output j)) (2 * p.b + p.b * p.b + j) (omega arith));
      }

  pub input-once : (ds : ℕ → Draw) (hs : List (List ℕ)) → ArePlanned p → count_by (writes_number p number) (trace p ds hs) ≤ 1
  input-once ds hs planned =
      omega (arith, within-trace p (writes_number p number) number input-suits ds hs, nonces-fresh p ds hs number planned)

-- the accesses of one attempt to a slot are no more than those of all
fewer : (p : Sizes) (a number : ℕ) (xs : List Access) → count_by (writes_in p a number) xs ≤ count_by (writes_number p number) xs
fewer p a number [] = omega arith
fewer p a number (x ∷ xs) =
    omega (
      arith,
      sum_by-cons (λ y. bit (writes_in p a number y)) x xs,
      sum_by-cons (λ y. bit (writes_number p number y)) x xs,
      less (writes_number p number x) (x.attempt == a),
      fewer p a number xs,
    )
  where
    less : (c e : Bool) → bit (c && e) ≤ bit c
    less true true = omega arith
    less true false = omega arith
    less false e = omega arith

-- the other slots, in an attempt
module _ (p : Sizes) (a number : ℕ) (past : p.b ≤ number) where
  abbrev nonce_here : ℕ
  nonce_here = a * 2 ^ 32 + number

  one-suits : (m y attempt : ℕ) → m ≡ attempt * 2 ^ 32 + y → ((y == number) && (attempt == a)) ≡ true → m ≡ nonce_here
  one-suits m y attempt is e =
      let parts = both-true (y == number) (attempt == a) e in
      let slot = equal y number parts.0 in
      let when = equal attempt a parts.1 in
      is ∙ ap (λ z. z * 2 ^ 32 + y) when ∙ ap (λ z. a * 2 ^ 32 + z) slot

  no-input : (m j attempt : ℕ) → j < p.b → ((0 + j == number) && (attempt == a)) ≡ true → m ≡ nonce_here
  no-input m j attempt j_in e =
      let parts = both-true (0 + j == number) (attempt == a) e in
      let slot = equal (0 + j) number parts.0 in
      absurd (omega arith)

  attempt-suits : AllSuit p (writes_in p a number) nonce_here
  attempt-suits = record {
    reads = λ when slot. omega arith;
    input = λ j j_in. suits p (writes_in p a number) nonce_here (access_of p 0 Writes (at Input j)) (nonce_of p 0 (at Input j)) ((0 + j == number) && (0 == a)) refl refl
        (no-input (nonce_of p 0 (at Input j)) j 0 j_in);
    mid = λ when x. suits p (writes_in p a number) nonce_here (access_of p when Writes (at Mid x)) (nonce_of p when (at Mid x)) ((p.b + x == number) && (when == a)) refl refl
        (one-suits (nonce_of p when (at Mid x)) (p.b + x) when refl);
    tail = λ when i. suits p (writes_in p a number) nonce_here (access_of p when Writes (at Tail i)) (nonce_of p when (at Tail i)) ((p.b + p.b * p.b + i == number) && (when == a)) refl refl
        (one-suits (nonce_of p when (at Tail i)) (p.b + p.b * p.b + i) when refl);
    output = λ when j. suits p (writes_in p a number) nonce_here (access_of p when Writes (at Output j)) (nonce_of p when (at Output j)) ((2 * p.b + p.b * p.b + j == number) && (when == a)) refl refl
        (one-suits (nonce_of p when (at Output j)) (2 * p.b + p.b * p.b + j) when refl);
  }

  other-once : (ds : ℕ → Draw) (hs : List (List ℕ)) → ArePlanned p → count_by (writes_in p a number) (trace p ds hs) ≤ 1
  other-once ds hs planned =
      omega (arith, within-trace p (writes_in p a number) nonce_here attempt-suits ds hs, nonces-fresh p ds hs nonce_here planned)

pub slot-once : (p : Sizes) (ds : ℕ → Draw) (hs : List (List ℕ)) (a number : ℕ) → ArePlanned p → count_by (writes_in p a number) (trace p ds hs) ≤ 1
slot-once p ds hs a number planned = ⊎_elim
    (λ (early : number < p.b). omega (arith, fewer p a number (trace p ds hs), input-once p number early ds hs planned))
    (λ (past : p.b ≤ number). other-once p a number past ds hs planned)
    (cases_lt number p.b)
