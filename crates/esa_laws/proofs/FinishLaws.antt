-- A completed list of turns comes to its end.
use Rattle.std.proofs.Common.{◌≡◌, ℕ, zero, suc, ◌+◌, ◌*◌, ◌%◌, ◌≤◌, ◌<◌, ⊎_elim, Bool, true, false, cond, ◌||◌, ◌==◌, List, [], ◌∷◌, ◌++◌, length, take, refl, sym, ◌∙◌, ap, subst, arith, length-append, length-take, get_or, ◌-◌, ◌≢◌}
use Rattle.std.specs.List.{find, All}
use Rattle.std.specs.Prelude.{Option, Some, None, is_some, unwrap_or, slice_index_or}
use Rattle.std.specs.Option.{option_or}
use Rattle.std.proofs.Math.Bool.{or-true}
use Rattle.std.proofs.Math.Nat.{mul-mod_left, le_of_mul-le-mul_right, mod-eq_of_lt, add-mod_right, mul-le-mul_right}
use Rattle.std.proofs.lemmas.Bool.{cases_lt, eq-eqb}
use Rattle.std.proofs.lemmas.Bool.Decides.{nat_tests}
use Rattle.std.proofs.lemmas.List.{take_all, take_at, take-take, take-append-le, length-take-le, get_or_append_left, get_or-append_right, get_or-append-add}
use Rattle.std.proofs.lemmas.List.FromFn.{length-range_with_len, get_or-range_with_len}
use Rattle.std.proofs.lemmas.List.Sums.{sum_by-cons, sum_by-append}
use Rattle.std.proofs.lemmas.List.Elements.{All-append}
use Rattle.esa_laws.proofs.Tests.{bit, unequal}
use Rattle.esa_params.specs.Sizes.{Sizes, below}
use Rattle.esa_laws.proofs.Events.{event-past}
use Rattle.esa_laws.proofs.TurnLaws.{held-at_claim}
use Rattle.esa_laws.proofs.Ranges.{sum-below-same, find-below-suc, below-suc}
use Rattle.esa_laws.proofs.Sums.{hit-once, sum-below-each}
use Rattle.esa_laws.proofs.RoundLaws.{Stands, rounds, writes_of, unclaimed, in_round, complete, next-by_phase}
use Rattle.esa_laws.proofs.SpreadLaws.{find-below}
use Rattle.esa_laws.proofs.TotalLaws.{total-writes}
use Rattle.esa_spec.specs.Completion.{again, completed, is_finished_at, turns_needed, full}
use Rattle.esa_spec.specs.Draws.{Draw}
use Rattle.esa_spec.specs.declared.event.Event.TheVariants.{Done, Idle}
use Rattle.esa_spec.specs.Turns.{turns_of, next, next_phase, claims, held, order, writes}
use Rattle.esa_spec.specs.Verdicts.{failing, is_finished}

-- the turns of a worker in a completed list
pub turns_of-append : (v : ℕ) (xs ys : List ℕ) → turns_of v (xs ++ ys) ≡ turns_of v xs + turns_of v ys
turns_of-append v xs ys = sum_by-append (λ u. bit (u == v)) xs ys

either_way : (u v : ℕ) → (u == v) ≡ (v == u)
either_way u v = grind (arith, nat_tests)

one_each : (v w : ℕ) → v < w → turns_of v (below w) ≡ 1
one_each v w v_in = sum-below-same (λ u. bit (u == v)) (λ u. bit (v == u)) w (λ u u_in. ap bit (either_way u v)) ∙ hit-once v w v_in

turns_of-again : (v w n : ℕ) → v < w → turns_of v (again n (below w)) ≡ n
turns_of-again v w zero v_in = refl
turns_of-again v w (suc n) v_in = omega (arith, turns_of-append v (below w) (again n (below w)), one_each v w v_in, turns_of-again v w n v_in)

-- the numbers of a completed list are those of workers
abbrev pub AllBelow : ℕ → List ℕ → Type 0
AllBelow w xs = All (λ v. v < w) xs

pub All-nil : (w : ℕ) → AllBelow w []
All-nil w = λ k d k_in. absurd (omega arith)

pub All-one : (w v : ℕ) → v < w → AllBelow w (v ∷ [])
All-one w v v_in = λ k d k_in. first k d k_in
  where
    first : (k d : ℕ) → k < length (v ∷ []) → slice_index_or (v ∷ []) k d < w
    first zero d k_in = v_in
    first (suc k) d k_in = absurd (omega arith)

pub All-below : (w n : ℕ) → n ≤ w → AllBelow w (below n)
All-below w zero n_in = All-nil w
All-below w (suc n) n_in =
    subst (AllBelow w) (sym (below-suc n)) (All-append (λ v. v < w) (below n) (n ∷ []) (All-below w n (omega arith)) (All-one w n n_in))

All-again : (w n : ℕ) → AllBelow w (again n (below w))
All-again w zero = All-nil w
All-again w (suc n) = All-append (λ v. v < w) (below w) (again n (below w)) (All-below w w (omega arith)) (All-again w n)

-- a number that isn't a worker's has no turn
pub All-tail : (w x : ℕ) (xs : List ℕ) → AllBelow w (x ∷ xs) → AllBelow w xs
All-tail w x xs all = λ k d k_in. all (suc k) d (omega arith)

pub no_turns : (w v : ℕ) (h : List ℕ) → AllBelow w h → w ≤ v → turns_of v h ≡ 0
no_turns w v [] all past = refl
no_turns w v (x ∷ xs) all past =
    let first : x < w = all 0 0 (omega arith) in
    let other = unequal x v (λ e. absurd (omega arith)) in
    omega (arith, sum_by-cons (λ u. bit (u == v)) x xs, ap bit other, no_turns w v xs (All-tail w x xs all) past)

-- where all buckets are claimed, and each round in which a worker stands has none, all chunks are written
module _ (b w : ℕ) (h : List ℕ) (all : AllBelow w h) (claimed : b ≤ claims b h) (past : (v : ℕ) → v < w → next_phase b h v ≢ 0 → b ≤ held b h v) where
  written-by : (j : ℕ) → j < b → Stands b h j → writes_of b h j ≡ b
  written-by j j_in (unclaimed late none unwritten) = absurd (omega (arith, claimed, late, j_in))
  written-by j j_in (in_round v inside holds exchanged written) = ⊎_elim
      (λ (worker : v < w). absurd (omega (arith, past v worker inside, holds, j_in)))
      (λ (other : w ≤ v).
      let positive : 0 < b + 3 = omega arith in
      absurd (inside (ap (λ y. y % (b + 3)) (no_turns w v h all other) ∙ mod-eq_of_lt positive)))
      (cases_lt v w)
  written-by j j_in (complete all_claimed free exchanged written) = written

  pub none-open : writes b h ≡ b * b
  none-open = total-writes b h ∙ sum-below-each (writes_of b h) b b (λ j j_in. written-by j j_in ((rounds b h).stands j j_in))

-- so it is where each worker had b rounds
module _ (b w : ℕ) (h : List ℕ) (some : 1 ≤ w) (all : AllBelow w h) (enough : (v : ℕ) → v < w → b * (b + 3) ≤ turns_of v h) where
  all-claimed : b ≤ claims b h
  all-claimed =
      let rounds_begun : b * (b + 3) ≤ claims b h * (b + 3) = omega (arith, (rounds b h).begun 0, enough 0 some) in
      let positive : 0 < b + 3 = omega arith in
      le_of_mul-le-mul_right rounds_begun positive

  none-held : (v : ℕ) → v < w → next_phase b h v ≢ 0 → b ≤ held b h v
  none-held v worker inside = ⊎_elim
      (λ (early : held b h v + 1 < b + 1).
      let small : held b h v + 1 ≤ b = omega arith in
      let product : (held b h v + 1) * (b + 3) ≤ b * (b + 3) = mul-le-mul_right (b + 3) small in
      absurd (omega (arith, product, (rounds b h).late v inside, enough v worker)))
      (λ (late : b + 1 ≤ held b h v + 1). omega arith)
      (cases_lt (held b h v + 1) (b + 1))

  pub all-done : writes b h ≡ b * b
  all-done = none-open b w h all all-claimed none-held

-- and where each worker stands in a round that has no bucket
pub everybody-done : (b w : ℕ) (h : List ℕ) → 1 ≤ w → AllBelow w h → ((v : ℕ) → v < w → (next_phase b h v ≢ 0) × (b ≤ held b h v)) → writes b h ≡ b * b
everybody-done b w h some all through_with =
    let first = through_with 0 some in
    none-open b w h all (omega (arith, (rounds b h).claimed 0 first.0, first.1)) (λ v worker inside. (through_with v worker).1)

-- a worker that had b whole rounds is done
pub done-at-last : (b : ℕ) (h : List ℕ) (v : ℕ) → turns_of v h ≡ b * (b + 3) → next b h v ≡ Done
done-at-last b h v many =
    let start : next_phase b h v ≡ 0 = ap (λ y. y % (b + 3)) many ∙ mul-mod_left b (b + 3) in
    let rounds_begun : b * (b + 3) ≤ claims b h * (b + 3) = omega (arith, (rounds b h).begun v, many) in
    let positive : 0 < b + 3 = omega arith in
    let past : b ≤ held b h v = omega (arith, le_of_mul-le-mul_right rounds_begun positive, held-at_claim b h v start) in
    next-by_phase b h v ∙ event-past b (held b h v) (next_phase b h v) past ∙ ap (λ y. cond (y == 0) Done Idle) start

-- the search for the first number that passes
not-last : (f : ℕ → Bool) (n : ℕ) (c : Bool) → f n ≡ c → cond c (Some n) None ≡ None → f n ≡ false
not-last f n true e none = absurd (cc)
not-last f n false e none = e

split : (f : ℕ → Bool) (n : ℕ) (before : Option ℕ) → option_or before (cond (f n) (Some n) None) ≡ None → (before ≡ None) × (f n ≡ false)
split f n None e = (refl, not-last f n (f n) refl e)
split f n (Some j) e = absurd (cc)

pub none-found : (f : ℕ → Bool) (n : ℕ) → find f (below n) ≡ None → (x : ℕ) → x < n → f x ≡ false
none-found f zero e x x_in = absurd (omega arith)
none-found f (suc n) e x x_in =
    let parts = split f n (find f (below n)) (sym (find-below-suc f n) ∙ e) in
    ⊎_elim
    (λ (less : x < n). none-found f n parts.0 x less)
    (λ (at_n : n ≤ x). let is : x ≡ n = omega arith in ap f is ∙ parts.1)
    (cases_lt x n)

first-here : (f : ℕ → Bool) (n m : ℕ) (before : Option ℕ) → find f (below n) ≡ before → option_or before (cond (f n) (Some n) None) ≡ Some m
    → ((k : ℕ) → before ≡ Some k → (x : ℕ) → x < k → f x ≡ false) → (x : ℕ) → x < m → f x ≡ false
first-here f n m (Some k) found e earlier x x_in = let is : k ≡ m = cc in earlier k refl x (omega arith)
first-here f n m None found e earlier x x_in = here (f n) refl e
  where
    here : (c : Bool) → f n ≡ c → cond c (Some n) None ≡ Some m → f x ≡ false
    here true passes e' = let is : n ≡ m = cc in none-found f n found x (omega arith)
    here false fails e' = absurd (cc)

-- no smaller number passes
pub first-found : (f : ℕ → Bool) (n m : ℕ) → find f (below n) ≡ Some m → (x : ℕ) → x < m → f x ≡ false
first-found f zero m e = absurd (cc)
first-found f (suc n) m e = first-here f n m (find f (below n)) refl (sym (find-below-suc f n) ∙ e) (λ k found. first-found f n k found)

-- what a search finds where a number passes
pub record Least (f : ℕ → Bool) (n k : ℕ) : Type 0 where
  pub number : ℕ
  pub found : find f (below n) ≡ Some number
  pub no_later : number ≤ k
  pub passes : f number ≡ true
  pub no_earlier : (x : ℕ) → x < number → f x ≡ false

least-of : (f : ℕ → Bool) (n k : ℕ) → k < n → f k ≡ true → (o : Option ℕ) → find f (below n) ≡ o → Least f n k
least-of f n k k_in passes None e = let fails = none-found f n e k k_in in absurd (cc)
least-of f n k k_in passes (Some m) e = record {
  number = m;
  found = e;
  no_later = ⊎_elim (λ (less : k < m). let fails = first-found f n m e k less in absurd (cc)) (λ (le : m ≤ k). le) (cases_lt k m);
  passes = (find-below f n m e).1;
  no_earlier = first-found f n m e;
}

pub least : (f : ℕ → Bool) (n k : ℕ) → k < n → f k ≡ true → Least f n k
least f n k k_in passes = least-of f n k k_in passes (find f (below n)) refl

-- a completed list is finished
pub finished-where : (p : Sizes) (d : Draw) (h : List ℕ) → writes p.b h ≡ p.b * p.b → is_finished p d h ≡ true
finished-where p d h all = ap (λ y. is_some (failing p d (order p.b h)) || y) (eq-eqb (writes p.b h) (p.b * p.b) all) ∙ or-true (is_some (failing p d (order p.b h)))

-- the turns that a completion adds
abbrev pub added : Sizes → List ℕ
added p = again (p.b * (p.b + 3)) (below p.workers)

pub completed-written : (p : Sizes) (turns : List ℕ) → 1 ≤ p.workers → AllBelow p.workers turns → writes p.b (completed p turns) ≡ p.b * p.b
completed-written p turns some all = all-done p.b p.workers (completed p turns) some
    (All-append (λ v. v < p.workers) turns (added p) all (All-again p.workers (p.b * (p.b + 3))))
    (λ v v_in. omega (arith, turns_of-append v turns (added p), turns_of-again v p.workers (p.b * (p.b + 3)) v_in))

length-again : (n : ℕ) (xs : List ℕ) → length (again n xs) ≡ n * length xs
length-again zero xs = omega arith
length-again (suc n) xs = omega (arith, length-append xs (again n xs), length-again n xs)

pub length-completed : (p : Sizes) (turns : List ℕ) → length (completed p turns) ≡ length turns + p.b * (p.b + 3) * p.workers
length-completed p turns =
    length-append turns (added p)
    ∙ ap (λ y. length turns + y) (length-again (p.b * (p.b + 3)) (below p.workers) ∙ ap (λ y. p.b * (p.b + 3) * y) (length-range_with_len 0 p.workers))

module _ (p : Sizes) (d : Draw) (turns : List ℕ) where
  -- what is known once some beginning is finished
  module _ (k : ℕ) (k_in : k ≤ length (completed p turns)) (ends : is_finished_at p d (completed p turns) k ≡ true) where
    pub found_at : Least (is_finished_at p d (completed p turns)) (length (completed p turns) + 1) k
    found_at = least (is_finished_at p d (completed p turns)) (length (completed p turns) + 1) k (omega arith) ends

    pub full-is : full p d turns ≡ take found_at.number (completed p turns)
    full-is = ap (λ y. take (unwrap_or y (length (completed p turns))) (completed p turns)) found_at.found

    pub full-finished : is_finished p d (full p d turns) ≡ true
    full-finished = ap (is_finished p d) full-is ∙ found_at.passes

    pub length-full : length (full p d turns) ≡ found_at.number
    length-full = ap length full-is ∙ length-take-le found_at.number (completed p turns) (omega (arith, found_at.no_later))

    pub full-shortest : (m : ℕ) → m < length (full p d turns) → is_finished p d (take m (full p d turns)) ≡ false
    full-shortest m m_in =
        let short : m < found_at.number = omega (arith, length-full) in
        ap (λ y. is_finished p d (take m y)) full-is
        ∙ ap (is_finished p d) (take-take m found_at.number (completed p turns) (omega arith))
        ∙ found_at.no_earlier m short

  -- the turns of workers
  module _ (some : 1 ≤ p.workers) (all : AllBelow p.workers turns) where
    whole : is_finished_at p d (completed p turns) (length (completed p turns)) ≡ true
    whole = ap (is_finished p d) (take_all (length (completed p turns)) (completed p turns) (omega arith)) ∙ finished-where p d (completed p turns) (completed-written p turns some all)

    pub completes : is_finished p d (full p d turns) ≡ true
    completes = full-finished (length (completed p turns)) (omega arith) whole

    pub completes-shortest : (m : ℕ) → m < length (full p d turns) → is_finished p d (take m (full p d turns)) ≡ false
    completes-shortest = full-shortest (length (completed p turns)) (omega arith) whole

  pub full-within : length (full p d turns) ≤ length turns + p.b * (p.b + 3) * p.workers
  full-within = omega (arith, length-take (turns_needed p d (completed p turns)) (completed p turns), length-completed p turns)

  -- turns that are finished already
  module _ (ends : is_finished p d turns ≡ true) where
    there : is_finished_at p d (completed p turns) (length turns) ≡ true
    there = ap (is_finished p d) (take_at turns (added p) (length turns) refl) ∙ ends

    reaches : length turns ≤ length (completed p turns)
    reaches = omega (arith, length-append turns (added p))

    pub prefix : full p d turns ≡ take (length (full p d turns)) turns
    prefix =
        let f = found_at (length turns) reaches there in
        full-is (length turns) reaches there
        ∙ take-append-le f.number turns (added p) f.no_later
        ∙ ap (λ y. take y turns) (sym (length-full (length turns) reaches there))

    pub prefix-finished : is_finished p d (full p d turns) ≡ true
    prefix-finished = full-finished (length turns) reaches there

contrary : {c : Bool} → c ≡ true → c ≡ false → ⊥
contrary passes fails = cc

-- the completion, as it is found turn by turn
pub full-next : (p : Sizes) (d : Draw) (turns : List ℕ) (m : ℕ) → m ≤ length (completed p turns)
    → is_finished p d (take m (completed p turns)) ≡ true → ((x : ℕ) → x < m → is_finished p d (take x (completed p turns)) ≡ false)
    → full p d turns ≡ take m (completed p turns)
full-next p d turns m m_in ends earlier =
    let f = least (is_finished_at p d (completed p turns)) (length (completed p turns) + 1) m (omega arith) ends in
    let same : f.number ≡ m = ⊎_elim
    (λ (less : f.number < m). let no = earlier f.number less in absurd (contrary f.passes no))
    (λ (not_less : m ≤ f.number). omega (arith, f.no_later))
    (cases_lt f.number m) in
    ap (λ y. take (unwrap_or y (length (completed p turns))) (completed p turns)) f.found ∙ ap (λ y. take y (completed p turns)) same

-- the turn at an index of a completed list
again-at : (w n y : ℕ) → y < n * w → get_or (again n (below w)) y 0 ≡ y % w
again-at w zero y y_in = absurd (omega arith)
again-at w (suc n) y y_in = ⊎_elim
    (λ (first : y < w).
    get_or_append_left (below w) (again n (below w)) 0 y (omega (arith, length-range_with_len 0 w))
    ∙ get_or-range_with_len 0 w y 0 first ∙ omega (arith, mod-eq_of_lt first))
    (λ (later : w ≤ y).
    let rest : (y - w) + w ≡ y = omega arith in
    get_or-append_right (below w) (again n (below w)) w y 0 (length-range_with_len 0 w) later
    ∙ again-at w n (y - w) (omega arith) ∙ sym (add-mod_right (y - w) w) ∙ ap (λ z. z % w) rest)
    (cases_lt y w)

pub completed-turn : (p : Sizes) (turns : List ℕ) (x : ℕ) → x < length turns → get_or (completed p turns) x 0 ≡ get_or turns x 0
completed-turn p turns x x_in = get_or_append_left turns (added p) 0 x x_in

pub completed-added : (p : Sizes) (turns : List ℕ) (y : ℕ) → y < p.b * (p.b + 3) * p.workers → get_or (completed p turns) (length turns + y) 0 ≡ y % p.workers
completed-added p turns y y_in = get_or-append-add turns (added p) y 0 ∙ again-at p.workers (p.b * (p.b + 3)) y y_in
