-- Each bucket is claimed in one round at most, exchanged there once, and its chunks are written after that.
use Rattle.std.proofs.Common.{◌≡◌, ◌≢◌, ℕ, zero, suc, ◌+◌, ◌-◌, ◌*◌, ◌/◌, ◌%◌, ◌≤◌, ◌<◌, ⊎_elim, Bool, true, false, cond, ◌==◌, List, [], ◌∷◌, ◌++◌, refl, sym, ◌∙◌, ap, subst, arith, append_assoc, append-nil}
use Rattle.std.specs.List.{count_by}
use Rattle.std.specs.Prelude.{nat_lt}
use Rattle.std.proofs.Math.Nat.{mod-add-div', add-mul-mod_self_right, mod-eq_of_lt, mod_self, mul-mod_left}
use Rattle.std.proofs.lemmas.Bool.{cases_lt, cases_eq, eq-eqb, lt-ltb}
use Rattle.std.proofs.lemmas.List.Sums.{sum_by_push}
use Rattle.esa_laws.proofs.Events.{event-by, event-read, event-exchange, event-write}
use Rattle.esa_laws.proofs.Tests.{same, unequal}
use Rattle.esa_laws.proofs.TurnLaws.{turns_of-push, claims-push, events-push, held-at_claim, held-own, held-other, phase-next}
use Rattle.esa_spec.specs.Turns.{turns_of, event_of, events, next, next_phase, claims, held}
use Rattle.esa_spec.specs.declared.event.Event.{Event}
use Rattle.esa_spec.specs.declared.event.Event.TheVariants.{Exchange, Write}

-- a proof from the front of a list to its end
pub grown : {X : Type 0} (P : List X → Type 0) → ((xs : List X) (x : X) → P xs → P (xs ++ x ∷ [])) → (xs ys : List X) → P xs → P (xs ++ ys)
grown P step xs [] p = subst P (sym (append-nil xs)) p
grown P step xs (y ∷ ys) p = subst P (append_assoc xs (y ∷ []) ys) (grown P step (xs ++ y ∷ []) ys (step xs y p))

pub by_pushes : {X : Type 0} (P : List X → Type 0) → P [] → ((xs : List X) (x : X) → P xs → P (xs ++ x ∷ [])) → (xs : List X) → P xs
by_pushes P start step xs = grown P step [] xs start

-- the remainder of one more
step_mod : (m t f : ℕ) → t % m ≡ f → (t + 1) % m ≡ (f + 1) % m
step_mod m t f e =
    let q = t / m in
    let split : t + 1 ≡ (f + 1) + q * m = omega (arith, mod-add-div' t m) in
    ap (λ y. y % m) split ∙ add-mul-mod_self_right (f + 1) q m

-- whether an event exchanges bucket j, and whether it writes one of its chunks
abbrev pub is_exchange_of : ℕ → Event → Bool
is_exchange_of j (Exchange i) = i == j
is_exchange_of j _ = false

abbrev pub is_write_of : ℕ → Event → Bool
is_write_of j (Write i t) = i == j
is_write_of j _ = false

abbrev pub exchanges_of : ℕ → List ℕ → ℕ → ℕ
exchanges_of b h j = count_by (is_exchange_of j) (events b h)

abbrev pub writes_of : ℕ → List ℕ → ℕ → ℕ
writes_of b h j = count_by (is_write_of j) (events b h)

-- how bucket j stands after h
pub data Stands (b : ℕ) (h : List ℕ) (j : ℕ) : Type 0 where
  unclaimed : claims b h ≤ j → exchanges_of b h j ≡ 0 → writes_of b h j ≡ 0 → Stands b h j
  in_round : (v : ℕ) → next_phase b h v ≢ 0 → held b h v ≡ j
      → exchanges_of b h j ≡ cond (nat_lt 2 (next_phase b h v)) 1 0 → writes_of b h j ≡ next_phase b h v - 3 → Stands b h j
  complete : j < claims b h → ((v : ℕ) → next_phase b h v ≢ 0 → held b h v ≢ j)
      → exchanges_of b h j ≡ 1 → writes_of b h j ≡ b → Stands b h j

-- how the rounds stand after h
pub record Rounds (b : ℕ) (h : List ℕ) : Type 0 where
  pub begun : (v : ℕ) → turns_of v h ≤ claims b h * (b + 3)
  pub late : (v : ℕ) → next_phase b h v ≢ 0 → turns_of v h < (held b h v + 1) * (b + 3)
  pub claimed : (v : ℕ) → next_phase b h v ≢ 0 → held b h v < claims b h
  pub apart : (u v : ℕ) → next_phase b h u ≢ 0 → next_phase b h v ≢ 0 → held b h u ≡ held b h v → u ≡ v
  pub stands : (j : ℕ) → j < b → Stands b h j

-- an event of another bucket
apart-exchange : (b g f j : ℕ) → g ≢ j → is_exchange_of j (event_of b g f) ≡ false
apart-exchange b g f j ne = event-by (λ e. is_exchange_of j e ≡ false) b g f
    (λ g_in phase. refl) (λ g_in phase. refl) (λ g_in phase. unequal g j ne) (λ g_in late. refl) (λ past. refl) (λ past. refl)

apart-write : (b g f j : ℕ) → g ≢ j → is_write_of j (event_of b g f) ≡ false
apart-write b g f j ne = event-by (λ e. is_write_of j e ≡ false) b g f
    (λ g_in phase. refl) (λ g_in phase. refl) (λ g_in phase. refl) (λ g_in late. unequal g j ne) (λ past. refl) (λ past. refl)

-- an event that begins a round
start-exchange : (b g j : ℕ) → is_exchange_of j (event_of b g 0) ≡ false
start-exchange b g j = event-by (λ e. is_exchange_of j e ≡ false) b g 0
    (λ g_in phase. refl) (λ g_in phase. refl) (λ g_in phase. absurd (omega arith)) (λ g_in late. refl) (λ past. refl) (λ past. refl)

start-write : (b g j : ℕ) → is_write_of j (event_of b g 0) ≡ false
start-write b g j = event-by (λ e. is_write_of j e ≡ false) b g 0
    (λ g_in phase. refl) (λ g_in phase. refl) (λ g_in phase. refl) (λ g_in late. absurd (omega arith)) (λ past. refl) (λ past. refl)

-- an event of the bucket itself: the exchange is phase 2, and the writes are those from 3 on
own-exchange : (b j f : ℕ) → j < b → f ≢ 0 → cond (nat_lt 2 f) 1 0 + cond (is_exchange_of j (event_of b j f)) 1 0 ≡ cond (nat_lt 2 (f + 1)) 1 0
own-exchange b j zero j_in ne = absurd (ne refl)
own-exchange b j (suc zero) j_in ne = ap (λ y. 0 + cond (is_exchange_of j y) 1 0) (event-read b j j_in)
own-exchange b j (suc (suc zero)) j_in ne = ap (λ y. 0 + cond (is_exchange_of j y) 1 0) (event-exchange b j j_in) ∙ ap (λ y. 0 + cond y 1 0) (same j)
own-exchange b j (suc (suc (suc i))) j_in ne =
    let f = suc (suc (suc i)) in
    let now : nat_lt 2 f ≡ true = lt-ltb 2 f (omega arith) in
    let then : nat_lt 2 (f + 1) ≡ true = lt-ltb 2 (f + 1) (omega arith) in
    ap (λ y. cond y 1 0 + cond (is_exchange_of j (event_of b j f)) 1 0) now
    ∙ ap (λ y. 1 + cond (is_exchange_of j y) 1 0) (event-write b j f j_in (omega arith))
    ∙ sym (ap (λ y. cond y 1 0) then)

own-write : (b j f : ℕ) → j < b → f ≢ 0 → (f - 3) + cond (is_write_of j (event_of b j f)) 1 0 ≡ (f + 1) - 3
own-write b j zero j_in ne = absurd (ne refl)
own-write b j (suc zero) j_in ne = ap (λ y. 0 + cond (is_write_of j y) 1 0) (event-read b j j_in)
own-write b j (suc (suc zero)) j_in ne = ap (λ y. 0 + cond (is_write_of j y) 1 0) (event-exchange b j j_in)
own-write b j (suc (suc (suc i))) j_in ne =
    let f = suc (suc (suc i)) in
    ap (λ y. (f - 3) + cond (is_write_of j y) 1 0) (event-write b j f j_in (omega arith))
    ∙ ap (λ y. (f - 3) + cond y 1 0) (same j) ∙ omega arith

-- one turn more
module _ (b : ℕ) (h : List ℕ) (w : ℕ) where
  pub own-turns : turns_of w (h ++ w ∷ []) ≡ turns_of w h + 1
  own-turns = turns_of-push w h w ∙ ap (λ y. turns_of w h + cond y 1 0) (same w)

  pub other-turns : (v : ℕ) → v ≢ w → turns_of v (h ++ w ∷ []) ≡ turns_of v h
  other-turns v ne = turns_of-push v h w ∙ ap (λ y. turns_of v h + cond y 1 0) (unequal w v (λ e. ne (sym e))) ∙ omega arith

  pub other-phase : (v : ℕ) → v ≢ w → next_phase b (h ++ w ∷ []) v ≡ next_phase b h v
  other-phase v ne = ap (λ y. y % (b + 3)) (other-turns v ne)

  pub own-phase : next_phase b (h ++ w ∷ []) w ≡ (next_phase b h w + 1) % (b + 3)
  own-phase = ap (λ y. y % (b + 3)) own-turns ∙ step_mod (b + 3) (turns_of w h) (next_phase b h w) refl

  pub phase-more : next_phase b h w + 1 < b + 3 → next_phase b (h ++ w ∷ []) w ≡ next_phase b h w + 1
  phase-more short = own-phase ∙ mod-eq_of_lt short

  pub phase-end : next_phase b h w + 1 ≡ b + 3 → next_phase b (h ++ w ∷ []) w ≡ 0
  phase-end full = own-phase ∙ ap (λ y. y % (b + 3)) full ∙ mod_self (b + 3)

  pub claims-start : next_phase b h w ≡ 0 → claims b (h ++ w ∷ []) ≡ claims b h + 1
  claims-start start = claims-push b h w ∙ ap (λ y. claims b h + cond y 1 0) (eq-eqb (next_phase b h w) 0 start)

  pub claims-inside : next_phase b h w ≢ 0 → claims b (h ++ w ∷ []) ≡ claims b h
  claims-inside inside = claims-push b h w ∙ ap (λ y. claims b h + cond y 1 0) (unequal (next_phase b h w) 0 inside) ∙ omega arith

  pub next-by_phase : next b h w ≡ event_of b (held b h w) (next_phase b h w)
  next-by_phase = ap (event_of b (held b h w)) (phase-next b h w)

  pub exchanges-push : (j : ℕ) → exchanges_of b (h ++ w ∷ []) j ≡ exchanges_of b h j + cond (is_exchange_of j (event_of b (held b h w) (next_phase b h w))) 1 0
  exchanges-push j =
      ap (count_by (is_exchange_of j)) (events-push b h w)
      ∙ sum_by_push (λ e. cond (is_exchange_of j e) 1 0) (events b h) (next b h w)
      ∙ ap (λ e. exchanges_of b h j + cond (is_exchange_of j e) 1 0) next-by_phase

  pub writes_of-push : (j : ℕ) → writes_of b (h ++ w ∷ []) j ≡ writes_of b h j + cond (is_write_of j (event_of b (held b h w) (next_phase b h w))) 1 0
  writes_of-push j =
      ap (count_by (is_write_of j)) (events-push b h w)
      ∙ sum_by_push (λ e. cond (is_write_of j e) 1 0) (events b h) (next b h w)
      ∙ ap (λ e. writes_of b h j + cond (is_write_of j e) 1 0) next-by_phase

-- a number below a product that isn't a multiple, and one more
not_multiple : (t c m : ℕ) → t ≤ c * m → t % m ≢ 0 → t < c * m
not_multiple t c m le ne = ⊎_elim
    (λ (less : t < c * m). less)
    (λ (more : c * m ≤ t). let e : t ≡ c * m = omega arith in absurd (ne (ap (λ y. y % m) e ∙ mul-mod_left c m)))
    (cases_lt t (c * m))

-- the turn begins a round
module _ (b : ℕ) (h : List ℕ) (w : ℕ) (r : Rounds b h) (start : next_phase b h w ≡ 0) where
  pub first-phase : next_phase b (h ++ w ∷ []) w ≡ 1
  first-phase = phase-more b h w (omega (arith, start)) ∙ ap (λ y. y + 1) start

  pub new-held : held b (h ++ w ∷ []) w ≡ claims b h
  new-held = held-own b h w (λ e. absurd (omega (arith, first-phase, e))) ∙ held-at_claim b h w start

  no-exchange : (j : ℕ) → exchanges_of b (h ++ w ∷ []) j ≡ exchanges_of b h j
  no-exchange j =
      exchanges-push b h w j
      ∙ ap (λ f. exchanges_of b h j + cond (is_exchange_of j (event_of b (held b h w) f)) 1 0) start
      ∙ ap (λ y. exchanges_of b h j + cond y 1 0) (start-exchange b (held b h w) j) ∙ omega arith

  no-write : (j : ℕ) → writes_of b (h ++ w ∷ []) j ≡ writes_of b h j
  no-write j =
      writes_of-push b h w j
      ∙ ap (λ f. writes_of b h j + cond (is_write_of j (event_of b (held b h w) f)) 1 0) start
      ∙ ap (λ y. writes_of b h j + cond y 1 0) (start-write b (held b h w) j) ∙ omega arith

  -- another worker stands where it stood
  pub as-before : (v : ℕ) → v ≢ w → next_phase b (h ++ w ∷ []) v ≢ 0 → (next_phase b h v ≢ 0) × (held b (h ++ w ∷ []) v ≡ held b h v)
  as-before v ne inside =
      let was : next_phase b h v ≢ 0 = λ e. inside (other-phase b h w v ne ∙ e) in
      (was, held-other b h v w ne was)

  start-begun : (v : ℕ) → turns_of v (h ++ w ∷ []) ≤ claims b (h ++ w ∷ []) * (b + 3)
  start-begun v =
      let more : claims b (h ++ w ∷ []) * (b + 3) ≡ claims b h * (b + 3) + (b + 3) = ap (λ y. y * (b + 3)) (claims-start b h w start) ∙ omega arith in
      ⊎_elim
      (λ (e : v ≡ w). let P : ℕ → Type 0 = λ y. turns_of y (h ++ w ∷ []) ≤ claims b (h ++ w ∷ []) * (b + 3) in
      subst P (sym e) (omega (arith, more, r.begun w, own-turns b h w)))
      (λ (ne : v ≢ w). omega (arith, more, r.begun v, other-turns b h w v ne))
      (cases_eq v w)

  start-late : (v : ℕ) → next_phase b (h ++ w ∷ []) v ≢ 0 → turns_of v (h ++ w ∷ []) < (held b (h ++ w ∷ []) v + 1) * (b + 3)
  start-late v inside = ⊎_elim
      (λ (e : v ≡ w). let P : ℕ → Type 0 = λ y. turns_of y (h ++ w ∷ []) < (held b (h ++ w ∷ []) y + 1) * (b + 3) in
      let here : (held b (h ++ w ∷ []) w + 1) * (b + 3) ≡ claims b h * (b + 3) + (b + 3) = ap (λ y. (y + 1) * (b + 3)) new-held ∙ omega arith in
      subst P (sym e) (omega (arith, here, r.begun w, own-turns b h w)))
      (λ (ne : v ≢ w). let was = as-before v ne inside in
      let here = ap (λ y. (y + 1) * (b + 3)) was.1 in
      omega (arith, here, r.late v was.0, other-turns b h w v ne))
      (cases_eq v w)

  start-claimed : (v : ℕ) → next_phase b (h ++ w ∷ []) v ≢ 0 → held b (h ++ w ∷ []) v < claims b (h ++ w ∷ [])
  start-claimed v inside = ⊎_elim
      (λ (e : v ≡ w). let P : ℕ → Type 0 = λ y. held b (h ++ w ∷ []) y < claims b (h ++ w ∷ []) in
      subst P (sym e) (omega (arith, new-held, claims-start b h w start)))
      (λ (ne : v ≢ w). let was = as-before v ne inside in omega (arith, was.1, r.claimed v was.0, claims-start b h w start))
      (cases_eq v w)

  -- nobody else holds the new bucket
  new-apart : (v : ℕ) → v ≢ w → next_phase b (h ++ w ∷ []) v ≢ 0 → held b (h ++ w ∷ []) v ≢ held b (h ++ w ∷ []) w
  new-apart v ne inside e = let was = as-before v ne inside in omega (arith, was.1, r.claimed v was.0, new-held, e)

  start-apart : (u v : ℕ) → next_phase b (h ++ w ∷ []) u ≢ 0 → next_phase b (h ++ w ∷ []) v ≢ 0 → held b (h ++ w ∷ []) u ≡ held b (h ++ w ∷ []) v → u ≡ v
  start-apart u v u_in v_in e = ⊎_elim
      (λ (u_is : u ≡ w). ⊎_elim
      (λ (v_is : v ≡ w). u_is ∙ sym v_is)
      (λ (v_ne : v ≢ w). absurd (new-apart v v_ne v_in (sym e ∙ ap (held b (h ++ w ∷ [])) u_is)))
      (cases_eq v w))
      (λ (u_ne : u ≢ w). ⊎_elim
      (λ (v_is : v ≡ w). absurd (new-apart u u_ne u_in (e ∙ ap (held b (h ++ w ∷ [])) v_is)))
      (λ (v_ne : v ≢ w). let u_was = as-before u u_ne u_in in let v_was = as-before v v_ne v_in in
      r.apart u v u_was.0 v_was.0 (sym u_was.1 ∙ e ∙ v_was.1))
      (cases_eq v w))
      (cases_eq u w)

  start-stands : (j : ℕ) → Stands b h j → Stands b (h ++ w ∷ []) j
  start-stands j (unclaimed late none unwritten) = ⊎_elim
      (λ (next_one : claims b h ≡ j). in_round w (λ e. absurd (omega (arith, first-phase, e))) (new-held ∙ next_one)
      (no-exchange j ∙ none ∙ sym (ap (λ y. cond (nat_lt 2 y) 1 0) first-phase))
      (no-write j ∙ unwritten ∙ sym (ap (λ y. y - 3) first-phase)))
      (λ (other : claims b h ≢ j). unclaimed (omega (arith, claims-start b h w start)) (no-exchange j ∙ none) (no-write j ∙ unwritten))
      (cases_eq (claims b h) j)
  start-stands j (in_round v inside holds exchanged written) =
      let ne : v ≢ w = λ e. inside (ap (next_phase b h) e ∙ start) in
      let phase = other-phase b h w v ne in
      in_round v (λ e. inside (sym phase ∙ e)) (held-other b h v w ne inside ∙ holds)
      (no-exchange j ∙ exchanged ∙ sym (ap (λ y. cond (nat_lt 2 y) 1 0) phase))
      (no-write j ∙ written ∙ sym (ap (λ y. y - 3) phase))
  start-stands j (complete claimed free exchanged written) = complete
      (omega (arith, claims-start b h w start))
      (λ v inside e. ⊎_elim
      (λ (v_is : v ≡ w). let holds : held b (h ++ w ∷ []) w ≡ j = ap (held b (h ++ w ∷ [])) (sym v_is) ∙ e in absurd (omega (arith, holds, new-held)))
      (λ (v_ne : v ≢ w). let was = as-before v v_ne inside in free v was.0 (sym was.1 ∙ e))
      (cases_eq v w))
      (no-exchange j ∙ exchanged) (no-write j ∙ written)

  pub started : Rounds b (h ++ w ∷ [])
  started = record { begun = start-begun; late = start-late; claimed = start-claimed; apart = start-apart; stands = λ j j_in. start-stands j (r.stands j j_in) }

-- the turn goes on with a round
module _ (b : ℕ) (h : List ℕ) (w : ℕ) (r : Rounds b h) (inside : next_phase b h w ≢ 0) where
  pub kept : next_phase b (h ++ w ∷ []) w ≢ 0 → held b (h ++ w ∷ []) w ≡ held b h w
  kept on = held-own b h w on

  -- everybody who stands in a round stood in it before
  pub stood : (v : ℕ) → next_phase b (h ++ w ∷ []) v ≢ 0 → (next_phase b h v ≢ 0) × (held b (h ++ w ∷ []) v ≡ held b h v)
  stood v on = ⊎_elim
      (λ (e : v ≡ w).
      let P : ℕ → Type 0 = λ y. (next_phase b h y ≢ 0) × (held b (h ++ w ∷ []) y ≡ held b h y) in
      subst P (sym e) (inside, kept (λ z. on (ap (next_phase b (h ++ w ∷ [])) e ∙ z))))
      (λ (ne : v ≢ w).
      let was : next_phase b h v ≢ 0 = λ e. on (other-phase b h w v ne ∙ e) in
      (was, held-other b h v w ne was))
      (cases_eq v w)

  pub same-claims : claims b (h ++ w ∷ []) ≡ claims b h
  same-claims = claims-inside b h w inside

  on-begun : (v : ℕ) → turns_of v (h ++ w ∷ []) ≤ claims b (h ++ w ∷ []) * (b + 3)
  on-begun v =
      let same_bound : claims b (h ++ w ∷ []) * (b + 3) ≡ claims b h * (b + 3) = ap (λ y. y * (b + 3)) same-claims in
      ⊎_elim
      (λ (e : v ≡ w). let P : ℕ → Type 0 = λ y. turns_of y (h ++ w ∷ []) ≤ claims b (h ++ w ∷ []) * (b + 3) in
      subst P (sym e) (omega (arith, same_bound, not_multiple (turns_of w h) (claims b h) (b + 3) (r.begun w) inside, own-turns b h w)))
      (λ (ne : v ≢ w). omega (arith, same_bound, r.begun v, other-turns b h w v ne))
      (cases_eq v w)

  on-late : (v : ℕ) → next_phase b (h ++ w ∷ []) v ≢ 0 → turns_of v (h ++ w ∷ []) < (held b (h ++ w ∷ []) v + 1) * (b + 3)
  on-late v on =
      let was = stood v on in
      let here = ap (λ y. (y + 1) * (b + 3)) was.1 in
      ⊎_elim
      (λ (e : v ≡ w).
      let before : turns_of v h < (held b h v + 1) * (b + 3) = r.late v was.0 in
      let turns : turns_of v (h ++ w ∷ []) ≡ turns_of v h + 1 = ap (λ y. turns_of y (h ++ w ∷ [])) e ∙ own-turns b h w ∙ sym (ap (λ y. turns_of y h + 1) e) in
      omega (arith, here, not_multiple (turns_of v (h ++ w ∷ [])) (held b h v + 1) (b + 3) (omega (arith, before, turns)) on))
      (λ (ne : v ≢ w). omega (arith, here, r.late v was.0, other-turns b h w v ne))
      (cases_eq v w)

  on-claimed : (v : ℕ) → next_phase b (h ++ w ∷ []) v ≢ 0 → held b (h ++ w ∷ []) v < claims b (h ++ w ∷ [])
  on-claimed v on = let was = stood v on in omega (arith, was.1, r.claimed v was.0, same-claims)

  on-apart : (u v : ℕ) → next_phase b (h ++ w ∷ []) u ≢ 0 → next_phase b (h ++ w ∷ []) v ≢ 0 → held b (h ++ w ∷ []) u ≡ held b (h ++ w ∷ []) v → u ≡ v
  on-apart u v u_on v_on e = let u_was = stood u u_on in let v_was = stood v v_on in r.apart u v u_was.0 v_was.0 (sym u_was.1 ∙ e ∙ v_was.1)

  -- the turn is of another bucket
  other-exchanges : (j : ℕ) → held b h w ≢ j → exchanges_of b (h ++ w ∷ []) j ≡ exchanges_of b h j
  other-exchanges j ne = exchanges-push b h w j ∙ ap (λ y. exchanges_of b h j + cond y 1 0) (apart-exchange b (held b h w) (next_phase b h w) j ne) ∙ omega arith

  other-writes : (j : ℕ) → held b h w ≢ j → writes_of b (h ++ w ∷ []) j ≡ writes_of b h j
  other-writes j ne = writes_of-push b h w j ∙ ap (λ y. writes_of b h j + cond y 1 0) (apart-write b (held b h w) (next_phase b h w) j ne) ∙ omega arith

  -- the turn is of this bucket
  more-exchanges : (j : ℕ) → j < b → held b h w ≡ j → exchanges_of b h j ≡ cond (nat_lt 2 (next_phase b h w)) 1 0
      → exchanges_of b (h ++ w ∷ []) j ≡ cond (nat_lt 2 (next_phase b h w + 1)) 1 0
  more-exchanges j j_in holds exchanged =
      exchanges-push b h w j
      ∙ ap (λ y. exchanges_of b h j + cond (is_exchange_of j (event_of b y (next_phase b h w))) 1 0) holds
      ∙ ap (λ y. y + cond (is_exchange_of j (event_of b j (next_phase b h w))) 1 0) exchanged
      ∙ own-exchange b j (next_phase b h w) j_in inside

  more-writes : (j : ℕ) → j < b → held b h w ≡ j → writes_of b h j ≡ next_phase b h w - 3
      → writes_of b (h ++ w ∷ []) j ≡ next_phase b h w + 1 - 3
  more-writes j j_in holds written =
      writes_of-push b h w j
      ∙ ap (λ y. writes_of b h j + cond (is_write_of j (event_of b y (next_phase b h w))) 1 0) holds
      ∙ ap (λ y. y + cond (is_write_of j (event_of b j (next_phase b h w))) 1 0) written
      ∙ own-write b j (next_phase b h w) j_in inside

  on-stands : (j : ℕ) → j < b → Stands b h j → Stands b (h ++ w ∷ []) j
  on-stands j j_in (unclaimed late none unwritten) =
      let ne : held b h w ≢ j = λ e. absurd (omega (arith, e, r.claimed w inside)) in
      unclaimed (omega (arith, same-claims)) (other-exchanges j ne ∙ none) (other-writes j ne ∙ unwritten)
  on-stands j j_in (in_round v v_in holds exchanged written) = ⊎_elim
      (λ (e : v ≡ w).
      let holds' : held b h w ≡ j = ap (held b h) (sym e) ∙ holds in
      let exchanged' = more-exchanges j j_in holds' (exchanged ∙ ap (λ y. cond (nat_lt 2 (next_phase b h y)) 1 0) e) in
      let written' = more-writes j j_in holds' (written ∙ ap (λ y. next_phase b h y - 3) e) in
      ⊎_elim
      (λ (short : next_phase b h w + 1 < b + 3).
      let phase = phase-more b h w short in
      in_round w (λ z. absurd (omega (arith, phase, z))) (kept (λ z. absurd (omega (arith, phase, z))) ∙ holds')
      (exchanged' ∙ sym (ap (λ y. cond (nat_lt 2 y) 1 0) phase)) (written' ∙ sym (ap (λ y. y - 3) phase)))
      (λ (long : b + 3 ≤ next_phase b h w + 1).
      let in_phases : next_phase b h w < b + 3 = omega arith in
      let full : next_phase b h w + 1 ≡ b + 3 = omega arith in
      let late : nat_lt 2 (b + 3) ≡ true = lt-ltb 2 (b + 3) (omega arith) in
      complete (omega (arith, same-claims, r.claimed w inside, holds'))
      (λ u u_on u_holds.
      let was = stood u u_on in
      let u_is : u ≡ w = r.apart u w was.0 inside (sym was.1 ∙ u_holds ∙ sym holds') in
      u_on (ap (next_phase b (h ++ w ∷ [])) u_is ∙ phase-end b h w full))
      (exchanged' ∙ ap (λ y. cond (nat_lt 2 y) 1 0) full ∙ ap (λ y. cond y 1 0) late)
      (written' ∙ omega (arith, full)))
      (cases_lt (next_phase b h w + 1) (b + 3)))
      (λ (ne : v ≢ w).
      let other : held b h w ≢ j = λ z. ne (r.apart v w v_in inside (holds ∙ sym z)) in
      let phase = other-phase b h w v ne in
      in_round v (λ z. v_in (sym phase ∙ z)) (held-other b h v w ne v_in ∙ holds)
      (other-exchanges j other ∙ exchanged ∙ sym (ap (λ y. cond (nat_lt 2 y) 1 0) phase))
      (other-writes j other ∙ written ∙ sym (ap (λ y. y - 3) phase)))
      (cases_eq v w)
  on-stands j j_in (complete claimed free exchanged written) =
      let other : held b h w ≢ j = free w inside in
      complete (omega (arith, same-claims))
      (λ v on e. let was = stood v on in free v was.0 (sym was.1 ∙ e))
      (other-exchanges j other ∙ exchanged) (other-writes j other ∙ written)

  pub gone_on : Rounds b (h ++ w ∷ [])
  gone_on = record { begun = on-begun; late = on-late; claimed = on-claimed; apart = on-apart; stands = λ j j_in. on-stands j j_in (r.stands j j_in) }

-- the rounds stand so after any turns
nobody : (b v : ℕ) → next_phase b [] v ≡ 0
nobody b v = let positive : 0 < b + 3 = omega arith in mod-eq_of_lt positive

rounds-start : (b : ℕ) → Rounds b []
rounds-start b = record {
  begun = λ v. omega arith;
  late = λ v inside. absurd (inside (nobody b v));
  claimed = λ v inside. absurd (inside (nobody b v));
  apart = λ u v inside other e. absurd (inside (nobody b u));
  stands = λ j j_in. unclaimed (omega arith) refl refl;
}

rounds-step : (b : ℕ) (h : List ℕ) (w : ℕ) → Rounds b h → Rounds b (h ++ w ∷ [])
rounds-step b h w r = ⊎_elim (λ (start : next_phase b h w ≡ 0). started b h w r start) (λ (inside : next_phase b h w ≢ 0). gone_on b h w r inside) (cases_eq (next_phase b h w) 0)

pub rounds : (b : ℕ) (h : List ℕ) → Rounds b h
rounds b h = by_pushes (Rounds b) (rounds-start b) (rounds-step b) h

-- each bucket writes its b chunks at most, and has exchanged once where it has written all
pub writes_of-le : (b : ℕ) (h : List ℕ) (j : ℕ) → j < b → writes_of b h j ≤ b
writes_of-le b h j j_in = few ((rounds b h).stands j j_in)
  where
    few : Stands b h j → writes_of b h j ≤ b
    few (unclaimed late none unwritten) = omega arith
    few (in_round v inside holds exchanged written) = let in_phases : next_phase b h v < b + 3 = omega arith in omega (arith, written, in_phases)
    few (complete claimed free exchanged written) = omega arith

pub exchanges_of-le : (b : ℕ) (h : List ℕ) (j : ℕ) → j < b → exchanges_of b h j ≤ 1
exchanges_of-le b h j j_in = few ((rounds b h).stands j j_in)
  where
    one : (c : Bool) → cond c 1 0 ≤ 1
    one true = omega arith
    one false = omega arith

    few : Stands b h j → exchanges_of b h j ≤ 1
    few (unclaimed late none unwritten) = omega arith
    few (in_round v inside holds exchanged written) = omega (arith, exchanged, one (nat_lt 2 (next_phase b h v)))
    few (complete claimed free exchanged written) = omega arith

-- what is known of a bucket whose chunks are all written
pub record Written (b : ℕ) (h : List ℕ) (j : ℕ) : Type 0 where
  pub claimed : j < claims b h
  pub free : (v : ℕ) → next_phase b h v ≢ 0 → held b h v ≢ j
  pub exchanged : exchanges_of b h j ≡ 1

pub all-written : (b : ℕ) (h : List ℕ) (j : ℕ) → j < b → writes_of b h j ≡ b → Written b h j
all-written b h j j_in all = known ((rounds b h).stands j j_in)
  where
    known : Stands b h j → Written b h j
    known (unclaimed late none unwritten) = absurd (omega arith)
    known (in_round v inside holds exchanged written) = let in_phases : next_phase b h v < b + 3 = omega arith in absurd (omega (arith, written, in_phases, all))
    known (complete claimed free exchanged written) = record { claimed = claimed; free = free; exchanged = exchanged }

-- bucket j is past a phase: it is claimed, and whoever has it stands in a later phase
pub record Past (b : ℕ) (h : List ℕ) (j f : ℕ) : Type 0 where
  pub claimed : j < claims b h
  pub later : (v : ℕ) → next_phase b h v ≢ 0 → held b h v ≡ j → f < next_phase b h v

-- the phase of the turn's own worker afterwards
own-later : (b : ℕ) (h : List ℕ) (w : ℕ) → next_phase b (h ++ w ∷ []) w ≢ 0 → next_phase b (h ++ w ∷ []) w ≡ next_phase b h w + 1
own-later b h w on = ⊎_elim
    (λ (short : next_phase b h w + 1 < b + 3). phase-more b h w short)
    (λ (long : b + 3 ≤ next_phase b h w + 1).
    let in_phases : next_phase b h w < b + 3 = omega arith in
    absurd (on (phase-end b h w (omega arith))))
    (cases_lt (next_phase b h w + 1) (b + 3))

later-of : (b : ℕ) (h : List ℕ) (v w : ℕ) → v ≡ w → next_phase b (h ++ w ∷ []) v ≢ 0 → next_phase b (h ++ w ∷ []) v ≡ next_phase b h v + 1
later-of b h v w e on =
    let P : ℕ → Type 0 = λ y. next_phase b (h ++ w ∷ []) y ≡ next_phase b h y + 1 in
    subst P (sym e) (own-later b h w (λ z. on (ap (next_phase b (h ++ w ∷ [])) e ∙ z)))

pub past-stays : (b : ℕ) (h : List ℕ) (w j f : ℕ) → Past b h j f → Past b (h ++ w ∷ []) j f
past-stays b h w j f past =
    let r = rounds b h in
    ⊎_elim
    (λ (start : next_phase b h w ≡ 0). record {
      claimed = omega (arith, past.claimed, claims-start b h w start);
      later = λ v on holds. ⊎_elim
          (λ (e : v ≡ w).
          let new : held b (h ++ w ∷ []) v ≡ claims b h = ap (held b (h ++ w ∷ [])) e ∙ new-held b h w r start in
          absurd (omega (arith, new, holds, past.claimed)))
          (λ (ne : v ≢ w).
          let was = as-before b h w r start v ne on in
          omega (arith, other-phase b h w v ne, past.later v was.0 (sym was.1 ∙ holds)))
          (cases_eq v w);
    })
    (λ (inside : next_phase b h w ≢ 0). record {
      claimed = omega (arith, past.claimed, same-claims b h w r inside);
      later = λ v on holds.
          let was = stood b h w r inside v on in
          let before = past.later v was.0 (sym was.1 ∙ holds) in
          ⊎_elim
          (λ (e : v ≡ w). omega (arith, before, later-of b h v w e on))
          (λ (ne : v ≢ w). omega (arith, other-phase b h w v ne, before))
          (cases_eq v w);
    })
    (cases_eq (next_phase b h w) 0)

-- a bucket is past the phase of the turn that was made
pub past-now : (b : ℕ) (h : List ℕ) (w : ℕ) → next_phase b h w ≢ 0 → Past b (h ++ w ∷ []) (held b h w) (next_phase b h w)
past-now b h w inside =
    let r = rounds b h in
    record {
      claimed = omega (arith, r.claimed w inside, same-claims b h w r inside);
      later = λ v on holds.
          let was = stood b h w r inside v on in
          let same_worker : v ≡ w = r.apart v w was.0 inside (sym was.1 ∙ holds) in
          omega (arith, later-of b h v w same_worker on, ap (next_phase b h) same_worker);
    }
