-- The seats of the workers, turn by turn.
use Rattle.std.proofs.Common.{◌≡◌, ◌≢◌, ℕ, suc, ◌+◌, ◌%◌, ◌<◌, Bool, true, false, cond, ◌==◌, List, [], ◌∷◌, ◌++◌, get_or, set, refl, sym, ap, ◌∙◌, arith, inl, inr, get_or-set_other, get_or-set_same, add-one}
use Rattle.std.proofs.Math.Nat.{suc-mod, mod-eq_of_lt, mod_self}
use Rattle.std.proofs.lemmas.Bool.{cases_eq, eq-eqb}
use Rattle.std.proofs.lemmas.List.{get_or-replicate}
use Rattle.esa_laws.proofs.Tests.{equal, unequal}
use Rattle.esa_laws.proofs.TurnLaws.{turns_of-push, claims-push, held-at_claim, held-own, held-other, next-is}
use Rattle.esa_spec.specs.Turns.{claims, turns_of, next_phase, held, next, event_of, acted}
use Rattle.esa_model.specs.Seats.{Seats, AreSeats, AreSeatsAfter, phase_of, bucket_of, phase_after, event_of_next, with_turn, none_seated}

-- a phase is the one after the phase before
after-by : (b n : ℕ) (c : Bool) → (n % (b + 3) + 1 == b + 3) ≡ c → (n + 1) % (b + 3) ≡ cond c 0 (n % (b + 3) + 1)
after-by b n true e =
    let m = b + 3 in
    let full : suc (n % m) ≡ m = omega (arith, equal (n % m + 1) m e) in
    ap (λ (y : ℕ). y % m) (add-one n) ∙ suc-mod n m ∙ ap (λ (y : ℕ). y % m) full ∙ mod_self m
after-by b n false e =
    let m = b + 3 in
    let inside : n % m < m = omega arith in
    let other : n % m + 1 ≢ m = λ is. absurd (true-false (sym (eq-eqb (n % m + 1) m is) ∙ e)) in
    ap (λ (y : ℕ). y % m) (add-one n) ∙ suc-mod n m ∙ mod-eq_of_lt (omega arith) ∙ sym (add-one (n % m))
  where
    true-false : true ≡ false → ⊥
    true-false h = cc

module _ (b : ℕ) (h : List ℕ) (w : ℕ) where
  next_phase-own : next_phase b (h ++ w ∷ []) w ≡ phase_after b (next_phase b h w)
  next_phase-own =
      let one : turns_of w (h ++ w ∷ []) ≡ turns_of w h + 1 = turns_of-push w h w ∙ ap (λ (c : Bool). turns_of w h + cond c 1 0) (eq-eqb w w refl) in
      ap (λ (n : ℕ). n % (b + 3)) one ∙ after-by b (turns_of w h) (next_phase b h w + 1 == b + 3) refl

  next_phase-other : (v : ℕ) → v ≢ w → next_phase b (h ++ w ∷ []) v ≡ next_phase b h v
  next_phase-other v other =
      ap (λ (n : ℕ). n % (b + 3)) (turns_of-push v h w ∙ ap (λ (c : Bool). turns_of v h + cond c 1 0) (unequal w v (λ e. other (sym e))) ∙ omega arith)

-- before any turn
module _ (b workers : ℕ) where
  pub seats-start : AreSeatsAfter b workers [] (none_seated b workers)
  seats-start = record {
    buckets = refl;
    begun = refl;
    phase = λ w w_in. get_or-replicate workers w 0 0 w_in ∙ sym (mod-eq_of_lt (omega arith));
    bucket = λ w w_in started. absurd (started (mod-eq_of_lt (omega arith)));
  }

-- what a turn does, by the seats
module _ (b workers : ℕ) (h : List ℕ) (seats : Seats) (after : AreSeatsAfter b workers h seats) (w : ℕ) (w_in : w < workers) where
  event-by : (c : Bool) → (next_phase b h w == 0) ≡ c → event_of_next seats w ≡ acted b (claims b h) (next_phase b h w) (held b h w)
  event-by true e =
      let start : (phase_of seats w == 0) ≡ true = ap (λ (n : ℕ). n == 0) (after.phase w w_in) ∙ e in
      ap (λ (c : Bool). cond c (event_of seats.b seats.begun 0) (event_of seats.b (bucket_of seats w) (phase_of seats w))) start
      ∙ ap (λ (n : ℕ). event_of n seats.begun 0) after.buckets
      ∙ ap (λ (n : ℕ). event_of b n 0) after.begun
      ∙ sym (ap (λ (c : Bool). cond c (event_of b (claims b h) 0) (event_of b (held b h w) (next_phase b h w))) e)
  event-by false e =
      let goes_on : (phase_of seats w == 0) ≡ false = ap (λ (n : ℕ). n == 0) (after.phase w w_in) ∙ e in
      let inside : next_phase b h w ≢ 0 = λ is. absurd (false-true (sym e ∙ eq-eqb (next_phase b h w) 0 is)) in
      ap (λ (c : Bool). cond c (event_of seats.b seats.begun 0) (event_of seats.b (bucket_of seats w) (phase_of seats w))) goes_on
      ∙ ap (λ (n : ℕ). event_of n (bucket_of seats w) (phase_of seats w)) after.buckets
      ∙ ap (λ (n : ℕ). event_of b n (phase_of seats w)) (after.bucket w w_in inside)
      ∙ ap (λ (n : ℕ). event_of b (held b h w) n) (after.phase w w_in)
      ∙ sym (ap (λ (c : Bool). cond c (event_of b (claims b h) 0) (event_of b (held b h w) (next_phase b h w))) e)
    where
      false-true : false ≡ true → ⊥
      false-true h = cc

  pub event-next : event_of_next seats w ≡ next b h w
  event-next = event-by (next_phase b h w == 0) refl ∙ sym (next-is b h w)

  -- one turn more
  module _ (are : AreSeats workers seats) where
    h' : List ℕ
    h' = h ++ w ∷ []

    begun-by : (c : Bool) → (phase_of seats w == 0) ≡ c → cond c (seats.begun + 1) seats.begun ≡ claims b h + cond (next_phase b h w == 0) 1 0
    begun-by c e =
        let same : (next_phase b h w == 0) ≡ c = ap (λ (n : ℕ). n == 0) (sym (after.phase w w_in)) ∙ e in
        begun-is c ∙ ap (λ (n : ℕ). n + cond c 1 0) after.begun ∙ sym (ap (λ (y : Bool). claims b h + cond y 1 0) same)
      where
        begun-is : (y : Bool) → cond y (seats.begun + 1) seats.begun ≡ seats.begun + cond y 1 0
        begun-is true = refl
        begun-is false = omega arith

    phase-own : phase_of (with_turn seats w) w ≡ next_phase b (h ++ w ∷ []) w
    phase-own =
        get_or-set_same seats.phases w (phase_after seats.b (phase_of seats w)) 0 (omega (arith, are.phase_each))
        ∙ ap (λ (n : ℕ). phase_after n (phase_of seats w)) after.buckets
        ∙ ap (phase_after b) (after.phase w w_in)
        ∙ sym (next_phase-own b h w)

    phase-of : (v : ℕ) → v < workers → phase_of (with_turn seats w) v ≡ next_phase b (h ++ w ∷ []) v
    phase-of v v_in =
        elim (cases_eq v w) [
          | inl is ↦ ap (phase_of (with_turn seats w)) is ∙ phase-own ∙ sym (ap (next_phase b (h ++ w ∷ [])) is)
          | inr other ↦
              get_or-set_other seats.phases w v (phase_after seats.b (phase_of seats w)) 0 other
              ∙ after.phase v v_in ∙ sym (next_phase-other b h w v other)
        ]

    bucket-own : (c : Bool) → (phase_of seats w == 0) ≡ c → next_phase b (h ++ w ∷ []) w ≢ 0
        → get_or (cond c (set seats.buckets w seats.begun) seats.buckets) w 0 ≡ held b (h ++ w ∷ []) w
    bucket-own true e inside =
        let start : next_phase b h w ≡ 0 = sym (after.phase w w_in) ∙ equal (phase_of seats w) 0 e in
        get_or-set_same seats.buckets w seats.begun 0 (omega (arith, are.bucket_each))
        ∙ after.begun ∙ sym (held-at_claim b h w start) ∙ sym (held-own b h w inside)
    bucket-own false e inside =
        let goes_on : next_phase b h w ≢ 0 = λ is. absurd (clash (sym e ∙ eq-eqb (phase_of seats w) 0 (after.phase w w_in ∙ is))) in
        after.bucket w w_in goes_on ∙ sym (held-own b h w inside)
      where
        clash : false ≡ true → ⊥
        clash h = cc

    bucket-other : (c : Bool) (v : ℕ) → v ≢ w → get_or (cond c (set seats.buckets w seats.begun) seats.buckets) v 0 ≡ bucket_of seats v
    bucket-other true v other = get_or-set_other seats.buckets w v seats.begun 0 other
    bucket-other false v other = refl

    bucket-of : (v : ℕ) → v < workers → next_phase b (h ++ w ∷ []) v ≢ 0 → bucket_of (with_turn seats w) v ≡ held b (h ++ w ∷ []) v
    bucket-of v v_in inside =
        elim (cases_eq v w) [
          | inl is ↦
              ap (bucket_of (with_turn seats w)) is
              ∙ bucket-own (phase_of seats w == 0) refl (λ none. inside (ap (next_phase b (h ++ w ∷ [])) is ∙ none))
              ∙ sym (ap (held b (h ++ w ∷ [])) is)
          | inr other ↦
              let before : next_phase b h v ≢ 0 = λ none. inside (next_phase-other b h w v other ∙ none) in
              bucket-other (phase_of seats w == 0) v other ∙ after.bucket v v_in before ∙ sym (held-other b h v w other before)
        ]

    pub seats-turn : AreSeatsAfter b workers (h ++ w ∷ []) (with_turn seats w)
    seats-turn = record {
      buckets = after.buckets;
      begun = begun-by (phase_of seats w == 0) refl ∙ sym (claims-push b h w);
      phase = phase-of;
      bucket = bucket-of;
    }
