-- What the next turn of a worker does, by its phase and by its bucket.
use Rattle.std.proofs.Common.{◌≡◌, ◌≢◌, ℕ, ◌-◌, ◌<◌, ◌≤◌, true, false, Bool, List, ap, inl, inr, ◌∙◌, subst, sym, arith}
use Rattle.std.specs.Prelude.{◌==◌, nat_lt, if◌then◌else◌}
use Rattle.std.proofs.lemmas.Bool.{cases_lt}
use Rattle.std.proofs.lemmas.Bool.Decides.{nat_tests}
use Rattle.esa_laws.proofs.TurnLaws.{next-is}
use Rattle.esa_spec.specs.Turns.{acted, claims, event_of, held, next, next_phase}
use Rattle.esa_spec.specs.declared.event.Event.{Event}
use Rattle.esa_spec.specs.declared.event.Event.TheVariants.{Claim, Read, Exchange, Write, Done, Idle}

under : (k b : ℕ) → k < b → nat_lt k b ≡ true
under k b inside = grind (arith, nat_tests)

past : (k b : ℕ) → b ≤ k → nat_lt k b ≡ false
past k b outside = grind (arith, nat_tests)

apart : (x y : ℕ) → x ≢ y → (x == y) ≡ false
apart x y other = grind (arith, nat_tests)

module _ (b : ℕ) (h : List ℕ) (w : ℕ) where
  pub next_claims : next_phase b h w ≡ 0 → claims b h < b → next b h w ≡ Claim (claims b h)
  next_claims first some =
      next-is b h w ∙ ap (λ (x : ℕ). acted b (claims b h) x (held b h w)) first
      ∙ ap (λ (t : Bool). if t then Claim (claims b h) else Done) (under (claims b h) b some)

  pub next_is_done : next_phase b h w ≡ 0 → b ≤ claims b h → next b h w ≡ Done
  next_is_done first none =
      next-is b h w ∙ ap (λ (x : ℕ). acted b (claims b h) x (held b h w)) first
      ∙ ap (λ (t : Bool). if t then Claim (claims b h) else Done) (past (claims b h) b none)

  -- the first turn of a round takes a bucket, or none is left
  pub at_first : (P : Event → Type 0) → ((j : ℕ) → P (Claim j)) → P Done → next_phase b h w ≡ 0 → P (next b h w)
  at_first P taken none first = elim (cases_lt (claims b h) b) [
    | inl some ↦ subst P (sym (next_claims first some)) (taken (claims b h))
    | inr over ↦ subst P (sym (next_is_done first over)) none
  ]

  later : next_phase b h w ≢ 0 → next b h w ≡ event_of b (held b h w) (next_phase b h w)
  later more =
      next-is b h w ∙ ap (λ (t : Bool). if t then event_of b (claims b h) 0 else event_of b (held b h w) (next_phase b h w)) (apart (next_phase b h w) 0 more)

  abbrev of_bucket : ℕ → ℕ → Event
  of_bucket j x = if x == 0 then Claim j else if x == 1 then Read j else if x == 2 then Exchange j else Write j (x - 3)

  pub next_is_idle : next_phase b h w ≢ 0 → b ≤ held b h w → next b h w ≡ Idle
  next_is_idle more none =
      later more
      ∙ ap (λ (t : Bool). if t then of_bucket (held b h w) (next_phase b h w) else (if next_phase b h w == 0 then Done else Idle)) (past (held b h w) b none)
      ∙ ap (λ (t : Bool). if t then Done else Idle) (apart (next_phase b h w) 0 more)

  module _ (j : ℕ) (is : held b h w ≡ j) (some : j < b) where
    inside : next_phase b h w ≢ 0 → next b h w ≡ of_bucket j (next_phase b h w)
    inside more =
        later more ∙ ap (λ (k : ℕ). event_of b k (next_phase b h w)) is
        ∙ ap (λ (t : Bool). if t then of_bucket j (next_phase b h w) else (if next_phase b h w == 0 then Done else Idle)) (under j b some)

    pub next_reads : next_phase b h w ≡ 1 → next b h w ≡ Read j
    next_reads first = inside (λ none. absurd (omega (arith, none, first))) ∙ ap (of_bucket j) first

    pub next_exchanges : next_phase b h w ≡ 2 → next b h w ≡ Exchange j
    next_exchanges second = inside (λ none. absurd (omega (arith, none, second))) ∙ ap (of_bucket j) second

    pub next_writes : 3 ≤ next_phase b h w → next b h w ≡ Write j (next_phase b h w - 3)
    next_writes third =
        inside (λ none. absurd (omega (arith, none, third)))
        ∙ ap (λ (t : Bool). if t then Claim j else if next_phase b h w == 1 then Read j else if next_phase b h w == 2 then Exchange j else Write j (next_phase b h w - 3))
        (apart (next_phase b h w) 0 (λ none. absurd (omega (arith, none, third))))
        ∙ ap (λ (t : Bool). if t then Read j else if next_phase b h w == 2 then Exchange j else Write j (next_phase b h w - 3))
        (apart (next_phase b h w) 1 (λ one. absurd (omega (arith, one, third))))
        ∙ ap (λ (t : Bool). if t then Exchange j else Write j (next_phase b h w - 3))
        (apart (next_phase b h w) 2 (λ two. absurd (omega (arith, two, third))))
