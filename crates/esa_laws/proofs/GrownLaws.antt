-- A history that goes on by any turns keeps what it told.
use Rattle.std.proofs.Common.{◌≡◌, ◌≢◌, ℕ, ◌+◌, ◌%◌, ◌≤◌, ⊎_elim, ◌==◌, List, [], ◌∷◌, ◌++◌, sym, ◌∙◌, ap, arith, append-nil, append_assoc}
use Rattle.std.specs.Prelude.{option_to_list}
use Rattle.std.proofs.lemmas.Bool.{cases_eq, eq-eqb}
use Rattle.std.proofs.lemmas.List.Sums.{sum_by-cons}
use Rattle.esa_params.specs.Sizes.{Sizes}
use Rattle.esa_laws.proofs.ExchangeLaws.{exchange_of-append}
use Rattle.esa_laws.proofs.FinishLaws.{turns_of-append}
use Rattle.esa_laws.proofs.LineLaws.{chunk-append}
use Rattle.esa_laws.proofs.PermLaws.{occurrences}
use Rattle.esa_laws.proofs.PlaceLaws.{position-in}
use Rattle.esa_laws.proofs.RoundLaws.{grown, other-phase}
use Rattle.esa_laws.proofs.Tests.{bit}
use Rattle.esa_laws.proofs.TurnLaws.{events-push, order-push, held-other}
use Rattle.esa_spec.specs.Draws.{Draw}
use Rattle.esa_spec.specs.Lines.{chunk}
use Rattle.esa_spec.specs.Places.{exchange_of}
use Rattle.esa_spec.specs.Turns.{turns_of, events, exchanged, next, next_phase, held, order}
use Rattle.esa_spec.specs.declared.event.Event.{Event}

-- a list that goes on
pub record Goes_on {X : Type 0} (xs ys : List X) : Type 0 where
  pub others : List X
  pub is : ys ≡ xs ++ others

goes-more : {X : Type 0} (xs ys zs more : List X) → zs ≡ ys ++ more → Goes_on xs ys → Goes_on xs zs
goes-more xs ys zs more e s = record { others = s.others ++ more; is = e ∙ ap (λ y. y ++ more) s.is ∙ append_assoc xs s.others more }

goes-same : {X : Type 0} (xs : List X) → Goes_on xs xs
goes-same xs = record { others = []; is = sym (append-nil xs) }

module _ (b : ℕ) (h more : List ℕ) where
  events-on : Goes_on (events b h) (events b (h ++ more))
  events-on = grown (λ g. Goes_on (events b h) (events b g))
      (λ g w s. goes-more (events b h) (events b g) (events b (g ++ w ∷ [])) (next b g w ∷ []) (events-push b g w) s) h more (goes-same (events b h))

  pub events-begin : (others : List Event) × (events b (h ++ more) ≡ events b h ++ others)
  events-begin = (events-on.others, events-on.is)

  order-on : Goes_on (order b h) (order b (h ++ more))
  order-on = grown (λ g. Goes_on (order b h) (order b g))
      (λ g w s. goes-more (order b h) (order b g) (order b (g ++ w ∷ [])) (option_to_list (exchanged (next b g w))) (order-push b g w) s) h more (goes-same (order b h))

  pub order-begins : (others : List ℕ) × (order b (h ++ more) ≡ order b h ++ others)
  order-begins = (order-on.others, order-on.is)

  pub exchange-kept : (j : ℕ) → 1 ≤ occurrences j (order b h) → exchange_of (order b (h ++ more)) j ≡ exchange_of (order b h) j
  exchange-kept j there = ap (λ o. exchange_of o j) order-on.is ∙ exchange_of-append (order b h) order-on.others j there

  -- a worker that had no turn since
  pub phase-kept : (v : ℕ) → turns_of v more ≡ 0 → next_phase b (h ++ more) v ≡ next_phase b h v
  phase-kept v none = ap (λ y. y % (b + 3)) (turns_of-append v h more ∙ omega (arith, none))

pub chunk-kept : (p : Sizes) (d : Draw) (h more : List ℕ) (j i : ℕ) → 1 ≤ occurrences j (order p.b h)
    → chunk p d (order p.b (h ++ more)) (exchange_of (order p.b (h ++ more)) j) i ≡ chunk p d (order p.b h) (exchange_of (order p.b h) j) i
chunk-kept p d h more j i there =
    let o = order p.b h in
    let s = order-on p.b h more in
    ap (λ k. chunk p d (order p.b (h ++ more)) k i) (exchange-kept p.b h more j there)
    ∙ ap (λ y. chunk p d y (exchange_of o j) i) s.is
    ∙ chunk-append p d o s.others (exchange_of o j) i (position-in (λ k. k == j) o there)

pub held-kept : (b : ℕ) (h more : List ℕ) (v : ℕ) → turns_of v more ≡ 0 → next_phase b h v ≢ 0 → held b (h ++ more) v ≡ held b h v
held-kept b h [] v none inside = ap (λ y. held b y v) (append-nil h)
held-kept b h (w ∷ more) v none inside = ⊎_elim
    (λ (own : w ≡ v). absurd (omega (arith, none, sum_by-cons (λ u. bit (u == v)) w more, ap bit (eq-eqb w v own))))
    (λ (other : w ≢ v).
    let others : v ≢ w = λ e. other (sym e) in
    let rest : turns_of v more ≡ 0 = omega (arith, none, sum_by-cons (λ u. bit (u == v)) w more) in
    ap (λ y. held b y v) (sym (append_assoc h (w ∷ []) more))
    ∙ held-kept b (h ++ w ∷ []) more v rest (λ e. inside (sym (other-phase b h w v others) ∙ e))
    ∙ held-other b h v w others inside)
    (cases_eq w v)
