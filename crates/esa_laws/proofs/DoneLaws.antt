-- Where each worker found no bucket left, all chunks are written.
use Rattle.std.proofs.Common.{◌≡◌, ◌≢◌, ℕ, ◌*◌, ◌≤◌, ◌<◌, ⊎_elim, Bool, true, false, cond, ◌==◌, List, [], ◌∷◌, ◌++◌, length, refl, sym, ◌∙◌, ap, subst, arith, length-append}
use Rattle.std.specs.Prelude.{slice_index}
use Rattle.std.proofs.lemmas.Bool.{cases_lt, cases_eq}
use Rattle.std.proofs.lemmas.List.{get_or_at}
use Rattle.esa_laws.proofs.Events.{event-by, event-past}
use Rattle.esa_laws.proofs.FinishLaws.{AllBelow, none-open}
use Rattle.esa_laws.proofs.RoundLaws.{by_pushes, rounds, next-by_phase, other-phase, claims-start, claims-inside, new-held}
use Rattle.esa_laws.proofs.Tests.{equal}
use Rattle.esa_laws.proofs.TurnLaws.{event_at-append, held-own, held-other, held-at_claim, worker-append}
use Rattle.esa_spec.specs.Turns.{event_of, event_at, next, next_phase, claims, held, writes}
use Rattle.esa_spec.specs.declared.event.Event.TheVariants.{Done, Idle}

-- a worker found no bucket left: all are claimed, and a round in which it stands has none
pub record Found_none (b : ℕ) (h : List ℕ) (v : ℕ) : Type 0 where
  pub claimed : b ≤ claims b h
  pub past : next_phase b h v ≢ 0 → b ≤ held b h v

-- the turn begins a round and finds none
data Finds (b g f : ℕ) : Type 0 where
  finds : b ≤ g → f ≡ 0 → Finds b g f

begins-by : (f : ℕ) (c : Bool) → (f == 0) ≡ c → cond c Done Idle ≡ Done → f ≡ 0
begins-by f true e is = equal f 0 e
begins-by f false e is = absurd (cc)

finding : (b g f : ℕ) → event_of b g f ≡ Done → Finds b g f
finding b g f is =
    let past : b ≤ g = event-by (λ e. e ≡ Done → b ≤ g) b g f
    (λ g_in phase e. absurd (cc)) (λ g_in phase e. absurd (cc)) (λ g_in phase e. absurd (cc)) (λ g_in late e. absurd (cc)) (λ past e. past) (λ past e. past) is in
    finds past (begins-by f (f == 0) refl (sym (event-past b g f past) ∙ is))

none-now : (b : ℕ) (h : List ℕ) (w : ℕ) → next b h w ≡ Done → Found_none b (h ++ w ∷ []) w
none-now b h w is = by (finding b (held b h w) (next_phase b h w) (sym (next-by_phase b h w) ∙ is))
  where
    by : Finds b (held b h w) (next_phase b h w) → Found_none b (h ++ w ∷ []) w
    by (finds past start) =
        let all : b ≤ claims b h = omega (arith, past, held-at_claim b h w start) in
        record {
          claimed = omega (arith, all, claims-start b h w start);
          past = λ inside. omega (arith, all, new-held b h w (rounds b h) start);
        }

none-stays : (b : ℕ) (h : List ℕ) (w v : ℕ) → Found_none b h v → Found_none b (h ++ w ∷ []) v
none-stays b h w v s = ⊎_elim
    (λ (start : next_phase b h w ≡ 0). record {
      claimed = omega (arith, s.claimed, claims-start b h w start);
      past = λ inside. ⊎_elim
          (λ (own : v ≡ w). subst (λ y. b ≤ held b (h ++ w ∷ []) y) (sym own) (omega (arith, s.claimed, new-held b h w (rounds b h) start)))
          (λ (other : v ≢ w). let was : next_phase b h v ≢ 0 = λ e. inside (other-phase b h w v other ∙ e) in
          omega (arith, held-other b h v w other was, s.past was))
          (cases_eq v w);
    })
    (λ (going : next_phase b h w ≢ 0). record {
      claimed = omega (arith, s.claimed, claims-inside b h w going);
      past = λ inside. ⊎_elim
          (λ (own : v ≡ w).
          let on : next_phase b (h ++ w ∷ []) w ≢ 0 = λ e. inside (ap (next_phase b (h ++ w ∷ [])) own ∙ e) in
          let was : b ≤ held b h w = subst (λ y. b ≤ held b h y) own (s.past (λ e. going (sym (ap (next_phase b h) own) ∙ e))) in
          subst (λ y. b ≤ held b (h ++ w ∷ []) y) (sym own) (omega (arith, held-own b h w on, was)))
          (λ (other : v ≢ w). let was : next_phase b h v ≢ 0 = λ e. inside (other-phase b h w v other ∙ e) in
          omega (arith, held-other b h v w other was, s.past was))
          (cases_eq v w);
    })
    (cases_eq (next_phase b h w) 0)

-- whoever had a turn that found none
abbrev EachFound : ℕ → List ℕ → Type 0
EachFound b h = (x : ℕ) → x < length h → event_at b h x ≡ Done → Found_none b h (slice_index h x)

found-step : (b : ℕ) (h : List ℕ) (w : ℕ) → EachFound b h → EachFound b (h ++ w ∷ [])
found-step b h w before x x_in is = ⊎_elim
    (λ (earlier : x < length h).
    subst (Found_none b (h ++ w ∷ [])) (sym (worker-append b h (w ∷ []) x earlier))
    (none-stays b h w (slice_index h x) (before x earlier (sym (event_at-append b h (w ∷ []) x earlier) ∙ is))))
    (λ (last : length h ≤ x).
    let here : x ≡ length h = omega (arith, length-append h (w ∷ [])) in
    let who : slice_index (h ++ w ∷ []) x ≡ w = ap (slice_index (h ++ w ∷ [])) here ∙ get_or_at h w [] 0 (length h) refl in
    subst (Found_none b (h ++ w ∷ [])) (sym who) (none-now b h w (sym (ap (event_at b (h ++ w ∷ [])) here) ∙ is)))
    (cases_lt x (length h))

pub each-found : (b : ℕ) (h : List ℕ) → EachFound b h
each-found b h = by_pushes (EachFound b) (λ x x_in is. absurd (omega arith)) (found-step b) h

-- then no bucket of the plan is open
pub done-written : (b w : ℕ) (h : List ℕ) → 1 ≤ w → AllBelow w h
    → ((v : ℕ) → v < w → (x : ℕ) × (x < length h) × (slice_index h x ≡ v) × (event_at b h x ≡ Done)) → writes b h ≡ b * b
done-written b w h some all each =
    let none : (v : ℕ) → v < w → Found_none b h v = λ v worker. let t = each v worker in subst (Found_none b h) t.2 (each-found b h t.0 t.1 t.3) in
    none-open b w h all (none 0 some).claimed (λ v worker inside. (none v worker).past inside)
