-- What holds of a turn's event, by its bucket and phase.
use Rattle.std.proofs.Common.{◌≡◌, ℕ, zero, suc, ◌-◌, ◌≤◌, ◌<◌, ⊎_elim, Bool, true, false, cond, ◌==◌, refl, sym, ◌∙◌, ap, subst, arith}
use Rattle.std.proofs.lemmas.Bool.{cases_lt, lt-ltb, le-ltb}
use Rattle.esa_laws.proofs.Tests.{unequal}
use Rattle.esa_spec.specs.Turns.{event_of}
use Rattle.esa_spec.specs.declared.event.Event.{Event}
use Rattle.esa_spec.specs.declared.event.Event.TheVariants.{Claim, Read, Exchange, Write, Done, Idle}

-- the events of a round
pub event-claim : (b g : ℕ) → g < b → event_of b g 0 ≡ Claim g
event-claim b g g_in = ap (λ y. cond y (Claim g) Done) (lt-ltb g b g_in)

pub event-read : (b g : ℕ) → g < b → event_of b g 1 ≡ Read g
event-read b g g_in = ap (λ y. cond y (Read g) Idle) (lt-ltb g b g_in)

pub event-exchange : (b g : ℕ) → g < b → event_of b g 2 ≡ Exchange g
event-exchange b g g_in = ap (λ y. cond y (Exchange g) Idle) (lt-ltb g b g_in)

pub event-write : (b g f : ℕ) → g < b → 3 ≤ f → event_of b g f ≡ Write g (f - 3)
event-write b g f g_in late =
    let not_claim = unequal f 0 (λ e. omega arith) in
    let not_read = unequal f 1 (λ e. omega arith) in
    let not_exchange = unequal f 2 (λ e. omega arith) in
    ap (λ y. cond y (cond (f == 0) (Claim g) (cond (f == 1) (Read g) (cond (f == 2) (Exchange g) (Write g (f - 3))))) (cond (f == 0) Done Idle)) (lt-ltb g b g_in)
    ∙ ap (λ y. cond y (Claim g) (cond (f == 1) (Read g) (cond (f == 2) (Exchange g) (Write g (f - 3))))) not_claim
    ∙ ap (λ y. cond y (Read g) (cond (f == 2) (Exchange g) (Write g (f - 3)))) not_read
    ∙ ap (λ y. cond y (Exchange g) (Write g (f - 3))) not_exchange

pub event-past : (b g f : ℕ) → b ≤ g → event_of b g f ≡ cond (f == 0) Done Idle
event-past b g f past =
    ap (λ y. cond y (cond (f == 0) (Claim g) (cond (f == 1) (Read g) (cond (f == 2) (Exchange g) (Write g (f - 3))))) (cond (f == 0) Done Idle)) (le-ltb g b past)

-- what holds of each event that it can be
inside-by : (P : Event → Type 0) (b g f : ℕ) → g < b
    → (f ≡ 0 → P (Claim g)) → (f ≡ 1 → P (Read g)) → (f ≡ 2 → P (Exchange g)) → (3 ≤ f → P (Write g (f - 3))) → P (event_of b g f)
inside-by P b g zero g_in claim read exchange write = subst P (sym (event-claim b g g_in)) (claim refl)
inside-by P b g (suc zero) g_in claim read exchange write = subst P (sym (event-read b g g_in)) (read refl)
inside-by P b g (suc (suc zero)) g_in claim read exchange write = subst P (sym (event-exchange b g g_in)) (exchange refl)
inside-by P b g (suc (suc (suc i))) g_in claim read exchange write =
    let late : 3 ≤ suc (suc (suc i)) = omega arith in subst P (sym (event-write b g (suc (suc (suc i))) g_in late)) (write late)

either : (P : Event → Type 0) (c : Bool) → P Done → P Idle → P (cond c Done Idle)
either P true done idle = done
either P false done idle = idle

pub event-by : (P : Event → Type 0) (b g f : ℕ)
    → (g < b → f ≡ 0 → P (Claim g)) → (g < b → f ≡ 1 → P (Read g)) → (g < b → f ≡ 2 → P (Exchange g)) → (g < b → 3 ≤ f → P (Write g (f - 3)))
    → (b ≤ g → P Done) → (b ≤ g → P Idle) → P (event_of b g f)
event-by P b g f claim read exchange write done idle = ⊎_elim
    (λ (g_in : g < b). inside-by P b g f g_in (claim g_in) (read g_in) (exchange g_in) (write g_in))
    (λ (past : b ≤ g). subst P (sym (event-past b g f past)) (either P (f == 0) (done past) (idle past)))
    (cases_lt g b)
