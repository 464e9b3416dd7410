-- The exchange of a bucket keeps its number, and a bucket that is exchanged now wasn't exchanged before.
use Rattle.std.proofs.Common.{◌≡◌, ℕ, suc, ◌+◌, ◌≤◌, ◌<◌, Bool, true, false, not, cond, ◌==◌, List, [], ◌∷◌, ◌++◌, length, refl, sym, ◌∙◌, ap, arith}
use Rattle.std.specs.Prelude.{Some, option_to_list}
use Rattle.std.proofs.lemmas.Bool.{eq-eqb}
use Rattle.esa_laws.proofs.Events.{event-by}
use Rattle.esa_laws.proofs.Tests.{bit}
use Rattle.esa_laws.proofs.PermLaws.{occurrences, occurs-cons, occurs-append}
use Rattle.esa_laws.proofs.RoundLaws.{next-by_phase}
use Rattle.esa_laws.proofs.TotalLaws.{at-most-once}
use Rattle.esa_laws.proofs.TurnLaws.{order-push}
use Rattle.esa_spec.specs.Places.{exchange_of}
use Rattle.esa_spec.specs.Turns.{event_of, next, next_phase, held, exchanged, order}

-- the index of the first entry j, with more behind
here-or-later : (c : Bool) (m n : ℕ) → m ≡ n → cond (not c) (1 + m) 0 ≡ cond (not c) (1 + n) 0
here-or-later c m n e = ap (λ y. cond (not c) (1 + y) 0) e

stays-by : (x j : ℕ) (o more : List ℕ) (c : Bool) → (x == j) ≡ c → (c ≡ false → exchange_of (o ++ more) j ≡ exchange_of o j)
    → exchange_of (x ∷ (o ++ more)) j ≡ exchange_of (x ∷ o) j
stays-by x j o more true e later =
    ap (λ y. cond (not y) (1 + exchange_of (o ++ more) j) 0) e ∙ sym (ap (λ y. cond (not y) (1 + exchange_of o j) 0) e)
stays-by x j o more false e later = here-or-later (x == j) (exchange_of (o ++ more) j) (exchange_of o j) (later refl)

pub exchange_of-append : (o more : List ℕ) (j : ℕ) → 1 ≤ occurrences j o → exchange_of (o ++ more) j ≡ exchange_of o j
exchange_of-append [] more j there = absurd (omega arith)
exchange_of-append (x ∷ o) more j there = stays-by x j o more (x == j) refl
    (λ e. exchange_of-append o more j (omega (arith, occurs-cons x j o, ap bit e)))

new-by : (x j : ℕ) (o : List ℕ) (c : Bool) → (x == j) ≡ c → bit c + occurrences j o ≡ 0 → (occurrences j o ≡ 0 → exchange_of (o ++ j ∷ []) j ≡ length o)
    → exchange_of (x ∷ (o ++ j ∷ [])) j ≡ suc (length o)
new-by x j o true e none later = absurd (omega arith)
new-by x j o false e none later =
    ap (λ y. cond (not y) (1 + exchange_of (o ++ j ∷ []) j) 0) e ∙ omega (arith, later (omega arith))

pub exchange_of-push : (o : List ℕ) (j : ℕ) → occurrences j o ≡ 0 → exchange_of (o ++ j ∷ []) j ≡ length o
exchange_of-push [] j none = ap (λ y. cond (not y) 1 0) (eq-eqb j j refl)
exchange_of-push (x ∷ o) j none = new-by x j o (x == j) refl (sym (occurs-cons x j o) ∙ none) (exchange_of-push o j)

-- a bucket that is exchanged is one of the b buckets
exchanged-in : (b g f j : ℕ) → exchanged (event_of b g f) ≡ Some j → j < b
exchanged-in b g f j = event-by (λ e. exchanged e ≡ Some j → j < b) b g f
    (λ g_in phase e. absurd (cc)) (λ g_in phase e. absurd (cc)) (λ g_in phase e. let is : g ≡ j = cc in omega arith) (λ g_in late e. absurd (cc))
    (λ past e. absurd (cc)) (λ past e. absurd (cc))

pub exchange-in : (b : ℕ) (h : List ℕ) (w j : ℕ) → exchanged (next b h w) ≡ Some j → j < b
exchange-in b h w j e = exchanged-in b (held b h w) (next_phase b h w) j (sym (ap exchanged (next-by_phase b h w)) ∙ e)

-- it wasn't exchanged before
pub exchange-new : (b : ℕ) (h : List ℕ) (w j : ℕ) → exchanged (next b h w) ≡ Some j → occurrences j (order b h) ≡ 0
exchange-new b h w j e =
    let o' : order b (h ++ w ∷ []) ≡ order b h ++ j ∷ [] = order-push b h w ∙ ap (λ y. order b h ++ option_to_list y) e in
    let twice : occurrences j (order b (h ++ w ∷ [])) ≡ occurrences j (order b h) + (bit (j == j) + 0) =
    ap (occurrences j) o' ∙ occurs-append j (order b h) (j ∷ []) ∙ ap (λ y. occurrences j (order b h) + y) (occurs-cons j j []) in
    omega (arith, twice, ap bit (eq-eqb j j refl), at-most-once b (h ++ w ∷ []) j (exchange-in b h w j e))
