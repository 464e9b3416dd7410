-- Each pair of bucket and target is written once, and after the exchange of the bucket.
use Rattle.std.proofs.Common.{◌≡◌, ◌≢◌, ℕ, ◌+◌, ◌-◌, ◌*◌, ◌≤◌, ◌<◌, ⊎_elim, Bool, true, false, cond, ◌&&◌, ◌==◌, List, [], ◌∷◌, ◌++◌, refl, sym, ◌∙◌, ap, subst, arith}
use Rattle.std.specs.List.{count_by, sum_by}
use Rattle.std.specs.Prelude.{nat_lt}
use Rattle.std.proofs.lemmas.Bool.{cases_eq, lt-ltb}
use Rattle.std.proofs.lemmas.List.Sums.{sum_by_push}
use Rattle.esa_params.specs.Sizes.{below}
use Rattle.esa_laws.proofs.Events.{event-by}
use Rattle.esa_laws.proofs.PermLaws.{occurrences}
use Rattle.esa_laws.proofs.RoundLaws.{by_pushes, rounds, Stands, unclaimed, in_round, complete, is_write_of, exchanges_of, writes_of, Past, past-stays, past-now, next-by_phase}
use Rattle.esa_laws.proofs.Sums.{sum-below-full, hit-once}
use Rattle.esa_laws.proofs.Tests.{bit, equal, same}
use Rattle.esa_laws.proofs.TotalLaws.{by_buckets, zeros, each-wrote, exchanges-in_order}
use Rattle.esa_laws.proofs.TurnLaws.{events-push}
use Rattle.esa_spec.specs.Turns.{event_of, events, next, next_phase, held, is_write_at, order, writes}
use Rattle.esa_spec.specs.declared.event.Event.TheVariants.{Write}

-- a turn that writes a chunk is one of its bucket's round
pub record Writing (b g f j i : ℕ) : Type 0 where
  pub bucket_in : g < b
  pub bucket : g ≡ j
  pub late : 3 ≤ f
  pub target : f - 3 ≡ i

pub both-true : (c e : Bool) → (c && e) ≡ true → (c ≡ true) × (e ≡ true)
both-true true e h = (refl, h)
both-true false e h = absurd (cc)

writing-by : (b g f j i : ℕ) → g < b → 3 ≤ f → ((g == j) && (f - 3 == i)) ≡ true → Writing b g f j i
writing-by b g f j i g_in late e =
    let parts = both-true (g == j) (f - 3 == i) e in
    record { bucket_in = g_in; bucket = equal g j parts.0; late = late; target = equal (f - 3) i parts.1 }

writing : (b g f j i : ℕ) → is_write_at j i (event_of b g f) ≡ true → Writing b g f j i
writing b g f j i =
    event-by (λ e. is_write_at j i e ≡ true → Writing b g f j i) b g f
    (λ g_in phase e. absurd (cc)) (λ g_in phase e. absurd (cc)) (λ g_in phase e. absurd (cc)) (λ g_in late e. writing-by b g f j i g_in late e)
    (λ past e. absurd (cc)) (λ past e. absurd (cc))

itself : (j i : ℕ) → is_write_at j i (Write j i) ≡ true
itself j i = ap (λ y. y && (i == i)) (same j) ∙ same i

writes-now : (b : ℕ) (h : List ℕ) (w j i : ℕ) → next b h w ≡ Write j i → Writing b (held b h w) (next_phase b h w) j i
writes-now b h w j i e = writing b (held b h w) (next_phase b h w) j i
    (ap (is_write_at j i) (sym (next-by_phase b h w) ∙ e) ∙ itself j i)

-- the bucket was exchanged
module _ (b : ℕ) (h : List ℕ) (w j : ℕ) (inside : next_phase b h w ≢ 0) (late : 3 ≤ next_phase b h w) (holds : held b h w ≡ j) where
  exchanged-by : Stands b h j → exchanges_of b h j ≡ 1
  exchanged-by (unclaimed above none unwritten) = absurd (omega (arith, (rounds b h).claimed w inside, holds))
  exchanged-by (in_round v v_in v_holds exchanged written) =
      let own : v ≡ w = (rounds b h).apart v w v_in inside (v_holds ∙ sym holds) in
      exchanged ∙ ap (λ y. cond (nat_lt 2 (next_phase b h y)) 1 0) own ∙ ap (λ y. cond y 1 0) (lt-ltb 2 (next_phase b h w) (omega arith))
  exchanged-by (complete claimed free exchanged written) = exchanged

pub exchanged-before : (b : ℕ) (h : List ℕ) (w j i : ℕ) → next b h w ≡ Write j i → occurrences j (order b h) ≡ 1
exchanged-before b h w j i e =
    let s = writes-now b h w j i e in
    let j_in : j < b = omega (arith, s.bucket, s.bucket_in) in
    exchanges-in_order b h j ∙ exchanged-by b h w j (λ z. absurd (omega (arith, s.late, z))) s.late s.bucket ((rounds b h).stands j j_in)

-- how often a pair is written
abbrev pub pair_count : ℕ → List ℕ → ℕ → ℕ → ℕ
pair_count b h j i = count_by (is_write_at j i) (events b h)

pair-push : (b : ℕ) (h : List ℕ) (w j i : ℕ)
    → pair_count b (h ++ w ∷ []) j i ≡ pair_count b h j i + bit (is_write_at j i (event_of b (held b h w) (next_phase b h w)))
pair-push b h w j i =
    ap (count_by (is_write_at j i)) (events-push b h w) ∙ sum_by_push (λ e. bit (is_write_at j i e)) (events b h) (next b h w)
    ∙ ap (λ e. pair_count b h j i + bit (is_write_at j i e)) (next-by_phase b h w)

record Once (b j i : ℕ) (h : List ℕ) : Type 0 where
  once : pair_count b h j i ≤ 1
  past : pair_count b h j i ≢ 0 → Past b h j (i + 3)

once-step : (b j i : ℕ) (h : List ℕ) (w : ℕ) → Once b j i h → Once b j i (h ++ w ∷ [])
once-step b j i h w s = by (is_write_at j i (event_of b (held b h w) (next_phase b h w))) refl
  where
    by : (c : Bool) → is_write_at j i (event_of b (held b h w) (next_phase b h w)) ≡ c → Once b j i (h ++ w ∷ [])
    by false e = record {
      once = omega (arith, pair-push b h w j i, ap bit e, s.once);
      past = λ some. past-stays b h w j (i + 3) (s.past (λ z. some (omega (arith, pair-push b h w j i, ap bit e, z))));
    }
    by true e =
        let is = writing b (held b h w) (next_phase b h w) j i e in
        let phase : next_phase b h w ≡ i + 3 = omega (arith, is.late, is.target) in
        let inside : next_phase b h w ≢ 0 = λ z. absurd (omega (arith, phase, z)) in
        let none : pair_count b h j i ≡ 0 = ⊎_elim
        (λ (zero_is : pair_count b h j i ≡ 0). zero_is)
        (λ (some : pair_count b h j i ≢ 0). let early = (s.past some).later w inside is.bucket in absurd (omega (arith, early, phase)))
        (cases_eq (pair_count b h j i) 0) in
        record {
          once = omega (arith, pair-push b h w j i, ap bit e, none);
          past = λ some. subst (λ f. Past b (h ++ w ∷ []) j f) phase (subst (λ g. Past b (h ++ w ∷ []) g (next_phase b h w)) is.bucket (past-now b h w inside));
        }

pub pair-le : (b : ℕ) (h : List ℕ) (j i : ℕ) → pair_count b h j i ≤ 1
pair-le b h j i = (by_pushes (Once b j i) (record { once = omega arith; past = λ some. absurd (some refl) }) (once-step b j i) h).once

-- a pair that is written now is a new one
pub pair-new : (b : ℕ) (h : List ℕ) (w j i : ℕ) → next b h w ≡ Write j i → pair_count b h j i ≡ 0
pair-new b h w j i e =
    let now : is_write_at j i (event_of b (held b h w) (next_phase b h w)) ≡ true =
    ap (is_write_at j i) (sym (next-by_phase b h w) ∙ e) ∙ itself j i in
    omega (arith, pair-push b h w j i, ap bit now, pair-le b (h ++ w ∷ []) j i)

-- the chunks of a bucket are those for its targets
of-bucket : (b j g t : ℕ) → t < b → (c : Bool) → (g == j) ≡ c → sum_by (λ i. bit ((g == j) && (t == i))) (below b) ≡ bit (g == j)
of-bucket b j g t t_in true e = ap (λ y. sum_by (λ i. bit (y && (t == i))) (below b)) e ∙ hit-once t b t_in ∙ sym (ap bit e)
of-bucket b j g t t_in false e = ap (λ y. sum_by (λ i. bit (y && (t == i))) (below b)) e ∙ zeros b ∙ sym (ap bit e)

pairs-of_bucket : (b : ℕ) (h : List ℕ) (j : ℕ) → writes_of b h j ≡ sum_by (pair_count b h j) (below b)
pairs-of_bucket b h j = by_buckets (is_write_of j) (is_write_at j) b
    (λ g f f_in. event-by (λ e. sum_by (λ i. bit (is_write_at j i e)) (below b) ≡ bit (is_write_of j e)) b g f
    (λ g_in phase. zeros b) (λ g_in phase. zeros b) (λ g_in phase. zeros b)
    (λ g_in late. of-bucket b j g (f - 3) (omega (arith, late, f_in)) (g == j) refl) (λ past. zeros b) (λ past. zeros b))
    h

pub each-pair : (b : ℕ) (h : List ℕ) (j i : ℕ) → writes b h ≡ b * b → j < b → i < b → pair_count b h j i ≡ 1
each-pair b h j i all j_in i_in =
    sum-below-full (pair_count b h j) b 1 (λ x x_in. pair-le b h j x) (sym (pairs-of_bucket b h j) ∙ each-wrote b h all j j_in ∙ omega arith) i i_in
