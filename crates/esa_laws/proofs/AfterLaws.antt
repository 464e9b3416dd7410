-- Turns that are made after an attempt is finished change nothing.
use Rattle.std.proofs.Common.{◌≡◌, ◌≢◌, ℕ, zero, suc, ◌+◌, ◌*◌, ◌≤◌, ◌<◌, ⊎_elim, true, false, cond, ◌||◌, ◌==◌, List, [], ◌∷◌, ◌++◌, length, drop, refl, sym, ◌∙◌, ap, subst, arith, append-nil, append_assoc}
use Rattle.std.specs.Prelude.{Option, Some, None, is_some, slice_index, option_to_list}
use Rattle.std.proofs.lemmas.Bool.{cases_lt, cases_eq}
use Rattle.std.proofs.lemmas.List.{get_or_append_left, take-append-drop}
use Rattle.std.specs.List.{flat_map}
use Rattle.esa_laws.proofs.Events.{event-by}
use Rattle.esa_laws.proofs.Tests.{equal}
use Rattle.esa_params.specs.Sizes.{Sizes, below}
use Rattle.esa_params.specs.declared.slot.Access.{Access}
use Rattle.esa_laws.proofs.FinishLaws.{finished-where, prefix, prefix-finished}
use Rattle.esa_laws.proofs.RoundLaws.{grown, next-by_phase}
use Rattle.esa_laws.proofs.SpreadLaws.{failing-made, failing-stays, spread-push, spread-stays}
use Rattle.esa_laws.proofs.TotalLaws.{each-written}
use Rattle.esa_laws.proofs.TurnLaws.{order-push, writes-push, held-at_claim}
use Rattle.esa_spec.specs.Completion.{full}
use Rattle.esa_spec.specs.Draws.{Draw}
use Rattle.esa_spec.specs.Places.{places, arranged}
use Rattle.esa_spec.specs.Traces.{asked, spread, rest, drain, attempt_trace}
use Rattle.esa_spec.specs.Turns.{event_of, next, next_phase, held, exchanged, order, is_write, writes}
use Rattle.esa_spec.specs.Verdicts.{failing, is_finished, left, settled, verdict}
use Rattle.esa_spec.specs.declared.event.Verdict.TheVariants.{StashOverflow}
use Rattle.esa_spec.specs.declared.event.Event.{Event}

-- where all chunks are written, no turn has a bucket
pub past-all : (b : ℕ) (h : List ℕ) (w : ℕ) → writes b h ≡ b * b → b ≤ held b h w
past-all b h w all = ⊎_elim
    (λ (start : next_phase b h w ≡ 0). all-claimed b refl start)
    (λ (inside : next_phase b h w ≢ 0). ⊎_elim
    (λ (early : held b h w < b). absurd ((each-written b h all (held b h w) early).free w inside refl))
    (λ (late : b ≤ held b h w). late)
    (cases_lt (held b h w) b))
    (cases_eq (next_phase b h w) 0)
  where
    all-claimed : (n : ℕ) → n ≡ b → next_phase b h w ≡ 0 → b ≤ held b h w
    all-claimed zero e start = omega arith
    all-claimed (suc n) e start =
        let last : n < b = omega arith in
        omega (arith, (each-written b h all n last).claimed, held-at_claim b h w start)

-- an event that does nothing
pub record Quiet (p : Sizes) (a : ℕ) (e : Event) : Type 0 where
  pub no_exchange : exchanged e ≡ None
  pub no_write : is_write e ≡ false
  pub no_access : asked p a e ≡ None

quiet : (p : Sizes) (a g f : ℕ) → p.b ≤ g → Quiet p a (event_of p.b g f)
quiet p a g f past = event-by (Quiet p a) p.b g f
    (λ g_in phase. absurd (omega arith)) (λ g_in phase. absurd (omega arith)) (λ g_in phase. absurd (omega arith)) (λ g_in late. absurd (omega arith))
    (λ past. record { no_exchange = refl; no_write = refl; no_access = refl }) (λ past. record { no_exchange = refl; no_write = refl; no_access = refl })

pub quiet-next : (p : Sizes) (a : ℕ) (h : List ℕ) (w : ℕ) → writes p.b h ≡ p.b * p.b → Quiet p a (next p.b h w)
quiet-next p a h w all = subst (Quiet p a) (sym (next-by_phase p.b h w)) (quiet p a (held p.b h w) (next_phase p.b h w) (past-all p.b h w all))

-- how a longer history stands beside one in which all chunks are written and no exchange failed
pub record Same (p : Sizes) (d : Draw) (a : ℕ) (g h : List ℕ) : Type 0 where
  pub all : writes p.b h ≡ p.b * p.b
  pub exchanges : order p.b h ≡ order p.b g
  pub accesses : spread p d a h ≡ spread p d a g

module _ (p : Sizes) (d : Draw) (a : ℕ) (g : List ℕ) (all : writes p.b g ≡ p.b * p.b) (ok : failing p d (order p.b g) ≡ None) where
  same-step : (h : List ℕ) (w : ℕ) → Same p d a g h → Same p d a g (h ++ w ∷ [])
  same-step h w s =
      let q = quiet-next p a h w s.all in
      record {
        all = writes-push p.b h w ∙ ap (λ y. writes p.b h + cond y 1 0) q.no_write ∙ omega (arith, s.all);
        exchanges = order-push p.b h w ∙ ap (λ y. order p.b h ++ option_to_list y) q.no_exchange ∙ append-nil (order p.b h) ∙ s.exchanges;
        accesses = spread-push p d a h w (ap (failing p d) s.exchanges ∙ ok)
            ∙ ap (λ y. spread p d a h ++ option_to_list y) q.no_access ∙ append-nil (spread p d a h) ∙ s.accesses;
      }

  pub same-after : (more : List ℕ) → Same p d a g (g ++ more)
  same-after more = grown (Same p d a g) same-step g more (record { all = all; exchanges = refl; accesses = refl })

-- how a longer history stands beside one in which exchange k failed
pub record Failed (p : Sizes) (d : Draw) (a k : ℕ) (g h : List ℕ) : Type 0 where
  pub fails : failing p d (order p.b h) ≡ Some k
  pub bucket : slice_index (order p.b h) k ≡ slice_index (order p.b g) k
  pub accesses : spread p d a h ≡ spread p d a g

module _ (p : Sizes) (d : Draw) (a k : ℕ) (g : List ℕ) (fails : failing p d (order p.b g) ≡ Some k) where
  failed-step : (h : List ℕ) (w : ℕ) → Failed p d a k g h → Failed p d a k g (h ++ w ∷ [])
  failed-step h w s =
      let made = (failing-made p d (order p.b h) k s.fails).0 in
      record {
        fails = ap (failing p d) (order-push p.b h w) ∙ failing-stays p d k (order p.b h) (option_to_list (exchanged (next p.b h w))) s.fails;
        bucket = ap (λ y. slice_index y k) (order-push p.b h w)
            ∙ get_or_append_left (order p.b h) (option_to_list (exchanged (next p.b h w))) 0 k made ∙ s.bucket;
        accesses = spread-stays p d a h w k s.fails ∙ s.accesses;
      }

  pub failed-after : (more : List ℕ) → Failed p d a k g (g ++ more)
  failed-after more = grown (Failed p d a k g) failed-step g more (record { fails = fails; bucket = refl; accesses = refl })

-- a finished history: an exchange failed, or all is written
pub data Ended (p : Sizes) (d : Draw) (h : List ℕ) : Type 0 where
  failed : (k : ℕ) → failing p d (order p.b h) ≡ Some k → Ended p d h
  done : failing p d (order p.b h) ≡ None → writes p.b h ≡ p.b * p.b → Ended p d h

ended-by : (p : Sizes) (d : Draw) (h : List ℕ) (f : Option ℕ) → failing p d (order p.b h) ≡ f → (is_some f || (writes p.b h == p.b * p.b)) ≡ true → Ended p d h
ended-by p d h (Some k) e finished = failed k e
ended-by p d h None e finished = done e (equal (writes p.b h) (p.b * p.b) finished)

pub ended : (p : Sizes) (d : Draw) (h : List ℕ) → is_finished p d h ≡ true → Ended p d h
ended p d h finished = ended-by p d h (failing p d (order p.b h)) refl finished

-- what is the same after more turns
pub record Keeps (p : Sizes) (d : Draw) (a : ℕ) (g h : List ℕ) : Type 0 where
  pub finished : is_finished p d h ≡ true
  pub verdict_same : verdict p d h ≡ verdict p d g
  pub trace_same : attempt_trace p d a h ≡ attempt_trace p d a g
  pub places_same : failing p d (order p.b g) ≡ None → places p d h ≡ places p d g

finished-failed : (p : Sizes) (d : Draw) (h : List ℕ) (k : ℕ) → failing p d (order p.b h) ≡ Some k → is_finished p d h ≡ true
finished-failed p d h k e = ap (λ y. is_some y || (writes p.b h == p.b * p.b)) e

keeps-by : (p : Sizes) (d : Draw) (a : ℕ) (g more : List ℕ) → is_finished p d g ≡ true → Ended p d g → Keeps p d a g (g ++ more)
keeps-by p d a g more finished (failed k fails) =
    let s = failed-after p d a k g fails more in
    let h = g ++ more in
    record {
      finished = finished-failed p d h k s.fails;
      verdict_same = ap (settled p d (order p.b h)) s.fails ∙ ap StashOverflow s.bucket ∙ sym (ap (settled p d (order p.b g)) fails);
      trace_same = ap (λ y. spread p d a h ++ rest p d a h y) s.fails ∙ ap (λ y. y ++ []) s.accesses ∙ sym (ap (λ y. spread p d a g ++ rest p d a g y) fails);
      places_same = λ ok. absurd (cc);
    }
keeps-by p d a g more finished (done ok all) =
    let s = same-after p d a g all ok more in
    let h = g ++ more in
    let still : failing p d (order p.b h) ≡ None = ap (failing p d) s.exchanges ∙ ok in
    let ends : is_finished p d h ≡ true = finished-where p d h s.all in
    record {
      finished = ends;
      verdict_same = ap (λ o. settled p d o (failing p d o)) s.exchanges;
      trace_same =
          ap (λ y. spread p d a h ++ rest p d a h y) still
          ∙ ap (λ y. spread p d a h ++ cond y (drain p d a (left p d (order p.b h))) []) ends
          ∙ ap (λ y. y ++ drain p d a (left p d (order p.b h))) s.accesses
          ∙ ap (λ o. spread p d a g ++ drain p d a (left p d o)) s.exchanges
          ∙ sym (ap (λ y. spread p d a g ++ rest p d a g y) ok ∙ ap (λ y. spread p d a g ++ cond y (drain p d a (left p d (order p.b g))) []) finished);
      places_same = λ none. ap (λ o. flat_map (arranged p d o) (below p.b)) s.exchanges;
    }

pub keeps : (p : Sizes) (d : Draw) (a : ℕ) (g more : List ℕ) → is_finished p d g ≡ true → Keeps p d a g (g ++ more)
keeps p d a g more finished = keeps-by p d a g more finished (ended p d g finished)

-- completion of a finished history
module _ (p : Sizes) (d : Draw) (h : List ℕ) (finished : is_finished p d h ≡ true) where
  pub completion-keeps : (a : ℕ) → Keeps p d a (full p d h) h
  completion-keeps a =
      let m = length (full p d h) in
      let whole : full p d h ++ drop m h ≡ h = ap (λ y. y ++ drop m h) (prefix p d h finished) ∙ take-append-drop m h in
      subst (Keeps p d a (full p d h)) whole (keeps p d a (full p d h) (drop m h) (prefix-finished p d h finished))

-- the accesses of more turns go on with those of fewer
record Goes_on (xs ys : List Access) : Type 0 where
  rest_of : List Access
  is : ys ≡ xs ++ rest_of

goes-by : (p : Sizes) (d : Draw) (a : ℕ) (g h : List ℕ) (w : ℕ) (f : Option ℕ) → failing p d (order p.b h) ≡ f
    → Goes_on (spread p d a g) (spread p d a h) → Goes_on (spread p d a g) (spread p d a (h ++ w ∷ []))
goes-by p d a g h w (Some k) fails s = record { rest_of = s.rest_of; is = spread-stays p d a h w k fails ∙ s.is }
goes-by p d a g h w None ok s =
    let one = option_to_list (asked p a (next p.b h w)) in
    record {
      rest_of = s.rest_of ++ one;
      is = spread-push p d a h w ok ∙ ap (λ y. y ++ one) s.is ∙ append_assoc (spread p d a g) s.rest_of one;
    }

pub spread-begins : (p : Sizes) (d : Draw) (a : ℕ) (g more : List ℕ) → (others : List Access) × (spread p d a (g ++ more) ≡ spread p d a g ++ others)
spread-begins p d a g more =
    let s = grown (λ h. Goes_on (spread p d a g) (spread p d a h)) (λ h w s. goes-by p d a g h w (failing p d (order p.b h)) refl s) g more
    (record { rest_of = []; is = sym (append-nil (spread p d a g)) }) in
    (s.rest_of, s.is)
