-- What a distribution stands for, turn by turn.
use Rattle.std.proofs.Common.{◌≡◌, ◌≢◌, ℕ, ◌+◌, ◌*◌, ◌<◌, ◌≤◌, Bool, true, false, cond, ◌==◌, ◌||◌, Option, Some, None, List, [], ◌∷◌, ◌++◌, length, refl, sym, ap, ◌∙◌, arith, append-nil, subst}
use Rattle.std.specs.Prelude.{option_to_list, is_some, nat_lt, IfSome}
use Rattle.std.specs.Option.{option_or}
use Rattle.std.proofs.lemmas.List.Sums.{count_by-le-length}
use Rattle.std.proofs.lemmas.List.{length-map}
use Rattle.std.proofs.lemmas.List.FromFn.{length-range_with_len}
use Rattle.esa_params.specs.Sizes.{Sizes, size, below}
use Rattle.esa_laws.proofs.ExchangeLaws.{exchange-in}
use Rattle.esa_laws.proofs.LineLaws.{failing-push}
use Rattle.esa_laws.proofs.Tests.{unequal}
use Rattle.esa_laws.proofs.TurnLaws.{order-push, writes-push}
use Rattle.esa_laws.proofs.VerdictLaws.{failing-same, failing-none, finished-now, verdict-now}
use Rattle.esa_spec.specs.Draws.{Draw}
use Rattle.esa_spec.specs.Lines.{overflows}
use Rattle.esa_spec.specs.Turns.{claims, event_at, events, exchanged, is_claim, is_write, next, order, writes}
use Rattle.esa_spec.specs.Verdicts.{failing, is_finished}
use Rattle.esa_spec.specs.declared.event.Event.{Event}
use Rattle.esa_spec.specs.declared.event.Verdict.{Verdict}
use Rattle.esa_spec.specs.declared.event.Verdict.TheVariants.{StashOverflow}
use Rattle.esa_model.specs.Seats.{event_of_next, with_turn}
use Rattle.esa_model.specs.Passed.{IsExchanged, all_staying}
use Rattle.esa_model.specs.Distributed.{IsOf, Stands, IsOver, begun}
use Rattle.esa_model.specs.declared.distribution.Distribution.{Distribution}
use Rattle.esa_model.proofs.SeatLemmas.{seats-start, event-next, seats-turn}
use Rattle.esa_model.proofs.LineLemmas.{lines-start, lines-exchange, total-exchange}

none-some : {X : Type 0} {x : X} → None ≡ Some x → ⊥
none-some h = cc

some-same : {X : Type 0} {x y : X} → Some x ≡ Some y → x ≡ y
some-same h = cc

pub if-some : {X : Type 0} (o : Option X) (P : X → Type 0) → ((x : X) → o ≡ Some x → P x) → IfSome o P
if-some None P each = tt
if-some (Some x) P each = each x refl

-- before any turn
pub stands-start : (p : Sizes) (d : Draw) → Stands p d [] (begun p)
stands-start p d = record {
  rounds = seats-start p.b p.workers;
  lines = lines-start p d;
  written = refl;
  fits = refl;
}

-- what is known of the next turn
module _ (p : Sizes) (d : Draw) (h : List ℕ) (old : Distribution) (is_of : IsOf p old) (stands : Stands p d h old) (w : ℕ) (w_in : w < p.workers) where
  event : Event
  event = event_of_next old.rounds w

  pub event-is : event_of_next old.rounds w ≡ next p.b h w
  event-is = event-next p.b p.workers h old.rounds stands.rounds w w_in

  module _ (new : Distribution) (rounds : new.rounds ≡ with_turn old.rounds w) (written : new.written ≡ old.written + cond (is_write (event_of_next old.rounds w)) 1 0) where
    written-is : new.written ≡ writes p.b (h ++ w ∷ [])
    written-is =
        written ∙ ap (λ (n : ℕ). n + cond (is_write (event_of_next old.rounds w)) 1 0) stands.written
        ∙ ap (λ e. writes p.b h + cond (is_write e) 1 0) event-is ∙ sym (writes-push p.b h w)

    -- a turn that exchanges nothing
    pub stands-quiet : exchanged (event_of_next old.rounds w) ≡ None → new.lines ≡ old.lines → Stands p d (h ++ w ∷ []) new
    stands-quiet none lines =
        let none' : exchanged (next p.b h w) ≡ None = ap exchanged (sym event-is) ∙ none in
        let same : order p.b (h ++ w ∷ []) ≡ order p.b h =
        order-push p.b h w ∙ ap (λ y. order p.b h ++ option_to_list y) none' ∙ append-nil (order p.b h) in
        record {
          rounds = rw rounds (seats-turn p.b p.workers h old.rounds stands.rounds w w_in is_of.seats);
          lines = rw (lines, same) stands.lines;
          written = written-is;
          fits = failing-same p d h w none' ∙ stands.fits;
        }

    -- an exchange
    module _ (j : ℕ) (now : exchanged (event_of_next old.rounds w) ≡ Some j) (each : length (d.targets j) ≡ size p j) (exchange : IsExchanged (d.targets j) old.lines new.lines) where
      now' : exchanged (next p.b h w) ≡ Some j
      now' = ap exchanged (sym event-is) ∙ now

      order-is : order p.b (h ++ w ∷ []) ≡ order p.b h ++ j ∷ []
      order-is = order-push p.b h w ∙ ap (λ y. order p.b h ++ option_to_list y) now'

      over-is : overflows p d (order p.b h ++ j ∷ []) (length (order p.b h)) ≡ nat_lt p.s (all_staying old.lines.p.c new.lines.arrived old.lines.gone)
      over-is = ap (nat_lt p.s) (sym (total-exchange p d (order p.b h) j each old.lines new.lines is_of.lines stands.lines exchange))

      pub stands-exchange : nat_lt p.s (all_staying old.lines.p.c new.lines.arrived old.lines.gone) ≡ false → Stands p d (h ++ w ∷ []) new
      stands-exchange fits = record {
        rounds = rw rounds (seats-turn p.b p.workers h old.rounds stands.rounds w w_in is_of.seats);
        lines = rw order-is (lines-exchange p d (order p.b h) j each old.lines new.lines is_of.lines stands.lines exchange);
        written = written-is;
        fits = failing-none p d h w j stands.fits now' (over-is ∙ fits);
      }

      pub over-exchange : nat_lt p.s (all_staying old.lines.p.c new.lines.arrived old.lines.gone) ≡ true → IsOver p d (h ++ w ∷ []) (StashOverflow j)
      over-exchange over =
          let is = over-is ∙ over in
          record {
            failed = (length (order p.b h), fails is);
            finished = finished-now p d h w j stands.fits now' is;
            verdict = verdict-now p d h w j stands.fits now' is;
            bad = refl;
          }
        where
          fails : overflows p d (order p.b h ++ j ∷ []) (length (order p.b h)) ≡ true → failing p d (order p.b (h ++ w ∷ [])) ≡ Some (length (order p.b h))
          fails is =
              ap (failing p d) order-is ∙ failing-push p d (order p.b h) j
              ∙ ap (λ y. option_or y (cond (overflows p d (order p.b h ++ j ∷ []) (length (order p.b h))) (Some (length (order p.b h))) None)) stands.fits
              ∙ ap (λ y. cond y (Some (length (order p.b h))) None) is

    -- one turn more, by what it does
    module _ (result : Option Verdict)
        (quiet : exchanged (event_of_next old.rounds w) ≡ None → (new.lines ≡ old.lines) × (result ≡ None))
        (exchange : (j : ℕ) → exchanged (event_of_next old.rounds w) ≡ Some j → IsExchanged (d.targets j) old.lines new.lines)
        (fails : (j : ℕ) → exchanged (event_of_next old.rounds w) ≡ Some j
        → result ≡ cond (nat_lt old.lines.p.s (all_staying old.lines.p.c new.lines.arrived old.lines.gone)) (Some (StashOverflow j)) None)
        (each : (j : ℕ) → j < p.b → length (d.targets j) ≡ size p j) where
      each-now : (j : ℕ) → exchanged (event_of_next old.rounds w) ≡ Some j → length (d.targets j) ≡ size p j
      each-now j now = each j (exchange-in p.b h w j (ap exchanged (sym event-is) ∙ now))

      s-is : (total : ℕ) → nat_lt old.lines.p.s total ≡ nat_lt p.s total
      s-is total = ap (λ (q : Sizes). nat_lt q.s total) is_of.plan

      goes-by : (o : Option ℕ) → exchanged (event_of_next old.rounds w) ≡ o → result ≡ None → Stands p d (h ++ w ∷ []) new
      goes-by None e none = stands-quiet e (quiet e).0
      goes-by (Some j) e none = stands-exchange j e (each-now j e) (exchange j e) (fits (nat_lt p.s (all_staying old.lines.p.c new.lines.arrived old.lines.gone)) refl)
        where
          fits : (c : Bool) → nat_lt p.s (all_staying old.lines.p.c new.lines.arrived old.lines.gone) ≡ c → c ≡ false
          fits false is = refl
          fits true is = absurd (none-some (sym none ∙ fails j e ∙ ap (λ c. cond c (Some (StashOverflow j)) None) (s-is _ ∙ is)))

      pub goes-on : result ≡ None → Stands p d (h ++ w ∷ []) new
      goes-on = goes-by (exchanged (event_of_next old.rounds w)) refl

      ends-by : (o : Option ℕ) → exchanged (event_of_next old.rounds w) ≡ o → (v : Verdict) → result ≡ Some v → IsOver p d (h ++ w ∷ []) v
      ends-by None e v some = absurd (none-some (sym (quiet e).1 ∙ some))
      ends-by (Some j) e v some = by (nat_lt p.s (all_staying old.lines.p.c new.lines.arrived old.lines.gone)) refl
        where
          by : (c : Bool) → nat_lt p.s (all_staying old.lines.p.c new.lines.arrived old.lines.gone) ≡ c → IsOver p d (h ++ w ∷ []) v
          by false is = absurd (none-some (sym (fails j e ∙ ap (λ c. cond c (Some (StashOverflow j)) None) (s-is _ ∙ is)) ∙ some))
          by true is =
              let same : StashOverflow j ≡ v = some-same (sym (fails j e ∙ ap (λ c. cond c (Some (StashOverflow j)) None) (s-is _ ∙ is)) ∙ some) in
              subst (IsOver p d (h ++ w ∷ [])) same (over-exchange j e (each-now j e) (exchange j e) is)

      pub ends-with : (v : Verdict) → result ≡ Some v → IsOver p d (h ++ w ∷ []) v
      ends-with = ends-by (exchanged (event_of_next old.rounds w)) refl

-- a history in which chunks are left to write isn't finished
pub unfinished : (p : Sizes) (d : Draw) (h : List ℕ) (at : Distribution) → Stands p d h at → at.written ≢ p.b * p.b → is_finished p d h ≡ false
unfinished p d h at stands left =
    ap (λ y. is_some y || (writes p.b h == p.b * p.b)) stands.fits
    ∙ unequal (writes p.b h) (p.b * p.b) (λ all. left (stands.written ∙ all))

-- no more rounds are begun than turns are made
pub claims-le : (b : ℕ) (h : List ℕ) → claims b h ≤ length h
claims-le b h = omega (arith, count_by-le-length (is_claim b h) (below (length h)), length-range_with_len 0 (length h))

-- nor chunks written
pub writes-le : (b : ℕ) (h : List ℕ) → writes b h ≤ length h
writes-le b h =
    omega (
      arith,
      count_by-le-length is_write (events b h),
      length-map (below (length h)) (event_at b h),
      length-range_with_len 0 (length h),
    )
