-- The turn with which an attempt fails.
use Rattle.std.proofs.Common.{◌≡◌, ℕ, ◌+◌, ◌<◌, List, [], ◌∷◌, ◌++◌, length, take, refl, sym, ◌∙◌, ap, arith}
use Rattle.std.specs.Prelude.{Option, Some, None, slice_index, option_to_list, Bool, true, false}
use Rattle.std.proofs.lemmas.List.{take-append-le, take_at, take_all, length_push, get_or_push, get_or_append_left}
use Rattle.esa_params.specs.Sizes.{Sizes}
use Rattle.esa_laws.proofs.GrownLaws.{order-begins}
use Rattle.esa_laws.proofs.SpreadLaws.{through-all, through-append, exchanged-is, failing-made, failing-stays}
use Rattle.esa_laws.proofs.RoundLaws.{by_pushes}
use Rattle.esa_laws.proofs.TurnLaws.{events-push, order-push, event_at-append}
use Rattle.esa_laws.proofs.VerdictLaws.{failing-same, failing-by}
use Rattle.esa_spec.specs.Draws.{Draw}
use Rattle.esa_spec.specs.Lines.{overflows}
use Rattle.esa_spec.specs.Traces.{through}
use Rattle.esa_spec.specs.Turns.{events, event_at, exchanged, next, order}
use Rattle.esa_spec.specs.Verdicts.{failing}
use Rattle.esa_spec.specs.declared.event.Event.TheVariants.{Exchange}

-- the failing exchange stays the failing one when the history goes on
pub failing-on : (p : Sizes) (d : Draw) (h more : List ℕ) (k : ℕ) → failing p d (order p.b h) ≡ Some k → failing p d (order p.b (h ++ more)) ≡ Some k
failing-on p d h more k e =
    let s = order-begins p.b h more in
    ap (failing p d) s.1 ∙ failing-stays p d k (order p.b h) s.0 e

-- the turn of exchange k, with which the attempt fails
pub record Fails (p : Sizes) (d : Draw) (h : List ℕ) (k : ℕ) : Type 0 where
  pub turn : ℕ
  pub turn_in : turn < length h
  pub before : failing p d (order p.b (take turn h)) ≡ None
  pub after : failing p d (order p.b (take (turn + 1) h)) ≡ Some k
  pub exchanges_now : exchanged (event_at p.b h turn) ≡ Some (slice_index (order p.b h) k)
  pub number : length (order p.b (take turn h)) ≡ k
  pub events_made : through k (events p.b h) ≡ events p.b (take (turn + 1) h)

-- it failed before the last turn
fails-stays : (p : Sizes) (d : Draw) (h : List ℕ) (w k : ℕ) → failing p d (order p.b h) ≡ Some k → Fails p d h k → Fails p d (h ++ w ∷ []) k
fails-stays p d h w k fails s =
    let o = order p.b h in
    let on = order-begins p.b h (w ∷ []) in
    let evs = events-push p.b h w in
    let k_in : k < length o = (failing-made p d o k fails).0 in
    record {
      turn = s.turn;
      turn_in = omega (arith, s.turn_in, length_push h w);
      before = ap (λ g. failing p d (order p.b g)) (take-append-le s.turn h (w ∷ []) (omega (arith, s.turn_in))) ∙ s.before;
      after = ap (λ g. failing p d (order p.b g)) (take-append-le (s.turn + 1) h (w ∷ []) (omega (arith, s.turn_in))) ∙ s.after;
      exchanges_now =
          ap exchanged (event_at-append p.b h (w ∷ []) s.turn s.turn_in) ∙ s.exchanges_now
          ∙ ap Some (sym (ap (λ y. slice_index y k) on.1 ∙ get_or_append_left o on.0 0 k k_in));
      number = ap (λ g. length (order p.b g)) (take-append-le s.turn h (w ∷ []) (omega (arith, s.turn_in))) ∙ s.number;
      events_made =
          ap (through k) evs ∙ through-append k (events p.b h) (next p.b h w ∷ []) k_in ∙ s.events_made
          ∙ sym (ap (events p.b) (take-append-le (s.turn + 1) h (w ∷ []) (omega (arith, s.turn_in))));
    }

-- it fails with the last turn
module _ (p : Sizes) (d : Draw) (h : List ℕ) (w k : ℕ) (ok : failing p d (order p.b h) ≡ None) (now : failing p d (order p.b (h ++ w ∷ [])) ≡ Some k) where
  fails-at : (j : ℕ) → exchanged (next p.b h w) ≡ Some j → length (order p.b h) ≡ k → Fails p d (h ++ w ∷ []) k
  fails-at j e number =
      let o = order p.b h in
      let h' = h ++ w ∷ [] in
      let whole : take (length h + 1) h' ≡ h' = take_all (length h + 1) h' (omega (arith, length_push h w)) in
      let front : take (length h) h' ≡ h = take_at h (w ∷ []) (length h) refl in
      let is : next p.b h w ≡ Exchange j = exchanged-is (next p.b h w) j e in
      let last : order p.b h' ≡ o ++ j ∷ [] = order-push p.b h w ∙ ap (λ y. o ++ option_to_list y) e in
      record {
        turn = length h;
        turn_in = omega (arith, length_push h w);
        before = ap (λ g. failing p d (order p.b g)) front ∙ ok;
        after = ap (λ g. failing p d (order p.b g)) whole ∙ now;
        exchanges_now = e ∙ ap Some (sym (ap (λ y. slice_index y k) last ∙ get_or_push o j 0 k number));
        number = ap (λ g. length (order p.b g)) front ∙ number;
        events_made =
            ap (through k) (events-push p.b h w ∙ ap (λ y. events p.b h ++ y ∷ []) is)
            ∙ ap (λ y. through y (events p.b h ++ Exchange j ∷ [])) (sym number)
            ∙ through-all (events p.b h) j
            ∙ sym (ap (events p.b) whole ∙ events-push p.b h w ∙ ap (λ y. events p.b h ++ y ∷ []) is);
      }

  number-by : (j : ℕ) (c : Bool) → exchanged (next p.b h w) ≡ Some j → overflows p d (order p.b h ++ j ∷ []) (length (order p.b h)) ≡ c → length (order p.b h) ≡ k
  number-by j true e over = let is = sym (failing-by p d h w j ok e true over) ∙ now in cc
  number-by j false e over = let is = sym (failing-by p d h w j ok e false over) ∙ now in absurd (cc)

  pub fails-now : (x : Option ℕ) → exchanged (next p.b h w) ≡ x → Fails p d (h ++ w ∷ []) k
  fails-now None e = let is = sym now ∙ failing-same p d h w e ∙ ok in absurd (cc)
  fails-now (Some j) e = fails-at j e (number-by j (overflows p d (order p.b h ++ j ∷ []) (length (order p.b h))) e refl)

abbrev FailsWhere : Sizes → Draw → List ℕ → Type 0
FailsWhere p d h = (k : ℕ) → failing p d (order p.b h) ≡ Some k → Fails p d h k

fails-step : (p : Sizes) (d : Draw) (h : List ℕ) (w : ℕ) → FailsWhere p d h → FailsWhere p d (h ++ w ∷ [])
fails-step p d h w earlier k now = by (failing p d (order p.b h)) refl
  where
    by : (f : Option ℕ) → failing p d (order p.b h) ≡ f → Fails p d (h ++ w ∷ []) k
    by None ok = fails-now p d h w k ok now (exchanged (next p.b h w)) refl
    by (Some m) e =
        let is = sym (failing-on p d h (w ∷ []) m e) ∙ now in
        let same : m ≡ k = cc in
        let here : failing p d (order p.b h) ≡ Some k = e ∙ ap Some same in
        fails-stays p d h w k here (earlier k here)

pub fails : (p : Sizes) (d : Draw) (h : List ℕ) (k : ℕ) → failing p d (order p.b h) ≡ Some k → Fails p d h k
fails p d h = by_pushes (FailsWhere p d) (λ k e. absurd (cc)) (fails-step p d) h
