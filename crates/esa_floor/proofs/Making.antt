-- A floor at work still stands once an act of a worker is made, whatever the act was.
use Rattle.std.proofs.Common.{◌≡◌, ◌≢◌, ℕ, ◌+◌, ◌*◌, ◌<◌, ◌≤◌, min, true, false, cond, Bool, List, [], ◌∷◌, ◌++◌, length, take, All, Option, Some, None, refl, sym, ap, ◌∙◌, subst, arith, append-nil, zero-add, inl, inr}
use Rattle.std.specs.Prelude.{◌==◌, nat_lt}
use Rattle.std.specs.Option.{option_to_list}
use Rattle.std.proofs.lemmas.Bool.{cases_lt}
use Rattle.std.proofs.lemmas.Bool.Decides.{nat_tests}
use Rattle.esa_device.specs.Recording.{Recorded}
use Rattle.std.proofs.lemmas.List.{length-map}
use Rattle.std.proofs.lemmas.List.FromFn.{length-range_with_len}
use Rattle.esa_laws.proofs.RoundLaws.{writes_of, writes_of-le}
use Rattle.esa_laws.proofs.Sums.{sum-below-le}
use Rattle.esa_laws.proofs.TotalLaws.{total-writes}
use Rattle.esa_laws.proofs.TurnLaws.{claims-push, writes-push}
use Rattle.esa_params.specs.Form.{envelope_length}
use Rattle.esa_outside.specs.Cause.{Rose}
use Rattle.esa_envelope.specs.declared.keys.Keys.{Keys}
use Rattle.esa_params.specs.Sizes.{Sizes, below, size}
use Rattle.esa_params.specs.Slots.{access_of, at, item_length, number_of}
use Rattle.esa_params.specs.declared.slot.Op.TheVariants.{Read as Reads, Write as Writes}
use Rattle.esa_params.specs.declared.slot.Region.TheVariants.{Input}
use Rattle.esa_report.specs.declared.item.Item.{Item}
use Rattle.esa_spec.specs.Draws.{Draw}
use Rattle.esa_spec.specs.Traces.{asked, chunk_slot}
use Rattle.esa_spec.specs.Turns.{claims, exchanged, held, is_write, next, next_phase, writes}
use Rattle.esa_spec.specs.declared.event.Event.{Event}
use Rattle.esa_spec.specs.declared.event.Event.TheVariants.{Claim, Read, Exchange, Write, Done, Idle}
use Rattle.esa_stash.specs.Stash.{Handed, total}
use Rattle.esa_stash.specs.Stash as stash
use Rattle.esa_vault.specs.Placed.{IsHeld, IsSpelled}
use Rattle.esa_vault.specs.Seals.{opens}
use Rattle.esa_floor.specs.Acts.{StopsExchanging, StopsReading, StopsWriting, WorksOn, answer_of, answered, counted_after}
use Rattle.esa_floor.specs.Exchanges.{AreOf, Exchanges}
use Rattle.esa_floor.specs.Parts.{Counted, Parts, with_entry}
use Rattle.esa_floor.specs.Standing.{IsAtWork, turns_made}
use Rattle.esa_floor.specs.Private.{item_opened}
use Rattle.esa_floor.specs.Working.{AreDrawn, AreOpened, Buffered, attempt_in, handed_by}
use Rattle.esa_floor.specs.declared.turn.Stop.{Stop}
use Rattle.esa_floor.specs.declared.turn.Turn.{Turn}
use Rattle.esa_floor.specs.declared.turn.Stop.TheVariants as stop
use Rattle.esa_floor.proofs.Acting.{next_claims, next_is_done, next_is_idle}
use Rattle.esa_floor.proofs.Fitting.{bytes_fit}
use Rattle.esa_floor.proofs.Holding.{opened_are_held, opened_are_spelled}
use Rattle.esa_floor.proofs.Spreading.{overflow_is, spread-exchange, spread-other}
use Rattle.esa_floor.proofs.Turning.{all_made, spread_is, stands_fault, stands_good, stands_overflow, stands_tampered, turned}

module _ {V : Type 0} (faults : V → ℕ) (ds : ℕ → Draw) (f : Parts V) (a w : ℕ) (at_work : IsAtWork faults ds f a) (worker : w ≢ f.plan.workers) (runs : f.stop ≡ None) where
  abbrev h : List ℕ
  h = turns_made f

  -- what is counted goes on with the turn
  claims_first : next_phase f.plan.b h w ≡ 0 → min (f.counted.claims + 1) f.plan.b ≡ min (claims f.plan.b (h ++ w ∷ [])) f.plan.b
  claims_first first =
      let one = claims-push f.plan.b h w ∙ ap (λ (x : ℕ). claims f.plan.b h + cond (x == 0) 1 0) first in
      let before = (spread_is faults ds f a w at_work worker runs).claims in
      omega (arith, one, before)

  claims_later : next_phase f.plan.b h w ≢ 0 → f.counted.claims ≡ min (claims f.plan.b (h ++ w ∷ [])) f.plan.b
  claims_later more =
      let not : (next_phase f.plan.b h w == 0) ≡ false = grind (arith, nat_tests) in
      let same = claims-push f.plan.b h w ∙ ap (λ (t : Bool). claims f.plan.b h + cond t 1 0) not in
      let before = (spread_is faults ds f a w at_work worker runs).claims in
      omega (arith, same, before)

  writes_same : (e : Event) → next f.plan.b h w ≡ e → is_write e ≡ false → f.counted.writes ≡ writes f.plan.b (h ++ w ∷ [])
  writes_same e is none =
      let same = writes-push f.plan.b h w ∙ ap (λ (e : Event). writes f.plan.b h + cond (is_write e) 1 0) is ∙ ap (λ (t : Bool). writes f.plan.b h + cond t 1 0) none in
      let before = (spread_is faults ds f a w at_work worker runs).writes in
      omega (arith, same, before)

  writes_more : (j i : ℕ) → next f.plan.b h w ≡ Write j i → f.counted.writes + 1 ≡ writes f.plan.b (h ++ w ∷ [])
  writes_more j i is =
      let one = writes-push f.plan.b h w ∙ ap (λ (e : Event). writes f.plan.b h + cond (is_write e) 1 0) is in
      let before = (spread_is faults ds f a w at_work worker runs).writes in
      omega (arith, one, before)

  -- a turn that exchanges nothing and doesn't fail
  other : (e : Event) → next f.plan.b h w ≡ e → exchanged e ≡ None → (r : Recorded V) (counted : Counted)
      → r.trace ≡ f.recorder.trace ++ option_to_list (asked f.plan a e) → faults r.device ≡ faults f.recorder.device
      → counted.claims ≡ min (claims f.plan.b (h ++ w ∷ [])) f.plan.b → counted.writes ≡ writes f.plan.b (h ++ w ∷ [])
      → WorksOn faults ds (turned f w r f.stash f.counts counted None) a (length h)
  other e is none r counted more calm claimed wrote =
      stands_good faults ds f a w at_work worker runs r f.stash f.counts counted
      (more ∙ ap (λ (e : Event). f.recorder.trace ++ option_to_list (asked f.plan a e)) (sym is)) calm
      (spread-other f.plan (ds a) h w f.stash f.counts f.counted counted (ap exchanged is ∙ none) (spread_is faults ds f a w at_work worker runs) claimed wrote)

  pub claim_stands : next_phase f.plan.b h w ≡ 0
      → WorksOn faults ds (turned f w f.recorder f.stash f.counts (record f.counted { claims = min (f.counted.claims + 1) f.plan.b }) None) a (length h)
  claim_stands first = elim (cases_lt (claims f.plan.b h) f.plan.b) [
    | inl some ↦
        let is = next_claims f.plan.b h w first some in
        other (Claim (claims f.plan.b h)) is refl f.recorder (record f.counted { claims = min (f.counted.claims + 1) f.plan.b })
        (sym (append-nil f.recorder.trace)) refl (claims_first first) (writes_same (Claim (claims f.plan.b h)) is refl)
    | inr none ↦
        let is = next_is_done f.plan.b h w first none in
        other Done is refl f.recorder (record f.counted { claims = min (f.counted.claims + 1) f.plan.b })
        (sym (append-nil f.recorder.trace)) refl (claims_first first) (writes_same Done is refl)
  ]

  pub idle_stands : next_phase f.plan.b h w ≢ 0 → f.plan.b ≤ held f.plan.b h w
      → WorksOn faults ds (turned f w f.recorder f.stash f.counts f.counted None) a (length h)
  idle_stands more none =
      let is = next_is_idle f.plan.b h w more none in
      other Idle is refl f.recorder f.counted (sym (append-nil f.recorder.trace)) refl (claims_later more) (writes_same Idle is refl)

  rose : (r : Recorded V) → Rose (faults f.recorder.device) (faults r.device) → Rose f.faults (faults r.device)
  rose r = subst (λ (n : ℕ). Rose n (faults r.device)) (all_made faults ds f a w at_work worker runs).1

  pub read_stands : (j : ℕ) → next f.plan.b h w ≡ Read j → next_phase f.plan.b h w ≢ 0 → (r : Recorded V)
      → r.trace ≡ f.recorder.trace ++ access_of f.plan a Reads (at Input j) ∷ [] → (s : Option Stop)
      → StopsReading (number_of f.plan (at Input j)) (opens f.plan f.run (at Input j) a 0 r.last) (faults f.recorder.device) (faults r.device) s
      → WorksOn faults ds (turned f w r f.stash f.counts f.counted s) a (length h)
  read_stands j is later r more None went =
      other (Read j) is refl r f.counted more went.1 (claims_later later) (writes_same (Read j) is refl)
  read_stands j is later r more (Some (stop.DeviceFault n)) went =
      subst (λ (n : ℕ). WorksOn faults ds (turned f w r f.stash f.counts f.counted (Some (stop.DeviceFault n))) a (length h)) (sym went.0)
      (stands_fault faults ds f a w at_work worker runs r (access_of f.plan a Reads (at Input j)) (ap (asked f.plan a) is) more (rose r went.1))
  read_stands j is later r more (Some (stop.Tampered n)) went =
      subst (λ (n : ℕ). WorksOn faults ds (turned f w r f.stash f.counts f.counted (Some (stop.Tampered n))) a (length h)) (sym (went.0 ∙ zero-add j))
      (stands_tampered faults ds f a w at_work worker runs r j is more went.2 went.1)
  read_stands j is later r more (Some (stop.StashOverflow k)) never = absurd never

  pub write_stands : (j i : ℕ) → next f.plan.b h w ≡ Write j i → next_phase f.plan.b h w ≢ 0 → (r : Recorded V)
      → r.trace ≡ f.recorder.trace ++ access_of f.plan a Writes (chunk_slot f.plan j i) ∷ [] → (s : Option Stop)
      → StopsWriting (number_of f.plan (chunk_slot f.plan j i)) (faults f.recorder.device) (faults r.device) s
      → WorksOn faults ds (turned f w r f.stash f.counts (counted_after f.counted s) s) a (length h)
  write_stands j i is later r more None went =
      other (Write j i) is refl r (record f.counted { writes = f.counted.writes + 1 }) more went (claims_later later) (writes_more j i is)
  write_stands j i is later r more (Some (stop.DeviceFault n)) went =
      subst (λ (n : ℕ). WorksOn faults ds (turned f w r f.stash f.counts f.counted (Some (stop.DeviceFault n))) a (length h)) (sym went.0)
      (stands_fault faults ds f a w at_work worker runs r (access_of f.plan a Writes (chunk_slot f.plan j i)) (ap (asked f.plan a) is) more (rose r went.1))
  write_stands j i is later r more (Some (stop.Tampered n)) never = absurd never
  write_stands j i is later r more (Some (stop.StashOverflow k)) never = absurd never

  module _ (j : ℕ) (is : next f.plan.b h w ≡ Exchange j) (later : next_phase f.plan.b h w ≢ 0) (targets : List ℕ) (items : List Item)
      (of : AreOf f.plan f.stash f.counts) (drawn : length ((ds a).targets j) ≡ size f.plan j) (same : targets ≡ (ds a).targets j) (each : length items ≡ length targets)
      (filled : All IsHeld items) (spelled : All (IsSpelled (item_length f.plan.form)) items)
    where
      abbrev was : Exchanges
      was = record { plan = f.plan; stash = f.stash; counts = f.counts }

      pub exchange_stands : (new : Exchanges) (s : Option Stop) → StopsExchanging was new j (targets, items) s
          → WorksOn faults ds (turned f w f.recorder new.stash new.counts f.counted s) a (length h)
      exchange_stands new None went =
          let made = went.1 in
          stands_good faults ds f a w at_work worker runs f.recorder new.stash new.counts f.counted
          (sym (append-nil f.recorder.trace) ∙ ap (λ (e : Event). f.recorder.trace ++ option_to_list (asked f.plan a e)) (sym is)) refl
          (spread-exchange f.plan (ds a) h w j f.stash new.stash targets items f.counts new.counts f.counted (ap exchanged is) (spread_is faults ds f a w at_work worker runs)
          of drawn same each went.0
          made.stash made.counts made.others filled spelled (claims_later later) (writes_same (Exchange j) is refl))
      exchange_stands new (Some (stop.StashOverflow k)) went =
          let over : nat_lt f.plan.s (total (stash.exchanged f.stash (targets, items))) ≡ true = let above = went.1 in grind (arith, nat_tests) in
          let at_j = stands_overflow faults ds f a w at_work worker runs f.recorder j is
          (overflow_is f.plan (ds a) h w j f.stash new.stash targets items f.counts new.counts f.counted (ap exchanged is) (spread_is faults ds f a w at_work worker runs) of drawn same each ∙ over) refl refl in
          subst (λ (e : Exchanges). WorksOn faults ds (turned f w f.recorder e.stash e.counts f.counted (Some (stop.StashOverflow k))) a (length h)) (sym went.2)
          (subst (λ (k : ℕ). WorksOn faults ds (turned f w f.recorder f.stash f.counts f.counted (Some (stop.StashOverflow k))) a (length h)) (sym went.0) at_j)
      exchange_stands new (Some (stop.DeviceFault n)) never = absurd never
      exchange_stands new (Some (stop.Tampered n)) never = absurd never

  -- the same of the floor that an act made, which has not got its entry
  pub claim_made : (new : Parts V) → new ≡ record f { counted = record f.counted { claims = min (f.counted.claims + 1) f.plan.b } }
      → next_phase f.plan.b h w ≡ 0 → WorksOn faults ds (with_entry new w) a (length h)
  claim_made new is first =
      subst (λ (x : Parts V). WorksOn faults ds (with_entry x w) a (length h)) (sym is)
      (subst (λ (s : Option Stop). WorksOn faults ds (turned f w f.recorder f.stash f.counts (record f.counted { claims = min (f.counted.claims + 1) f.plan.b }) s) a (length h)) (sym runs) (claim_stands first))

  pub idle_made : next_phase f.plan.b h w ≢ 0 → f.plan.b ≤ held f.plan.b h w → WorksOn faults ds (with_entry f w) a (length h)
  idle_made more none = subst (λ (s : Option Stop). WorksOn faults ds (turned f w f.recorder f.stash f.counts f.counted s) a (length h)) (sym runs) (idle_stands more none)

  pub read_made : (new : Parts V) → new ≡ record f { recorder = new.recorder; stop = new.stop } → (j : ℕ) → next f.plan.b h w ≡ Read j → next_phase f.plan.b h w ≢ 0
      → new.recorder.trace ≡ f.recorder.trace ++ access_of f.plan a Reads (at Input j) ∷ []
      → StopsReading (number_of f.plan (at Input j)) (opens f.plan f.run (at Input j) a 0 new.recorder.last) (faults f.recorder.device) (faults new.recorder.device) new.stop
      → WorksOn faults ds (with_entry new w) a (length h)
  read_made new same j is later more went =
      subst (λ (x : Parts V). WorksOn faults ds (with_entry x w) a (length h)) (sym same) (read_stands j is later new.recorder more new.stop went)

  pub write_made : (new : Parts V) → new ≡ record f { recorder = new.recorder; counted = counted_after f.counted new.stop; stop = new.stop } → (j i : ℕ) → next f.plan.b h w ≡ Write j i → next_phase f.plan.b h w ≢ 0
      → new.recorder.trace ≡ f.recorder.trace ++ access_of f.plan a Writes (chunk_slot f.plan j i) ∷ []
      → StopsWriting (number_of f.plan (chunk_slot f.plan j i)) (faults f.recorder.device) (faults new.recorder.device) new.stop
      → WorksOn faults ds (with_entry new w) a (length h)
  write_made new same j i is later more went =
      subst (λ (x : Parts V). WorksOn faults ds (with_entry x w) a (length h)) (sym same) (write_stands j i is later new.recorder more new.stop went)

  -- how many rounds were begun, where a bucket is left, and where none is
  pub next_is_claim : next_phase f.plan.b h w ≡ 0 → f.counted.claims < f.plan.b → next f.plan.b h w ≡ Claim f.counted.claims
  next_is_claim first some =
      let before = (spread_is faults ds f a w at_work worker runs).claims in
      let same : claims f.plan.b h ≡ f.counted.claims = omega (arith, before, some) in
      next_claims f.plan.b h w first (omega (arith, before, some)) ∙ ap (λ (j : ℕ). Claim j) same

  pub next_is_none : next_phase f.plan.b h w ≡ 0 → f.plan.b ≤ f.counted.claims → next f.plan.b h w ≡ Done
  next_is_none first none =
      let before = (spread_is faults ds f a w at_work worker runs).claims in
      next_is_done f.plan.b h w first (omega (arith, before, none))

  pub claims_few : f.counted.claims ≤ f.plan.b
  claims_few = let before = (spread_is faults ds f a w at_work worker runs).claims in omega (arith, before)

  -- the same in the words of the worker and of the floor as it was lent
  pub claim_some : (new : Parts V) → new ≡ record f { counted = record f.counted { claims = f.counted.claims + 1 } } → f.counted.claims < f.plan.b
      → next_phase f.plan.b h w ≡ 0 → WorksOn faults ds (with_entry new w) a (length h)
  claim_some new is some first =
      claim_made new (is ∙ ap (λ (n : ℕ). record f { counted = record f.counted { claims = n } }) (omega arith)) first

  pub claim_none : f.plan.b ≤ f.counted.claims → next_phase f.plan.b h w ≡ 0 → WorksOn faults ds (with_entry f w) a (length h)
  claim_none none first =
      let few = claims_few in
      claim_made f (ap (λ (n : ℕ). record f { counted = record f.counted { claims = n } }) (omega (arith, few, none))) first

  pub read_here : (new : Parts V) → new ≡ record f { recorder = new.recorder; stop = new.stop } → (j : ℕ) → next f.plan.b h w ≡ Read j → next_phase f.plan.b h w ≢ 0
      → (p : Sizes) (o : Option ℕ) (run : Keys) (r : Recorded V) → p ≡ f.plan → o ≡ Some a → run ≡ f.run → r ≡ f.recorder
      → new.recorder.trace ≡ r.trace ++ access_of p (attempt_in o) Reads (at Input j) ∷ []
      → StopsReading (number_of p (at Input j)) (opens p run (at Input j) (attempt_in o) 0 new.recorder.last) (faults r.device) (faults new.recorder.device) new.stop
      → WorksOn faults ds (with_entry new w) a (length h)
  read_here new same j is later p o run r plan attempt keys recorder more went =
      read_made new same j is later
      (more ∙ ap (λ (r : Recorded V). r.trace ++ access_of p (attempt_in o) Reads (at Input j) ∷ []) recorder
      ∙ ap (λ (o : Option ℕ). f.recorder.trace ++ access_of p (attempt_in o) Reads (at Input j) ∷ []) attempt
      ∙ ap (λ (p : Sizes). f.recorder.trace ++ access_of p a Reads (at Input j) ∷ []) plan)
      (subst (λ (r : Recorded V). StopsReading (number_of f.plan (at Input j)) (opens f.plan f.run (at Input j) a 0 new.recorder.last) (faults r.device) (faults new.recorder.device) new.stop) recorder
      (subst (λ (run : Keys). StopsReading (number_of f.plan (at Input j)) (opens f.plan run (at Input j) a 0 new.recorder.last) (faults r.device) (faults new.recorder.device) new.stop) keys
      (subst (λ (o : Option ℕ). StopsReading (number_of f.plan (at Input j)) (opens f.plan run (at Input j) (attempt_in o) 0 new.recorder.last) (faults r.device) (faults new.recorder.device) new.stop) attempt
      (subst (λ (p : Sizes). StopsReading (number_of p (at Input j)) (opens p run (at Input j) (attempt_in o) 0 new.recorder.last) (faults r.device) (faults new.recorder.device) new.stop) plan went))))

  pub write_here : (new : Parts V) → new ≡ record f { recorder = new.recorder; counted = counted_after f.counted new.stop; stop = new.stop } → (j i : ℕ) → next f.plan.b h w ≡ Write j i → next_phase f.plan.b h w ≢ 0
      → (p : Sizes) (o : Option ℕ) (r : Recorded V) → p ≡ f.plan → o ≡ Some a → r ≡ f.recorder
      → new.recorder.trace ≡ r.trace ++ access_of p (attempt_in o) Writes (chunk_slot p j i) ∷ []
      → StopsWriting (number_of p (chunk_slot p j i)) (faults r.device) (faults new.recorder.device) new.stop
      → WorksOn faults ds (with_entry new w) a (length h)
  write_here new same j i is later p o r plan attempt recorder more went =
      write_made new same j i is later
      (more ∙ ap (λ (r : Recorded V). r.trace ++ access_of p (attempt_in o) Writes (chunk_slot p j i) ∷ []) recorder
      ∙ ap (λ (o : Option ℕ). f.recorder.trace ++ access_of p (attempt_in o) Writes (chunk_slot p j i) ∷ []) attempt
      ∙ ap (λ (p : Sizes). f.recorder.trace ++ access_of p a Writes (chunk_slot p j i) ∷ []) plan)
      (subst (λ (r : Recorded V). StopsWriting (number_of f.plan (chunk_slot f.plan j i)) (faults r.device) (faults new.recorder.device) new.stop) recorder
      (subst (λ (p : Sizes). StopsWriting (number_of p (chunk_slot p j i)) (faults r.device) (faults new.recorder.device) new.stop) plan went))

  -- the count of writes has room for one more
  pub writes_few : f.counted.writes ≤ f.plan.b * f.plan.b
  writes_few =
      let before = (spread_is faults ds f a w at_work worker runs).writes in
      let all = total-writes f.plan.b h in
      let few = sum-below-le (writes_of f.plan.b h) f.plan.b f.plan.b (writes_of-le f.plan.b h) in
      omega (arith, before, all, few)

  -- an exchange, in the words of the worker's buffers
  pub exchange_here : (new : Parts V) (e old : Exchanges) (s : Option Stop) → new ≡ record f { stash = e.stash; counts = e.counts; stop = s }
      → old ≡ record { plan = f.plan; stash = f.stash; counts = f.counts }
      → (j : ℕ) → next f.plan.b h w ≡ Exchange j → next_phase f.plan.b h w ≢ 0
      → (b : Buffered) (outer : Keys) (o : Option ℕ) (drawn : ℕ → ℕ → List ℕ) → b.plan ≡ f.plan → o ≡ Some a → drawn a j ≡ (ds a).targets j
      → length ((ds a).targets j) ≡ size f.plan j
      → AreDrawn (drawn (attempt_in o) j) b j → AreOpened outer b j → length b.text ≡ size b.plan 0 * envelope_length b.plan.form
      → AreOf old.plan old.stash old.counts → StopsExchanging old e j (handed_by b j) s
      → WorksOn faults ds (with_entry new w) a (length h)
  exchange_here new e old s same is_was j is later b outer o drawn plan attempt draws long targets opened text of went =
      let of_f = subst (λ (x : Exchanges). AreOf x.plan x.stash x.counts) is_was of in
      let went_f = subst (λ (x : Exchanges). StopsExchanging x e j (handed_by b j) s) is_was went in
      let drawn_is : take (size b.plan j) b.targets ≡ (ds a).targets j = targets ∙ ap (λ (o : Option ℕ). drawn (attempt_in o) j) attempt ∙ draws in
      let items_long : length (take (size b.plan j) b.items) ≡ size b.plan j =
      ap length opened ∙ length-map (below (size b.plan j)) (item_opened outer (envelope_length b.plan.form) b.text) ∙ length-range_with_len 0 (size b.plan j) in
      let each : length (take (size b.plan j) b.items) ≡ length (take (size b.plan j) b.targets) =
      items_long ∙ ap (λ (p : Sizes). size p j) plan ∙ sym long ∙ sym (ap length drawn_is) in
      let fits : size b.plan j * envelope_length b.plan.form ≤ length b.text =
      subst (λ (n : ℕ). size b.plan j * envelope_length b.plan.form ≤ n) (sym text) (bytes_fit b.plan j (envelope_length b.plan.form)) in
      let filled = subst (All IsHeld) (sym opened) (opened_are_held outer (envelope_length b.plan.form) b.text (size b.plan j)) in
      let spelled = subst (All (IsSpelled (item_length b.plan.form))) (sym opened) (opened_are_spelled outer b.plan.form b.text (size b.plan j) fits) in
      let spelled_f = subst (λ (p : Sizes). All (IsSpelled (item_length p.form)) (take (size b.plan j) b.items)) plan spelled in
      subst (λ (x : Parts V). WorksOn faults ds (with_entry x w) a (length h)) (sym same)
      (exchange_stands j is later (take (size b.plan j) b.targets) (take (size b.plan j) b.items) of_f long drawn_is each filled spelled_f e s went_f)

-- the answer, by the event
pub answered_is : (e : Event) (t : Turn) (s : Option Stop) → answer_of e None ≡ t → answered t s ≡ answer_of e s
answered_is e t None is = sym is
answered_is e t (Some s) is = refl

-- an exchange keeps the plan
pub exchange_keeps : (old e : Exchanges) (j : ℕ) (handed : Handed) (s : Option Stop) → StopsExchanging old e j handed s → e.plan ≡ old.plan
exchange_keeps old e j handed None went = went.1.plan
exchange_keeps old e j handed (Some (stop.StashOverflow k)) went = ap (λ (x : Exchanges). x.plan) went.2
exchange_keeps old e j handed (Some (stop.DeviceFault n)) never = absurd never
exchange_keeps old e j handed (Some (stop.Tampered n)) never = absurd never

-- and what waits, where it overflows
pub exchange_stays : (old e : Exchanges) (j : ℕ) (handed : Handed) (s : Option Stop) → StopsExchanging old e j handed s → s ≢ None → e.stash ≡ old.stash
exchange_stays old e j handed None went some = absurd (some refl)
exchange_stays old e j handed (Some (stop.StashOverflow k)) went some = ap (λ (x : Exchanges). x.stash) went.2
exchange_stays old e j handed (Some (stop.DeviceFault n)) never some = absurd never
exchange_stays old e j handed (Some (stop.Tampered n)) never some = absurd never
