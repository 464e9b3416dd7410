-- A floor at work still stands once a turn is made: one that does not fail, one that fails, and one after that.
use Rattle.std.proofs.Common.{◌≡◌, ◌≢◌, ℕ, ◌+◌, ◌-◌, ◌<◌, ◌≤◌, true, false, List, [], ◌∷◌, ◌++◌, length, take, Option, Some, None, refl, sym, ap, ap₂, ◌∙◌, subst, arith, append_assoc, append-nil, take_all}
use Rattle.std.specs.Option.{option_to_list}
use Rattle.std.proofs.lemmas.List.{length-append, take-append-le}
use Rattle.esa_device.specs.Recording.{Recorded}
use Rattle.esa_laws.proofs.HistoryLaws.{begun-worker, latest-worker, lists-worker}
use Rattle.esa_laws.proofs.SpreadLaws.{spread-push}
use Rattle.esa_laws.proofs.TurnLaws.{event_at-append}
use Rattle.esa_outside.specs.Cause.{Rose}
use Rattle.esa_params.specs.Slots.{at, slot_number}
use Rattle.esa_params.specs.declared.slot.Access.{Access}
use Rattle.esa_params.specs.declared.slot.Region.TheVariants.{Input}
use Rattle.esa_spec.specs.Draws.{Draw}
use Rattle.esa_spec.specs.Histories.{begun, latest, lists}
use Rattle.esa_spec.specs.Lines.{overflows}
use Rattle.esa_spec.specs.Traces.{all_failed, asked, attempts, load, spread}
use Rattle.esa_spec.specs.Turns.{event_at, next, order}
use Rattle.esa_spec.specs.declared.event.Event.{Event}
use Rattle.esa_spec.specs.declared.event.Event.TheVariants.{Exchange, Read}
use Rattle.esa_stash.specs.Stash.{Held}
use Rattle.esa_vault.specs.Seals.{opens}
use Rattle.esa_floor.specs.Acts.{WorksOn}
use Rattle.esa_floor.specs.Parts.{Counted, Parts}
use Rattle.esa_floor.specs.Standing.{IsAtWork, IsSpread, StopsAt, lists_before, turns_made}
use Rattle.esa_floor.specs.declared.turn.Stop.{Stop}
use Rattle.esa_floor.specs.declared.turn.Stop.TheVariants as stop

-- the floor once a worker has had a turn
abbrev pub turned : {V : Type 0} → Parts V → ℕ → Recorded V → Held → List ℕ → Counted → Option Stop → Parts V
turned f w recorder held counts counted stopped =
    record f { history = f.history ++ w ∷ []; recorder = recorder; stash = held; counts = counts; counted = counted; stop = stopped }

-- a turn after one that failed does nothing, and the turns stopped where they did
module _ {V : Type 0} (faults : V → ℕ) (d : Draw) (f : Parts V) (a w done : ℕ) (now : Option Stop) (worker : w ≢ f.plan.workers) where
  abbrev made : List ℕ
  made = turns_made f

  longer_by : latest f.plan.workers (f.history ++ w ∷ []) ≡ made ++ w ∷ []
  longer_by = latest-worker f.plan.workers f.history w worker

  pub stops_later : (s : Stop) → StopsAt faults d a f done (Some s)
      → (done < length made) × StopsAt faults d a (turned f w f.recorder f.stash f.counts f.counted now) done (Some s)
  stops_later (stop.StashOverflow j) why = (
    why.0,
    subst (λ (H : List ℕ). (done < length H)
        × (event_at f.plan.b H done ≡ Exchange j)
        × (overflows f.plan d (order f.plan.b (take done H) ++ j ∷ []) (length (order f.plan.b (take done H))) ≡ true)
        × (faults f.recorder.device ≡ f.faults)) (sym longer_by) (
          (let long = length-append made (w ∷ []) in let earlier = why.0 in omega arith),
          event_at-append f.plan.b made (w ∷ []) done why.0 ∙ why.1,
          ap (λ (g : List ℕ). overflows f.plan d (order f.plan.b g ++ j ∷ []) (length (order f.plan.b g))) (take-append-le done made (w ∷ []) (let earlier = why.0 in omega arith)) ∙ why.2,
          why.3,
        ),
  )
  stops_later (stop.DeviceFault number) why = (
    why.0,
    subst (λ (H : List ℕ). (done < length H)
        × ((access : Access) × (asked f.plan a (event_at f.plan.b H done) ≡ Some access) × (slot_number f.plan access ≡ number))
        × Rose f.faults (faults f.recorder.device)) (sym longer_by) (
          (let long = length-append made (w ∷ []) in let earlier = why.0 in omega arith),
          (why.1.0, ap (asked f.plan a) (event_at-append f.plan.b made (w ∷ []) done why.0) ∙ why.1.1, why.1.2),
          why.2,
        ),
  )
  stops_later (stop.Tampered number) why = (
    why.0,
    subst (λ (H : List ℕ). (done < length H)
        × (event_at f.plan.b H done ≡ Read number)
        × (opens f.plan f.run (at Input number) a 0 f.recorder.last ≡ false)
        × (faults f.recorder.device ≡ f.faults)) (sym longer_by) (
          (let long = length-append made (w ∷ []) in let earlier = why.0 in omega arith),
          event_at-append f.plan.b made (w ∷ []) done why.0 ∙ why.1,
          why.2,
          why.3,
        ),
  )

module _ {V : Type 0} (faults : V → ℕ) (ds : ℕ → Draw) (f : Parts V) (a w : ℕ) (at_work : IsAtWork faults ds f a) (worker : w ≢ f.plan.workers) where
  abbrev h : List ℕ
  h = turns_made f

  turns_are : latest f.plan.workers (f.history ++ w ∷ []) ≡ h ++ w ∷ []
  turns_are = latest-worker f.plan.workers f.history w worker

  lists_are : lists f.plan.workers (f.history ++ w ∷ []) ≡ lists_before f
  lists_are = lists-worker f.plan.workers f.history w worker

  begun_is : begun f.plan.workers (f.history ++ w ∷ []) ≡ begun f.plan.workers f.history
  begun_is = begun-worker f.plan.workers f.history w worker

  -- the accesses up to so many turns, in the words of the longer history
  traced_on : (trace : List Access) (done : ℕ) (H : List ℕ) (L : List (List ℕ)) → H ≡ h ++ w ∷ [] → L ≡ lists_before f
      → trace ≡ (load f.plan ++ attempts f.plan ds 0 (lists_before f)) ++ spread f.plan (ds a) a (take (done + 1) (h ++ w ∷ []))
      → trace ≡ (load f.plan ++ attempts f.plan ds 0 L) ++ spread f.plan (ds a) a (take (done + 1) H)
  traced_on trace done H L same lists is =
      is ∙ ap₂ (λ (l : List (List ℕ)) (g : List ℕ). (load f.plan ++ attempts f.plan ds 0 l) ++ spread f.plan (ds a) a (take (done + 1) g)) (sym lists) (sym same)

  -- where no turn has failed, all of them were made
  module _ (runs : f.stop ≡ None) where
    pub all_made : (at_work.done ≡ length h) × (faults f.recorder.device ≡ f.faults)
    all_made = subst (λ (s : Option Stop). StopsAt faults (ds a) a f at_work.done s) runs at_work.stops

    front_is : take at_work.done h ≡ h
    front_is = take_all at_work.done h (let all = all_made.0 in omega arith)

    pub spread_is : IsSpread f.plan (ds a) h f.stash f.counts f.counted
    spread_is = subst (λ (g : List ℕ). IsSpread f.plan (ds a) g f.stash f.counts f.counted) front_is at_work.spread

    pub traced_is : f.recorder.trace ≡ (load f.plan ++ attempts f.plan ds 0 (lists_before f)) ++ spread f.plan (ds a) a h
    traced_is =
        at_work.traced ∙ ap (λ (g : List ℕ). (load f.plan ++ attempts f.plan ds 0 (lists_before f)) ++ spread f.plan (ds a) a g)
        (take_all (at_work.done + 1) h (let all = all_made.0 in omega arith))

    -- the accesses with the one that the turn asks for
    traced_more : (trace : List Access) → trace ≡ f.recorder.trace ++ option_to_list (asked f.plan a (next f.plan.b h w))
        → trace ≡ (load f.plan ++ attempts f.plan ds 0 (lists_before f)) ++ spread f.plan (ds a) a (h ++ w ∷ [])
    traced_more trace is =
        is ∙ ap (λ (t : List Access). t ++ option_to_list (asked f.plan a (next f.plan.b h w))) traced_is
        ∙ append_assoc (load f.plan ++ attempts f.plan ds 0 (lists_before f)) (spread f.plan (ds a) a h) (option_to_list (asked f.plan a (next f.plan.b h w)))
        ∙ ap (λ (t : List Access). (load f.plan ++ attempts f.plan ds 0 (lists_before f)) ++ t) (sym (spread-push f.plan (ds a) a h w spread_is.runs))

    whole : (n : ℕ) → length h ≤ n → take (n + 1) (h ++ w ∷ []) ≡ h ++ w ∷ []
    whole n least = take_all (n + 1) (h ++ w ∷ []) (let long = length-append h (w ∷ []) in omega arith)

    -- a turn that did not fail
    pub stands_good : (r : Recorded V) (held : Held) (counts : List ℕ) (counted : Counted)
        → r.trace ≡ f.recorder.trace ++ option_to_list (asked f.plan a (next f.plan.b h w)) → faults r.device ≡ faults f.recorder.device
        → IsSpread f.plan (ds a) (h ++ w ∷ []) held counts counted
        → WorksOn faults ds (turned f w r held counts counted None) a (length h)
    stands_good r held counts counted more calm so_far = (
      record {
        done = length h + 1;
        attempt = at_work.attempt ∙ ap (λ (n : ℕ). n - 1) (sym begun_is);
        some_begun = subst (λ (n : ℕ). 1 ≤ n) (sym begun_is) at_work.some_begun;
        planned = at_work.planned;
        earlier = ap (all_failed f.plan ds 0) lists_are ∙ at_work.earlier;
        traced = traced_on r.trace (length h + 1) (latest f.plan.workers (f.history ++ w ∷ [])) (lists f.plan.workers (f.history ++ w ∷ [])) turns_are lists_are
            (traced_more r.trace more ∙ ap (λ (g : List ℕ). (load f.plan ++ attempts f.plan ds 0 (lists_before f)) ++ spread f.plan (ds a) a g) (sym (whole (length h + 1) (omega arith))));
        spread = subst (λ (g : List ℕ). IsSpread f.plan (ds a) g held counts counted)
            (sym (ap (take (length h + 1)) turns_are ∙ whole (length h) (omega arith))) so_far;
        stops = (let long = length-append h (w ∷ []) in let same = ap length turns_are in omega arith, calm ∙ all_made.1);
      },
      refl,
    )

    front_before : take (length h) (latest f.plan.workers (f.history ++ w ∷ [])) ≡ h
    front_before = ap (take (length h)) turns_are ∙ take-append-le (length h) h (w ∷ []) (omega arith) ∙ take_all (length h) h (omega arith)

    -- a turn that failed: the stash and what is counted are as before
    failed : (r : Recorded V) (stopped : Stop)
        → r.trace ≡ f.recorder.trace ++ option_to_list (asked f.plan a (next f.plan.b h w))
        → StopsAt faults (ds a) a (turned f w r f.stash f.counts f.counted (Some stopped)) (length h) (Some stopped)
        → WorksOn faults ds (turned f w r f.stash f.counts f.counted (Some stopped)) a (length h)
    failed r stopped more why = (
      record {
        done = length h;
        attempt = at_work.attempt ∙ ap (λ (n : ℕ). n - 1) (sym begun_is);
        some_begun = subst (λ (n : ℕ). 1 ≤ n) (sym begun_is) at_work.some_begun;
        planned = at_work.planned;
        earlier = ap (all_failed f.plan ds 0) lists_are ∙ at_work.earlier;
        traced = traced_on r.trace (length h) (latest f.plan.workers (f.history ++ w ∷ [])) (lists f.plan.workers (f.history ++ w ∷ [])) turns_are lists_are
            (traced_more r.trace more ∙ ap (λ (g : List ℕ). (load f.plan ++ attempts f.plan ds 0 (lists_before f)) ++ spread f.plan (ds a) a g) (sym (whole (length h) (omega arith))));
        spread = subst (λ (g : List ℕ). IsSpread f.plan (ds a) g f.stash f.counts f.counted) (sym front_before) spread_is;
        stops = why;
      },
      refl,
    )

    at_end : take (length h) (h ++ w ∷ []) ≡ h
    at_end = take-append-le (length h) h (w ∷ []) (omega arith) ∙ take_all (length h) h (omega arith)

    longer : length h < length (h ++ w ∷ [])
    longer = let long = length-append h (w ∷ []) in omega arith

    -- an exchange that would leave too much in the stash
    pub stands_overflow : (r : Recorded V) (j : ℕ) → next f.plan.b h w ≡ Exchange j
        → overflows f.plan (ds a) (order f.plan.b h ++ j ∷ []) (length (order f.plan.b h)) ≡ true
        → r.trace ≡ f.recorder.trace → faults r.device ≡ faults f.recorder.device
        → WorksOn faults ds (turned f w r f.stash f.counts f.counted (Some (stop.StashOverflow j))) a (length h)
    stands_overflow r j event over same calm =
        failed r (stop.StashOverflow j)
        (same ∙ sym (append-nil f.recorder.trace) ∙ ap (λ (e : Event). f.recorder.trace ++ option_to_list (asked f.plan a e)) (sym event))
        (subst (λ (H : List ℕ). (length h < length H)
        × (event_at f.plan.b H (length h) ≡ Exchange j)
        × (overflows f.plan (ds a) (order f.plan.b (take (length h) H) ++ j ∷ []) (length (order f.plan.b (take (length h) H))) ≡ true)
        × (faults r.device ≡ f.faults)) (sym turns_are)
        (longer, event, ap (λ (g : List ℕ). overflows f.plan (ds a) (order f.plan.b g ++ j ∷ []) (length (order f.plan.b g))) at_end ∙ over, calm ∙ all_made.1))

    -- an access that failed
    pub stands_fault : (r : Recorded V) (access : Access) → asked f.plan a (next f.plan.b h w) ≡ Some access
        → r.trace ≡ f.recorder.trace ++ access ∷ [] → Rose f.faults (faults r.device)
        → WorksOn faults ds (turned f w r f.stash f.counts f.counted (Some (stop.DeviceFault (slot_number f.plan access)))) a (length h)
    stands_fault r access asks more rose =
        failed r (stop.DeviceFault (slot_number f.plan access))
        (more ∙ ap (λ (o : Option Access). f.recorder.trace ++ option_to_list o) (sym asks))
        (subst (λ (H : List ℕ). (length h < length H)
        × ((accessed : Access) × (asked f.plan a (event_at f.plan.b H (length h)) ≡ Some accessed) × (slot_number f.plan accessed ≡ slot_number f.plan access))
        × Rose f.faults (faults r.device)) (sym turns_are)
        (longer, (access, asks, refl), rose))

    -- a block that doesn't open
    pub stands_tampered : (r : Recorded V) (j : ℕ) → next f.plan.b h w ≡ Read j
        → r.trace ≡ f.recorder.trace ++ option_to_list (asked f.plan a (Read j)) → faults r.device ≡ faults f.recorder.device
        → opens f.plan f.run (at Input j) a 0 r.last ≡ false
        → WorksOn faults ds (turned f w r f.stash f.counts f.counted (Some (stop.Tampered j))) a (length h)
    stands_tampered r j event more calm closed =
        failed r (stop.Tampered j)
        (more ∙ ap (λ (e : Event). f.recorder.trace ++ option_to_list (asked f.plan a e)) (sym event))
        (subst (λ (H : List ℕ). (length h < length H)
        × (event_at f.plan.b H (length h) ≡ Read j)
        × (opens f.plan f.run (at Input j) a 0 r.last ≡ false)
        × (faults r.device ≡ f.faults)) (sym turns_are)
        (longer, event, closed, calm ∙ all_made.1))

  pub stands_later : (s : Stop) → f.stop ≡ Some s → IsAtWork faults ds (turned f w f.recorder f.stash f.counts f.counted (Some s)) a
  stands_later s stopped =
      let why = stops_later faults (ds a) f a w at_work.done (Some s) worker s (subst (λ (s : Option Stop). StopsAt faults (ds a) a f at_work.done s) stopped at_work.stops) in
      let front : take at_work.done (h ++ w ∷ []) ≡ take at_work.done h = take-append-le at_work.done h (w ∷ []) (let earlier = why.0 in omega arith) in
      let through : take (at_work.done + 1) (h ++ w ∷ []) ≡ take (at_work.done + 1) h = take-append-le (at_work.done + 1) h (w ∷ []) (let earlier = why.0 in omega arith) in
      record {
        done = at_work.done;
        attempt = at_work.attempt ∙ ap (λ (n : ℕ). n - 1) (sym begun_is);
        some_begun = subst (λ (n : ℕ). 1 ≤ n) (sym begun_is) at_work.some_begun;
        planned = at_work.planned;
        earlier = ap (all_failed f.plan ds 0) lists_are ∙ at_work.earlier;
        traced = traced_on f.recorder.trace at_work.done (latest f.plan.workers (f.history ++ w ∷ [])) (lists f.plan.workers (f.history ++ w ∷ [])) turns_are lists_are
            (at_work.traced ∙ ap (λ (g : List ℕ). (load f.plan ++ attempts f.plan ds 0 (lists_before f)) ++ spread f.plan (ds a) a g) (sym through));
        spread = subst (λ (g : List ℕ). IsSpread f.plan (ds a) g f.stash f.counts f.counted) (sym (ap (take at_work.done) turns_are ∙ front)) at_work.spread;
        stops = why.1;
      }
