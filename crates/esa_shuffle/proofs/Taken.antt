-- What each write of a run took.
use Rattle.std.specs.Prelude.{◌==◌}
use Rattle.std.proofs.Common.{◌≡◌, ℕ, ◌+◌, ◌<◌, ◌≤◌, List, [], ◌∷◌, ◌++◌, All, length, map, get_or, Option, Some, None, Result, Ok, Err, refl, sym, ap, ◌∙◌, subst, arith, inl, inr}
use Rattle.std.proofs.lemmas.Bool.{cases_lt}
use Rattle.std.proofs.lemmas.List.{get_or_past}
use Rattle.std.proofs.lemmas.List.Elements.{All-map, All-push, All-weaker}
use Rattle.std.proofs.lemmas.List.Splits.{length-slice_split}
use Rattle.esa_device.specs.Logs.{Carried, NoneFailed, OnlyLastFailed}
use Rattle.esa_envelope.specs.declared.keys.Keys.{Keys}
use Rattle.esa_laws.proofs.FinishLaws.{All-below}
use Rattle.esa_laws.proofs.HistoryLaws.{begun-owner, latest-owner, length-lists}
use Rattle.esa_params.specs.Sizes.{Sizes, below}
use Rattle.esa_params.specs.Slots.{IsPlanned, at, number_of, item_length}
use Rattle.esa_params.specs.declared.slot.Region.{Region}
use Rattle.esa_params.specs.declared.slot.Region.TheVariants.{Input}
use Rattle.esa_report.specs.declared.item.Item.{Item}
use Rattle.esa_spec.specs.Draws.{Draw}
use Rattle.esa_spec.specs.Histories.{lists, parts}
use Rattle.esa_spec.specs.Turns.{order}
use Rattle.esa_spec.specs.Traces.{written_tail}
use Rattle.esa_spec.specs.declared.event.Verdict.{Verdict}
use Rattle.esa_vault.specs.Traffic.{FailedByFault}
use Rattle.esa_vault.specs.declared.fault.VaultFault.{VaultFault}
use Rattle.esa_vault.specs.declared.fault.VaultFault.TheVariants as fault
use Rattle.esa_ending.specs.Seen.{turns_in}
use Rattle.esa_floor.specs.Keeping.{AreChunksStored, HasInput, IsInput, QueuesHold, SlotsHold}
use Rattle.esa_floor.specs.Parts.{Parts, ended_as}
use Rattle.esa_floor.specs.Standing.{attempt_begun, turns_made}
use Rattle.esa_floor.specs.Written.{AreItems, EachTookItsBlock, IsOfInput, TookItsBlock, WritesInput, attempt_turns}
use Rattle.esa_floor.specs.declared.turn.Outcome.{Outcome}
use Rattle.esa_floor.specs.declared.turn.Outcome.TheVariants as outcome
use Rattle.esa_floor.proofs.Failing.{Moved, last_failed, some_bytes}
use Rattle.esa_floor.proofs.Lasting.{turns-made, turns-stored}
use Rattle.esa_floor.proofs.Writing.{took-ended}
use Rattle.esa_load.specs.Loads.{failed_block, written_blocks, written_block, bucket_text}
use Rattle.esa_press.proofs.Fetching.{Spares}
use Rattle.esa_press.proofs.Finishing.{chunks_are, queues_are, turns_are, turns_behind}
use Rattle.esa_press.proofs.Storing.{spared_before, the_same_but}
use Rattle.esa_press.proofs.Taking.{input_front}
use Rattle.esa_press.specs.Contents.{AreOrders, AreQueued, AreTailsStored, FailedByHalt, GoesOnPressing, HoldsDistribution, IsOfPress}
use Rattle.esa_press.specs.Drained.{DrainEnd, failed_tail, stored_tail, tail_block}
use Rattle.esa_press.specs.Over.{IsDistributed}
use Rattle.esa_press.specs.declared.halt.Halt.{Halt}
use Rattle.esa_press.specs.declared.halt.Halt.TheVariants as halt
use Rattle.esa_shuffle.specs.Attempts.{end_of, outcome_of}
use Rattle.esa_shuffle.specs.Records.{FailedByOutcome}

-- a log goes on with what spares the blocks of the input
pub record Sparing (p : Sizes) (old new : List Carried) : Type 0 where
  pub more : List Carried
  pub longer : new ≡ old ++ more
  pub spared : (j : ℕ) → j < p.b → All (Spares p (number_of p (at Input j))) more

-- so its input was the same before
input_before : {V : Type 0} (f : Parts V) (record_of : ℕ → Item) (log : List Carried) → Sparing f.plan f.recorder.log log
    → IsInput f.plan f.outer f.run record_of log → HasInput f record_of
input_before f record_of log on input =
    input_front f.plan f.outer f.run record_of f.recorder.log on.more on.spared (subst (IsInput f.plan f.outer f.run record_of) on.longer input)

-- a drain spares them
tail_spares : {V : Type 0} (f : Parts V) (a i j : ℕ) (bytes : Option (List ℕ)) → j < f.plan.b
    → Spares f.plan (number_of f.plan (at Input j)) (record { access = written_tail f.plan a i; bytes = bytes })
tail_spares f a i j bytes j_in = inr (λ same. absurd (omega (arith, same, j_in)))

tails_spare : {V : Type 0} (f : Parts V) (a n j : ℕ) → j < f.plan.b → All (Spares f.plan (number_of f.plan (at Input j))) (map (stored_tail f a) (below n))
tails_spare f a n j j_in =
    All-map (Spares f.plan (number_of f.plan (at Input j))) (stored_tail f a) (below n)
    (λ k d inside. tail_spares f a (get_or (below n) k d) j (Some (tail_block f a (get_or (below n) k d))) j_in)

sparing_drain : {V T : Type 0} (faults : V → ℕ) (d : Draw) (o : List ℕ) (a : ℕ) (f new : Parts V) (result : Result T Halt) → DrainEnd faults d o a f new result
    → Sparing f.plan f.recorder.log new.recorder.log
sparing_drain faults d o a f new (Ok done) end = record {
  more = map (stored_tail f a) (below f.plan.b);
  longer = end.1.log;
  spared = tails_spare f a f.plan.b;
}
sparing_drain faults d o a f new (Err (halt.Verdict v)) end = record {
  more = map (stored_tail f a) (below end.0);
  longer = end.3.log;
  spared = tails_spare f a end.0;
}
sparing_drain faults d o a f new (Err (halt.Fault (fault.Device number))) end = record {
  more = map (stored_tail f a) (below end.0) ++ failed_tail f a end.0 ∷ [];
  longer = end.3.log;
  spared = λ j j_in.
      All-push (Spares f.plan (number_of f.plan (at Input j))) (map (stored_tail f a) (below end.0)) (failed_tail f a end.0) (tails_spare f a end.0 j j_in) (tail_spares f a end.0 j None j_in);
}
sparing_drain faults d o a f new (Err (halt.Fault (fault.Tampered number))) never = absurd never

-- so does a compression
sparing_press : (p : Sizes) (old new : List Carried) → GoesOnPressing old new → Sparing p old new
sparing_press p old new on = record {
  more = on.1.more;
  longer = on.1.longer;
  spared = λ j j_in.
      All-weaker IsOfPress (Spares p (number_of p (at Input j))) (spared_before p (number_of p (at Input j)) (omega (arith, j_in))) on.1.more on.1.each;
}

module _ {V : Type 0} (faults : V → ℕ) (p : Sizes) (ds : ℕ → Draw) (f x : Parts V) (a : ℕ) (ready : IsDistributed faults p ds f a) (record_of : ℕ → Item) where
  abbrev Queued : Type 0
  Queued = AreQueued f.plan (ds a) (turns_made f) record_of f.stash

  -- the drain of an attempt goes on with writes that took their blocks
  abbrev Drains : Type 0
  Drains = attempt_turns f a ≡ turns_made f → Queued → EachTookItsBlock ds record_of f → EachTookItsBlock ds record_of x

  input_of : (result : Result (Unit {0}) Halt) → DrainEnd faults (ds a) (order f.plan.b (turns_made f)) a f x result → HasInput x record_of → HasInput f record_of
  input_of result end input =
      input_before f record_of x.recorder.log (sparing_drain faults (ds a) (order f.plan.b (turns_made f)) a f x result end)
      (subst (λ (y : Parts V). HasInput y record_of) (the_same_but faults a f (ds a) (turns_made f) record_of (order f.plan.b (turns_made f)) x result end) input)

  pub took_drained : (result : Result (Unit {0}) Halt) → DrainEnd faults (ds a) (order f.plan.b (turns_made f)) a f x result → QueuesHold ds f → Drains
      → EachTookItsBlock ds record_of f → EachTookItsBlock ds record_of x
  took_drained result end queues drains took input =
      drains (turns_are faults p ds f a ready) (queues_are faults p ds f a ready record_of (input_of result end input) queues) took input

  -- so does its compression
  module _ (done : Unit {0}) (end : DrainEnd faults (ds a) (order f.plan.b (turns_made f)) a f x (Ok done)) (items : AreItems (item_length f.plan.form) record_of)
      (queues : QueuesHold ds f) (slots : SlotsHold ds f) (orders : ℕ → List ℕ) (are : AreOrders f.plan (ds a) orders)
      (tails : Queued → AreTailsStored f.plan f.run (ds a) (turns_made f) a record_of x.recorder.log)
      (chunks : AreChunksStored f.plan f.run a (ds a) record_of (turns_made f) f.recorder.log → AreChunksStored f.plan f.run a (ds a) record_of (turns_made f) x.recorder.log)
      (drains : Drains) (new : Parts V) (same : new ≡ record x { recorder = new.recorder }) (on : GoesOnPressing x.recorder.log new.recorder.log)
      (presses : attempt_turns x a ≡ turns_made x → AreOrders x.plan (ds a) orders → HoldsDistribution x.plan x.run (ds a) (turns_made x) a record_of x.recorder.log
      → EachTookItsBlock ds record_of x → EachTookItsBlock ds record_of new)
    where
      pub took_pressed : EachTookItsBlock ds record_of f → EachTookItsBlock ds record_of new
      took_pressed took input =
          let o = order f.plan.b (turns_made f) in
          let drained = the_same_but faults a f (ds a) (turns_made f) record_of o x (Ok done) end in
          let at_drain : HasInput x record_of =
          input_before x record_of new.recorder.log (sparing_press x.plan x.recorder.log new.recorder.log on) (subst (λ (y : Parts V). HasInput y record_of) same input) in
          let before = input_of (Ok done) end at_drain in
          let queued = queues_are faults p ds f a ready record_of before queues in
          let holds : HoldsDistribution f.plan f.run (ds a) (turns_made f) a record_of x.recorder.log = record {
            items = items;
            chunks = chunks (chunks_are faults p ds f a ready record_of before slots);
            tails = tails queued;
          } in
          presses (turns_behind faults p ds f a ready x (Ok done) end)
          (subst (λ (y : Parts V). AreOrders y.plan (ds a) orders) (sym drained) are)
          (subst (λ (y : Parts V). HoldsDistribution y.plan y.run (ds a) (turns_made y) a record_of x.recorder.log) (sym drained) holds)
          (drains (turns_are faults p ds f a ready) queued took) input

-- which accesses failed, where the rest of an attempt was not done
pub rest_failed : (why : Halt) (log : List Carried) → FailedByHalt {T = Unit {0}} (Err why) log → FailedByFault (end_of why) log
rest_failed (halt.Verdict v) log none = none
rest_failed (halt.Fault (fault.Device number)) log last = last
rest_failed (halt.Fault (fault.Tampered number)) log none = none

-- an attempt that a failed access has cut did not succeed
pub cut_short : (why : VaultFault) (a : ℕ) → outcome_of why ≡ outcome.Shuffled a → ⊥
cut_short (fault.Device number) a same = cc
cut_short (fault.Tampered number) a same = cc

-- which accesses failed, at the end of an attempt that ends the run
pub cut_failed : (why : VaultFault) (log : List Carried) → FailedByFault {T = Verdict} (Err why) log → FailedByOutcome (outcome_of why) log
cut_failed (fault.Device number) log last = last
cut_failed (fault.Tampered number) log none = none

-- the writes of a load
module _ (p : Sizes) (run : Keys) (given : List ℕ) where
  abbrev blocks : ℕ → List Carried
  blocks k = written_blocks p run given k

  pub loaded_input : (k : ℕ) → k ≤ p.b → All (WritesInput p) (blocks k)
  loaded_input k few =
      All-map (WritesInput p) (λ j. written_block p run j (bucket_text p given j)) (below k)
      (All-weaker (λ (j : ℕ). j < k) (λ (j : ℕ). WritesInput p (written_block p run j (bucket_text p given j)))
      (λ j j_in. record { of = record { region = refl; planned = omega (arith, j_in, few) }; writes = refl }) (below k) (All-below k k (omega arith)))

  pub failed_input : (k : ℕ) → k < p.b → All (WritesInput p) (blocks k ++ failed_block p k ∷ [])
  failed_input k inside =
      All-push (WritesInput p) (blocks k) (failed_block p k) (loaded_input k (omega (arith, inside))) (record { of = record { region = refl; planned = inside }; writes = refl })

  pub loaded_failed : (k : ℕ) → NoneFailed (blocks k)
  loaded_failed k =
      All-map Moved (λ j. written_block p run j (bucket_text p given j)) (below k) (λ x d inside. some_bytes _)

  pub failed_load : (k : ℕ) → OnlyLastFailed (blocks k ++ failed_block p k ∷ [])
  failed_load k = last_failed (blocks k) (failed_block p k).access (loaded_failed k)

-- a write of the input is to take no block
pub took_none : (p : Sizes) (run : Keys) (ds : ℕ → Draw) (record_of : ℕ → Item) (turns : ℕ → List ℕ) (log : List Carried) → All (IsOfInput p) log
    → All (TookItsBlock p run ds record_of turns) log
took_none p run ds record_of turns log all =
    All-weaker (IsOfInput p) (TookItsBlock p run ds record_of turns)
    (λ entry of. record {
      planned = λ writes. subst (λ (r : Region). IsPlanned p (at r entry.access.index)) (sym of.region) of.planned;
      took = λ bytes writes other there. absurd (other of.region);
    }) log all

-- the turns of the attempts are those that a history has which the owner's entry ends
pub turns_stored : {V : Type 0} (f : Parts V) (o : Outcome) (a : ℕ) → attempt_turns (ended_as f o) a ≡ turns_in (lists f.plan.workers (f.history ++ f.plan.workers ∷ [])) a
turns_stored f o a =
    let w = f.plan.workers in
    let h = f.history ++ w ∷ [] in
    let many = length-lists w h in
    let long = length-slice_split (λ entry. entry == w) h in
    elim (cases_lt a (length (lists w h))) [
      | inl inside ↦ turns-stored (ended_as f o) a inside
      | inr past ↦
          let none : turns_in (lists w h) a ≡ [] = get_or_past (lists w h) a [] past in
          elim (cases_lt (length (lists w h)) a) [
            | inl beyond ↦ get_or_past (parts w h) (a + 1) [] (omega (arith, beyond, many, long)) ∙ sym none
            | inr least ↦
                let more = begun-owner w f.history in
                let last : a ≡ attempt_begun (ended_as f o) = omega (arith, past, least, many) in
                ap (attempt_turns (ended_as f o)) last ∙ turns-made (ended_as f o) (omega (arith, more)) ∙ latest-owner w f.history ∙ sym none
          ]
    ]

-- each write of a run took its block, where its batch was loaded
pub all_took : {V : Type 0} (ds : ℕ → Draw) (record_of : ℕ → Item) (f : Parts V) (o : Outcome) (p : Sizes) (run : Keys) → f.plan ≡ p → f.run ≡ run
    → EachTookItsBlock ds record_of f → HasInput f record_of
    → All (TookItsBlock p run ds record_of (turns_in (lists p.workers (f.history ++ p.workers ∷ [])))) f.recorder.log
all_took ds record_of f o p run plan keys took input =
    subst (λ (k : Keys). All (TookItsBlock p k ds record_of (turns_in (lists p.workers (f.history ++ p.workers ∷ [])))) f.recorder.log) keys
    (subst (λ (q : Sizes). All (TookItsBlock q f.run ds record_of (turns_in (lists q.workers (f.history ++ q.workers ∷ [])))) f.recorder.log) plan
    (subst (λ (turns : ℕ → List ℕ). All (TookItsBlock f.plan f.run ds record_of turns) f.recorder.log) (λ i a. turns_stored f o a i)
    (took-ended ds record_of f o took input)))
