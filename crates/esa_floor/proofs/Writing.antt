-- Each write took its block, entry after entry of the history.
use Rattle.std.proofs.Common.{◌≡◌, ◌≢◌, ℕ, ◌+◌, ◌-◌, ◌*◌, ◌/◌, ◌%◌, ◌<◌, ◌≤◌, List, [], ◌∷◌, ◌++◌, map, All, Option, Some, None, refl, sym, ap, ◌∙◌, subst, arith, inl}
use Rattle.std.specs.Prelude.{count_by, ◌==◌}
use Rattle.std.proofs.Math.Nat.{mod-lt, mul-le-mul_right, suc-mul}
use Rattle.std.proofs.lemmas.List.Elements.{All-append, All-nil, All-push, All-weaker}
use Rattle.std.proofs.lemmas.Nat.{div-mul-add, mod-mul-add}
use Rattle.esa_device.specs.Logs.{Carried}
use Rattle.esa_envelope.specs.declared.keys.Keys.{Keys}
use Rattle.esa_laws.proofs.RoundLaws.{next-by_phase}
use Rattle.esa_laws.proofs.Events.{event-by}
use Rattle.esa_params.specs.Sizes.{Sizes}
use Rattle.esa_params.specs.Slots.{IsPlanned, at, item_length}
use Rattle.esa_params.specs.declared.slot.Op.TheVariants.{Read as Reads}
use Rattle.esa_params.specs.declared.slot.Region.{Region}
use Rattle.esa_params.specs.declared.slot.Region.TheVariants.{Mid}
use Rattle.esa_report.specs.declared.item.Item.{Item}
use Rattle.esa_spec.specs.Draws.{Draw}
use Rattle.esa_spec.specs.Lines.{chunk}
use Rattle.esa_spec.specs.Places.{exchange_of}
use Rattle.esa_spec.specs.Traces.{chunk_slot}
use Rattle.esa_spec.specs.Turns.{event_of, held, next, next_phase, order, turns_of}
use Rattle.esa_spec.specs.declared.event.Event.{Event}
use Rattle.esa_spec.specs.declared.event.Event.TheVariants.{Claim, Read, Exchange, Write, Done, Idle}
use Rattle.esa_stash.specs.Dealing.{chunk_at}
use Rattle.esa_stash.specs.Stash.{padded}
use Rattle.esa_vault.specs.Filled.{text_of}
use Rattle.esa_vault.specs.Seals.{sealed_block}
use Rattle.esa_floor.specs.Keeping.{AreChunks, HasInput, HoldsChunks}
use Rattle.esa_floor.specs.Logging.{moved_unless, noted_of, read_of, write_of}
use Rattle.esa_floor.specs.Parts.{Parts, begun_as, ended_as}
use Rattle.esa_floor.specs.Standing.{IsAt, attempt_begun, turns_made}
use Rattle.esa_floor.specs.Workers.{WorkerStands}
use Rattle.esa_floor.specs.Working.{Working}
use Rattle.esa_floor.specs.Written.{EachTookItsBlock, IsOfInput, TookItsBlock, attempt_turns, block_items}
use Rattle.esa_floor.specs.declared.turn.Outcome.{Outcome}
use Rattle.esa_floor.specs.declared.turn.Stop.{Stop}
use Rattle.esa_floor.specs.declared.turn.Stop.TheVariants as stop
use Rattle.esa_floor.proofs.Lasting.{GoOn, block_goes_on, turns-made, turns-owner, turns-worker, turns_at}
use Rattle.esa_floor.proofs.Queueing.{input_was}
use Rattle.esa_floor.proofs.Resting.{none_or_some, working}
use Rattle.esa_floor.proofs.Storing.{chunk_is}

-- a slot of Mid is one of the plan
pub inside_mid : (b j i : ℕ) → j < b → i < b → j * b + i < b * b
inside_mid b j i j_in i_in = let next = suc-mul j b in let product = mul-le-mul_right b j_in in omega (arith, next, product, i_in)

-- bytes that moved are those of the block
moved_is : (s : Option Stop) (block bytes : List ℕ) → moved_unless s block ≡ Some bytes → bytes ≡ block
moved_is None block bytes is = cc is
moved_is (Some (stop.DeviceFault number)) block bytes is = absurd (cc is)
moved_is (Some (stop.Tampered number)) block bytes is = cc is
moved_is (Some (stop.StashOverflow j)) block bytes is = cc is

module _ (p : Sizes) (run : Keys) (ds : ℕ → Draw) (record_of : ℕ → Item) (turns : ℕ → List ℕ) where
  abbrev pub Took_its : Carried → Type 0
  Took_its = TookItsBlock p run ds record_of turns

  -- a read takes nothing
  pub took-read : (entry : Carried) → entry.access.op ≡ Reads → Took_its entry
  took-read entry reads = record {
    planned = λ writes. absurd (let both = sym reads ∙ writes in cc both);
    took = λ bytes writes. absurd (let both = sym reads ∙ writes in cc both);
  }

  -- the write of a chunk
  module _ (a j i : ℕ) (s : Option Stop) (chunks : List Item) (j_in : j < p.b) (i_in : i < p.b)
      (are : AreChunks p (ds a) record_of (order p.b (turns a)) j chunks)
    where
      abbrev o : List ℕ
      o = order p.b (turns a)

      row : (j * p.b + i) / p.b ≡ j
      row = div-mul-add j p.b i i_in

      column : (j * p.b + i) % p.b ≡ i
      column = mod-mul-add j p.b i i_in

      items_are : chunk_at p.c chunks i ≡ block_items p (ds a) record_of (turns a) Mid (j * p.b + i)
      items_are =
          chunk_is p (ds a) record_of o j i chunks are i_in
          ∙ ap (λ (k : ℕ). padded p.c (map record_of (chunk p (ds a) o (exchange_of o k) i))) (sym row)
          ∙ ap (λ (k : ℕ). padded p.c (map record_of (chunk p (ds a) o (exchange_of o ((j * p.b + i) / p.b)) k))) (sym column)

      pub took-chunk : Took_its (write_of p run a j i s chunks)
      took-chunk = record {
        planned = λ writes. inside_mid p.b j i j_in i_in;
        took = λ bytes writes other moved. record {
          exchanged = subst (λ (k : ℕ). 1 ≤ count_by (λ x. x == k) o) (sym row) are.exchanged;
          sealed =
              moved_is s _ bytes moved
              ∙ ap (λ (items : List Item). sealed_block p run (chunk_slot p j i) a (text_of (item_length p.form) items)) items_are;
        };
      }

  -- what a turn adds
  pub took-noted : (a : ℕ) (e : Event) (s : Option Stop) (given : List ℕ) (chunks : List Item)
      → ((j i : ℕ) → e ≡ Write j i → (j < p.b) × (i < p.b) × AreChunks p (ds a) record_of (order p.b (turns a)) j chunks)
      → All Took_its (noted_of p run a e s given chunks)
  took-noted a (Claim j) s given chunks holds = All-nil Took_its
  took-noted a (Read j) s given chunks holds = All-push Took_its [] (read_of p a j s given) (All-nil Took_its) (took-read (read_of p a j s given) refl)
  took-noted a (Exchange j) s given chunks holds = All-nil Took_its
  took-noted a (Write j i) s given chunks holds =
      let there = holds j i refl in
      All-push Took_its [] (write_of p run a j i s chunks) (All-nil Took_its) (took-chunk a j i s chunks there.0 there.1 there.2)
  took-noted a Done s given chunks holds = All-nil Took_its
  took-noted a Idle s given chunks holds = All-nil Took_its

  -- the turns of the attempts go on
  module _ (now : ℕ → List ℕ) (n : ℕ) (on : (a : ℕ) → GoOn n (turns a) (now a)) where
    took-on : (entry : Carried) → Took_its entry → TookItsBlock p run ds record_of now entry
    took-on entry is =
        let a = entry.access.attempt in
        record {
          planned = is.planned;
          took = λ bytes writes other moved. block_goes_on p (ds a) record_of (turns a) n run entry.access bytes (now a) (on a) (is.took bytes writes other moved);
        }

    pub each-took_on : (log : List Carried) → All Took_its log → All (TookItsBlock p run ds record_of now) log
    each-took_on log all = All-weaker Took_its (TookItsBlock p run ds record_of now) took-on log all

-- where only the input was accessed, no write was to take a block
module _ {V : Type 0} (ds : ℕ → Draw) (record_of : ℕ → Item) (f : Parts V) where
  of_input : (entry : Carried) → IsOfInput f.plan entry → TookItsBlock f.plan f.run ds record_of (attempt_turns f) entry
  of_input entry of = record {
    planned = λ writes. subst (λ (r : Region). IsPlanned f.plan (at r entry.access.index)) (sym of.region) of.planned;
    took = λ bytes writes other moved. absurd (other of.region);
  }

  pub took-input : All (IsOfInput f.plan) f.recorder.log → EachTookItsBlock ds record_of f
  took-input all input = All-weaker (IsOfInput f.plan) (TookItsBlock f.plan f.run ds record_of (attempt_turns f)) of_input f.recorder.log all

-- where the owner's entry is added, and the log stays
module _ {V : Type 0} (ds : ℕ → Draw) (record_of : ℕ → Item) (f : Parts V) where
  pub took-begun : (attempt : ℕ) → EachTookItsBlock ds record_of f → EachTookItsBlock ds record_of (begun_as f attempt)
  took-begun attempt took input =
      each-took_on f.plan f.run ds record_of (attempt_turns f) (attempt_turns (begun_as f attempt)) 0
      (λ a. inl (turns-owner f.plan.workers f.history a)) f.recorder.log (took input)

  pub took-ended : (outcome : Outcome) → EachTookItsBlock ds record_of f → EachTookItsBlock ds record_of (ended_as f outcome)
  took-ended outcome took input =
      each-took_on f.plan f.run ds record_of (attempt_turns f) (attempt_turns (ended_as f outcome)) 0
      (λ a. inl (turns-owner f.plan.workers f.history a)) f.recorder.log (took input)

-- a turn that writes a chunk is that of a worker in the round of its bucket
record InRound (b g f j i : ℕ) : Type 0 where
  bucket : g ≡ j
  inside : j < b
  late : 3 ≤ f
  target : i < b

in_round : (b g f j i : ℕ) → f < b + 3 → event_of b g f ≡ Write j i → InRound b g f j i
in_round b g f j i few =
    event-by (λ (e : Event). e ≡ Write j i → InRound b g f j i) b g f
    (λ g_in phase e. absurd (cc)) (λ g_in phase e. absurd (cc)) (λ g_in phase e. absurd (cc))
    (λ g_in late e.
    let bucket : g ≡ j = cc in
    let target : f - 3 ≡ i = cc in
    record { bucket = bucket; inside = omega (arith, g_in, bucket); late = late; target = omega (arith, late, target, few) })
    (λ past e. absurd (cc)) (λ past e. absurd (cc))

-- the writes of a floor after a turn
module _ {V C : Type 0} (f new : Parts V) (n room : ℕ) (w : Working C) (faults : V → ℕ) (ds : ℕ → Draw) (worker : n ≢ f.plan.workers)
    (kept : new ≡ record f { recorder = new.recorder; stash = new.stash; counts = new.counts; counted = new.counted; stop = new.stop })
    (runs : w.run ≡ f.run) (number : w.number ≡ n)
    (idle : f.attempt ≡ None → new ≡ f) (later : f.stop ≢ None → new ≡ f)
    (noted : f.attempt ≢ None → f.stop ≡ None
    → new.recorder.log ≡ f.recorder.log ++ noted_of f.plan w.run (attempt_begun f) (next f.plan.b (turns_made f) n) new.stop new.recorder.last w.buffers.chunks)
    (state : IsAt faults ds f f.outcome f.attempt) (stands : f.attempt ≢ None → WorkerStands f w)
    (holds : HoldsChunks ds f w) (record_of : ℕ → Item) (before : EachTookItsBlock ds record_of f)
  where
    abbrev after : Parts V
    after = record new { history = f.history ++ n ∷ []; room = room }

    abbrev h : List ℕ
    h = turns_made f

    abbrev now : ℕ
    now = attempt_begun f

    abbrev e : Event
    e = next f.plan.b h n

    -- what the worker holds where the turn writes a chunk
    holds_for : HasInput f record_of → f.attempt ≢ None → f.stop ≡ None → (j i : ℕ) → e ≡ Write j i
        → (j < f.plan.b) × (i < f.plan.b) × AreChunks f.plan (ds now) record_of (order f.plan.b h) j w.buffers.chunks
    holds_for input some free j i is =
        let round = (stands some).round free in
        let in_it = in_round f.plan.b (held f.plan.b h n) (next_phase f.plan.b h n) j i (mod-lt (turns_of n h) (omega arith)) (sym (next-by_phase f.plan.b h n) ∙ is) in
        let phase : w.phase ≡ next_phase f.plan.b h n = round.phase ∙ ap (next_phase f.plan.b h) number in
        let late : 3 ≤ w.phase = (let l = in_it.late in omega (arith, l, phase)) in
        let bucket : w.bucket ≡ j =
        (let b = round.bucket (λ zero. absurd (omega (arith, late, zero))) in
        let own = ap (held f.plan.b h) number in let g = in_it.bucket in let less = in_it.inside in omega (arith, b, own, g, less)) in (
          in_it.inside,
          in_it.target,
          subst (λ (k : ℕ). AreChunks f.plan (ds now) record_of (order f.plan.b h) k w.buffers.chunks) bucket
              (holds record_of input some free late (let less = in_it.inside in omega (arith, bucket, less))),
        )

    on : (a : ℕ) → GoOn n (attempt_turns f a) (turns_at f.plan.workers (f.history ++ n ∷ []) a)
    on = turns-worker f.plan.workers f.history n worker

    abbrev Now : List Carried → Type 0
    Now log = All (TookItsBlock f.plan f.run ds record_of (turns_at f.plan.workers (f.history ++ n ∷ []))) log

    same_log : HasInput f record_of → Now f.recorder.log
    same_log input = each-took_on f.plan f.run ds record_of (attempt_turns f) (turns_at f.plan.workers (f.history ++ n ∷ [])) n on f.recorder.log (before input)

    more_log : HasInput f record_of → f.attempt ≢ None → f.stop ≡ None → Now new.recorder.log
    more_log input some free =
        let is = working faults ds f f.outcome f.attempt state some in
        let made = turns-made f is.1.some_begun in
        let log_is = noted some free ∙ ap (λ (k : Keys). f.recorder.log ++ noted_of f.plan k now e new.stop new.recorder.last w.buffers.chunks) runs in
        let there = took-noted f.plan f.run ds record_of (attempt_turns f) now e new.stop new.recorder.last w.buffers.chunks
        (λ j i event. let has = holds_for input some free j i event in
        (has.0, has.1, subst (λ (g : List ℕ). AreChunks f.plan (ds now) record_of (order f.plan.b g) j w.buffers.chunks) (sym made) has.2)) in
        subst Now (sym log_is)
        (each-took_on f.plan f.run ds record_of (attempt_turns f) (turns_at f.plan.workers (f.history ++ n ∷ [])) n on
        (f.recorder.log ++ noted_of f.plan f.run now e new.stop new.recorder.last w.buffers.chunks)
        (All-append (TookItsBlock f.plan f.run ds record_of (attempt_turns f)) f.recorder.log (noted_of f.plan f.run now e new.stop new.recorder.last w.buffers.chunks) (before input) there))

    by_state : (o : Option ℕ) (s : Option Stop) → f.attempt ≡ o → f.stop ≡ s → HasInput f record_of → Now new.recorder.log
    by_state None s none _ input = subst Now (sym (ap (λ (x : Parts V). x.recorder.log) (idle none))) (same_log input)
    by_state (Some x) (Some s) _ stopped input =
        subst Now (sym (ap (λ (x : Parts V). x.recorder.log) (later (λ none. none_or_some s (sym stopped ∙ none))))) (same_log input)
    by_state (Some x) None some goes input = more_log input (λ none. some_is x (sym some ∙ none)) goes
      where
        some_is : (x : ℕ) → Some x ≢ None
        some_is x none = cc none

    pub took_turn : EachTookItsBlock ds record_of after
    took_turn input =
        let was = input_was f new w.run now e w.buffers.chunks kept runs idle later noted record_of input in
        subst (λ (x : Parts V). All (TookItsBlock x.plan x.run ds record_of (turns_at x.plan.workers (f.history ++ n ∷ []))) new.recorder.log) (sym kept)
        (by_state f.attempt f.stop refl refl was)
