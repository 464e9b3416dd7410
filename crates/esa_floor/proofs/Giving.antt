-- Each read gave its block, entry after entry of the history.
use Rattle.std.proofs.Common.{◌≡◌, ◌≢◌, ℕ, zero, suc, ◌<◌, true, List, [], ◌∷◌, ◌++◌, length, get_or, All, Option, Some, None, refl, sym, ◌∙◌, subst, arith, inl, append-nil, length-append}
use Rattle.std.proofs.lemmas.List.Elements.{All-push, All-weaker}
use Rattle.esa_device.specs.Logs.{Carried}
use Rattle.esa_envelope.specs.declared.keys.Keys.{Keys}
use Rattle.esa_params.specs.Sizes.{Sizes}
use Rattle.esa_params.specs.Slots.{access_of, at}
use Rattle.esa_params.specs.declared.slot.Op.TheVariants.{Read as Reads, Write as Writes}
use Rattle.esa_params.specs.declared.slot.Region.TheVariants.{Input}
use Rattle.esa_report.specs.declared.item.Item.{Item}
use Rattle.esa_spec.specs.Draws.{Draw}
use Rattle.esa_spec.specs.Turns.{next}
use Rattle.esa_spec.specs.declared.event.Event.{Event}
use Rattle.esa_spec.specs.declared.event.Event.TheVariants.{Claim, Read, Exchange, Write, Done, Idle}
use Rattle.esa_vault.specs.Seals.{opens}
use Rattle.esa_floor.specs.Acts.{StopsBy}
use Rattle.esa_floor.specs.Logging.{noted_of, read_of, write_of}
use Rattle.esa_floor.specs.Parts.{Parts, begun_as, ended_as}
use Rattle.esa_floor.specs.Standing.{attempt_begun, turns_made}
use Rattle.esa_floor.specs.Written.{EachButLast, EachGaveItsBlock, GaveItsBlock, GaveItsOwn, IsOfInput, ReadsGave, ReadsGaveTheirBlocks, WritesInput, attempt_turns}
use Rattle.esa_floor.specs.declared.turn.Outcome.{Outcome}
use Rattle.esa_floor.specs.declared.turn.Stop.{Stop}
use Rattle.esa_floor.specs.declared.turn.Stop.TheVariants as stop
use Rattle.esa_floor.proofs.Lasting.{GoOn, exchanged_goes_on, turns-owner, turns-worker, turns_at}
use Rattle.esa_floor.proofs.Resting.{none_or_some}

module _ (Fact : Carried → Type 0) where
  -- what is so of each is so of each but the last
  pub each_but : (log : List Carried) → All Fact log → EachButLast Fact log
  each_but log each x entry inside = each x entry (omega (arith, inside))

  -- and with one access behind them
  get_or-before : (xs : List Carried) (last : Carried) (x : ℕ) (d : Carried) → x < length xs → get_or (xs ++ last ∷ []) x d ≡ get_or xs x d
  get_or-before [] last x d inside = absurd (omega arith)
  get_or-before (y ∷ xs) last zero d inside = refl
  get_or-before (y ∷ xs) last (suc x) d inside = get_or-before xs last x d (omega arith)

  pub each_before : (log : List Carried) (last : Carried) → All Fact log → EachButLast Fact (log ++ last ∷ [])
  each_before log last each x entry inside =
      let long = length-append log (last ∷ []) in
      let there : x < length log = omega (arith, long, inside) in
      subst Fact (sym (get_or-before log last x entry there)) (each x entry there)

  -- behind a log of each access another one
  pub each_append : (log more : List Carried) → All Fact log → EachButLast Fact more → EachButLast Fact (log ++ more)
  each_append [] more each rest x entry inside = rest x entry inside
  each_append (first ∷ log) more each rest zero entry inside = each zero entry (omega arith)
  each_append (first ∷ log) more each rest (suc x) entry inside =
      each_append log more (λ k d k_in. each (suc k) d (omega (arith, k_in))) rest x entry (omega (arith, inside))

  -- by any stop
  pub any_gave : (s : Option Stop) (log : List Carried) → All Fact log → ReadsGave Fact s log
  any_gave None log each = each
  any_gave (Some (stop.DeviceFault number)) log each = each_but log each
  any_gave (Some (stop.Tampered number)) log each = each_but log each
  any_gave (Some (stop.StashOverflow j)) log each = each

module _ (p : Sizes) (run : Keys) (ds : ℕ → Draw) (turns : ℕ → List ℕ) where
  abbrev pub Gave_its : Carried → Type 0
  Gave_its = GaveItsBlock p run ds turns

  -- a write gives nothing
  pub gave-write : (entry : Carried) → entry.access.op ≡ Writes → Gave_its entry
  gave-write entry writes = record {
    exchanged = λ reads. absurd (let both = sym writes ∙ reads in cc both);
    opened = λ reads. absurd (let both = sym writes ∙ reads in cc both);
  }

  -- a read of a block of the input that opens
  gave-envelopes : (a j : ℕ) (bytes : List ℕ) → opens p run (at Input j) a 0 bytes ≡ true
      → Gave_its (record { access = access_of p a Reads (at Input j); bytes = Some bytes })
  gave-envelopes a j bytes opened = record { exchanged = λ reads. tt; opened = λ reads. (bytes, refl, opened) }

  -- what a turn adds
  module _ (log : List Carried) (each : All Gave_its log) (keys : Keys) (a : ℕ) (chunks : List Item) (given : List ℕ) (before now : ℕ) where
    quiet : (s : Option Stop) → ReadsGave Gave_its s (log ++ [])
    quiet s = subst (ReadsGave Gave_its s) (sym (append-nil log)) (any_gave Gave_its s log each)

    gave_read : (j : ℕ) (s : Option Stop) → StopsBy p run a (Read j) given before now s → ReadsGave Gave_its s (log ++ read_of p a j s given ∷ [])
    gave_read j None stops = All-push Gave_its log (read_of p a j None given) each (gave-envelopes a j given stops.0)
    gave_read j (Some (stop.DeviceFault number)) stops = each_before Gave_its log (read_of p a j (Some (stop.DeviceFault number)) given) each
    gave_read j (Some (stop.Tampered number)) stops = each_before Gave_its log (read_of p a j (Some (stop.Tampered number)) given) each
    gave_read j (Some (stop.StashOverflow k)) stops = absurd stops

    pub gave_noted : (e : Event) (s : Option Stop) → StopsBy p run a e given before now s → ReadsGave Gave_its s (log ++ noted_of p keys a e s given chunks)
    gave_noted (Claim j) s stops = quiet s
    gave_noted (Read j) s stops = gave_read j s stops
    gave_noted (Exchange j) s stops = quiet s
    gave_noted (Write j i) s stops =
        any_gave Gave_its s (log ++ write_of p keys a j i s chunks ∷ [])
        (All-push Gave_its log (write_of p keys a j i s chunks) each (gave-write (write_of p keys a j i s chunks) refl))
    gave_noted Done s stops = quiet s
    gave_noted Idle s stops = quiet s

  -- the turns of the attempts go on
  module _ (now : ℕ → List ℕ) (n : ℕ) (on : (a : ℕ) → GoOn n (turns a) (now a)) where
    gave-on : (entry : Carried) → Gave_its entry → GaveItsBlock p run ds now entry
    gave-on entry is =
        let x = entry.access in
        let goes = λ (reads : x.op ≡ Reads). exchanged_goes_on p (ds x.attempt) (turns x.attempt) n x.region x.index (now x.attempt) (on x.attempt) (is.exchanged reads) in
        record {
          exchanged = λ reads. (goes reads).0;
          opened = λ reads.
              let given = is.opened reads in
              (given.0, given.1, subst (λ (k : ℕ). opens p run (at x.region x.index) x.attempt k given.0 ≡ true) (goes reads).1 given.2);
        }

    pub each-gave_on : (log : List Carried) → All Gave_its log → All (GaveItsBlock p run ds now) log
    each-gave_on log each = All-weaker Gave_its (GaveItsBlock p run ds now) gave-on log each

    pub but-gave_on : (log : List Carried) → EachButLast Gave_its log → EachButLast (GaveItsBlock p run ds now) log
    but-gave_on log each x entry inside = gave-on (get_or log x entry) (each x entry inside)

    pub reads-gave_on : (s : Option Stop) (log : List Carried) → ReadsGave Gave_its s log → ReadsGave (GaveItsBlock p run ds now) s log
    reads-gave_on None log gave = each-gave_on log gave
    reads-gave_on (Some (stop.DeviceFault number)) log gave = but-gave_on log gave
    reads-gave_on (Some (stop.Tampered number)) log gave = but-gave_on log gave
    reads-gave_on (Some (stop.StashOverflow j)) log gave = each-gave_on log gave

pub input_written : (p : Sizes) (log : List Carried) → All (WritesInput p) log → All (IsOfInput p) log
input_written p log all = All-weaker (WritesInput p) (IsOfInput p) (λ entry writes. writes.of) log all

-- where only the input was written, and where the owner's entry is added and the log stays
module _ {V : Type 0} (ds : ℕ → Draw) (f : Parts V) where
  -- what is written gives nothing
  pub gave-input : All (WritesInput f.plan) f.recorder.log → EachGaveItsBlock ds f
  gave-input all =
      All-weaker (WritesInput f.plan) (GaveItsOwn ds f) (λ entry of. gave-write f.plan f.run ds (attempt_turns f) entry of.writes) f.recorder.log all

  same_turns : (a : ℕ) → GoOn 0 (attempt_turns f a) (turns_at f.plan.workers (f.history ++ f.plan.workers ∷ []) a)
  same_turns a = inl (turns-owner f.plan.workers f.history a)

  pub gave-begun : (attempt : ℕ) → EachGaveItsBlock ds f → EachGaveItsBlock ds (begun_as f attempt)
  gave-begun attempt gave =
      each-gave_on f.plan f.run ds (attempt_turns f) (attempt_turns (begun_as f attempt)) 0 same_turns f.recorder.log gave

  pub gave-ended : (outcome : Outcome) (entry : Carried) → GaveItsOwn ds f entry → GaveItsOwn ds (ended_as f outcome) entry
  gave-ended outcome = gave-on f.plan f.run ds (attempt_turns f) (attempt_turns (ended_as f outcome)) 0 same_turns

-- the reads of a floor after a turn
module _ {V : Type 0} (f new : Parts V) (n room : ℕ) (keys : Keys) (chunks : List Item) (faults : V → ℕ) (ds : ℕ → Draw) (worker : n ≢ f.plan.workers)
    (kept : new ≡ record f { recorder = new.recorder; stash = new.stash; counts = new.counts; counted = new.counted; stop = new.stop })
    (idle : f.attempt ≡ None → new ≡ f) (later : f.stop ≢ None → new ≡ f)
    (noted : f.attempt ≢ None → f.stop ≡ None
    → new.recorder.log ≡ f.recorder.log ++ noted_of f.plan keys (attempt_begun f) (next f.plan.b (turns_made f) n) new.stop new.recorder.last chunks)
    (stops : f.attempt ≢ None → f.stop ≡ None
    → StopsBy f.plan f.run (attempt_begun f) (next f.plan.b (turns_made f) n) new.recorder.last (faults f.recorder.device) (faults new.recorder.device) new.stop)
  where
    abbrev e : Event
    e = next f.plan.b (turns_made f) n

    abbrev turns_now : ℕ → List ℕ
    turns_now = turns_at f.plan.workers (f.history ++ n ∷ [])

    abbrev Now : Option Stop → List Carried → Type 0
    Now s log = ReadsGave (GaveItsBlock f.plan f.run ds turns_now) s log

    goes_on : (s : Option Stop) (log : List Carried) → ReadsGave (GaveItsOwn ds f) s log → Now s log
    goes_on = reads-gave_on f.plan f.run ds (attempt_turns f) turns_now n (turns-worker f.plan.workers f.history n worker)

    same : new ≡ f → ReadsGaveTheirBlocks ds f → Now new.stop new.recorder.log
    same is before = subst (λ (x : Parts V). Now x.stop x.recorder.log) (sym is) (goes_on f.stop f.recorder.log before)

    by_state : (o : Option ℕ) (s : Option Stop) → f.attempt ≡ o → f.stop ≡ s → ReadsGaveTheirBlocks ds f → Now new.stop new.recorder.log
    by_state None s none _ before = same (idle none) before
    by_state (Some x) (Some s) _ stopped before = same (later (λ none. none_or_some s (sym stopped ∙ none))) before
    by_state (Some x) None some free before =
        let begun : f.attempt ≢ None = λ none. some_is x (sym some ∙ none) in
        let each = subst (λ (s : Option Stop). ReadsGave (GaveItsOwn ds f) s f.recorder.log) free before in
        subst (Now new.stop) (sym (noted begun free))
        (goes_on new.stop (f.recorder.log ++ noted_of f.plan keys (attempt_begun f) e new.stop new.recorder.last chunks)
        (gave_noted f.plan f.run ds (attempt_turns f) f.recorder.log each keys (attempt_begun f) chunks new.recorder.last
        (faults f.recorder.device) (faults new.recorder.device) e new.stop (stops begun free)))
      where
        some_is : (x : ℕ) → Some x ≢ None
        some_is x none = cc none

    pub gave_turn : ReadsGaveTheirBlocks ds f → ReadsGaveTheirBlocks ds (record new { history = f.history ++ n ∷ []; room = room })
    gave_turn before =
        subst (λ (x : Parts V). ReadsGave (GaveItsBlock x.plan x.run ds (turns_at x.plan.workers (f.history ++ n ∷ []))) new.stop new.recorder.log) (sym kept)
        (by_state f.attempt f.stop refl refl before)
