-- What the load of a shuffle was given, what became of it, and what comes out.
use Rattle.std.proofs.Common.{◌≡◌, ◌≢◌, inl, inr, ℕ, suc, ◌+◌, true, ◌*◌, ◌<◌, List, [], ◌∷◌, ◌++◌, length, map, take, get_or, Option, Some, None, Result, Err, refl, sym, ap, subst, ◌∙◌, append-nil, append_assoc, length-append, arith}
use Rattle.std.specs.List.{concat}
use Rattle.std.specs.Prelude.{All}
use Rattle.std.proofs.lemmas.List.Elements.{All-append, All-cons, All-head, All-map, All-nil, All-push, All-tail, All-weaker}
use Rattle.esa_analyser.specs.Opened.{database_of}
use Rattle.esa_batcher.specs.InFile.{part_heard, records_of}
use Rattle.esa_coins.specs.AnyCoins.{any_plan}
use Rattle.esa_coins.specs.AnyLaws as laws
use Rattle.esa_coins.specs.declared.any.AnyCoins.{AnyCoins}
use Rattle.esa_crowds.specs.Entries.{entries}
use Rattle.esa_crowds.specs.Kept.{drops_in, sent_from}
use Rattle.esa_crowds.specs.Rows.{kept_at}
use Rattle.esa_crowds.proofs.SentLaws.{sent-forwarded}
use Rattle.esa_device.specs.Logs.{Carried, IsBacked, IsFaithful, NoneFailed, OnlyLastFailed, last_given}
use Rattle.esa_device.specs.Recording.{Recorded}
use Rattle.esa_device.proofs.LogLaws.{faithful-front}
use Rattle.esa_envelope.specs.declared.keys.Keys.{Keys}
use Rattle.esa_ending.specs.Seen.{Seen, turns_in as turns_at}
use Rattle.esa_floor.specs.Written.{EachButLast, GaveItsBlock, GaveWhatOpens, TookItsBlock}
use Rattle.esa_floor.specs.declared.turn.Outcome.{Outcome}
use Rattle.esa_floor.specs.declared.turn.Outcome.TheVariants as outcome
use Rattle.esa_floor.proofs.Failing.{Moved, last_failed, some_bytes}
use Rattle.esa_floor.proofs.Giving.{each_append, each_before}
use Rattle.esa_header.specs.Header.{header_length}
use Rattle.esa_header.specs.Pieces.{HaveLength, pieces}
use Rattle.esa_header.proofs.PieceLaws.{length-concat, pieces-concat}
use Rattle.esa_job.specs.declared.field.JobField.TheVariants as field
use Rattle.esa_laws.proofs.HistoryLaws.{lists-first}
use Rattle.esa_laws.proofs.SizeLaws.{first-all, first-zero}
use Rattle.esa_lists.specs.Files.{Files}
use Rattle.esa_outside.specs.Heard.{Event}
use Rattle.esa_parallel.specs.Crews.{uncut_of}
use Rattle.esa_params.specs.Form.{envelope_length, inner_length}
use Rattle.esa_params.specs.Sizes.{ArePlanned, Sizes, below, first, size}
use Rattle.esa_params.specs.Slots.{at}
use Rattle.esa_params.specs.declared.form.Form.{Form}
use Rattle.esa_params.specs.declared.slot.Access.{Access}
use Rattle.esa_params.specs.declared.slot.Op.TheVariants.{Read, Write as Writes}
use Rattle.esa_params.specs.declared.slot.Region.{Region}
use Rattle.esa_params.specs.declared.slot.Region.TheVariants.{Output}
use Rattle.esa_refusal.specs.declared.status.DeviceAt.TheVariants.{Lay}
use Rattle.esa_refusal.specs.declared.status.Status.TheVariants as status
use Rattle.esa_scans.specs.Forwarded.{sent_of}
use Rattle.esa_scans.specs.Scans.{AreOpen, FailsAt, GaveOpen, carried_from, items_from, reads}
use Rattle.esa_scans.proofs.FaithfulLaws.{scan-reads}
use Rattle.esa_shuffle.specs.Loading.{HasGiven}
use Rattle.esa_shuffle.specs.Records.{IsShuffledFrom, IsWrittenFrom, ReadsOf}
use Rattle.esa_shuffle.specs.Runs.{IsShuffled}
use Rattle.esa_shuffle.proofs.Giving.{reads_weaker}
use Rattle.esa_shuffle.proofs.Inputs.{written_nothing, written_read}
use Rattle.esa_shuffle.proofs.Output.{batch_comes_out}
use Rattle.esa_shuffling.specs.Drawn.{draws_of}
use Rattle.esa_spec.specs.Draws.{Draw, IsDrawn}
use Rattle.esa_spec.specs.Fronts.{items_at}
use Rattle.esa_spec.specs.Histories.{lists}
use Rattle.esa_spec.specs.declared.event.Verdict.{Verdict}
use Rattle.esa_spec.specs.Traces.{good_attempt, read_output, scan}
use Rattle.esa_spec.specs.Turns.{order}
use Rattle.esa_vault.specs.Seals.{opens}
use Rattle.esa_vault.specs.Traffic.{given_by}
use Rattle.esa_vault.specs.declared.fault.VaultFault.{VaultFault}
use Rattle.esa_vault.specs.declared.fault.VaultFault.TheVariants.{Device, Tampered}
use Rattle.esa_command.specs.Asked.{number_of}
use Rattle.esa_command.specs.Stand.{Stand}
use Rattle.esa_command.specs.Taking.{name_of}
use Rattle.esa_running.specs.ByCrew.{IsByCrew}
use Rattle.esa_running.specs.ComingOut.{batch_told, batch_part, batch_record, IsLoaded, Became, AreOfBatch, FailedByStatus, IsMadeOf, kept_of}
use Rattle.esa_running.specs.Forwarding.{Forwards, BreaksOff}
use Rattle.esa_taking.specs.Run.{Asked}
use Rattle.esa_running.specs.RunOwes.{EndsShuffle, IsRecorded, fault_status}
use Rattle.esa_taking.specs.Wanted.{sizes_in, turns_by, block_keys, outer_keys, drop_key}
use Rattle.esa_running.proofs.SentLaws.{forwarded_whole, same_number}

-- ---- the draws

-- what coins draw in an attempt of their plan is a draw for it
pub drawn_for : (coins : AnyCoins) (a : ℕ) → a < (any_plan coins).attempts → IsDrawn (any_plan coins) (draws_of coins a)
drawn_for coins a planned = record {
  target_for_each = λ j inside. laws.target_for_each coins a j planned inside;
  targets_below = λ j inside. laws.targets_below coins a j planned inside;
  orders_permute = λ i inside. laws.orders_permute coins a i planned inside;
}

-- ---- what the load was given

module _ (asked : Asked) (told : Option Files) (reference : ℕ) where
  part_is : (first : ℕ) (bytes : List ℕ)
      → part_heard (record { files = told; name = name_of asked.job field.Input; start = header_length asked.batch.form; size = envelope_length asked.batch.form; count = asked.batch.count; reference = reference }) first bytes
      ≡ batch_part asked first bytes
  part_is first [] = refl
  part_is first (byte ∷ bytes) = refl

  -- a batch file with the name and the numbers of what is asked for is its batch
  pub given_as : (p : Sizes) (name : List ℕ) (start size count : ℕ) (before after : List Event) (all : Type 0) (Of : List ℕ → Type 0)
      → name ≡ name_of asked.job field.Input → start ≡ header_length asked.batch.form → size ≡ envelope_length asked.batch.form → count ≡ asked.batch.count
      → HasGiven p (records_of told name start size count) (part_heard (record { files = told; name = name; start = start; size = size; count = count; reference = reference })) before after all Of
      → HasGiven p (batch_told asked told) (batch_part asked) before after all Of
  given_as p name start size count before after all Of name_is start_is size_is count_is gave =
      subst (λ (part : ℕ → List ℕ → List Event). HasGiven p (batch_told asked told) part before after all Of) (λ i first bytes. part_is first bytes i)
      (subst (λ (x : List ℕ × ℕ × ℕ × ℕ). HasGiven p (records_of told x.0 x.1 x.2 x.3) (part_heard (record { files = told; name = x.0; start = x.1; size = x.2; count = x.3; reference = reference })) before after all Of)
      (λ i. (name_is i, start_is i, size_is i, count_is i)) gave)

-- the owner's entry alone is no attempt's
not_alone : (owner : ℕ) (history : List ℕ) → lists owner history ≢ [] → history ≢ owner ∷ []
not_alone owner history some alone = some (ap (lists owner) alone ∙ lists-first owner [] refl)

module _ (asked : Asked) (taken acted : Stand Files) (history : List ℕ) (log : List Carried) (o : Outcome)
    (gave : HasGiven (sizes_in asked) (batch_told asked taken.told) (batch_part asked) taken.heard acted.heard (history ≢ (sizes_in asked).workers ∷ [])
    (IsShuffledFrom (sizes_in asked) asked.draws (turns_by asked history) (outer_keys asked) (block_keys asked) history log o))
  where
    pub loaded : IsLoaded asked taken acted history gave.given
    loaded = record {
      count = gave.load.count;
      few = gave.load.few;
      bytes = gave.load.bytes;
      as_told = gave.load.as_told;
      heard = gave.load.heard;
      whole = λ begun. gave.load.whole (not_alone (sizes_in asked).workers history begun);
    }

    none_good : (p : Sizes) (ds : ℕ → Draw) (a : ℕ) (made : List (List ℕ)) → made ≡ [] → good_attempt p ds 0 made ≡ Some a → ⊥
    none_good p ds a made none good = let never : None ≡ Some a = sym (ap (good_attempt p ds 0) none) ∙ good in cc never

    -- a shuffle that succeeded had an attempt
    all_given : (seen : Seen) (a : ℕ) → ArePlanned (sizes_in asked) → seen.history ≡ history → IsShuffled (sizes_in asked) asked.draws (turns_by asked seen.history) seen a
        → first (sizes_in asked) gave.load.count ≡ asked.batch.count
    all_given seen a planned is s =
        let p = sizes_in asked in
        let good : good_attempt p asked.draws 0 (lists p.workers history) ≡ Some a = subst (λ h. good_attempt p asked.draws 0 (lists p.workers h) ≡ Some a) is s.good in
        ap (first p) (gave.load.whole (not_alone p.workers history (λ none. none_good p asked.draws a (lists p.workers history) none good)))
        ∙ first-all p planned.parameters.b_least

    pub made_of : (seen : Seen) (last : List ℕ) (failures : List Verdict) → ArePlanned (sizes_in asked) → seen.history ≡ history → EndsShuffle asked seen last failures o
        → IsByCrew asked history (uncut_of o) → IsMadeOf asked history log o gave.given
    made_of seen last failures planned is ends crew = record {
      count = first (sizes_in asked) gave.load.count;
      whole = gave.load.bytes;
      all = λ a succeeded. all_given seen a planned is (subst (EndsShuffle asked seen last failures) succeeded ends).run.outcome;
      shuffled = gave.became;
      crew = crew;
    }

-- where no load was begun, it was given nothing
pub none_loaded : (asked : Asked) (taken : Stand Files) → IsLoaded asked taken taken [] []
none_loaded asked taken =
    let none = first-zero (sizes_in asked) in
    record {
      count = 0;
      few = omega arith;
      bytes = omega (arith, ap (λ n. envelope_length asked.batch.form * n) none);
      as_told = λ records told. ap (λ n. concat (take n records)) (sym none);
      heard = sym (append-nil taken.heard);
      whole = λ begun. absurd (begun refl);
    }

pub none_became : (asked : Asked) (log : List Carried) → log ≡ [] → Became asked [] [] log (status.DeviceFault Lay)
none_became asked log none = record {
  took = λ faithful.
      let Took = TookItsBlock (sizes_in asked) (block_keys asked) asked.draws (batch_record asked []) (turns_at (lists (sizes_in asked).workers [])) in
      subst (All Took) (sym none) (All-nil Took);
  failed = subst NoneFailed (sym none) (All-nil Moved);
  written = subst (IsWrittenFrom (sizes_in asked) (block_keys asked) []) (sym none) (written_nothing (sizes_in asked) (block_keys asked));
  gave =
      subst (EachButLast (GaveWhatOpens (sizes_in asked) (block_keys asked) asked.draws (turns_at (lists (sizes_in asked).workers [])))) (sym none)
      (λ x entry inside. absurd (omega (arith, inside)));
}

-- no access is in no log
none_in : (before after : List Carried) (entry : Carried) → [] ≡ before ++ entry ∷ after → ⊥
none_in before after entry is = let long = ap length is in let parts = length-append before (entry ∷ after) in omega (arith, long, parts)

pub none_recorded : {V : Type 0} (told : V → Option (List (List ℕ))) (p : Sizes) (now : Recorded V) → now.trace ≡ [] → now.log ≡ [] → now.last ≡ [] → IsRecorded told p [] now
none_recorded told p now no_trace no_log no_last = record {
  plan = λ some. absurd (some refl);
  logged = ap (map (λ (entry : Carried). entry.access)) no_log ∙ sym no_trace;
  last = no_last ∙ sym (ap last_given no_log);
  backed = subst (IsBacked (Some p) (told now.device)) (sym no_log)
      (λ blocks tells. ((λ number bytes took. absurd (let never = took.1 in cc never)), (λ before after entry given written is gave took. absurd (none_in before after entry is))));
}

-- ---- what became of it

abbrev IsReading : Carried → Type 0
IsReading entry = entry.access.op ≡ Read

-- a log goes on with reads
abbrev pub ReadsOn : List Carried → List Carried → Type 0
ReadsOn old new = (more : List Carried) × (new ≡ old ++ more) × All IsReading more

-- entries are reads where their accesses are
only_reads : (passed : List Carried) → All (λ (access : Access). access.op ≡ Read) (map (λ (entry : Carried). entry.access) passed) → All IsReading passed
only_reads [] read = All-nil IsReading
only_reads (entry ∷ passed) read =
    All-cons IsReading entry passed
    (All-head (λ (access : Access). access.op ≡ Read) entry.access (map (λ (entry : Carried). entry.access) passed) read)
    (only_reads passed (All-tail (λ (access : Access). access.op ≡ Read) entry.access (map (λ (entry : Carried). entry.access) passed) read))

carried_reads : (p : Sizes) (a j : ℕ) (given : List (List ℕ)) → All IsReading (carried_from p a j given)
carried_reads p a j [] = All-nil IsReading
carried_reads p a j (bytes ∷ given) = All-cons IsReading (record { access = read_output p a j; bytes = Some bytes }) (carried_from p a (suc j) given) refl (carried_reads p a (suc j) given)

module _ {V : Type 0} (told : V → Option (List (List ℕ))) (faults : V → ℕ) (asked : Asked) (a : ℕ) (old new : Recorded V) where
  pub forwarded_on : (envelopes : List (List ℕ)) → Forwards told faults asked a old new envelopes → ReadsOn old.log new.log
  forwarded_on envelopes f =
      let p = sizes_in asked in
      let done = f.forwarded in
      (carried_from p a 0 done.first ++ carried_from p a 0 done.second, done.log, All-append IsReading (carried_from p a 0 done.first) (carried_from p a 0 done.second) (carried_reads p a 0 done.first) (carried_reads p a 0 done.second))

  fails_on : {T : Type 0} (fault : VaultFault) (before : List Access) (j : ℕ) → All (λ (access : Access). access.op ≡ Read) before
      → FailsAt {V = V} {T = T} told faults (sizes_in asked) (block_keys asked) a before j old new (Err fault) → ReadsOn old.log new.log
  fails_on {T} fault before j read failed =
      let p = sizes_in asked in
      let ends = failed.log in
      let result : Result T VaultFault = Err fault in
      let last : Carried = record { access = read_output p a j; bytes = given_by result new.last } in
      let these : All (λ (access : Access). access.op ≡ Read) (before ++ reads p a j) =
      All-append (λ (access : Access). access.op ≡ Read) before (reads p a j) read (All-map (λ (access : Access). access.op ≡ Read) (read_output p a) (below j) (λ k d inside. refl)) in
      let passed : All IsReading ends.passed = only_reads ends.passed (subst (All (λ (access : Access). access.op ≡ Read)) (sym ends.accesses) these) in
      (ends.passed ++ last ∷ [], ends.log, All-append IsReading ends.passed (last ∷ []) passed (All-cons IsReading last [] refl (All-nil IsReading)))

  pub broken_on : {T : Type 0} (fault : VaultFault) → BreaksOff {V = V} {T = T} told faults asked a old new (Err fault) → ReadsOn old.log new.log
  broken_on {T} fault breaks = elim breaks.1 [
    | inl f ↦ fails_on {T = T} fault [] breaks.0 (All-nil (λ (access : Access). access.op ≡ Read)) f
    | inr f ↦ fails_on {T = T} fault (scan (sizes_in asked) a) breaks.0 (scan-reads (sizes_in asked) a) f
  ]

-- none of the reads of the scans failed but the last one, where the device failed
carried_moved : (p : Sizes) (a j : ℕ) (given : List (List ℕ)) → NoneFailed (carried_from p a j given)
carried_moved p a j [] = All-nil Moved
carried_moved p a j (bytes ∷ given) = All-cons Moved (record { access = read_output p a j; bytes = Some bytes }) (carried_from p a (suc j) given) (some_bytes bytes) (carried_moved p a (suc j) given)

gave_moved : (p : Sizes) (keys : Keys) (a : ℕ) (entry : Carried) → GaveOpen p keys a entry → Moved entry
gave_moved p keys a entry gave = λ none. some_bytes gave.0 (sym gave.1 ∙ none)

module _ {V : Type 0} (told : V → Option (List (List ℕ))) (faults : V → ℕ) (asked : Asked) (a : ℕ) (old new : Recorded V) (before : NoneFailed old.log) where
  pub forwarded_failed : (envelopes : List (List ℕ)) → Forwards told faults asked a old new envelopes → NoneFailed new.log
  forwarded_failed envelopes f =
      let p = sizes_in asked in
      let done = f.forwarded in
      subst NoneFailed (sym done.log)
      (All-append Moved old.log (carried_from p a 0 done.first ++ carried_from p a 0 done.second) before
      (All-append Moved (carried_from p a 0 done.first) (carried_from p a 0 done.second) (carried_moved p a 0 done.first) (carried_moved p a 0 done.second)))

  fails_failed : {T : Type 0} (fault : VaultFault) (earlier : List Access) (j : ℕ)
      → FailsAt {V = V} {T = T} told faults (sizes_in asked) (block_keys asked) a earlier j old new (Err fault) → FailedByStatus (fault_status fault) new.log
  fails_failed (Device number) earlier j failed =
      let p = sizes_in asked in
      let ends = failed.log in
      let passed = All-weaker (GaveOpen p (block_keys asked) a) Moved (gave_moved p (block_keys asked) a) ends.passed ends.opened in
      subst OnlyLastFailed (append_assoc old.log ends.passed (record { access = read_output p a j; bytes = None } ∷ []) ∙ sym ends.log)
      (last_failed (old.log ++ ends.passed) (read_output p a j) (All-append Moved old.log ends.passed before passed))
  fails_failed (Tampered number) earlier j failed =
      let p = sizes_in asked in
      let ends = failed.log in
      let last : Carried = record { access = read_output p a j; bytes = Some new.last } in
      let passed = All-weaker (GaveOpen p (block_keys asked) a) Moved (gave_moved p (block_keys asked) a) ends.passed ends.opened in
      subst NoneFailed (sym ends.log)
      (All-append Moved old.log (ends.passed ++ last ∷ []) before (All-push Moved ends.passed last passed (some_bytes new.last)))

  pub broken_failed : {T : Type 0} (fault : VaultFault) → BreaksOff {V = V} {T = T} told faults asked a old new (Err fault) → FailedByStatus (fault_status fault) new.log
  broken_failed {T} fault breaks = elim breaks.1 [
    | inl f ↦ fails_failed {T = T} fault [] breaks.0 f
    | inr f ↦ fails_failed {T = T} fault (scan (sizes_in asked) a) breaks.0 f
  ]

-- what its reads gave opens
abbrev pub Opens : Asked → (history : List ℕ) → Carried → Type 0
Opens asked history = GaveWhatOpens (sizes_in asked) (block_keys asked) asked.draws (turns_at (lists (sizes_in asked).workers history))

pub made_opens : (asked : Asked) (given history : List ℕ) (log : List Carried) (o : Outcome) → IsMadeOf asked history log o given → ReadsOf (Opens asked history) o log
made_opens asked given history log o m =
    reads_weaker (GaveItsBlock (sizes_in asked) (block_keys asked) asked.draws (turns_at (lists (sizes_in asked).workers history))) (Opens asked history)
    (λ entry gave. gave.opened) o log m.shuffled.gave

-- so does what the scans were given
module _ (asked : Asked) (history : List ℕ) (a : ℕ) where
  abbrev IsOutput : Access → Type 0
  IsOutput access = (access.region ≡ Output) × (access.attempt ≡ a)

  carried_opens : (j : ℕ) (blocks : List (List ℕ)) → AreOpen (sizes_in asked) (block_keys asked) a j blocks → All (Opens asked history) (carried_from (sizes_in asked) a j blocks)
  carried_opens j [] open_all = All-nil (Opens asked history)
  carried_opens j (bytes ∷ blocks) open_all =
      All-cons (Opens asked history) (record { access = read_output (sizes_in asked) a j; bytes = Some bytes }) (carried_from (sizes_in asked) a (suc j) blocks)
      (λ reading. (bytes, refl, open_all.0)) (carried_opens (suc j) blocks open_all.1)

  one_opens : (entry : Carried) → GaveOpen (sizes_in asked) (block_keys asked) a entry → IsOutput entry.access → Opens asked history entry
  one_opens entry gave of = λ reading.
      let p = sizes_in asked in
      let x = entry.access in
      let turns = turns_at (lists p.workers history) x.attempt in (
        gave.0,
        gave.1,
        subst (λ (r : Region). opens p (block_keys asked) (at r x.index) x.attempt (items_at p (asked.draws x.attempt) (order p.b turns) r x.index) gave.0 ≡ true) (sym of.0)
            (subst (λ (n : ℕ). opens p (block_keys asked) (at Output x.index) n (size p x.index) gave.0 ≡ true) (sym of.1) gave.2),
      )

  passed_opens : (passed : List Carried) → All (GaveOpen (sizes_in asked) (block_keys asked) a) passed → All IsOutput (map (λ (entry : Carried). entry.access) passed)
      → All (Opens asked history) passed
  passed_opens [] gave of = All-nil (Opens asked history)
  passed_opens (entry ∷ passed) gave of =
      let accesses = map (λ (entry : Carried). entry.access) passed in
      All-cons (Opens asked history) entry passed
      (one_opens entry (All-head (GaveOpen (sizes_in asked) (block_keys asked) a) entry passed gave) (All-head IsOutput entry.access accesses of))
      (passed_opens passed (All-tail (GaveOpen (sizes_in asked) (block_keys asked) a) entry passed gave) (All-tail IsOutput entry.access accesses of))

  outputs : (n : ℕ) → All IsOutput (map (read_output (sizes_in asked) a) (below n))
  outputs n = All-map IsOutput (read_output (sizes_in asked) a) (below n) (λ k d inside. (refl, refl))

  module _ {V : Type 0} (told : V → Option (List (List ℕ))) (faults : V → ℕ) (old new : Recorded V) (before : All (Opens asked history) old.log) where
    pub forwarded_opens : (envelopes : List (List ℕ)) → Forwards told faults asked a old new envelopes → All (Opens asked history) new.log
    forwarded_opens envelopes f =
        let p = sizes_in asked in
        let done = f.forwarded in
        subst (All (Opens asked history)) (sym done.log)
        (All-append (Opens asked history) old.log (carried_from p a 0 done.first ++ carried_from p a 0 done.second) before
        (All-append (Opens asked history) (carried_from p a 0 done.first) (carried_from p a 0 done.second)
        (carried_opens 0 done.first done.opened_first) (carried_opens 0 done.second done.opened_second)))

    fails_open : {T : Type 0} (fault : VaultFault) (earlier : List Access) (j : ℕ) → All IsOutput earlier
        → FailsAt {V = V} {T = T} told faults (sizes_in asked) (block_keys asked) a earlier j old new (Err fault) → EachButLast (Opens asked history) new.log
    fails_open {T} fault earlier j of failed =
        let p = sizes_in asked in
        let ends = failed.log in
        let result : Result T VaultFault = Err fault in
        let last : Carried = record { access = read_output p a j; bytes = given_by result new.last } in
        let these = All-append IsOutput earlier (reads p a j) of (outputs j) in
        let passed = passed_opens ends.passed ends.opened (subst (All IsOutput) (sym ends.accesses) these) in
        subst (EachButLast (Opens asked history)) (sym ends.log)
        (each_append (Opens asked history) old.log (ends.passed ++ last ∷ []) before (each_before (Opens asked history) ends.passed last passed))

    pub broken_opens : {T : Type 0} (fault : VaultFault) → BreaksOff {V = V} {T = T} told faults asked a old new (Err fault) → EachButLast (Opens asked history) new.log
    broken_opens {T} fault breaks = elim breaks.1 [
      | inl f ↦ fails_open {T = T} fault [] breaks.0 (All-nil IsOutput) f
      | inr f ↦ fails_open {T = T} fault (scan (sizes_in asked) a) breaks.0 (outputs (sizes_in asked).b) f
    ]

module _ (asked : Asked) (given history : List ℕ) where
  not_writing : (entry : Carried) → IsReading entry → entry.access.op ≡ Writes → ⊥
  not_writing entry reads writes = let never : Read ≡ Writes = sym reads ∙ writes in cc never

  abbrev Took : Carried → Type 0
  Took = TookItsBlock (sizes_in asked) (block_keys asked) asked.draws (batch_record asked given) (turns_at (lists (sizes_in asked).workers history))

  reads_took : (more : List Carried) → All IsReading more → All Took more
  reads_took more read = λ k d inside.
      let reads = read k d inside in
      record {
        planned = λ writes. absurd (not_writing (get_or more k d) reads writes);
        took = λ bytes writes region is. absurd (not_writing (get_or more k d) reads writes);
      }

  module _ (old new : List Carried) (on : ReadsOn old new) (o : Outcome) (m : IsMadeOf asked history old o given) where
    took_on : IsFaithful (sizes_in asked) new → All Took new
    took_on faithful =
        let before = faithful-front (sizes_in asked) old on.0 (subst (IsFaithful (sizes_in asked)) on.1 faithful) in
        subst (All Took) (sym on.1) (All-append Took old on.0 (m.shuffled.took before) (reads_took on.0 on.2))

    written_on : IsWrittenFrom (sizes_in asked) (block_keys asked) given new
    written_on = subst (IsWrittenFrom (sizes_in asked) (block_keys asked) given) (sym on.1) (written_read (sizes_in asked) (block_keys asked) given old on.0 on.2 m.shuffled.written)

    -- after the scans of an output
    pub became_well : NoneFailed new → All (Opens asked history) new → Became asked given history new status.Ok
    became_well none opens = record { took = took_on; failed = none; written = written_on; gave = opens }

    pub became_broken : (fault : VaultFault) → FailedByStatus (fault_status fault) new → EachButLast (Opens asked history) new → Became asked given history new (fault_status fault)
    became_broken (Device number) failed opens = record { took = took_on; failed = failed; written = written_on; gave = opens }
    became_broken (Tampered number) failed opens = record { took = took_on; failed = failed; written = written_on; gave = opens }

-- ---- what comes out

-- whole inner envelopes that are the same bytes, joined, are the same
same_envelopes : (form : Form) (xs ys : List (List ℕ)) → HaveLength (inner_length form) xs → HaveLength (inner_length form) ys → concat xs ≡ concat ys → xs ≡ ys
same_envelopes form xs ys one other joined =
    let number : length xs ≡ length ys =
    same_number form (length xs) (length ys) (sym (length-concat (inner_length form) xs one) ∙ ap length joined ∙ length-concat (inner_length form) ys other) in
    sym (pieces-concat (inner_length form) xs one)
    ∙ (λ i. pieces (inner_length form) (number i) (joined i))
    ∙ pieces-concat (inner_length form) ys other

module _ {V : Type 0} (told : V → Option (List (List ℕ))) (faults : V → ℕ) (asked : Asked) (a : ℕ) (old new : Recorded V) (envelopes : List (List ℕ)) (f : Forwards told faults asked a old new envelopes) where
  abbrev t : ℕ
  t = number_of asked.job field.T

  -- the envelopes are those that the second scan sends
  sent_is : envelopes ≡ sent_of (sizes_in asked) (block_keys asked) a (drop_key asked) asked.drops t f.forwarded.first f.forwarded.second
  sent_is =
      let p = sizes_in asked in
      let kept = kept_at (drops_in (drop_key asked) asked.drops) t (entries p.form (drop_key asked) (items_from p (block_keys asked) a 0 f.forwarded.first)) in
      same_envelopes asked.batch.form envelopes (sent_of p (block_keys asked) a (drop_key asked) asked.drops t f.forwarded.first f.forwarded.second)
      f.whole (forwarded_whole p (block_keys asked) a kept f.forwarded.second) f.forwarded.sent

  -- where the log is faithful, they are of the records of the batch
  pub of_batch : (history given : List ℕ) → ArePlanned (sizes_in asked) → a < (sizes_in asked).attempts → IsDrawn (sizes_in asked) (asked.draws a)
      → good_attempt (sizes_in asked) asked.draws 0 (turns_by asked history) ≡ Some a → IsMadeOf asked history old.log (outcome.Shuffled a) given → IsFaithful (sizes_in asked) new.log
      → AreOfBatch asked a history given f.forwarded.first f.forwarded.second envelopes
  of_batch history given planned within drawn good m faithful =
      let p = sizes_in asked in
      let done = f.forwarded in
      let drops = drops_in (drop_key asked) asked.drops in
      let on = forwarded_on told faults asked a old new envelopes f in
      let before : IsFaithful p old.log = faithful-front p old.log on.0 (subst (IsFaithful p) on.1 faithful) in
      let b = batch_comes_out told faults p asked.draws (turns_by asked history) a (outer_keys asked) (block_keys asked) planned within drawn good m.count given m.whole old new
      (m.shuffled.output a refl before) faithful (drop_key asked) asked.drops t (concat envelopes) done in
      let kept : envelopes ≡ kept_of asked b.out =
      sent_is
      ∙ (λ i. sent_from p.form (kept_at drops t (entries p.form (drop_key asked) (b.first_scan i))) 0 (b.second_scan i))
      ∙ sent-forwarded p.form (drop_key asked) drops t b.out in
      record {
        whole = m.whole ∙ ap (λ n. envelope_length asked.batch.form * n) (m.all a refl);
        out = b.out;
        order = b.order;
        permuted = b.permuted;
        first_scan = b.first_scan;
        second_scan = b.second_scan;
        kept = kept;
        database = λ inner. ap (database_of inner) kept ∙ b.database inner;
      }
