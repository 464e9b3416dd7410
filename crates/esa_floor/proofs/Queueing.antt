-- The queues hold the records of the places that wait for their targets, turn after turn.
use Rattle.std.proofs.Common.{◌≡◌, ◌≢◌, ℕ, suc, ◌-◌, ◌<◌, List, [], ◌∷◌, ◌++◌, length, map, take, drop, Option, Some, None, refl, sym, ap, ◌∙◌, subst, arith}
use Rattle.std.proofs.Math.Seq.{drop-nil}
use Rattle.std.proofs.lemmas.List.{drop-map, get_or-replicate, length-append, map-append}
use Rattle.std.proofs.lemmas.List.FromFn.{get_or-map-range_with_len}
use Rattle.esa_envelope.specs.declared.keys.Keys.{Keys}
use Rattle.esa_laws.proofs.HistoryLaws.{latest-owner}
use Rattle.esa_laws.proofs.LineLaws.{queued-push}
use Rattle.esa_laws.proofs.MapLaws.{chosen-map}
use Rattle.esa_params.specs.Form.{envelope_length}
use Rattle.esa_params.specs.Sizes.{Sizes, below, places_of, size}
use Rattle.esa_report.specs.declared.item.Item.{Item}
use Rattle.esa_spec.specs.Draws.{Draw, chosen}
use Rattle.esa_spec.specs.Lines.{chosen_places, queued}
use Rattle.esa_spec.specs.Turns.{next, order}
use Rattle.esa_spec.specs.Turns as turns
use Rattle.esa_spec.specs.declared.event.Event.{Event}
use Rattle.esa_spec.specs.declared.event.Event.TheVariants.{Claim, Read, Exchange, Write, Done, Idle}
use Rattle.esa_stash.specs.Stash.{Held, exchanged, queue_at, rest}
use Rattle.esa_floor.specs.Exchanges.{AreOf}
use Rattle.esa_floor.specs.Keeping.{AreRecords, Deals, HasInput, HoldsRecords, IsDealt, IsInput, QueuesHold}
use Rattle.esa_floor.specs.Logging.{noted_of}
use Rattle.esa_floor.specs.Parts.{Parts, begun_as}
use Rattle.esa_floor.specs.Private.{item_opened}
use Rattle.esa_floor.specs.Standing.{IsAt, attempt_begun, turns_made}
use Rattle.esa_floor.specs.Workers.{IsOfFloor, WorkerStands}
use Rattle.esa_floor.specs.Working.{Working, attempt_in}
use Rattle.esa_floor.specs.declared.turn.Stop.{Stop}
use Rattle.esa_floor.proofs.Keeping.{input_before}
use Rattle.esa_floor.proofs.Resting.{begun_on, none_or_some, ran, turns_are, working}
use Rattle.esa_floor.proofs.Spreading.{order-more, order-same}

-- the queue of a target has the records of the places that wait for it
abbrev pub Waits : Sizes → Draw → (ℕ → Item) → List ℕ → Held → ℕ → Type 0
Waits p d record_of o held i = queue_at held i ≡ map record_of (queued p d o (length o) i)

-- one exchange more
module _ (p : Sizes) (d : Draw) (record_of : ℕ → Item) (o : List ℕ) (j : ℕ) (held : Held) (counts targets : List ℕ) (items : List Item)
    (of : AreOf p held counts) (is : targets ≡ d.targets j) (came : items ≡ map record_of (places_of p j))
  where
    pub coming_is : (i : ℕ) → chosen i targets items ≡ map record_of (chosen_places p d i j)
    coming_is i =
        ap (λ (ts : List ℕ). chosen i ts items) is ∙ ap (chosen i (d.targets j)) came ∙ chosen-map record_of i (d.targets j) (places_of p j)

    pub waits_more : (i : ℕ) → i < p.b → Waits p d record_of o held i → Waits p d record_of (o ++ j ∷ []) (exchanged held (targets, items)) i
    waits_more i inside before =
        let many : i < length held.queues = let q = of.queue_each in omega (arith, inside, q) in
        let one_more : suc (length o) ≡ length (o ++ j ∷ []) = let l = length-append o (j ∷ []) in omega (arith, l) in
        get_or-map-range_with_len (rest held (targets, items)) 0 (length held.queues) i i [] many (omega arith)
        ∙ ap (λ (c : ℕ). drop c (queue_at held i ++ chosen i targets items)) of.chunk
        ∙ ap (λ (xs : List Item). drop p.c (xs ++ chosen i targets items)) before
        ∙ ap (λ (xs : List Item). drop p.c (map record_of (queued p d o (length o) i) ++ xs)) (coming_is i)
        ∙ ap (drop p.c) (sym (map-append record_of (queued p d o (length o) i) (chosen_places p d i j)))
        ∙ drop-map record_of p.c (queued p d o (length o) i ++ chosen_places p d i j)
        ∙ ap (map record_of) (sym (queued-push p d o j i))
        ∙ ap (λ (k : ℕ). map record_of (queued p d (o ++ j ∷ []) k i)) one_more

module _ {V C : Type 0} (d : Draw) (target_list : ℕ → ℕ → List ℕ) (f new : Parts V) (w : Working C)
    (plan : w.buffers.plan ≡ f.plan) (outer : w.outer ≡ f.outer)
    (draws : (j : ℕ) → j < f.plan.b → target_list (attempt_in w.attempt) j ≡ d.targets j)
    (record_of : ℕ → Item) (holds : w.phase ≡ 2 → w.bucket < f.plan.b → AreRecords f.plan f.outer record_of w.bucket w.buffers.text)
    (i : ℕ) (inside : i < f.plan.b)
  where
    abbrev h : List ℕ
    h = turns_made f

    same_waits : (o : List ℕ) → o ≡ order f.plan.b h → new.stash ≡ f.stash → Waits f.plan d record_of (order f.plan.b h) f.stash i → Waits f.plan d record_of o new.stash i
    same_waits o same kept before =
        subst (λ (o : List ℕ). Waits f.plan d record_of o new.stash i) (sym same)
        (subst (λ (s : Held). Waits f.plan d record_of (order f.plan.b h) s i) (sym kept) before)

    dealt_waits : (j : ℕ) (o : List ℕ) → o ≡ order f.plan.b h ++ j ∷ [] → w.phase ≡ 2 → IsDealt target_list j f new w
        → Waits f.plan d record_of (order f.plan.b h) f.stash i → Waits f.plan d record_of o new.stash i
    dealt_waits j o more phase dealt before =
        let targets = take (size w.buffers.plan j) w.buffers.targets in
        let items = take (size w.buffers.plan j) w.buffers.items in
        let there : AreRecords f.plan f.outer record_of j w.buffers.text =
        subst (λ (k : ℕ). AreRecords f.plan f.outer record_of k w.buffers.text) dealt.bucket
        (holds phase (subst (λ (k : ℕ). k < f.plan.b) (sym dealt.bucket) dealt.inside)) in
        let came : items ≡ map record_of (places_of f.plan j) =
        dealt.opened
        ∙ ap (λ (q : Sizes). map (item_opened w.outer (envelope_length q.form) w.buffers.text) (below (size q j))) plan
        ∙ ap (λ (k : Keys). map (item_opened k (envelope_length f.plan.form) w.buffers.text) (below (size f.plan j))) outer
        ∙ there in
        subst (λ (o : List ℕ). Waits f.plan d record_of o new.stash i) (sym more)
        (subst (λ (s : Held). Waits f.plan d record_of (order f.plan.b h ++ j ∷ []) s i) (sym dealt.stash)
        (waits_more f.plan d record_of (order f.plan.b h) j f.stash f.counts targets items dealt.of (dealt.drawn ∙ draws j dealt.inside) came i inside before))

    -- one turn more, by its event
    pub turn_waits : (v : ℕ) (e : Event) → next f.plan.b h v ≡ e → Deals target_list e f new w
        → Waits f.plan d record_of (order f.plan.b h) f.stash i → Waits f.plan d record_of (order f.plan.b (h ++ v ∷ [])) new.stash i
    turn_waits v (Claim j) is same before = same_waits _ (order-same f.plan.b h v (ap turns.exchanged is)) same before
    turn_waits v (Read j) is same before = same_waits _ (order-same f.plan.b h v (ap turns.exchanged is)) same before
    turn_waits v (Exchange j) is dealt before = dealt_waits j _ (order-more f.plan.b h v j (ap turns.exchanged is)) dealt.0 dealt.1 before
    turn_waits v (Write j k) is same before = same_waits _ (order-same f.plan.b h v (ap turns.exchanged is)) same before
    turn_waits v Done is same before = same_waits _ (order-same f.plan.b h v (ap turns.exchanged is)) same before
    turn_waits v Idle is same before = same_waits _ (order-same f.plan.b h v (ap turns.exchanged is)) same before

-- the input of a floor after a turn was its input before
module _ {V : Type 0} (f new : Parts V) (run : Keys) (a : ℕ) (e : Event) (chunks : List Item)
    (kept : new ≡ record f { recorder = new.recorder; stash = new.stash; counts = new.counts; counted = new.counted; stop = new.stop })
    (runs : run ≡ f.run)
    (idle : f.attempt ≡ None → new ≡ f) (later : f.stop ≢ None → new ≡ f)
    (noted : f.attempt ≢ None → f.stop ≡ None → new.recorder.log ≡ f.recorder.log ++ noted_of f.plan run a e new.stop new.recorder.last chunks)
    (record_of : ℕ → Item)
  where
    some_attempt : (x : ℕ) → Some x ≢ None
    some_attempt x none = cc none

    by_state : (o : Option ℕ) (s : Option Stop) → f.attempt ≡ o → f.stop ≡ s → HasInput new record_of → HasInput f record_of
    by_state None s none _ input = subst (λ (x : Parts V). HasInput x record_of) (idle none) input
    by_state (Some x) (Some s) _ stopped input =
        subst (λ (x : Parts V). HasInput x record_of) (later (λ none. none_or_some s (sym stopped ∙ none))) input
    by_state (Some x) None some goes input =
        let now : IsInput f.plan f.outer f.run record_of new.recorder.log = subst (λ (x : Parts V). IsInput x.plan x.outer x.run record_of new.recorder.log) kept input in
        let more = noted (λ none. some_attempt x (sym some ∙ none)) goes ∙ ap (λ (k : Keys). f.recorder.log ++ noted_of f.plan k a e new.stop new.recorder.last chunks) runs in
        input_before f.plan f.outer f.run record_of a e new.stop new.recorder.last chunks f.recorder.log (subst (IsInput f.plan f.outer f.run record_of) more now)

    pub input_was : HasInput new record_of → HasInput f record_of
    input_was = by_state f.attempt f.stop refl refl

    -- what another worker holds, it holds after the turn
    pub held_on : {C : Type 0} (other : Working C) → HoldsRecords f other → HasInput new record_of → new.attempt ≢ None → new.stop ≡ None
        → other.phase ≡ 2 → other.bucket < new.plan.b → AreRecords new.plan new.outer record_of other.bucket other.buffers.text
    held_on other holds input some goes second inside =
        subst (λ (x : Parts V). AreRecords x.plan x.outer record_of other.bucket other.buffers.text) (sym kept)
        (holds record_of (input_was input) (λ none. some (ap (λ (x : Parts V). x.attempt) kept ∙ none))
        (ran f.stop new.stop (λ stopped. ap (λ (x : Parts V). x.stop) (later stopped)) goes) second
        (subst (λ (x : Parts V). other.bucket < x.plan.b) kept inside))

    -- the queues after the turn
    module _ {C : Type 0} (faults : V → ℕ) (ds : ℕ → Draw) (target_list : ℕ → ℕ → List ℕ) (n room : ℕ) (worker : n ≢ f.plan.workers) (w : Working C)
        (state : IsAt faults ds f f.outcome f.attempt) (of : IsOfFloor ds target_list f w) (stands : f.attempt ≢ None → WorkerStands f w)
        (deals : f.attempt ≢ None → f.stop ≡ None → new.stop ≡ None → Deals target_list (next f.plan.b (turns_made f) n) f new w)
        (holds : HoldsRecords f w) (queues : QueuesHold ds f)
      where
        abbrev after : Parts V
        after = record new { history = f.history ++ n ∷ []; room = room }

        pub queues_on : HasInput new record_of → new.attempt ≢ None → new.stop ≡ None → (i : ℕ) → i < new.plan.b
            → Waits new.plan (ds (attempt_begun after)) record_of (order new.plan.b (turns_made after)) new.stash i
        queues_on input begun goes i within =
            let was = input_was input in
            let some : f.attempt ≢ None = λ none. begun (ap (λ (x : Parts V). x.attempt) kept ∙ none) in
            let free : f.stop ≡ None = ran f.stop new.stop (λ stopped. ap (λ (x : Parts V). x.stop) (later stopped)) goes in
            let is = working faults ds f f.outcome f.attempt state some in
            let same : new.plan ≡ f.plan = ap (λ (x : Parts V). x.plan) kept in
            let inside : i < f.plan.b = subst (λ (q : Sizes). i < q.b) same within in
            let attempt : attempt_in w.attempt ≡ attempt_begun f = ap attempt_in ((stands some).attempt ∙ is.2) in
            let more = turn_waits (ds (attempt_begun f)) target_list f new w of.plan of.outer
            (λ j bucket. ap (λ (k : ℕ). target_list k j) attempt ∙ of.draws (attempt_begun f) j is.1.planned bucket)
            record_of (holds record_of was some free) i inside n (next f.plan.b (turns_made f) n) refl (deals some free goes)
            (queues record_of was some free i inside) in
            subst (λ (q : Sizes). Waits q (ds (attempt_begun after)) record_of (order q.b (turns_made after)) new.stash i) (sym same)
            (subst (λ (k : ℕ). Waits f.plan (ds k) record_of (order f.plan.b (turns_made after)) new.stash i)
            (sym (ap (λ (k : ℕ). k - 1) (begun_on faults ds f n worker after same refl)))
            (subst (λ (H : List ℕ). Waits f.plan (ds (attempt_begun f)) record_of (order f.plan.b H) new.stash i)
            (sym (turns_are faults ds f n worker after same refl)) more))

-- when an attempt is begun, nothing waits
pub queues_begun : {V : Type 0} (ds : ℕ → Draw) (f : Parts V) (attempt : ℕ) → QueuesHold ds (begun_as f attempt)
queues_begun ds f attempt record_of input some goes i inside =
    get_or-replicate f.plan.b i [] [] inside
    ∙ sym (ap (λ (h : List ℕ). map record_of (queued f.plan (ds (attempt_begun (begun_as f attempt))) (order f.plan.b h) (length (order f.plan.b h)) i))
    (latest-owner f.plan.workers f.history)
    ∙ ap (map record_of) (drop-nil _))
