-- A worker holds the chunks of its bucket, turn after turn.
use Rattle.std.proofs.Common.{◌≡◌, ◌≢◌, ℕ, zero, suc, ◌+◌, ◌-◌, ◌<◌, ◌≤◌, Bool, true, List, [], ◌∷◌, ◌++◌, length, map, take, None, refl, sym, ap, ◌∙◌, subst, arith}
use Rattle.std.specs.Prelude.{flat_map, ◌==◌, if◌then◌else◌}
use Rattle.std.specs.List.{range_with_len}
use Rattle.std.proofs.lemmas.Bool.Decides.{nat_tests}
use Rattle.std.proofs.lemmas.List.{map-append, take-map}
use Rattle.std.proofs.lemmas.List.Concat.{flat_map-cons}
use Rattle.esa_envelope.specs.declared.keys.Keys.{Keys}
use Rattle.esa_laws.proofs.ExchangeLaws.{exchange-new, exchange_of-push}
use Rattle.esa_laws.proofs.GrownLaws.{chunk-kept, order-begins}
use Rattle.esa_laws.proofs.LineLaws.{chunk-push}
use Rattle.esa_laws.proofs.PermLaws.{occurrences, occurs-append, occurs-cons}
use Rattle.esa_params.specs.Form.{envelope_length}
use Rattle.esa_params.specs.Sizes.{Sizes, below, places_of, size}
use Rattle.esa_report.specs.declared.item.Item.{Item}
use Rattle.esa_spec.specs.Draws.{Draw, chosen}
use Rattle.esa_spec.specs.Lines.{chosen_places, chunk, queued}
use Rattle.esa_spec.specs.Places.{exchange_of}
use Rattle.esa_spec.specs.Turns.{next, order}
use Rattle.esa_spec.specs.Turns as turns
use Rattle.esa_spec.specs.declared.event.Event.{Event}
use Rattle.esa_spec.specs.declared.event.Event.TheVariants.{Claim, Read, Exchange, Write, Done, Idle}
use Rattle.esa_stash.specs.Stash.{Held, chunks, padded, padded_chunk, queue_at}
use Rattle.esa_floor.specs.Exchanges.{AreOf}
use Rattle.esa_floor.specs.Keeping.{AreChunks, AreRecords, Deals, HasInput, HoldsChunks, HoldsRecords, IsDealt, Leaves, QueuesHold}
use Rattle.esa_floor.specs.Logging.{noted_of}
use Rattle.esa_floor.specs.Parts.{Parts}
use Rattle.esa_floor.specs.Private.{item_opened}
use Rattle.esa_floor.specs.Standing.{IsAt, attempt_begun, turns_made}
use Rattle.esa_floor.specs.Workers.{IsOfFloor, WorkerStands}
use Rattle.esa_floor.specs.Working.{Working, attempt_in, handed_by}
use Rattle.esa_floor.proofs.Queueing.{Waits, coming_is, input_was}
use Rattle.esa_floor.proofs.Resting.{begun_on, ran, turns_are, working}
use Rattle.esa_floor.proofs.Spreading.{order-more}

-- lists that agree at each number
same_from : (f g : ℕ → List Item) (a n : ℕ) → ((x : ℕ) → x < a + n → f x ≡ g x) → flat_map f (range_with_len a n) ≡ flat_map g (range_with_len a n)
same_from f g a zero same = refl
same_from f g a (suc n) same =
    flat_map-cons f a (range_with_len (a + 1) n) ∙ ap (λ (xs : List Item). xs ++ flat_map f (range_with_len (a + 1) n)) (same a (omega arith))
    ∙ ap (λ (xs : List Item). g a ++ xs) (same_from f g (a + 1) n (λ x inside. same x (omega (arith, inside))))
    ∙ sym (flat_map-cons g a (range_with_len (a + 1) n))

same_lists : (f g : ℕ → List Item) (n : ℕ) → ((x : ℕ) → x < n → f x ≡ g x) → flat_map f (below n) ≡ flat_map g (below n)
same_lists f g n same = same_from f g 0 n (λ x inside. same x (omega (arith, inside)))

-- the chunks of a bucket stay in a longer history
pub more_chunks : (p : Sizes) (d : Draw) (record_of : ℕ → Item) (h more : List ℕ) (j : ℕ) (held : List Item)
    → AreChunks p d record_of (order p.b h) j held → AreChunks p d record_of (order p.b (h ++ more)) j held
more_chunks p d record_of h more j held are = record {
  exchanged =
      let longer = order-begins p.b h more in
      let counted = ap (occurrences j) longer.1 ∙ occurs-append j (order p.b h) longer.0 in
      let some = are.exchanged in
      omega (arith, counted, some);
  items = are.items ∙ same_lists _ _ p.b (λ i inside. ap (λ (xs : List ℕ). padded p.c (map record_of xs)) (sym (chunk-kept p d h more j i are.exchanged)));
}

kept_chunks : (p : Sizes) (d : Draw) (record_of : ℕ → Item) (h : List ℕ) (v j : ℕ) (held : List Item)
    → AreChunks p d record_of (order p.b h) j held → AreChunks p d record_of (order p.b (h ++ v ∷ [])) j held
kept_chunks p d record_of h v j held are = more_chunks p d record_of h (v ∷ []) j held are

-- what an exchange deals
module _ (p : Sizes) (d : Draw) (record_of : ℕ → Item) (o : List ℕ) (j : ℕ) (held : Held) (counts targets : List ℕ) (items : List Item)
    (of : AreOf p held counts) (is : targets ≡ d.targets j) (came : items ≡ map record_of (places_of p j)) (fresh : occurrences j o ≡ 0)
    (waits : (i : ℕ) → i < p.b → Waits p d record_of o held i)
  where
    dealt_here : (i : ℕ) → i < p.b → padded_chunk held (targets, items) i ≡ padded p.c (map record_of (chunk p d (o ++ j ∷ []) (exchange_of (o ++ j ∷ []) j) i))
    dealt_here i inside =
        ap (λ (c : ℕ). padded c (take c (queue_at held i ++ chosen i targets items))) of.chunk
        ∙ ap (λ (xs : List Item). padded p.c (take p.c (xs ++ chosen i targets items))) (waits i inside)
        ∙ ap (λ (xs : List Item). padded p.c (take p.c (map record_of (queued p d o (length o) i) ++ xs)))
        (coming_is p d record_of o j held counts targets items of is came i)
        ∙ ap (λ (xs : List Item). padded p.c (take p.c xs)) (sym (map-append record_of (queued p d o (length o) i) (chosen_places p d i j)))
        ∙ ap (padded p.c) (take-map record_of p.c (queued p d o (length o) i ++ chosen_places p d i j))
        ∙ ap (λ (xs : List ℕ). padded p.c (map record_of xs)) (sym (chunk-push p d o j i))
        ∙ ap (λ (k : ℕ). padded p.c (map record_of (chunk p d (o ++ j ∷ []) k i))) (sym (exchange_of-push o j fresh))

    pub dealt_chunks : AreChunks p d record_of (o ++ j ∷ []) j (chunks held (targets, items))
    dealt_chunks = record {
      exchanged =
          let longer = occurs-append j o (j ∷ []) in
          let last = occurs-cons j j [] in
          let here : (j == j) ≡ true = grind (arith, nat_tests) in
          let one : occurrences j (j ∷ []) ≡ 1 = last ∙ ap (λ (t : Bool). (if t then 1 else 0) + 0) here in
          omega (arith, longer, one);
      items = ap (λ (n : ℕ). flat_map (padded_chunk held (targets, items)) (below n)) of.queue_each ∙ same_lists _ _ p.b dealt_here;
    }

module _ {V C : Type 0} (d : Draw) (target_list : ℕ → ℕ → List ℕ) (f new : Parts V) (w v : Working C)
    (plan : w.buffers.plan ≡ f.plan) (outer : w.outer ≡ f.outer)
    (draws : (j : ℕ) → j < f.plan.b → target_list (attempt_in w.attempt) j ≡ d.targets j)
    (record_of : ℕ → Item) (holds : w.phase ≡ 2 → w.bucket < f.plan.b → AreRecords f.plan f.outer record_of w.bucket w.buffers.text)
    (waits : (i : ℕ) → i < f.plan.b → Waits f.plan d record_of (order f.plan.b (turns_made f)) f.stash i)
    (before : 3 ≤ w.phase → w.bucket < f.plan.b → AreChunks f.plan d record_of (order f.plan.b (turns_made f)) w.bucket w.buffers.chunks)
    (third : 3 ≤ v.phase) (inside : v.bucket < f.plan.b)
  where
    abbrev h : List ℕ
    h = turns_made f

    abbrev Now : ℕ → Type 0
    Now n = AreChunks f.plan d record_of (order f.plan.b (h ++ n ∷ [])) v.bucket v.buffers.chunks

    exchange_holds : (n j : ℕ) → next f.plan.b h n ≡ Exchange j → w.phase ≡ 2 → IsDealt target_list j f new w
        → v.bucket ≡ j → v.buffers.chunks ≡ chunks f.stash (handed_by w.buffers j) → Now n
    exchange_holds n j is phase dealt bucket made =
        let targets = take (size w.buffers.plan j) w.buffers.targets in
        let items = take (size w.buffers.plan j) w.buffers.items in
        let there : AreRecords f.plan f.outer record_of j w.buffers.text =
        subst (λ (k : ℕ). AreRecords f.plan f.outer record_of k w.buffers.text) dealt.bucket
        (holds phase (subst (λ (k : ℕ). k < f.plan.b) (sym dealt.bucket) dealt.inside)) in
        let came : items ≡ map record_of (places_of f.plan j) =
        dealt.opened
        ∙ ap (λ (q : Sizes). map (item_opened w.outer (envelope_length q.form) w.buffers.text) (below (size q j))) plan
        ∙ ap (λ (k : Keys). map (item_opened k (envelope_length f.plan.form) w.buffers.text) (below (size f.plan j))) outer
        ∙ there in
        let are = dealt_chunks f.plan d record_of (order f.plan.b h) j f.stash f.counts targets items dealt.of (dealt.drawn ∙ draws j dealt.inside) came
        (exchange-new f.plan.b h n j (ap turns.exchanged is)) waits in
        subst (λ (o : List ℕ). AreChunks f.plan d record_of o v.bucket v.buffers.chunks) (sym (order-more f.plan.b h n j (ap turns.exchanged is)))
        (subst (λ (k : ℕ). AreChunks f.plan d record_of (order f.plan.b h ++ j ∷ []) k v.buffers.chunks) (sym bucket)
        (subst (λ (xs : List Item). AreChunks f.plan d record_of (order f.plan.b h ++ j ∷ []) j xs) (sym made) are))

    -- one turn more, by its event
    pub turn_chunks : (n : ℕ) (e : Event) → next f.plan.b h n ≡ e → Deals target_list e f new w → Leaves e new.recorder.last f w v → Now n
    turn_chunks n (Claim j) is deals first = absurd (omega (arith, third, first))
    turn_chunks n (Read j) is deals left = let second = left.phase in absurd (omega (arith, third, second))
    turn_chunks n (Exchange j) is dealt left = exchange_holds n j is dealt.0 dealt.1 left.bucket left.chunks_are
    turn_chunks n (Write j i) is deals left =
        kept_chunks f.plan d record_of h n v.bucket v.buffers.chunks
        (subst (λ (k : ℕ). AreChunks f.plan d record_of (order f.plan.b h) k v.buffers.chunks) (left.before ∙ sym left.bucket)
        (subst (λ (xs : List Item). AreChunks f.plan d record_of (order f.plan.b h) w.bucket xs) (sym left.same)
        (before left.phase (subst (λ (k : ℕ). k < f.plan.b) (left.bucket ∙ sym left.before) inside))))
    turn_chunks n Done is deals first = absurd (omega (arith, third, first))
    turn_chunks n Idle is deals past = absurd (omega (arith, inside, past))

-- what workers hold after a turn
module _ {V : Type 0} (f new : Parts V) (run : Keys) (a : ℕ) (e : Event) (sealed : List Item)
    (kept : new ≡ record f { recorder = new.recorder; stash = new.stash; counts = new.counts; counted = new.counted; stop = new.stop })
    (runs : run ≡ f.run)
    (idle : f.attempt ≡ None → new ≡ f) (later : f.stop ≢ None → new ≡ f)
    (noted : f.attempt ≢ None → f.stop ≡ None → new.recorder.log ≡ f.recorder.log ++ noted_of f.plan run a e new.stop new.recorder.last sealed)
    (record_of : ℕ → Item) (faults : V → ℕ) (ds : ℕ → Draw) (n room : ℕ) (worker : n ≢ f.plan.workers)
  where
    abbrev after : Parts V
    after = record new { history = f.history ++ n ∷ []; room = room }

    same : new.plan ≡ f.plan
    same = ap (λ (x : Parts V). x.plan) kept

    begun_before : new.attempt ≢ None → f.attempt ≢ None
    begun_before some none = some (ap (λ (x : Parts V). x.attempt) kept ∙ none)

    free_before : new.stop ≡ None → f.stop ≡ None
    free_before goes = ran f.stop new.stop (λ stopped. ap (λ (x : Parts V). x.stop) (later stopped)) goes

    -- in the words of the floor after it
    carried : (j : ℕ) (held : List Item) → AreChunks f.plan (ds (attempt_begun f)) record_of (order f.plan.b (turns_made f ++ n ∷ [])) j held
        → AreChunks new.plan (ds (attempt_begun after)) record_of (order new.plan.b (turns_made after)) j held
    carried j held are =
        subst (λ (q : Sizes). AreChunks q (ds (attempt_begun after)) record_of (order q.b (turns_made after)) j held) (sym same)
        (subst (λ (k : ℕ). AreChunks f.plan (ds k) record_of (order f.plan.b (turns_made after)) j held)
        (sym (ap (λ (k : ℕ). k - 1) (begun_on faults ds f n worker after same refl)))
        (subst (λ (H : List ℕ). AreChunks f.plan (ds (attempt_begun f)) record_of (order f.plan.b H) j held)
        (sym (turns_are faults ds f n worker after same refl)) are))

    pub others_on : {C : Type 0} (other : Working C) → HoldsChunks ds f other → HasInput new record_of → new.attempt ≢ None → new.stop ≡ None
        → 3 ≤ other.phase → other.bucket < new.plan.b
        → AreChunks new.plan (ds (attempt_begun after)) record_of (order new.plan.b (turns_made after)) other.bucket other.buffers.chunks
    others_on other holds input some goes third inside =
        carried other.bucket other.buffers.chunks
        (kept_chunks f.plan (ds (attempt_begun f)) record_of (turns_made f) n other.bucket other.buffers.chunks
        (holds record_of (input_was f new run a e sealed kept runs idle later noted record_of input) (begun_before some) (free_before goes) third
        (subst (λ (q : Sizes). other.bucket < q.b) same inside)))

    module _ {C : Type 0} (target_list : ℕ → ℕ → List ℕ) (w v : Working C)
        (state : IsAt faults ds f f.outcome f.attempt) (of : IsOfFloor ds target_list f w) (stands : f.attempt ≢ None → WorkerStands f w)
        (deals : f.attempt ≢ None → f.stop ≡ None → new.stop ≡ None → Deals target_list (next f.plan.b (turns_made f) n) f new w)
        (leaves : f.attempt ≢ None → f.stop ≡ None → new.stop ≡ None → Leaves (next f.plan.b (turns_made f) n) new.recorder.last f w v)
        (holds : HoldsRecords f w) (queues : QueuesHold ds f) (before : HoldsChunks ds f w)
      where
        pub chunks_on : HasInput new record_of → new.attempt ≢ None → new.stop ≡ None → 3 ≤ v.phase → v.bucket < new.plan.b
            → AreChunks new.plan (ds (attempt_begun after)) record_of (order new.plan.b (turns_made after)) v.bucket v.buffers.chunks
        chunks_on input begun goes third within =
            let was = input_was f new run a e sealed kept runs idle later noted record_of input in
            let some = begun_before begun in
            let free = free_before goes in
            let is = working faults ds f f.outcome f.attempt state some in
            let attempt : attempt_in w.attempt ≡ attempt_begun f = ap attempt_in ((stands some).attempt ∙ is.2) in
            carried v.bucket v.buffers.chunks
            (turn_chunks (ds (attempt_begun f)) target_list f new w v of.plan of.outer
            (λ j bucket. ap (λ (k : ℕ). target_list k j) attempt ∙ of.draws (attempt_begun f) j is.1.planned bucket)
            record_of (holds record_of was some free) (queues record_of was some free) (before record_of was some free) third
            (subst (λ (q : Sizes). v.bucket < q.b) same within) n (next f.plan.b (turns_made f) n) refl (deals some free goes) (leaves some free goes))
