-- The slots hold the chunks that were written, turn after turn.
use Rattle.std.proofs.Common.{◌≡◌, ◌≢◌, ℕ, zero, suc, ◌+◌, ◌-◌, ◌*◌, ◌<◌, ◌≤◌, Bool, true, false, List, [], ◌∷◌, ◌++◌, length, map, take, drop, replicate, Option, Some, None, refl, sym, ap, ◌∙◌, subst, arith, inl, inr, append-nil, zero-add}
use Rattle.std.specs.Prelude.{count_by, flat_map, ◌==◌, ◌&&◌}
use Rattle.std.specs.List.{range_with_len}
use Rattle.std.specs.Option.{option_to_list}
use Rattle.std.proofs.Math.Nat.{mod-lt, mul-le-mul_right, suc-mul, zero-mul}
use Rattle.std.proofs.Math.Seq.{drop-append-add, take-append_seam}
use Rattle.std.proofs.lemmas.Bool.{cases_Bool, cases_lt}
use Rattle.std.proofs.lemmas.List.{length-append, length-replicate, length-map}
use Rattle.std.proofs.lemmas.List.Concat.{flat_map-cons}
use Rattle.std.proofs.lemmas.List.Sums.{sum_by_push}
use Rattle.esa_device.specs.Logs.{Carried, Took}
use Rattle.esa_device.proofs.LogLaws.{took-elsewhere, took-read, took-written}
use Rattle.esa_envelope.specs.declared.keys.Keys.{Keys}
use Rattle.esa_laws.proofs.Events.{event-by}
use Rattle.esa_laws.proofs.GrownLaws.{chunk-kept}
use Rattle.esa_laws.proofs.HistoryLaws.{latest-owner}
use Rattle.esa_laws.proofs.PermLaws.{occurrences, occurs-append}
use Rattle.esa_laws.proofs.PlaceLaws.{position-in}
use Rattle.esa_laws.proofs.RoundLaws.{next-by_phase}
use Rattle.esa_laws.proofs.SizeLaws.{chunk-le}
use Rattle.esa_laws.proofs.Tests.{bit, equal, same}
use Rattle.esa_laws.proofs.TurnLaws.{events-push, order-push}
use Rattle.esa_params.specs.Sizes.{Sizes, below}
use Rattle.esa_params.specs.Slots.{item_length, number_of}
use Rattle.esa_report.specs.Item.{dummy_item}
use Rattle.esa_report.specs.declared.item.Item.{Item}
use Rattle.esa_spec.specs.Draws.{Draw}
use Rattle.esa_spec.specs.Lines.{chunk}
use Rattle.esa_spec.specs.Places.{exchange_of}
use Rattle.esa_spec.specs.Traces.{chunk_slot}
use Rattle.esa_spec.specs.Turns.{event_of, events, held, is_write_at, next, next_phase, order, turns_of}
use Rattle.esa_spec.specs.Turns as turns
use Rattle.esa_spec.specs.declared.event.Event.{Event}
use Rattle.esa_spec.specs.declared.event.Event.TheVariants.{Claim, Read, Exchange, Write, Done, Idle}
use Rattle.esa_stash.specs.Dealing.{chunk_at}
use Rattle.esa_stash.specs.Stash.{padded}
use Rattle.esa_vault.specs.Filled.{text_of}
use Rattle.esa_vault.specs.Seals.{sealed_block}
use Rattle.esa_floor.specs.Keeping.{AreChunks, AreChunksStored, HasInput, HoldsChunks, IsChunkStored, Leaves, SlotsHold, chunk_block}
use Rattle.esa_floor.specs.Logging.{noted_of, read_of, write_of}
use Rattle.esa_floor.specs.Parts.{Parts, begun_as}
use Rattle.esa_floor.specs.Standing.{attempt_begun, turns_made}
use Rattle.esa_floor.specs.Working.{Working}
use Rattle.esa_floor.specs.declared.turn.Stop.{Stop}
use Rattle.esa_floor.proofs.Queueing.{input_was}
use Rattle.esa_floor.proofs.Resting.{begun_on, ran, turns_are}

-- one of lists of c items each, which stand one after another
piece : (c : ℕ) (f : ℕ → List Item) (a n i : ℕ) → ((x : ℕ) → x < a + n → length (f x) ≡ c) → i < n → take c (drop (i * c) (flat_map f (range_with_len a n))) ≡ f (a + i)
piece c f a zero i each inside = absurd (omega (arith, inside))
piece c f a (suc n) zero each inside =
    let long = each a (omega arith) in
    let first : a ≡ a + 0 = omega arith in
    ap (λ (k : ℕ). take c (drop k (flat_map f (range_with_len a (suc n))))) (zero-mul c)
    ∙ ap (take c) (flat_map-cons f a (range_with_len (a + 1) n))
    ∙ ap (λ (k : ℕ). take k (f a ++ flat_map f (range_with_len (a + 1) n))) (sym long)
    ∙ take-append_seam (f a) (flat_map f (range_with_len (a + 1) n)) ∙ ap f first
piece c f a (suc n) (suc i) each inside =
    let long = each a (omega arith) in
    let turn = suc-mul i c in
    let past : suc i * c ≡ length (f a) + i * c = omega (arith, long, turn) in
    let next : a + 1 + i ≡ a + suc i = omega arith in
    ap (λ (xs : List Item). take c (drop (suc i * c) xs)) (flat_map-cons f a (range_with_len (a + 1) n))
    ∙ ap (λ (k : ℕ). take c (drop k (f a ++ flat_map f (range_with_len (a + 1) n)))) past
    ∙ ap (take c) (drop-append-add (f a) (flat_map f (range_with_len (a + 1) n)) (i * c))
    ∙ piece c f (a + 1) n i (λ x within. each x (omega (arith, within))) (omega (arith, inside)) ∙ ap f next

chunk_at-piece : (c b : ℕ) (f : ℕ → List Item) (i : ℕ) → ((x : ℕ) → x < b → length (f x) ≡ c) → i < b → chunk_at c (flat_map f (below b)) i ≡ f i
chunk_at-piece c b f i each inside =
    let many : i * c + c - i * c ≡ c = omega arith in
    ap (λ (k : ℕ). take k (drop (i * c) (flat_map f (below b)))) many
    ∙ piece c f 0 b i (λ x within. each x (omega (arith, within))) inside ∙ ap f (zero-add i)

length_padded : (n : ℕ) (items : List Item) → length items ≤ n → length (padded n items) ≡ n
length_padded n items few =
    let both = length-append items (replicate (n - length items) dummy_item) in
    let more = length-replicate (n - length items) dummy_item in
    omega (arith, both, more, few)

-- the chunk of a target, among the chunks of its bucket
pub chunk_is : (p : Sizes) (d : Draw) (record_of : ℕ → Item) (o : List ℕ) (j i : ℕ) (chunks : List Item) → AreChunks p d record_of o j chunks → i < p.b
    → chunk_at p.c chunks i ≡ padded p.c (map record_of (chunk p d o (exchange_of o j) i))
chunk_is p d record_of o j i chunks are inside =
    ap (λ (xs : List Item). chunk_at p.c xs i) are.items
    ∙ chunk_at-piece p.c p.b (λ i. padded p.c (map record_of (chunk p d o (exchange_of o j) i))) i
    (λ x within. length_padded p.c (map record_of (chunk p d o (exchange_of o j) x))
    (let few = chunk-le p d o (exchange_of o j) x (position-in (λ k. k == j) o are.exchanged) in
    let same = length-map (chunk p d o (exchange_of o j) x) record_of in omega (arith, few, same))) inside

-- indices of Mid are the same for the same bucket and target alone
pub rows_apart : (b j i k m : ℕ) → i < b → m < b → k * b + m ≡ j * b + i → (j ≡ k) × (i ≡ m)
rows_apart b j i k m i_in m_in is = elim (cases_lt j k) [
  | inl less ↦ let next = suc-mul j b in let product = mul-le-mul_right b less in absurd (omega (arith, is, next, product, i_in))
  | inr rest ↦ elim (cases_lt k j) [
    | inl more ↦ let next = suc-mul k b in let product = mul-le-mul_right b more in absurd (omega (arith, is, next, product, m_in))
    | inr least ↦
        let same : j ≡ k = omega (arith, rest, least) in
        let row = ap (λ (x : ℕ). x * b) same in
        (same, omega (arith, is, row))
  ]
]

-- a turn writes the chunk of a bucket for a target
pub writes_inside : (b g f j i : ℕ) → f < b + 3 → event_of b g f ≡ Write j i → (j < b) × (i < b)
writes_inside b g f j i few =
    event-by (λ (e : Event). e ≡ Write j i → (j < b) × (i < b)) b g f
    (λ g_in phase e. absurd (cc)) (λ g_in phase e. absurd (cc)) (λ g_in phase e. absurd (cc))
    (λ g_in late e.
    let bucket : g ≡ j = cc in
    let target : f - 3 ≡ i = cc in
    (omega (arith, g_in, bucket), omega (arith, late, target, few)))
    (λ past e. absurd (cc)) (λ past e. absurd (cc))

both_true : (c e : Bool) → (c && e) ≡ true → (c ≡ true) × (e ≡ true)
both_true true e h = (refl, h)
both_true false e h = absurd (cc)

module _ (p : Sizes) (run : Keys) (a : ℕ) (d : Draw) (record_of : ℕ → Item) (h : List ℕ) (n : ℕ) (log : List Carried) where
  abbrev o : List ℕ
  o = order p.b h

  abbrev o_now : List ℕ
  o_now = order p.b (h ++ n ∷ [])

  -- what was exchanged stays so, and the block of a chunk is the same
  exchanged_on : (j : ℕ) → 1 ≤ occurrences j o → 1 ≤ occurrences j o_now
  exchanged_on j some =
      let longer = ap (occurrences j) (order-push p.b h n) ∙ occurs-append j o (option_to_list (turns.exchanged (next p.b h n))) in
      omega (arith, longer, some)

  block_on : (j i : ℕ) → 1 ≤ occurrences j o → chunk_block p run a d record_of o j i ≡ chunk_block p run a d record_of o_now j i
  block_on j i some =
      ap (λ (xs : List ℕ). sealed_block p run (chunk_slot p j i) a (text_of (item_length p.form) (padded p.c (map record_of xs))))
      (sym (chunk-kept p d h (n ∷ []) j i some))

  stored_on : (j i : ℕ) (log_now : List Carried) → IsChunkStored p run a d record_of o log j i
      → ((bytes : List ℕ) → Took p (number_of p (chunk_slot p j i)) bytes log → Took p (number_of p (chunk_slot p j i)) bytes log_now)
      → IsChunkStored p run a d record_of o_now log_now j i
  stored_on j i log_now are stays = record {
    exchanged = exchanged_on j are.exchanged;
    took = subst (λ (bytes : List ℕ). Took p (number_of p (chunk_slot p j i)) bytes log_now) (block_on j i are.exchanged)
        (stays (chunk_block p run a d record_of o j i) are.took);
  }

  counted : (j i : ℕ) (e : Event) → next p.b h n ≡ e
      → count_by (is_write_at j i) (events p.b (h ++ n ∷ [])) ≡ count_by (is_write_at j i) (events p.b h) + bit (is_write_at j i e)
  counted j i e is =
      ap (count_by (is_write_at j i)) (events-push p.b h n) ∙ sum_by_push (λ (e : Event). bit (is_write_at j i e)) (events p.b h) (next p.b h n)
      ∙ ap (λ (e : Event). count_by (is_write_at j i) (events p.b h) + bit (is_write_at j i e)) is

  -- a turn that writes no chunk
  quiet : (e : Event) → next p.b h n ≡ e → ((j i : ℕ) → is_write_at j i e ≡ false) → (log_now : List Carried)
      → ((number : ℕ) (bytes : List ℕ) → Took p number bytes log → Took p number bytes log_now)
      → AreChunksStored p run a d record_of h log → AreChunksStored p run a d record_of (h ++ n ∷ []) log_now
  quiet e is none log_now stays before j i j_in i_in some =
      stored_on j i log_now
      (before j i j_in i_in (let more = counted j i e is in let no = ap bit (none j i) in omega (arith, more, no, some)))
      (stays (number_of p (chunk_slot p j i)))

  -- a turn that writes one
  module _ (j i : ℕ) (is : next p.b h n ≡ Write j i) (chunks : List Item) (are : AreChunks p d record_of o j chunks) where
    inside : (j < p.b) × (i < p.b)
    inside = writes_inside p.b (held p.b h n) (next_phase p.b h n) j i (mod-lt (turns_of n h) (omega arith)) (sym (next-by_phase p.b h n) ∙ is)

    abbrev entry : Carried
    entry = write_of p run a j i None chunks

    here : IsChunkStored p run a d record_of o_now (log ++ entry ∷ []) j i
    here = record {
      exchanged = exchanged_on j are.exchanged;
      took = took-written p (chunk_block p run a d record_of o_now j i) log entry refl
          (ap (λ (xs : List Item). Some (sealed_block p run (chunk_slot p j i) a (text_of (item_length p.form) xs))) (chunk_is p d record_of o j i chunks are inside.1)
          ∙ ap (λ (bytes : List ℕ). Some bytes) (block_on j i are.exchanged));
    }

    written : AreChunksStored p run a d record_of h log → AreChunksStored p run a d record_of (h ++ n ∷ []) (log ++ entry ∷ [])
    written before k m k_in m_in some = elim (cases_Bool (is_write_at k m (Write j i))) [
      | inl this ↦
          let parts = both_true (j == k) (i == m) this in
          subst (λ (x : ℕ). IsChunkStored p run a d record_of o_now (log ++ entry ∷ []) x m) (equal j k parts.0)
          (subst (λ (x : ℕ). IsChunkStored p run a d record_of o_now (log ++ entry ∷ []) j x) (equal i m parts.1) here)
      | inr another ↦
          stored_on k m (log ++ entry ∷ [])
          (before k m k_in m_in (let more = counted k m (Write j i) is in let no = ap bit another in omega (arith, more, no, some)))
          (λ bytes. took-elsewhere p (number_of p (chunk_slot p k m)) bytes log entry (λ number.
          let pair = rows_apart p.b j i k m inside.1 m_in (omega (arith, number)) in
          let this : is_write_at k m (Write j i) ≡ true =
          ap (λ (x : ℕ). (x == k) && (i == m)) pair.0 ∙ ap (λ (x : ℕ). (k == k) && (x == m)) pair.1 ∙ ap (λ (t : Bool). t && (m == m)) (same k) ∙ same m in
          absurd (cc (this, another))))
    ]

  -- one turn more, by its event, where it didn't fail
  pub turn_stores : (e : Event) → next p.b h n ≡ e → (given : List ℕ) (chunks : List Item)
      → ((j i : ℕ) → e ≡ Write j i → j < p.b → AreChunks p d record_of o j chunks)
      → AreChunksStored p run a d record_of h log → AreChunksStored p run a d record_of (h ++ n ∷ []) (log ++ noted_of p run a e None given chunks)
  turn_stores (Claim j) is given chunks holds before = quiet (Claim j) is (λ k m. refl) (log ++ []) (λ number bytes. subst (Took p number bytes) (sym (append-nil log))) before
  turn_stores (Read j) is given chunks holds before =
      quiet (Read j) is (λ k m. refl) (log ++ read_of p a j None given ∷ []) (λ number bytes. took-read p number bytes log (read_of p a j None given) refl) before
  turn_stores (Exchange j) is given chunks holds before = quiet (Exchange j) is (λ k m. refl) (log ++ []) (λ number bytes. subst (Took p number bytes) (sym (append-nil log))) before
  turn_stores (Write j i) is given chunks holds before =
      let bucket = writes_inside p.b (held p.b h n) (next_phase p.b h n) j i (mod-lt (turns_of n h) (omega arith)) (sym (next-by_phase p.b h n) ∙ is) in
      written j i is chunks (holds j i refl bucket.0) before
  turn_stores Done is given chunks holds before = quiet Done is (λ k m. refl) (log ++ []) (λ number bytes. subst (Took p number bytes) (sym (append-nil log))) before
  turn_stores Idle is given chunks holds before = quiet Idle is (λ k m. refl) (log ++ []) (λ number bytes. subst (Took p number bytes) (sym (append-nil log))) before

-- the slots of a floor after a turn
module _ {V C : Type 0} (f new : Parts V) (n room : ℕ) (w v : Working C) (faults : V → ℕ) (ds : ℕ → Draw) (worker : n ≢ f.plan.workers)
    (kept : new ≡ record f { recorder = new.recorder; stash = new.stash; counts = new.counts; counted = new.counted; stop = new.stop })
    (runs : w.run ≡ f.run)
    (idle : f.attempt ≡ None → new ≡ f) (later : f.stop ≢ None → new ≡ f)
    (noted : f.attempt ≢ None → f.stop ≡ None
    → new.recorder.log ≡ f.recorder.log ++ noted_of f.plan w.run (attempt_begun f) (next f.plan.b (turns_made f) n) new.stop new.recorder.last w.buffers.chunks)
    (leaves : f.attempt ≢ None → f.stop ≡ None → new.stop ≡ None → Leaves (next f.plan.b (turns_made f) n) new.recorder.last f w v)
    (holds : HoldsChunks ds f w) (before : SlotsHold ds f) (record_of : ℕ → Item)
  where
    abbrev after : Parts V
    after = record new { history = f.history ++ n ∷ []; room = room }

    abbrev h : List ℕ
    h = turns_made f

    abbrev now : ℕ
    now = attempt_begun f

    -- what the worker holds where the turn writes a chunk
    held_chunks : HasInput f record_of → f.attempt ≢ None → f.stop ≡ None → (e : Event) → Leaves e new.recorder.last f w v
        → (j i : ℕ) → e ≡ Write j i → j < f.plan.b → AreChunks f.plan (ds now) record_of (order f.plan.b h) j w.buffers.chunks
    held_chunks input some free e left j i is inside =
        let write = subst (λ (e : Event). Leaves e new.recorder.last f w v) is left in
        subst (λ (k : ℕ). AreChunks f.plan (ds now) record_of (order f.plan.b h) k w.buffers.chunks) write.before
        (holds record_of input some free write.phase (subst (λ (k : ℕ). k < f.plan.b) (sym write.before) inside))

    pub slots_on : HasInput new record_of → new.attempt ≢ None → new.stop ≡ None
        → AreChunksStored new.plan new.run (attempt_begun after) (ds (attempt_begun after)) record_of (turns_made after) new.recorder.log
    slots_on input begun goes =
        let e = next f.plan.b h n in
        let was = input_was f new w.run now e w.buffers.chunks kept runs idle later noted record_of input in
        let some : f.attempt ≢ None = λ none. begun (ap (λ (x : Parts V). x.attempt) kept ∙ none) in
        let free : f.stop ≡ None = ran f.stop new.stop (λ stopped. ap (λ (x : Parts V). x.stop) (later stopped)) goes in
        let same : new.plan ≡ f.plan = ap (λ (x : Parts V). x.plan) kept in
        let more = turn_stores f.plan f.run now (ds now) record_of h n f.recorder.log e refl new.recorder.last w.buffers.chunks
        (held_chunks was some free e (leaves some free goes)) (before record_of was some free) in
        let log_is : new.recorder.log ≡ f.recorder.log ++ noted_of f.plan f.run now e None new.recorder.last w.buffers.chunks =
        noted some free ∙ ap (λ (k : Keys). f.recorder.log ++ noted_of f.plan k now e new.stop new.recorder.last w.buffers.chunks) runs
        ∙ ap (λ (s : Option Stop). f.recorder.log ++ noted_of f.plan f.run now e s new.recorder.last w.buffers.chunks) goes in
        subst (λ (q : Sizes). AreChunksStored q new.run (attempt_begun after) (ds (attempt_begun after)) record_of (turns_made after) new.recorder.log) (sym same)
        (subst (λ (k : Keys). AreChunksStored f.plan k (attempt_begun after) (ds (attempt_begun after)) record_of (turns_made after) new.recorder.log)
        (sym (ap (λ (x : Parts V). x.run) kept))
        (subst (λ (k : ℕ). AreChunksStored f.plan f.run k (ds k) record_of (turns_made after) new.recorder.log)
        (sym (ap (λ (k : ℕ). k - 1) (begun_on faults ds f n worker after same refl)))
        (subst (λ (H : List ℕ). AreChunksStored f.plan f.run now (ds now) record_of H new.recorder.log)
        (sym (turns_are faults ds f n worker after same refl))
        (subst (AreChunksStored f.plan f.run now (ds now) record_of (h ++ n ∷ [])) (sym log_is) more))))

-- when an attempt is begun, no chunk was written
pub slots_begun : {V : Type 0} (ds : ℕ → Draw) (f : Parts V) (attempt : ℕ) → SlotsHold ds (begun_as f attempt)
slots_begun ds f attempt record_of input some goes j i j_in i_in there =
    let none = ap (λ (h : List ℕ). count_by (is_write_at j i) (events f.plan.b h)) (latest-owner f.plan.workers f.history) in
    absurd (omega (arith, there, none))
