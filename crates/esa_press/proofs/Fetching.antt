-- Reads of an import, one after another.
use Rattle.std.proofs.Common.{◌≡◌, ℕ, ◌+◌, ◌-◌, ◌*◌, ◌<◌, ◌≤◌, ◌≢◌, ◌⊎◌, inl, inr, Bool, true, cond, List, [], ◌∷◌, ◌++◌, length, take, drop, map, sum, All, Option, Some, Result, Ok, Err, OnOk, refl, sym, ap, ◌∙◌, subst, arith, append-nil, append_assoc, length-drop, suc, get_or}
use Rattle.std.specs.Prelude.{slice_index, flat_map}
use Rattle.std.proofs.lemmas.Bool.{lt-ltb, le-ltb}
use Rattle.std.proofs.lemmas.List.Elements.{All-nil, All-push, All-append, All-weaker}
use Rattle.std.proofs.lemmas.List.FromFn.{map-range_with_len_more, take-map-range_with_len}
use Rattle.std.proofs.lemmas.List.{drop_all, drop_at, length-take-le, take-append-drop, take_all}
use borrow.Rule.Slice.PartMut.{put_mid}
use Rattle.std.proofs.lemmas.List.Sums.{sum_by-append}
use Rattle.std.proofs.Math.Seq.{take-add}
use Rattle.std.proofs.lemmas.Grind.{common_steps, flat_map-append}
use Rattle.esa_compress.specs.Held.{held_count}
use Rattle.esa_press.proofs.Opened.{weight}
use Rattle.esa_device.specs.Logs.{Carried, IsFaithful, Took}
use Rattle.esa_device.specs.Recording.{Recorded}
use Rattle.esa_device.proofs.LogLaws.{faithful-front, took-elsewhere, took-read}
use Rattle.esa_envelope.specs.declared.keys.Keys.{Keys}
use Rattle.esa_floor.specs.Written.{EachUntil}
use Rattle.esa_floor.proofs.Giving.{each_before}
use Rattle.esa_laws.proofs.Ranges.{below-add-one, map-below-same}
use Rattle.esa_outside.specs.Cause.{Rose}
use Rattle.esa_params.specs.Sizes.{Sizes, below}
use Rattle.esa_params.specs.Slots.{access_of, at, number_of, slot_number}
use Rattle.esa_params.specs.declared.slot.Access.{Access}
use Rattle.esa_params.specs.declared.slot.Op.{Op}
use Rattle.esa_params.specs.declared.slot.Op.TheVariants.{Read as Reads}
use Rattle.esa_params.specs.declared.slot.Region.TheVariants.{Tail}
use Rattle.esa_params.specs.declared.slot.Slot.{Slot}
use Rattle.esa_report.specs.declared.item.Item.{Item}
use Rattle.esa_spec.specs.Traces.{chunk_slot, import_reads, read_chunk}
use Rattle.esa_stash.specs.Dealing.{chunk_at}
use Rattle.esa_stash.specs.Stash.{padded}
use Rattle.esa_vault.specs.Placed.{IsSpelled}
use Rattle.esa_vault.specs.Seals.{opens}
use Rattle.esa_vault.specs.Traffic.{FailedByFault, IsRead, OnGiven, ReadAnswer, given_by}
use Rattle.esa_vault.specs.declared.fault.VaultFault.{VaultFault}
use Rattle.esa_vault.specs.declared.fault.VaultFault.TheVariants.{Device, Tampered}
use Rattle.esa_press.specs.Records.{sealed_records}
use Rattle.esa_press.proofs.Failing.{failed_read}
use Rattle.esa_press.specs.Fetched.{FetchAnswer, GavePart, GivesAtLast, GivesRecords, GoesOnReading, IsFetched, IsStored, OnUnopened, part_slot}

-- the parts of an import, and the reads of them
module _ (p : Sizes) (a i : ℕ) where
  abbrev pub read_part : ℕ → Access
  read_part x = access_of p a Reads (part_slot p i x)

  pub part_is_chunk : (x : ℕ) → x < p.b → part_slot p i x ≡ chunk_slot p x i
  part_is_chunk x inside = ap (λ (c : Bool). cond c (chunk_slot p x i) (at Tail i)) (lt-ltb x p.b inside)

  pub part_is_tail : (x : ℕ) → p.b ≤ x → part_slot p i x ≡ at Tail i
  part_is_tail x behind = ap (λ (c : Bool). cond c (chunk_slot p x i) (at Tail i)) (le-ltb x p.b behind)

  reads_are : map read_part (below (p.b + 1)) ≡ import_reads p a i
  reads_are =
      map-range_with_len_more read_part 0 p.b p.b (omega arith)
      ∙ ap (λ (l : List Access). l ++ read_part p.b ∷ [])
      (map-below-same read_part (read_chunk p a i) p.b (λ x x_in. ap (access_of p a Reads) (part_is_chunk x x_in)))
      ∙ ap (λ (slot : Slot). map (read_chunk p a i) (below p.b) ++ access_of p a Reads slot ∷ []) (part_is_tail p.b (omega arith))

  pub one_read_more : (x : ℕ) → x < p.b + 1 → take (x + 1) (import_reads p a i) ≡ take x (import_reads p a i) ++ read_part x ∷ []
  one_read_more x inside =
      ap (take (x + 1)) (sym reads_are)
      ∙ take-map-range_with_len read_part 0 (p.b + 1) (x + 1) (omega arith)
      ∙ map-range_with_len_more read_part 0 x x (omega arith)
      ∙ ap (λ (l : List Access). l ++ read_part x ∷ []) (sym (take-map-range_with_len read_part 0 (p.b + 1) x (omega arith)) ∙ ap (take x) reads_are)

-- a log goes on
pub reads_none : (log : List Carried) → GoesOnReading log log
reads_none log = record { more = []; longer = sym (append-nil log); reads = All-nil (λ (entry : Carried). entry.access.op ≡ Reads) }

pub reads_more : (old mid new : List Carried) (last : Carried) → GoesOnReading old mid → last.access.op ≡ Reads → new ≡ mid ++ last ∷ [] → GoesOnReading old new
reads_more old mid new last so_far read is = record {
  more = so_far.more ++ last ∷ [];
  longer = is ∙ ap (λ (l : List Carried). l ++ last ∷ []) so_far.longer ∙ append_assoc old so_far.more (last ∷ []);
  reads = All-push (λ (entry : Carried). entry.access.op ≡ Reads) so_far.more last so_far.reads read;
}

pub faithful_before : (p : Sizes) (old new : List Carried) → GoesOnReading old new → IsFaithful p new → IsFaithful p old
faithful_before p old new on faithful = faithful-front p old on.more (subst (λ (l : List Carried). IsFaithful p l) on.longer faithful)

-- an entry doesn't write the slot of this number
abbrev pub Spares : Sizes → ℕ → Carried → Type 0
Spares p number entry = (entry.access.op ≡ Reads) ⊎ (number ≢ slot_number p entry.access)

-- what the latest write took stays, where what comes behind it doesn't write the slot
pub took_over : (p : Sizes) (number : ℕ) (bytes : List ℕ) (log more : List Carried) → All (Spares p number) more → Took p number bytes log → Took p number bytes (log ++ more)
took_over p number bytes log [] spared took = subst (λ (l : List Carried). Took p number bytes l) (sym (append-nil log)) took
took_over p number bytes log (last ∷ more) spared took =
    subst (λ (l : List Carried). Took p number bytes l) (append_assoc log (last ∷ []) more)
    (took_over p number bytes (log ++ last ∷ []) more (λ k d inside. spared (suc k) d (omega arith)) (one (spared 0 last (omega arith))))
  where
    one : Spares p number last → Took p number bytes (log ++ last ∷ [])
    one (inl reads) = took-read p number bytes log last reads took
    one (inr other) = took-elsewhere p number bytes log last other took

took_through : (p : Sizes) (number : ℕ) (bytes : List ℕ) (log more : List Carried) → All (λ (entry : Carried). entry.access.op ≡ Reads) more
    → Took p number bytes log → Took p number bytes (log ++ more)
took_through p number bytes log more reads =
    took_over p number bytes log more (All-weaker (λ (entry : Carried). entry.access.op ≡ Reads) (Spares p number) (λ entry reading. inl reading) more reads)

-- one read more
module _ {V T : Type 0} (told : V → Option (List (List ℕ))) (faults : V → ℕ) (last_call : V → Option (Op × ℕ)) (p : Sizes) (slot : Slot) (a : ℕ) (opened : List ℕ → Bool)
    (bytes : List ℕ) (old new : Recorded V) (result : Result T VaultFault) (read : IsRead told faults last_call p slot a opened bytes old new result)
  where
    abbrev entry : Carried
    entry = record { access = access_of p a Reads slot; bytes = given_by result bytes }

    pub read_on : (first : List Carried) → GoesOnReading first old.log → GoesOnReading first new.log
    read_on first so_far = reads_more first old.log new.log entry so_far refl read.recorded.log

    pub faithful_old : IsFaithful p new.log → IsFaithful p old.log
    faithful_old faithful = faithful-front p old.log (entry ∷ []) (subst (λ (l : List Carried). IsFaithful p l) read.recorded.log faithful)

pub stored_after : (p : Sizes) (keys : Keys) (slot : Slot) (attempt n : ℕ) (old new : List Carried) (records : List Item) → GoesOnReading old new
    → IsStored p keys slot attempt n old records → IsStored p keys slot attempt n new records
stored_after p keys slot attempt n old new records on stored = record {
  fit = stored.fit;
  took = subst (λ (l : List Carried). Took p (number_of p slot) (sealed_records p keys slot attempt n records) l) (sym on.longer)
      (took_through p (number_of p slot) (sealed_records p keys slot attempt n records) old on.more on.reads stored.took);
}

module _ {V T : Type 0} (told : V → Option (List (List ℕ))) (faults : V → ℕ) (last_call : V → Option (Op × ℕ)) (p : Sizes) (keys : Keys) (a i : ℕ) (counts : List ℕ) where
  pub fetched_none : (old : Recorded V) (done : T) → IsFetched faults p keys a i counts 0 old old (Ok done)
  unfolding reads_none
  fetched_none old done = record {
    made = 0;
    few = omega arith;
    trace = sym (append-nil old.trace);
    log = reads_none old.log;
    gave = All-nil (GavePart p keys a i counts);
    failed = λ none. none;
    room = omega arith;
    plan = refl;
    given = tt;
    answer = (refl, refl);
  }

  given_more : (x made : ℕ) (first mid new : List Carried) (last bytes : List ℕ) (result : Result T VaultFault) → made ≡ x → GoesOnReading first mid
      → new ≡ mid ++ record { access = read_part p a i x; bytes = given_by result bytes } ∷ [] → OnGiven result (last ≡ bytes)
      → OnUnopened result (GivesAtLast (access_of p a Reads (part_slot p i made)) last first new)
  given_more x made first mid new last bytes (Ok done) here so_far is same = tt
  given_more x made first mid new last bytes (Err (Device number)) here so_far is same = tt
  given_more x made first mid new last bytes (Err (Tampered number)) here so_far is same = record {
    before = mid;
    reads = so_far;
    is = is
        ∙ ap (λ (l : List ℕ). mid ++ record { access = read_part p a i x; bytes = Some l } ∷ []) (sym same)
        ∙ ap (λ (n : ℕ). mid ++ record { access = read_part p a i n; bytes = Some last } ∷ []) (sym here);
  }

  answer_more : (x before mid now : ℕ) (last : List ℕ) (result : Result T VaultFault) → mid ≡ before
      → ReadAnswer (number_of p (part_slot p i x)) mid now (opens p keys (part_slot p i x) a (slice_index counts x) last) result
      → FetchAnswer p keys a i counts before now last (x + 1) (x + 1) result
  answer_more x before mid now last (Ok done) same answer = (refl, answer.1 ∙ same)
  answer_more x before mid now last (Err (Device number)) same answer = (x, refl, answer.0, subst (λ (n : ℕ). Rose n now) same answer.1)
  answer_more x before mid now last (Err (Tampered number)) same answer = (x, refl, answer.0, answer.1, answer.2 ∙ same)

  gave_more : (x before now : ℕ) (more : List Carried) (last bytes : List ℕ) (result : Result T VaultFault) → x < p.b + 1 → All (GavePart p keys a i counts) more
      → OnGiven result (last ≡ bytes) → ReadAnswer (number_of p (part_slot p i x)) before now (opens p keys (part_slot p i x) a (slice_index counts x) last) result
      → EachUntil (GavePart p keys a i counts) result (more ++ record { access = read_part p a i x; bytes = given_by result bytes } ∷ [])
  gave_more x before now more last bytes (Ok done) inside each same answer =
      All-push (GavePart p keys a i counts) more (record { access = read_part p a i x; bytes = Some bytes }) each
      (record {
        part = x;
        inside = inside;
        bytes = bytes;
        is = refl;
        opened = subst (λ (given : List ℕ). opens p keys (part_slot p i x) a (slice_index counts x) given ≡ true) same answer.0;
      })
  gave_more x before now more last bytes (Err fault) inside each same answer =
      each_before (GavePart p keys a i counts) more (record { access = read_part p a i x; bytes = given_by {T = T} (Err fault) bytes }) each

  fetched_next : (x : ℕ) (old mid new : Recorded V) (done : T) (bytes : List ℕ) (result : Result T VaultFault) → x < p.b + 1
      → IsFetched faults p keys a i counts x old mid (Ok done)
      → IsRead told faults last_call p (part_slot p i x) a (opens p keys (part_slot p i x) a (slice_index counts x)) bytes mid new result
      → IsFetched faults p keys a i counts (x + 1) old new result
  unfolding reads_more
  fetched_next x old mid new done bytes result inside so_far read =
      let before : so_far.made ≡ x = so_far.answer.0 in
      record {
        made = x + 1;
        few = omega arith;
        trace =
            read.recorded.trace
            ∙ ap (λ (t : List Access). t ++ read_part p a i x ∷ []) so_far.trace
            ∙ append_assoc old.trace (take so_far.made (import_reads p a i)) (read_part p a i x ∷ [])
            ∙ ap (λ (n : ℕ). old.trace ++ (take n (import_reads p a i) ++ read_part p a i x ∷ [])) before
            ∙ ap (λ (l : List Access). old.trace ++ l) (sym (one_read_more p a i x inside));
        log = reads_more old.log mid.log new.log (record { access = read_part p a i x; bytes = given_by result bytes }) so_far.log refl read.recorded.log;
        gave = gave_more x (faults mid.device) (faults new.device) so_far.log.more new.last bytes result inside so_far.gave read.given read.answer;
        failed = λ none. subst (FailedByFault result) (sym read.recorded.log) (failed_read mid.log (access_of p a Reads (part_slot p i x)) bytes result (so_far.failed none));
        room = let one = so_far.room in let other = read.recorded.room in omega (arith, one, other, before);
        plan = read.recorded.plan ∙ so_far.plan;
        given = given_more x (x + 1 - 1) old.log mid.log new.log new.last bytes result (omega arith) so_far.log read.recorded.log read.given;
        answer = answer_more x (faults old.device) (faults mid.device) (faults new.device) new.last result so_far.answer.1 read.answer;
      }

  pub fetched_more : (x : ℕ) (slot : Slot) (count : ℕ) (old mid new : Recorded V) (done : T) (bytes : List ℕ) (result : Result T VaultFault) → x < p.b + 1
      → part_slot p i x ≡ slot → slice_index counts x ≡ count → IsFetched faults p keys a i counts x old mid (Ok done)
      → IsRead told faults last_call p slot a (opens p keys slot a count) bytes mid new result
      → IsFetched faults p keys a i counts (x + 1) old new result
  fetched_more x slot count old mid new done bytes result inside slot_is count_is so_far read =
      fetched_next x old mid new done bytes result inside so_far
      (subst (λ (n : ℕ). IsRead told faults last_call p (part_slot p i x) a (opens p keys (part_slot p i x) a n) bytes mid new result) (sym count_is)
      (subst (λ (s : Slot). IsRead told faults last_call p s a (opens p keys s a count) bytes mid new result) (sym slot_is) read))

  -- where a read failed, no more come
  pub fetched_bad : (m n : ℕ) (old new : Recorded V) (fault : VaultFault) → m ≤ n → IsFetched {T = T} faults p keys a i counts m old new (Err fault)
      → IsFetched {T = T} faults p keys a i counts n old new (Err fault)
  fetched_bad m n old new (Device number) within fetched = record {
    made = fetched.made;
    few = let few = fetched.few in omega (arith, few, within);
    trace = fetched.trace;
    log = fetched.log;
    gave = fetched.gave;
    failed = fetched.failed;
    room = fetched.room;
    plan = fetched.plan;
    given = fetched.given;
    answer = fetched.answer;
  }
  fetched_bad m n old new (Tampered number) within fetched = record {
    made = fetched.made;
    few = let few = fetched.few in omega (arith, few, within);
    trace = fetched.trace;
    log = fetched.log;
    gave = fetched.gave;
    failed = fetched.failed;
    room = fetched.room;
    plan = fetched.plan;
    given = fetched.given;
    answer = fetched.answer;
  }

-- one chunk more
module _ (c x : ℕ) (old new : List Item) (front : take (x * c) new ≡ take (x * c) old) where
  abbrev here : List Item
  here = chunk_at c new x

  pub chunks_more : take ((x + 1) * c) new ≡ take (x * c) old ++ here
  chunks_more =
      let next : (x + 1) * c ≡ x * c + c = omega arith in
      let many : x * c + c - x * c ≡ c = omega arith in
      ap (λ (n : ℕ). take n new) next ∙ take-add (x * c) c new
      ∙ ap (λ (l : List Item). l ++ take c (drop (x * c) new)) front
      ∙ ap (λ (n : ℕ). take (x * c) old ++ take n (drop (x * c) new)) (sym many)

  pub chunks_counted : (counts : List ℕ) → x < length counts → held_count (take (x * c) old) ≡ sum (take x counts) → held_count here ≡ get_or counts x 0
      → held_count (take ((x + 1) * c) new) ≡ sum (take (x + 1) counts)
  chunks_counted counts inside before one =
      let all : held_count (take ((x + 1) * c) new) ≡ held_count (take (x * c) old) + held_count here =
      ap held_count chunks_more ∙ sum_by-append weight (take (x * c) old) here in
      let next : sum (take (x + 1) counts) ≡ sum (take x counts) + get_or counts x 0 = grind (arith, common_steps) in
      omega (arith, all, next, before, one)

  pub chunks_spelled : (size : ℕ) → All (IsSpelled size) (take (x * c) old) → All (IsSpelled size) here → All (IsSpelled size) (take ((x + 1) * c) new)
  chunks_spelled size before one = subst (All (IsSpelled size)) (sym chunks_more) (All-append (IsSpelled size) (take (x * c) old) here before one)

  pub chunks_given : (f : ℕ → List Item) → take (x * c) old ≡ flat_map f (below x) → here ≡ f x → take ((x + 1) * c) new ≡ flat_map f (below (x + 1))
  chunks_given f before one =
      chunks_more
      ∙ ap (λ (l : List Item). l ++ here) before
      ∙ ap (λ (l : List Item). flat_map f (below x) ++ l) (one ∙ sym (append-nil (f x)))
      ∙ sym (ap (flat_map f) (below-add-one x) ∙ flat_map-append f (below x) (x ∷ []))

  pub length_here : x * c + c ≤ length new → length here ≡ c
  length_here inside =
      let many : x * c + c - x * c ≡ c = omega arith in
      ap (λ (n : ℕ). length (take n (drop (x * c) new))) many
      ∙ length-take-le c (drop (x * c) new) (omega (arith, length-drop (x * c) new))

-- records that are got, in so many places
pub records_got : {V T : Type 0} (p : Sizes) (keys : Keys) (slot : Slot) (attempt n : ℕ) (items : List Item) (first old new : Recorded V) (done : T) (records : List Item)
    → length items ≡ n → GoesOnReading first.log old.log → IsFaithful p new.log → GivesRecords {T = T} p keys slot attempt items old new (Ok done)
    → IsStored p keys slot attempt n first.log records → items ≡ padded n records
records_got p keys slot attempt n items first old new done records many on faithful gives stored =
    gives records faithful
    (subst (λ (m : ℕ). IsStored p keys slot attempt m old.log records) (sym many) (stored_after p keys slot attempt n first.log old.log records on stored))
    ∙ ap (λ (m : ℕ). padded m records) many

-- a fact that follows, where it went well
pub on_ok : {T E : Type 0} {P Q : Type 0} (result : Result T E) → OnOk result P → (P → Q) → OnOk result Q
on_ok (Ok done) fact follows = follows fact
on_ok (Err failure) fact follows = tt

pub on_ok-done : {T E : Type 0} {Q : Type 0} (result : Result T E) → ((done : T) → result ≡ Ok done → Q) → OnOk result Q
on_ok-done (Ok done) follows = follows done refl
on_ok-done (Err failure) follows = tt

-- what stands behind a part that reaches to the end
pub tail_put : (a k : ℕ) (xs ys : List Item) → a ≤ length xs → k ≡ length xs - a → drop a (put_mid a k xs ys) ≡ ys
tail_put a k xs ys inside is =
    drop_at (take a xs) (ys ++ drop k (drop a xs)) a (length-take-le a xs inside)
    ∙ ap (λ (l : List Item). ys ++ l) (drop_all k (drop a xs) (omega (arith, length-drop a xs)))
    ∙ append-nil ys

-- the chunks, and the tail behind them
module _ (n : ℕ) (mid new : List Item) (front : take n new ≡ take n mid) where
  both_parts : take n mid ++ drop n new ≡ new
  both_parts = ap (λ (l : List Item). l ++ drop n new) (sym front) ∙ take-append-drop n new

  pub import_counted : (b count : ℕ) (counts : List ℕ) → length counts ≡ b + 1 → held_count (take n mid) ≡ sum (take b counts) → get_or counts b 0 ≡ count
      → held_count (drop n new) ≡ count → held_count new ≡ sum counts
  import_counted b count counts many before last one =
      let all : held_count new ≡ held_count (take n mid) + held_count (drop n new) =
      ap held_count (sym both_parts) ∙ sum_by-append weight (take n mid) (drop n new) in
      let next : sum (take (b + 1) counts) ≡ sum (take b counts) + get_or counts b 0 = grind (arith, common_steps) in
      let whole : sum (take (b + 1) counts) ≡ sum counts = ap sum (take_all (b + 1) counts (omega arith)) in
      omega (arith, all, next, whole, before, last, one)

  pub import_spelled : (size : ℕ) → All (IsSpelled size) (take n mid) → All (IsSpelled size) (drop n new) → All (IsSpelled size) new
  import_spelled size before one = subst (All (IsSpelled size)) both_parts (All-append (IsSpelled size) (take n mid) (drop n new) before one)

  pub import_given : (xs ys : List Item) → take n mid ≡ xs → drop n new ≡ ys → new ≡ xs ++ ys
  import_given xs ys before one = sym both_parts ∙ ap (λ (l : List Item). l ++ drop n new) before ∙ ap (λ (l : List Item). xs ++ l) one

-- records that are got, where the read went well
pub records_got-ok : {V T : Type 0} (p : Sizes) (keys : Keys) (slot : Slot) (attempt n : ℕ) (items : List Item) (first old new : Recorded V) (result : Result T VaultFault) (records : List Item)
    → length items ≡ n → GoesOnReading first.log old.log → IsFaithful p new.log → GivesRecords {T = T} p keys slot attempt items old new result
    → IsStored p keys slot attempt n first.log records → OnOk result (items ≡ padded n records)
records_got-ok p keys slot attempt n items first old new (Ok done) records many on faithful gives stored =
    records_got p keys slot attempt n items first old new done records many on faithful gives stored
records_got-ok p keys slot attempt n items first old new (Err fault) records many on faithful gives stored = tt
