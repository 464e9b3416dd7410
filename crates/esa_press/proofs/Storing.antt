-- What the slots hold while tails and output buckets are written, and what opens of them.
use Rattle.std.proofs.Common.{◌≡◌, ◌≢◌, inl, inr, ℕ, suc, ◌+◌, ◌-◌, ◌*◌, ◌^◌, ◌<◌, ◌≤◌, Bool, true, false, List, [], ◌∷◌, ◌++◌, length, take, drop, map, All, Option, Some, None, Result, Ok, Err, OnOk, refl, sym, ap, ◌∙◌, subst, arith, append-nil, append_assoc}
use Rattle.std.specs.Prelude.{count_by, is_some, slice_index, ◌&&◌}
use Rattle.std.proofs.lemmas.Bool.{cases_lt}
use Rattle.std.proofs.lemmas.List.{length-map}
use Rattle.std.proofs.lemmas.List.Elements.{All-append, All-map, All-nil, All-push, All-weaker}
use Rattle.std.proofs.lemmas.List.Sums.{sum_by-append, sum_by-cons, sum_by_push}
use Rattle.esa_compress.specs.Held.{held_in, is_held, is_kind_held}
use Rattle.esa_compress.specs.Imported.{import_items}
use Rattle.esa_compress.proofs.ImportLaws.{queue-import}
use Rattle.esa_device.specs.Logs.{Carried, IsFaithful, Took}
use Rattle.esa_device.specs.Recording.{Recorded}
use Rattle.esa_device.proofs.LogLaws.{faithful-front, faithful-last, took-elsewhere, took-written}
use Rattle.esa_envelope.specs.declared.keys.Keys.{Keys}
use Rattle.esa_laws.proofs.FinishLaws.{All-below}
use Rattle.esa_laws.proofs.LineLaws.{length-queued}
use Rattle.esa_laws.proofs.PairLaws.{each-pair}
use Rattle.esa_laws.proofs.PlaceLaws.{fits-each}
use Rattle.esa_laws.proofs.Tests.{bit}
use Rattle.esa_laws.proofs.TotalLaws.{all-exchanged, once}
use Rattle.esa_params.specs.Sizes.{ArePlanned, Sizes, below, first, size}
use Rattle.esa_params.specs.Slots.{IsPlanned, access_of, at, is_writing, item_length, number_of, slot_number}
use Rattle.esa_params.specs.declared.slot.Op.{Op}
use Rattle.esa_params.specs.declared.slot.Op.TheVariants.{Read as Reads, Write as Writes}
use Rattle.esa_params.specs.declared.slot.Region.{Region}
use Rattle.esa_params.specs.declared.slot.Region.TheVariants.{Input, Mid, Tail, Output}
use Rattle.esa_params.specs.declared.slot.Slot.{Slot}
use Rattle.esa_report.specs.declared.item.Item.{Item}
use Rattle.esa_report.specs.declared.item.Kind.{Kind}
use Rattle.esa_report.specs.declared.item.Kind.TheVariants.{Dummy, Real, Malformed}
use Rattle.esa_spec.specs.Draws.{Draw}
use Rattle.esa_spec.specs.Lines.{chunk, queued, tail}
use Rattle.esa_spec.specs.Places.{exchange_of, output_places, window}
use Rattle.esa_spec.specs.Traces.{chunk_slot, written_tail}
use Rattle.esa_spec.specs.Turns.{events, is_write_at, order, writes}
use Rattle.esa_spec.specs.Verdicts.{reached}
use Rattle.esa_stash.specs.Stash.{padded, queue_at}
use Rattle.esa_vault.specs.Filled.{is_filled, text_of}
use Rattle.esa_vault.specs.Placed.{IsHeld, IsSpelled}
use Rattle.esa_vault.specs.Seals.{is_text_of, opens, sealed_block}
use Rattle.esa_vault.specs.declared.fault.VaultFault.TheVariants.{Device, Tampered}
use Rattle.esa_vault.proofs.BlockLaws.{opens-sealed}
use Rattle.esa_vault.proofs.TextLaws.{place-inside, text-fills}
use Rattle.esa_floor.specs.Keeping.{AreChunksStored, HasInput, chunk_block}
use Rattle.esa_floor.specs.Parts.{Parts, count_at}
use Rattle.esa_floor.specs.Written.{AreItems}
use Rattle.esa_floor.proofs.Writing.{took-read}
use Rattle.esa_press.specs.Contents.{ArePut, AreQueued, AreTailsStored, EachOpens, GoesOnPressing, GoesOnWriting, HoldsDistribution, IsOfPress, WroteItsBlock, has_stored, output_of, tail_of}
use Rattle.esa_press.specs.Drained.{AreDrained, DrainEnd, failed_tail, stored_tail, tail_block}
use Rattle.esa_press.specs.Fetched.{AreStored, GoesOnReading, IsFetched, IsStored, part_slot}
use Rattle.esa_press.specs.Pressed.{ImportAnswer, Pressed, PutAnswer, output_block}
use Rattle.esa_press.specs.Records.{AreRecords, imported_items, sealed_records}
use Rattle.esa_press.specs.Stepped.{AreCounted, parts_counted}
use Rattle.esa_press.specs.declared.halt.Halt.{Halt}
use Rattle.esa_press.specs.declared.halt.Halt.TheVariants as halt
use Rattle.esa_press.proofs.Counting.{chunk_few, part_before, part_last}
use Rattle.esa_press.proofs.Fetching.{Spares, part_is_chunk, part_is_tail, stored_after, took_over}
use Rattle.esa_press.proofs.Opened.{item_length_is}

-- an item that is no dummy is held
held_kind : (kind : Kind) → kind ≢ Dummy → is_kind_held kind ≡ true
held_kind Dummy never = absurd (never refl)
held_kind Real other = refl
held_kind Malformed other = refl

pub all_held : (size : ℕ) (record_of : ℕ → Item) → AreItems size record_of → (x : ℕ) → is_held (record_of x) ≡ true
all_held size record_of items x = held_kind (record_of x).kind (items.held x)

-- the records of some places can stand in a block that has room for them
pub records_fit : (size n : ℕ) (record_of : ℕ → Item) (places : List ℕ) → AreItems size record_of → length places ≤ n → AreRecords size n (map record_of places)
records_fit size n record_of places items few = record {
  fit = let many = length-map places record_of in omega (arith, many, few);
  held = All-map IsHeld record_of places (λ k d inside. items.held _);
  spelled = All-map (IsSpelled size) record_of places (λ k d inside. items.spelled _);
}

-- a block of records opens for their number
text_taken : (p : Sizes) (region : Region) (count : ℕ) (text : List ℕ) → region ≢ Input → is_filled (item_length p.form) count text ≡ true → is_text_of p region count text ≡ true
text_taken p Input count text other filled = absurd (other refl)
text_taken p Mid count text other filled = filled
text_taken p Tail count text other filled = filled
text_taken p Output count text other filled = filled

pub records_open : (p : Sizes) (keys : Keys) (slot : Slot) (attempt n : ℕ) (records : List Item) (last : List ℕ) → ArePlanned p → IsPlanned p slot → attempt < 2 ^ 32 → slot.region ≢ Input
    → AreRecords (item_length p.form) n records → last ≡ sealed_records p keys slot attempt n records → opens p keys slot attempt (length records) last ≡ true
records_open p keys slot attempt n records last planned inside small other fit is =
    let size = item_length p.form in
    ap (opens p keys slot attempt (length records)) is
    ∙ opens-sealed p keys slot attempt (length records) (text_of size (padded n records)) planned inside small
    ∙ text_taken p slot.region (length records) (text_of size (padded n records)) other
    (text-fills size (n - length records) records (item_length_is p.form) fit.spelled fit.held)

no_both : (b : Bool) → b ≡ true → b ≡ false → ⊥
no_both b one other = cc (one, other)

-- so no read of an import gives a block that doesn't open, where the log is faithful and as many items are counted as are stored
module _ {V : Type 0} (faults : V → ℕ) (p : Sizes) (keys : Keys) (attempt i : ℕ) (counts : List ℕ) (planned : ArePlanned p) (i_in : i < p.b) (small : attempt < 2 ^ 32) where
  module _ (old new : Recorded V) (number : ℕ) (fetched : IsFetched {T = Unit {0}} faults p keys attempt i counts (p.b + 1) old new (Err (Tampered number))) (faithful : IsFaithful p new.log) where
    abbrev x : ℕ
    x = fetched.answer.0

    inside : x < p.b + 1
    inside = let few = fetched.few in let made = fetched.answer.1 in omega (arith, few, made)

    -- the part that was read last
    last_open : (slot : Slot) (n : ℕ) (records : List Item) → part_slot p i x ≡ slot → IsPlanned p slot → slot.region ≢ Input
        → IsStored p keys slot attempt n old.log records → slice_index counts x ≡ length records → ⊥
    last_open slot n records here within other stored count =
        let before = fetched.given.before in
        let at_part : fetched.made - 1 ≡ x = let made = fetched.answer.1 in omega (arith, made) in
        let is : new.log ≡ before ++ record { access = access_of p attempt Reads slot; bytes = Some new.last } ∷ [] =
        fetched.given.is
        ∙ ap (λ (m : ℕ). before ++ record { access = access_of p attempt Reads (part_slot p i m); bytes = Some new.last } ∷ []) at_part
        ∙ ap (λ (s : Slot). before ++ record { access = access_of p attempt Reads s; bytes = Some new.last } ∷ []) here in
        let took = (stored_after p keys slot attempt n old.log before records fetched.given.reads stored).took in
        let same = faithful-last p before (record { access = access_of p attempt Reads slot; bytes = Some new.last }) new.last (sealed_records p keys slot attempt n records)
        (subst (λ (l : List Carried). IsFaithful p l) is faithful) (refl, refl) took in
        no_both (opens p keys slot attempt (length records) new.last)
        (records_open p keys slot attempt n records new.last planned within small other stored.fit same)
        (sym (ap (λ (m : ℕ). opens p keys slot attempt m new.last) count)
        ∙ sym (ap (λ (s : Slot). opens p keys s attempt (slice_index counts x) new.last) here) ∙ fetched.answer.3)

    pub each_opens : (chunks : ℕ → List Item) (left : List Item) → AreStored p keys attempt i old.log chunks left
        → ((j : ℕ) → j < p.b → slice_index counts j ≡ length (chunks j)) → slice_index counts p.b ≡ length left → ⊥
    each_opens chunks left stored counted counted_left = elim (cases_lt x p.b) [
      | inl chunk_in ↦
          let within = place-inside p.b x p.b chunk_in in
          last_open (chunk_slot p x i) p.c (chunks x) (part_is_chunk p attempt i x chunk_in) (omega (arith, within, i_in)) (λ same. cc same)
          (stored.chunk x chunk_in) (counted x chunk_in)
      | inr behind ↦
          let at_end : x ≡ p.b = let few = inside in omega (arith, few, behind) in
          last_open (at Tail i) p.k left (part_is_tail p attempt i x behind) i_in (λ same. cc same) stored.left
          (ap (λ (m : ℕ). slice_index counts m) at_end ∙ counted_left)
    ]

-- what is stored of an attempt, for the import of a target
module _ (p : Sizes) (keys : Keys) (d : Draw) (h counts tails : List ℕ) (attempt : ℕ) (counted : AreCounted p d h counts tails) (record_of : ℕ → Item) where
  abbrev o : List ℕ
  o = order p.b h

  abbrev chunks_for : ℕ → ℕ → List Item
  chunks_for i j = map record_of (chunk p d o (exchange_of o j) i)

  abbrev left_for : ℕ → List Item
  left_for i = map record_of (tail p d o i)

  module _ (i : ℕ) (i_in : i < p.b) where
    tail_short : length (tail p d o i) ≤ p.k
    tail_short = let few = fits-each p d o counted.fits i i_in in let long = length-queued p d o p.b i in omega (arith, few, long)

    pub are_stored : (log : List Carried) → HoldsDistribution p keys d h attempt record_of log → AreStored p keys attempt i log (chunks_for i) (left_for i)
    are_stored log holds = record {
      chunk = λ j j_in. record {
        fit = records_fit (item_length p.form) p.c record_of (chunk p d o (exchange_of o j) i) holds.items (chunk_few p d h counts tails counted i i_in j j_in);
        took = (holds.chunks j i j_in i_in (let once : count_by (is_write_at j i) (events p.b h) ≡ 1 = each-pair p.b h j i counted.all j_in i_in in omega (arith, once))).took;
      };
      left = record {
        fit = records_fit (item_length p.form) p.k record_of (tail p d o i) holds.items tail_short;
        took = holds.tails i i_in;
      };
    }

    chunks_counted_for : (j : ℕ) → j < p.b → slice_index (parts_counted p counts tails i) j ≡ length (chunks_for i j)
    chunks_counted_for j j_in =
        part_before (λ j. count_at p.b counts j i) p.b j (slice_index tails i) j_in ∙ counted.chunks j i j_in i_in
        ∙ sym (length-map (chunk p d o (exchange_of o j) i) record_of)

    left_counted_for : slice_index (parts_counted p counts tails i) p.b ≡ length (left_for i)
    left_counted_for =
        part_last (λ j. count_at p.b counts j i) p.b (slice_index tails i) ∙ counted.waits i i_in
        ∙ sym (length-queued p d o p.b i) ∙ sym (length-map (tail p d o i) record_of)

    -- an import keeps the queue that of the places that wait, and each block opens
    pub import_kept : {V : Type 0} (faults : V → ℕ) (old new : Recorded V) (j : ℕ) (queue rest : List Item) (order_is : List ℕ) (result : Result (Unit {0}) Halt)
        → ArePlanned p → attempt < 2 ^ 32 → first p j ≤ reached p d i → order_is ≡ d.order i → HoldsDistribution p keys d h attempt record_of old.log → IsFaithful p new.log
        → ImportAnswer faults p keys attempt i (parts_counted p counts tails i) queue old new result
        → OnOk result (rest ≡ queue ++ held_in (imported_items p (chunks_for i) (left_for i)) order_is)
        → queue ≡ map record_of (window p d o j i) → EachOpens result (rest ≡ map record_of (window p d o j (i + 1))) (Unit {0})
    import_kept faults old new j queue rest order_is (Ok done) planned small put drawn holds faithful answer gives waits =
        gives ∙ ap (λ (q : List Item). q ++ held_in (import_items record_of p d o i) order_is) waits
        ∙ ap (λ (l : List ℕ). map record_of (window p d o j i) ++ held_in (import_items record_of p d o i) l) drawn
        ∙ queue-import p d h counted.drawn counted.all counted.fits record_of (all_held (item_length p.form) record_of holds.items) j i i_in put
    import_kept faults old new j queue rest order_is (Err (halt.Verdict v)) planned small put drawn holds faithful answer gives waits = tt
    import_kept faults old new j queue rest order_is (Err (halt.Fault (Device number))) planned small put drawn holds faithful answer gives waits = tt
    import_kept faults old new j queue rest order_is (Err (halt.Fault (Tampered number))) planned small put drawn holds faithful answer gives waits =
        absurd (each_opens faults p keys attempt i (parts_counted p counts tails i) planned i_in small old new number answer faithful
        (chunks_for i) (left_for i) (are_stored old.log holds) chunks_counted_for left_counted_for)

-- where it was stopped, whatever was to hold where all was done
pub stops_too : (P Q S : Type 0) (stop : Halt) → EachOpens {T = Unit {0}} (Err stop) P S → EachOpens {T = Unit {0}} (Err stop) Q S
stops_too P Q S (halt.Verdict v) fact = fact
stops_too P Q S (halt.Fault (Device number)) fact = fact
stops_too P Q S (halt.Fault (Tampered number)) never = never

-- what a log has more
stores_nothing : (entry : Carried) → entry.access.op ≡ Reads → bit (has_stored entry) ≡ 0
stores_nothing entry reads = ap (λ (op : Op). bit (is_writing op && is_some entry.bytes)) reads

none_stored : (more : List Carried) → All (λ (entry : Carried). entry.access.op ≡ Reads) more → count_by has_stored more ≡ 0
none_stored [] reads = refl
none_stored (entry ∷ more) reads =
    let next : count_by has_stored (entry ∷ more) ≡ bit (has_stored entry) + count_by has_stored more = sum_by-cons (λ (e : Carried). bit (has_stored e)) entry more in
    let none = stores_nothing entry (reads 0 entry (omega arith)) in
    let rest = none_stored more (λ k e inside. reads (suc k) e (omega arith)) in
    omega (arith, next, none, rest)

pub writing_none : (log : List Carried) → GoesOnWriting 0 log log
writing_none log = record { more = []; longer = sym (append-nil log); each = All-nil IsOfPress; many = refl }

read_is_of_press : (entry : Carried) → entry.access.op ≡ Reads → IsOfPress entry
read_is_of_press entry reads writes = absurd (let both = sym reads ∙ writes in cc both)

pub writing_read : (n : ℕ) (first old new : List Carried) → GoesOnWriting n first old → GoesOnReading old new → GoesOnWriting n first new
writing_read n first old new so_far on = record {
  more = so_far.more ++ on.more;
  longer = on.longer ∙ ap (λ (l : List Carried). l ++ on.more) so_far.longer ∙ append_assoc first so_far.more on.more;
  each = All-append IsOfPress so_far.more on.more so_far.each (All-weaker (λ (entry : Carried). entry.access.op ≡ Reads) IsOfPress read_is_of_press on.more on.reads);
  many =
      sum_by-append (λ (e : Carried). bit (has_stored e)) so_far.more on.more
      ∙ let some = so_far.many in let none = none_stored on.more on.reads in omega (arith, some, none);
}

-- a write of the output behind it
pub writing_put : (p : Sizes) (a j n m : ℕ) (bytes : Option (List ℕ)) (first old new : List Carried) → GoesOnWriting n first old
    → new ≡ old ++ record { access = access_of p a Writes (at Output j); bytes = bytes } ∷ [] → m ≡ n + bit (is_some bytes) → GoesOnWriting m first new
writing_put p a j n m bytes first old new so_far is count =
    let entry : Carried = record { access = access_of p a Writes (at Output j); bytes = bytes } in
    record {
      more = so_far.more ++ entry ∷ [];
      longer = is ∙ ap (λ (l : List Carried). l ++ entry ∷ []) so_far.longer ∙ append_assoc first so_far.more (entry ∷ []);
      each = All-push IsOfPress so_far.more entry so_far.each (λ writes. refl);
      many = sum_by_push (λ (e : Carried). bit (has_stored e)) so_far.more entry ∙ ap (λ (k : ℕ). k + bit (is_some bytes)) so_far.many ∙ sym count;
    }

-- slots before the output are spared
pub spared_before : (p : Sizes) (number : ℕ) → number < number_of p (at Output 0) → (entry : Carried) → IsOfPress entry → Spares p number entry
spared_before p number before entry of = by entry.access.op refl
  where
    by : (op : Op) → entry.access.op ≡ op → Spares p number entry
    by Reads is = inl is
    by Writes is =
        let there : slot_number p entry.access ≡ number_of p (at Output entry.access.index) = ap (λ (r : Region). number_of p (at r entry.access.index)) (of is) in
        inr (λ same. absurd (omega (arith, same, there, before)))

pub took_on : (p : Sizes) (n number : ℕ) (bytes : List ℕ) (old new : List Carried) → number < number_of p (at Output 0) → GoesOnWriting n old new → Took p number bytes old → Took p number bytes new
took_on p n number bytes old new before on took =
    subst (λ (l : List Carried). Took p number bytes l) (sym on.longer)
    (took_over p number bytes old on.more (All-weaker IsOfPress (Spares p number) (spared_before p number before) on.more on.each) took)

module _ (p : Sizes) (keys : Keys) (d : Draw) (h : List ℕ) (a : ℕ) (record_of : ℕ → Item) where
  pub holds_on : (n : ℕ) (old new : List Carried) → GoesOnWriting n old new → HoldsDistribution p keys d h a record_of old → HoldsDistribution p keys d h a record_of new
  holds_on n old new on holds = record {
    items = holds.items;
    chunks = λ j i j_in i_in written.
        let within = place-inside p.b j p.b j_in in
        let one = holds.chunks j i j_in i_in written in
        record {
          exchanged = one.exchanged;
          took = took_on p n (number_of p (chunk_slot p j i)) (chunk_block p keys a d record_of (order p.b h) j i) old new (omega (arith, within, i_in)) on one.took;
        };
    tails = λ i i_in. took_on p n (number_of p (at Tail i)) (tail_of p keys d h a record_of i) old new (omega (arith, i_in)) on (holds.tails i i_in);
  }

  -- a read takes nothing, and an output bucket is written with its block
  abbrev Wrote : Carried → Type 0
  Wrote = WroteItsBlock p keys d h a record_of

  read_wrote : (entry : Carried) → entry.access.op ≡ Reads → Wrote entry
  read_wrote entry reads = record {
    attempt = λ writes. absurd (let both = sym reads ∙ writes in cc both);
    block = took-read p keys (λ b. d) record_of (λ b. h) entry reads;
  }

  output_wrote : (n : ℕ) (stored : Option (List ℕ)) → n < p.b → writes p.b h ≡ p.b * p.b → ((bytes : List ℕ) → stored ≡ Some bytes → bytes ≡ output_of p keys d h a record_of n)
      → Wrote (record { access = access_of p a Writes (at Output n); bytes = stored })
  output_wrote n stored n_in all is = record {
    attempt = λ writing. refl;
    block = record {
      planned = λ writing. n_in;
      took = λ bytes writing other moved. record {
        exchanged = λ j j_in. let one = once p.b h j all j_in in omega (arith, one);
        sealed = is bytes moved;
      };
    };
  }

  stored_is : (block bytes : List ℕ) → Some block ≡ Some bytes → bytes ≡ block
  stored_is block bytes moved = cc moved

  none_moved : (block bytes : List ℕ) → None ≡ Some bytes → bytes ≡ block
  none_moved block bytes moved = absurd (cc moved)

  -- the output buckets so far
  pub put_none : (log : List Carried) → ArePut p keys d h a record_of 0 log log
  unfolding writing_none
  put_none log = record { log = writing_none log; outputs = λ j inside. absurd (omega arith); each = All-nil Wrote }

  pub put_read : (n : ℕ) (first old new : List Carried) → ArePut p keys d h a record_of n first old → GoesOnReading old new → ArePut p keys d h a record_of n first new
  unfolding writing_read
  put_read n first old new so_far on = record {
    log = writing_read n first old new so_far.log on;
    outputs = λ j inside.
        subst (λ (l : List Carried). Took p (number_of p (at Output j)) (output_of p keys d h a record_of j) l) (sym on.longer)
        (took_over p (number_of p (at Output j)) (output_of p keys d h a record_of j) old on.more
        (All-weaker (λ (entry : Carried). entry.access.op ≡ Reads) (Spares p (number_of p (at Output j))) (λ entry reads. inl reads) on.more on.reads) (so_far.outputs j inside));
    each = All-append Wrote so_far.log.more on.more so_far.each (All-weaker (λ (entry : Carried). entry.access.op ≡ Reads) Wrote read_wrote on.more on.reads);
  }

  still_put : (n j : ℕ) (bytes : Option (List ℕ)) (old new : List Carried) → new ≡ old ++ record { access = access_of p a Writes (at Output n); bytes = bytes } ∷ [] → j < n
      → Took p (number_of p (at Output j)) (output_of p keys d h a record_of j) old → Took p (number_of p (at Output j)) (output_of p keys d h a record_of j) new
  still_put n j bytes old new is sooner took =
      subst (λ (l : List Carried). Took p (number_of p (at Output j)) (output_of p keys d h a record_of j) l) (sym is)
      (took-elsewhere p (number_of p (at Output j)) (output_of p keys d h a record_of j) old (record { access = access_of p a Writes (at Output n); bytes = bytes })
      (λ same. absurd (omega (arith, same, sooner))) took)

  pub put_stored : (n : ℕ) (first old new : List Carried) → n < p.b → writes p.b h ≡ p.b * p.b → ArePut p keys d h a record_of n first old
      → new ≡ old ++ record { access = access_of p a Writes (at Output n); bytes = Some (output_of p keys d h a record_of n) } ∷ [] → ArePut p keys d h a record_of (n + 1) first new
  unfolding writing_put
  put_stored n first old new n_in all so_far is =
      let block = output_of p keys d h a record_of n in
      record {
        log = writing_put p a n n (n + 1) (Some block) first old new so_far.log is refl;
        outputs = λ j inside. elim (cases_lt j n) [
          | inl sooner ↦ still_put n j (Some block) old new is sooner (so_far.outputs j sooner)
          | inr behind ↦
              let here : j ≡ n = omega (arith, inside, behind) in
              subst (λ (m : ℕ). Took p (number_of p (at Output m)) (output_of p keys d h a record_of m) new) (sym here)
              (subst (λ (l : List Carried). Took p (number_of p (at Output n)) block l) (sym is)
              (took-written p block old (record { access = access_of p a Writes (at Output n); bytes = Some block }) refl refl))
        ];
        each = All-push Wrote so_far.log.more (record { access = access_of p a Writes (at Output n); bytes = Some block }) so_far.each
            (output_wrote n (Some block) n_in all (stored_is block));
      }

  pub put_failed : (n : ℕ) (first old new : List Carried) → n < p.b → writes p.b h ≡ p.b * p.b → ArePut p keys d h a record_of n first old
      → new ≡ old ++ record { access = access_of p a Writes (at Output n); bytes = None } ∷ [] → ArePut p keys d h a record_of n first new
  unfolding writing_put
  put_failed n first old new n_in all so_far is =
      let none : n ≡ n + 0 = omega arith in
      record {
        log = writing_put p a n n n None first old new so_far.log is none;
        outputs = λ j inside. still_put n j None old new is inside (so_far.outputs j inside);
        each = All-push Wrote so_far.log.more (record { access = access_of p a Writes (at Output n); bytes = None }) so_far.each
            (output_wrote n None n_in all (none_moved (output_of p keys d h a record_of n)));
      }

  -- one output bucket more
  pub output_put : {V : Type 0} (told : V → Option (List (List ℕ))) (faults : V → ℕ) (last_call : V → Option (Op × ℕ)) (n i : ℕ) (first : List Carried) (old new : Recorded V) (queue rest : List Item) (result : Result (Unit {0}) Halt)
      → n < p.b → writes p.b h ≡ p.b * p.b → (size p n ≤ length queue → take (size p n) queue ≡ map record_of (output_places p d h n)) → drop (size p n) queue ≡ map record_of (window p d (order p.b h) (n + 1) i)
      → ArePut p keys d h a record_of n first old.log → PutAnswer told faults last_call p keys a n queue rest old new result
      → EachOpens result (ArePut p keys d h a record_of (n + 1) first new.log × (rest ≡ map record_of (window p d (order p.b h) (n + 1) i))) (ArePut p keys d h a record_of n first new.log)
  output_put told faults last_call n i first old new queue rest (Ok done) n_in all front behind so_far answer = (
    put_stored n first old.log new.log n_in all so_far
        (answer.2.recorded.log
        ∙ ap (λ (items : List Item). old.log ++ record { access = access_of p a Writes (at Output n); bytes = Some (sealed_block p keys (at Output n) a (text_of (item_length p.form) items)) } ∷ []) (front answer.0)),
    answer.1 ∙ behind,
  )
  output_put told faults last_call n i first old new queue rest (Err (halt.Verdict v)) n_in all front behind so_far answer =
      subst (λ (r : Recorded _). ArePut p keys d h a record_of n first r.log) (sym answer.3) so_far
  output_put told faults last_call n i first old new queue rest (Err (halt.Fault (Device number))) n_in all front behind so_far answer =
      put_failed n first old.log new.log n_in all so_far answer.2.recorded.log
  output_put told faults last_call n i first old new queue rest (Err (halt.Fault (Tampered number))) n_in all front behind so_far answer = absurd answer.2.answer

-- the tails of a drain
module _ {V : Type 0} (faults : V → ℕ) (a : ℕ) (f : Parts V) (d : Draw) (h : List ℕ) (record_of : ℕ → Item) where
  pub tails_stored : (new : Parts V) → writes f.plan.b h ≡ f.plan.b * f.plan.b → AreQueued f.plan d h record_of f.stash → AreDrained faults a f.plan.b f new
      → AreTailsStored f.plan f.run d h a record_of new.recorder.log
  tails_stored new wrote queues done = λ i i_in.
      let o = order f.plan.b h in
      let here : queue_at f.stash i ≡ map record_of (tail f.plan d o i) = queues i i_in ∙ ap (λ (k : ℕ). map record_of (queued f.plan d o k i)) (all-exchanged f.plan.b h wrote) in
      subst (λ (items : List Item). Took f.plan (number_of f.plan (at Tail i)) (sealed_records f.plan f.run (at Tail i) a f.plan.k items) new.recorder.log) here (done.stored i i_in)

  module _ (number : ℕ) (before : number < number_of f.plan (at Tail 0)) where
    tail_spares : (i : ℕ) (bytes : Option (List ℕ)) → Spares f.plan number (record { access = written_tail f.plan a i; bytes = bytes })
    tail_spares i bytes = inr (λ same. absurd (omega (arith, same, before)))

    tails_spare : (n : ℕ) → All (Spares f.plan number) (map (stored_tail f a) (below n))
    tails_spare n =
        All-map (Spares f.plan number) (stored_tail f a) (below n)
        (All-weaker (λ (x : ℕ). x < n) (λ (x : ℕ). Spares f.plan number (stored_tail f a x)) (λ x x_in. tail_spares x (Some (tail_block f a x))) (below n) (All-below n n (omega arith)))

    took_behind : (bytes : List ℕ) (more new : List Carried) → All (Spares f.plan number) more → new ≡ f.recorder.log ++ more → Took f.plan number bytes f.recorder.log → Took f.plan number bytes new
    took_behind bytes more new spared is took =
        subst (λ (l : List Carried). Took f.plan number bytes l) (sym is) (took_over f.plan number bytes f.recorder.log more spared took)

    took_drained : {T : Type 0} (o : List ℕ) (new : Parts V) (bytes : List ℕ) (result : Result T Halt) → DrainEnd faults d o a f new result
        → Took f.plan number bytes f.recorder.log → Took f.plan number bytes new.recorder.log
    took_drained o new bytes (Ok done) end took = took_behind bytes (map (stored_tail f a) (below f.plan.b)) new.recorder.log (tails_spare f.plan.b) end.1.log took
    took_drained o new bytes (Err (halt.Verdict v)) end took = took_behind bytes (map (stored_tail f a) (below end.0)) new.recorder.log (tails_spare end.0) end.3.log took
    took_drained o new bytes (Err (halt.Fault (Device slot))) end took =
        took_behind bytes (map (stored_tail f a) (below end.0) ++ failed_tail f a end.0 ∷ []) new.recorder.log
        (All-push (Spares f.plan number) (map (stored_tail f a) (below end.0)) (failed_tail f a end.0) (tails_spare end.0) (tail_spares end.0 None)) end.3.log took
    took_drained o new bytes (Err (halt.Fault (Tampered slot))) never took = absurd never

  pub chunks_stay : {T : Type 0} (o : List ℕ) (new : Parts V) (result : Result T Halt) → DrainEnd faults d o a f new result
      → AreChunksStored f.plan f.run a d record_of h f.recorder.log → AreChunksStored f.plan f.run a d record_of h new.recorder.log
  chunks_stay o new result end stored = λ j i j_in i_in written.
      let within = place-inside f.plan.b j f.plan.b j_in in
      let one = stored j i j_in i_in written in
      record {
        exchanged = one.exchanged;
        took = took_drained (number_of f.plan (chunk_slot f.plan j i)) (omega (arith, within, i_in)) o new (chunk_block f.plan f.run a d record_of (order f.plan.b h) j i) result end one.took;
      }

  -- the input of the floor stays too
  pub the_same_but : {T : Type 0} (o : List ℕ) (new : Parts V) (result : Result T Halt) → DrainEnd faults d o a f new result → new ≡ record f { recorder = new.recorder; stash = new.stash }
  the_same_but o new (Ok done) end = end.1.others
  the_same_but o new (Err (halt.Verdict v)) end = end.3.others
  the_same_but o new (Err (halt.Fault (Device slot))) end = end.3.others
  the_same_but o new (Err (halt.Fault (Tampered slot))) never = absurd never

  pub input_drained : {T : Type 0} (o : List ℕ) (new : Parts V) (result : Result T Halt) → DrainEnd faults d o a f new result → IsFaithful f.plan new.recorder.log
      → HasInput f record_of → HasInput new record_of
  input_drained o new result end faithful input =
      subst (λ (x : Parts V). HasInput x record_of) (sym (the_same_but o new result end))
      (record {
        faithful = faithful;
        sealed = λ j j_in.
            let one = input.sealed j j_in in
            (one.0, took_drained (number_of f.plan (at Input j)) (omega (arith, j_in)) o new (sealed_block f.plan f.run (at Input j) 0 one.0) result end one.1, one.2);
      })

-- so it does in a compression
pub input_pressed : {V : Type 0} (f : Parts V) (r : Recorded V) (record_of : ℕ → Item) → GoesOnPressing f.recorder.log r.log → IsFaithful f.plan r.log
    → HasInput f record_of → HasInput (record f { recorder = r }) record_of
input_pressed f r record_of on faithful input = record {
  faithful = faithful;
  sealed = λ j j_in.
      let one = input.sealed j j_in in
      (one.0, took_on f.plan on.0 (number_of f.plan (at Input j)) (sealed_block f.plan f.run (at Input j) 0 one.0) f.recorder.log r.log (omega (arith, j_in)) on.1 one.1, one.2);
}

-- the answer of a press that knows its parts, over the recorder of its floor
pub import_answer_is : {V : Type 0} (faults : V → ℕ) (a i : ℕ) (w : Pressed) (p : Sizes) (keys : Keys) (parts : List ℕ) (queue : List Item) → w.plan ≡ p → w.run ≡ keys → w.counts ≡ parts → w.queue ≡ queue
    → (given old new : Recorded V) (result : Result (Unit {0}) Halt) → given ≡ old → ImportAnswer faults w.plan w.run a i w.counts w.queue given new result
    → ImportAnswer faults p keys a i parts queue old new result
import_answer_is faults a i w p keys parts queue plan run counts waits given old new result same answer =
    subst (λ (r : Recorded _). ImportAnswer faults p keys a i parts queue r new result) same
    (subst (λ (q : List Item). ImportAnswer faults p keys a i parts q given new result) waits
    (subst (λ (xs : List ℕ). ImportAnswer faults p keys a i xs w.queue given new result) counts
    (subst (λ (k : Keys). ImportAnswer faults p k a i w.counts w.queue given new result) run
    (subst (λ (q : Sizes). ImportAnswer faults q w.run a i w.counts w.queue given new result) plan answer))))

-- what stops them
pub stops_with : (P Q S R : Type 0) (stop : Halt) → EachOpens {T = Unit {0}} (Err stop) P S → (S → R) → EachOpens {T = Unit {0}} (Err stop) Q R
stops_with P Q S R (halt.Verdict v) fact then = then fact
stops_with P Q S R (halt.Fault (Device number)) fact then = then fact
stops_with P Q S R (halt.Fault (Tampered number)) never then = never

-- logs that go on, one after another
pub reads_then : (old mid new : List Carried) → GoesOnReading old mid → GoesOnReading mid new → GoesOnReading old new
reads_then old mid new one other = record {
  more = one.more ++ other.more;
  longer = other.longer ∙ ap (λ (l : List Carried). l ++ other.more) one.longer ∙ append_assoc old one.more other.more;
  reads = All-append (λ (entry : Carried). entry.access.op ≡ Reads) one.more other.more one.reads other.reads;
}

pub pressing_read : (old new : List Carried) → GoesOnReading old new → GoesOnPressing old new
pressing_read old new on = (0, writing_read 0 old old new (writing_none old) on)

pub pressing_then : (old mid new : List Carried) → GoesOnPressing old mid → GoesOnPressing mid new → GoesOnPressing old new
pressing_then old mid new one other = (
  one.0 + other.0,
  record {
    more = one.1.more ++ other.1.more;
    longer = other.1.longer ∙ ap (λ (l : List Carried). l ++ other.1.more) one.1.longer ∙ append_assoc old one.1.more other.1.more;
    each = All-append IsOfPress one.1.more other.1.more one.1.each other.1.each;
    many =
        sum_by-append (λ (e : Carried). bit (has_stored e)) one.1.more other.1.more
        ∙ let some = one.1.many in let rest = other.1.many in omega (arith, some, rest);
  },
)

pub pressing_faithful : (p : Sizes) (old new : List Carried) → GoesOnPressing old new → IsFaithful p new → IsFaithful p old
pressing_faithful p old new on faithful = faithful-front p old on.1.more (subst (λ (l : List Carried). IsFaithful p l) on.1.longer faithful)

pub pressing_put : {V : Type 0} (told : V → Option (List (List ℕ))) (faults : V → ℕ) (last_call : V → Option (Op × ℕ)) (p : Sizes) (keys : Keys) (a j : ℕ) (queue rest : List Item) (old new : Recorded V) (result : Result (Unit {0}) Halt)
    → PutAnswer told faults last_call p keys a j queue rest old new result → GoesOnPressing old.log new.log
pressing_put told faults last_call p keys a j queue rest old new (Ok done) answer =
    (1, writing_put p a j 0 1 (Some (output_block p keys a j queue)) old.log old.log new.log (writing_none old.log) answer.2.recorded.log refl)
pressing_put told faults last_call p keys a j queue rest old new (Err (halt.Verdict v)) answer =
    subst (λ (r : Recorded _). GoesOnPressing old.log r.log) (sym answer.3) (0, writing_none old.log)
pressing_put told faults last_call p keys a j queue rest old new (Err (halt.Fault (Device number))) answer =
    (0, writing_put p a j 0 0 None old.log old.log new.log (writing_none old.log) answer.2.recorded.log refl)
pressing_put told faults last_call p keys a j queue rest old new (Err (halt.Fault (Tampered number))) answer = absurd answer.2.answer

pub holds_read : (p : Sizes) (keys : Keys) (d : Draw) (h : List ℕ) (a : ℕ) (record_of : ℕ → Item) (old new : List Carried) → GoesOnReading old new
    → HoldsDistribution p keys d h a record_of old → HoldsDistribution p keys d h a record_of new
holds_read p keys d h a record_of old new on = let writing = pressing_read old new on in holds_on p keys d h a record_of writing.0 old new writing.1

pub put_answer_is : {V : Type 0} (told : V → Option (List (List ℕ))) (faults : V → ℕ) (last_call : V → Option (Op × ℕ)) (a j : ℕ) (w : Pressed) (p : Sizes) (keys : Keys) → w.plan ≡ p → w.run ≡ keys
    → (rest : List Item) (given old new : Recorded V) (result : Result (Unit {0}) Halt) → given ≡ old → PutAnswer told faults last_call w.plan w.run a j w.queue rest given new result
    → PutAnswer told faults last_call p keys a j w.queue rest old new result
put_answer_is told faults last_call a j w p keys plan run rest given old new result same answer =
    subst (λ (r : Recorded _). PutAnswer told faults last_call p keys a j w.queue rest r new result) same
    (subst (λ (k : Keys). PutAnswer told faults last_call p k a j w.queue rest given new result) run
    (subst (λ (q : Sizes). PutAnswer told faults last_call q w.run a j w.queue rest given new result) plan answer))
