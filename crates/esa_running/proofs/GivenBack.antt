-- Over a faithful log in which no access failed, what a read of a run gave opens.
use Rattle.std.proofs.Common.{◌≡◌, ◌≢◌, ℕ, ◌+◌, ◌-◌, ◌^◌, ◌≤◌, ◌<◌, Bool, true, false, cond, ◌&&◌, ◌==◌, List, [], ◌∷◌, ◌++◌, All, length, map, drop, replicate, Some, Ok, refl, sym, ap, ◌∙◌, subst, arith, append-nil, append_assoc, length-append, length-take, length-drop}
use Rattle.std.specs.Prelude.{IsPermutation, Option, None, ◌/◌, ◌%◌}
use Rattle.std.proofs.lemmas.Bool.Decides.{nat_tests}
use Rattle.std.proofs.lemmas.List.{length-map, map-append}
use Rattle.std.proofs.lemmas.List.Elements.{All-head, All-map, All-tail}
use Rattle.std.proofs.lemmas.List.FromFn.{length-range_with_len}
use Rattle.std.proofs.lemmas.List.Sorted.{length_permutation}
use Rattle.esa_device.specs.Logs.{Carried, IsFaithful, NoneFailed, Took, last_given, latest_carried}
use Rattle.esa_device.proofs.LogLaws.{faithful-last, given-read, latest-push as entry-push}
use Rattle.esa_ending.proofs.OutputLaws.{good-permutes}
use Rattle.esa_ending.specs.Seen.{turns_in}
use Rattle.esa_envelope.specs.declared.keys.Keys.{Keys}
use Rattle.esa_floor.specs.Written.{AreItems, TookItsBlock, block_items}
use Rattle.esa_laws.proofs.LineLaws.{length-queued}
use Rattle.esa_laws.proofs.PairLaws.{both-true}
use Rattle.esa_laws.proofs.Tests.{equal}
use Rattle.esa_params.specs.Sizes.{ArePlanned, Sizes, below, first, size}
use Rattle.esa_params.specs.Slots.{IsPlanned, at, blocks, is_writing, item_length, number_of, slot_at, slot_number, start, writes_number}
use Rattle.esa_params.specs.declared.slot.Access.{Access}
use Rattle.esa_params.specs.declared.slot.Op.{Op}
use Rattle.esa_params.specs.declared.slot.Op.TheVariants.{Read as Reads, Write as Writes}
use Rattle.esa_params.specs.declared.slot.Region.{Region}
use Rattle.esa_params.specs.declared.slot.Region.TheVariants.{Input, Mid, Tail, Output}
use Rattle.esa_params.specs.declared.slot.Slot.{Slot}
use Rattle.esa_report.specs.Item.{dummy_item}
use Rattle.esa_report.specs.declared.item.Item.{Item}
use Rattle.esa_scans.proofs.HeldLaws.{either}
use Rattle.esa_shuffle.specs.Records.{TookItsBucket, is_input, writes_input}
use Rattle.esa_spec.specs.Draws.{Draw, IsDrawn}
use Rattle.esa_spec.specs.Fronts.{Begins, items_at, items_in}
use Rattle.esa_spec.specs.Lines.{chunk, tail}
use Rattle.esa_spec.specs.Places.{exchange_of, output_places, places}
use Rattle.esa_spec.specs.Traces.{good_attempt, trace}
use Rattle.esa_spec.specs.Turns.{order}
use Rattle.esa_vault.proofs.BlockLaws.{opens-sealed}
use Rattle.esa_vault.proofs.LatestLaws.{latest-push}
use Rattle.esa_vault.proofs.TextLaws.{text-fills}
use Rattle.esa_vault.specs.Filled.{is_filled, text_of}
use Rattle.esa_vault.specs.Latest.{accesses_of, latest_write}
use Rattle.esa_vault.specs.Placed.{IsHeld, IsSpelled}
use Rattle.esa_vault.specs.Seals.{is_text_of, opens, sealed_block}
use Rattle.esa_running.proofs.EachRead.{all-front}
use Rattle.esa_running.proofs.ReadsBack.{ReadsBack, reads_come_behind_writes}

-- ---- the entry of the latest write

module _ (p : Sizes) (number : ℕ) (Fact : Carried → Type 0) where
  -- the entry of this write, of which the fact is so
  pub record EntryOf (log : List Carried) (write : Access) : Type 0 where
    pub entry : Carried
    pub latest : latest_carried p number log ≡ Some entry
    pub access : entry.access ≡ write
    pub writes : writes_number p number entry.access ≡ true
    pub fact : Fact entry

  abbrev HasEntry : List Carried → Type 0
  HasEntry log = (write : Access) → latest_write p number (accesses_of log) ≡ Some write → EntryOf log write

  entry-by : (log : List Carried) (last : Carried) (write : Access) (c : Bool) → writes_number p number last.access ≡ c → Fact last → HasEntry log
      → cond (writes_number p number last.access) (Some last.access) (latest_write p number (accesses_of log)) ≡ Some write → EntryOf (log ++ last ∷ []) write
  entry-by log last write true e fact has is = record {
    entry = last;
    latest = entry-push p number log last ∙ ap (λ y. cond y (Some last) (latest_carried p number log)) e;
    access = let same : Some last.access ≡ Some write = sym (ap (λ y. cond y (Some last.access) (latest_write p number (accesses_of log))) e) ∙ is in cc same;
    writes = e;
    fact = fact;
  }
  entry-by log last write false e fact has is =
      let before = has write (sym (ap (λ y. cond y (Some last.access) (latest_write p number (accesses_of log))) e) ∙ is) in
      record {
        entry = before.entry;
        latest = entry-push p number log last ∙ ap (λ y. cond y (Some last) (latest_carried p number log)) e ∙ before.latest;
        access = before.access;
        writes = before.writes;
        fact = before.fact;
      }

  entry-more : (log : List Carried) (last : Carried) → Fact last → HasEntry log → HasEntry (log ++ last ∷ [])
  entry-more log last fact has write is =
      entry-by log last write (writes_number p number last.access) refl fact has
      (sym (ap (latest_write p number) (map-append (λ (entry : Carried). entry.access) log (last ∷ [])) ∙ latest-push p number (accesses_of log) last.access) ∙ is)

  entry-on : (before log : List Carried) → HasEntry before → All Fact log → HasEntry (before ++ log)
  entry-on before [] has all = subst HasEntry (sym (append-nil before)) has
  entry-on before (x ∷ log) has all =
      subst HasEntry (append_assoc before (x ∷ []) log)
      (entry-on (before ++ x ∷ []) log (entry-more before x (All-head Fact x log all) has) (All-tail Fact x log all))

  pub entry-of : (log : List Carried) → All Fact log → HasEntry log
  entry-of log all = entry-on [] log (λ write is. absurd (cc is)) all

-- ---- the last entry

first-same : {X : Type 0} (x y : X) (xs ys : List X) → x ∷ xs ≡ y ∷ ys → x ≡ y
first-same x y xs ys is = cc

rest-same : {X : Type 0} (x y : X) (xs ys : List X) → x ∷ xs ≡ y ∷ ys → xs ≡ ys
rest-same x y xs ys is = cc

none-of : (log : List Carried) → accesses_of log ≡ [] → log ≡ []
none-of [] is = refl
none-of (x ∷ log) is = absurd (cc is)

record LastOf (log : List Carried) (before : List Access) (last : Access) : Type 0 where
  front : List Carried
  entry : Carried
  is : log ≡ front ++ entry ∷ []
  accesses : accesses_of front ≡ before
  access : entry.access ≡ last

last-of : (log : List Carried) (before : List Access) (last : Access) → accesses_of log ≡ before ++ last ∷ [] → LastOf log before last
last-of [] before last is = absurd (let long = ap length is in let parts = length-append before (last ∷ []) in omega (arith, long, parts))
last-of (x ∷ log) [] last is = record {
  front = [];
  entry = x;
  is = ap (λ (rest : List Carried). x ∷ rest) (none-of log (rest-same x.access last (accesses_of log) [] is));
  accesses = refl;
  access = first-same x.access last (accesses_of log) [] is;
}
last-of (x ∷ log) (y ∷ before) last is =
    let rest = last-of log before last (rest-same x.access y (accesses_of log) (before ++ last ∷ []) is) in
    let here = first-same x.access y (accesses_of log) (before ++ last ∷ []) is in
    record {
      front = x ∷ rest.front;
      entry = rest.entry;
      is = ap (λ (rest : List Carried). x ∷ rest) rest.is;
      accesses = λ i. here i ∷ rest.accesses i;
      access = rest.access;
    }

all-last : (P : Carried → Type 0) (xs : List Carried) (x : Carried) → All P (xs ++ x ∷ []) → P x
all-last P [] x all = All-head P x [] all
all-last P (y ∷ xs) x all = all-last P xs x (All-tail P y (xs ++ x ∷ []) all)

some-of : (bytes : Option (List ℕ)) → bytes ≢ None → (there : List ℕ) × (bytes ≡ Some there)
some-of None some = absurd (some refl)
some-of (Some bytes) some = (bytes, refl)

-- ---- slots

slot-numbered : (p : Sizes) (region : Region) (index : ℕ) → index < blocks p region → slot_at p (start p region + index) ≡ at region index
slot-numbered p Input index inside = grind (arith, nat_tests)
slot-numbered p Mid index inside = grind (arith, nat_tests)
slot-numbered p Tail index inside = grind (arith, nat_tests)
slot-numbered p Output index inside = grind (arith, nat_tests)

same-slot : (p : Sizes) (one other : Slot) → IsPlanned p one → IsPlanned p other → number_of p one ≡ number_of p other → one ≡ other
same-slot p one other here there is = sym (slot-numbered p one.region one.index here) ∙ ap (slot_at p) is ∙ slot-numbered p other.region other.index there

writing : (op : Op) → is_writing op ≡ true → op ≡ Writes
writing Reads is = absurd (cc is)
writing Writes is = refl

-- ---- what opens

module _ (p : Sizes) (keys : Keys) (ds : ℕ → Draw) (hs : List (List ℕ)) (record_of : ℕ → Item) (items : AreItems (item_length p.form) record_of)
    (planned : ArePlanned p) (few : length hs ≤ p.attempts) (drawn : (a : ℕ) → a < p.attempts → IsDrawn p (ds a))
  where
    abbrev turns : ℕ → List ℕ
    turns = turns_in hs

    small : (a : ℕ) → a < length hs → a < 2 ^ 32
    small a inside = let most = planned.parameters.attempts_greatest in omega (arith, inside, few, most)

    text-taken : (region : Region) (count : ℕ) (text : List ℕ) → region ≢ Input → is_filled (item_length p.form) count text ≡ true → is_text_of p region count text ≡ true
    text-taken Input count text other filled = absurd (other refl)
    text-taken Mid count text other filled = filled
    text-taken Tail count text other filled = filled
    text-taken Output count text other filled = filled

    -- a block of records, with dummies behind them
    opens-records : (region : Region) (index a dummies : ℕ) (places : List ℕ) (bytes : List ℕ) → region ≢ Input → IsPlanned p (at region index) → a < length hs
        → bytes ≡ sealed_block p keys (at region index) a (text_of (item_length p.form) (map record_of places ++ replicate dummies dummy_item))
        → opens p keys (at region index) a (length places) bytes ≡ true
    opens-records region index a dummies places bytes other inside made is =
        let long = item_length p.form in
        let text = text_of long (map record_of places ++ replicate dummies dummy_item) in
        ap (opens p keys (at region index) a (length places)) is
        ∙ opens-sealed p keys (at region index) a (length places) text planned inside (small a made)
        ∙ text-taken region (length places) text other
        (ap (λ n. is_filled long n text) (sym (length-map places record_of))
        ∙ text-fills long dummies (map record_of places) (either p.form long refl)
        (All-map (IsSpelled long) record_of places (λ k d inside. items.spelled _)) (All-map IsHeld record_of places (λ k d inside. items.held _)))

    output-long : (a index : ℕ) → a < length hs → good_attempt p ds 0 hs ≡ Some a → length (output_places p (ds a) (turns a) index) ≡ size p index
    output-long a index made good =
        let permutes : IsPermutation (below p.n) (places p (ds a) (turns a)) =
        good-permutes p ds hs a planned.parameters.b_least (drawn a (omega (arith, made, few))) good in
        let long : length (places p (ds a) (turns a)) ≡ p.n = length_permutation (below p.n) (places p (ds a) (turns a)) permutes ∙ length-range_with_len 0 p.n in
        let kept = length-drop (first p index) (places p (ds a) (turns a)) in
        let taken = length-take (first p (index + 1) - first p index) (drop (first p index) (places p (ds a) (turns a))) in
        omega (arith, long, kept, taken)

    -- the block of a slot
    opens-block : (region : Region) (index a : ℕ) (bytes : List ℕ) → region ≢ Input → IsPlanned p (at region index) → a < length hs
        → (region ≡ Output → good_attempt p ds 0 hs ≡ Some a)
        → bytes ≡ sealed_block p keys (at region index) a (text_of (item_length p.form) (block_items p (ds a) record_of (turns a) region index))
        → opens p keys (at region index) a (items_at p (ds a) (order p.b (turns a)) region index) bytes ≡ true
    opens-block Input index a bytes other inside made good is = absurd (other refl)
    opens-block Mid index a bytes other inside made good is =
        let o = order p.b (turns a) in
        let there = chunk p (ds a) o (exchange_of o (index / p.b)) (index % p.b) in
        opens-records Mid index a (p.c - length (map record_of there)) there bytes other inside made is
    opens-block Tail index a bytes other inside made good is =
        let o = order p.b (turns a) in
        let there = tail p (ds a) o index in
        ap (λ n. opens p keys (at Tail index) a n bytes) (sym (length-queued p (ds a) o p.b index))
        ∙ opens-records Tail index a (p.k - length (map record_of there)) there bytes other inside made is
    opens-block Output index a bytes other inside made good is =
        let there = output_places p (ds a) (turns a) index in
        let long = item_length p.form in
        ap (λ n. opens p keys (at Output index) a n bytes) (sym (output-long a index made (good refl)))
        ∙ opens-records Output index a 0 there bytes other inside made
        (is ∙ ap (λ (items : List Item). sealed_block p keys (at Output index) a (text_of long items)) (sym (append-nil (map record_of there))))

    -- envelopes may be anything
    opens-input : (index a count : ℕ) (text bytes : List ℕ) → IsPlanned p (at Input index) → a < length hs → bytes ≡ sealed_block p keys (at Input index) 0 text
        → opens p keys (at Input index) a count bytes ≡ true
    opens-input index a count text bytes inside made is =
        ap (opens p keys (at Input index) a count) is ∙ opens-sealed p keys (at Input index) a count text planned inside (small a made)

    -- ---- the last read

    module _ (given : List ℕ) where
      -- an access that didn't fail took what it should
      abbrev Fact : Carried → Type 0
      Fact entry = (entry.bytes ≢ None) × TookItsBlock p keys ds record_of turns entry × TookItsBucket p keys given entry

      module _ (before : List Access) (read : Access) (back : ReadsBack p ds hs before read) (entry : Carried) (bytes : List ℕ) (access : entry.access ≡ back.write)
          (writes : writes_number p (slot_number p read) entry.access ≡ true) (fact : Fact entry) (took : entry.bytes ≡ Some bytes)
        where
          abbrev count : ℕ
          count = items_in p (ds read.attempt) (order p.b (turns read.attempt)) read

          abbrev Opens : Type 0
          Opens = opens p keys (at read.region read.index) read.attempt count bytes ≡ true

          wrote : entry.access.op ≡ Writes
          wrote = writing entry.access.op (both-true (is_writing entry.access.op) (slot_number p entry.access == slot_number p read) writes).0

          slot : at entry.access.region entry.access.index ≡ at read.region read.index
          slot =
              same-slot p (at entry.access.region entry.access.index) (at read.region read.index) (fact.1.planned wrote) back.planned
              (equal (slot_number p entry.access) (slot_number p read) (both-true (is_writing entry.access.op) (slot_number p entry.access == slot_number p read) writes).1)

          of-input : read.region ≡ Input → Opens
          of-input input =
              let region : entry.access.region ≡ Input = ap (λ (s : Slot). s.region) slot ∙ input in
              let is : writes_input entry.access ≡ true = λ i. is_writing (wrote i) && is_input (region i) in
              let inside : IsPlanned p (at Input entry.access.index) = subst (λ (r : Region). IsPlanned p (at r entry.access.index)) region (fact.1.planned wrote) in
              subst (λ (s : Slot). opens p keys s read.attempt count bytes ≡ true) (ap (λ (r : Region). at r entry.access.index) (sym region) ∙ slot)
              (opens-input entry.access.index read.attempt count _ bytes inside back.made (fact.2 bytes is took))

          of-other : read.region ≢ Input → Opens
          of-other other =
              let attempt : entry.access.attempt ≡ read.attempt = ap (λ (x : Access). x.attempt) access ∙ back.attempt other in
              let outside : entry.access.region ≢ Input = λ input. other (ap (λ (s : Slot). s.region) (sym slot) ∙ input) in
              let block = fact.1.took bytes wrote outside took in
              opens-block read.region read.index read.attempt bytes other back.planned back.made back.good
              (subst (λ (x : Slot × ℕ). bytes ≡ sealed_block p keys x.0 x.1 (text_of (item_length p.form) (block_items p (ds x.1) record_of (turns x.1) x.0.region x.0.index)))
              (λ i. (slot i, attempt i)) block.sealed)

          by-region : (region : Region) → read.region ≡ region → Opens
          by-region Input is = of-input is
          by-region Mid is = of-other (λ input. absurd (let both : Mid ≡ Input = sym is ∙ input in cc both))
          by-region Tail is = of-other (λ input. absurd (let both : Tail ≡ Input = sym is ∙ input in cc both))
          by-region Output is = of-other (λ input. absurd (let both : Output ≡ Input = sym is ∙ input in cc both))

          written-opens : Opens
          written-opens = by-region read.region refl

      module _ (log : List Carried) (took : All (TookItsBlock p keys ds record_of turns) log) (buckets : All (TookItsBucket p keys given) log) (none : NoneFailed log) (faithful : IsFaithful p log) where
        facts : All Fact log
        facts k d inside = (none k d inside, took k d inside, buckets k d inside)

        pub last-opens : (before : List Access) (read : Access) → accesses_of log ≡ before ++ read ∷ [] → Begins (before ++ read ∷ []) (trace p ds hs) → read.op ≡ Reads
            → opens p keys (at read.region read.index) read.attempt (items_in p (ds read.attempt) (order p.b (turns read.attempt)) read) (last_given log) ≡ true
        last-opens before read are front reads =
            let l = last-of log before read are in
            let op : l.entry.access.op ≡ Reads = ap (λ (x : Access). x.op) l.access ∙ reads in
            let back = reads_come_behind_writes p ds hs before read front reads in
            let found = entry-of p (slot_number p read) Fact l.front (all-front Fact l.front log (l.entry ∷ [], l.is) facts) back.write
            (ap (latest_write p (slot_number p read)) l.accesses ∙ back.latest) in
            let wrote = some-of found.entry.bytes found.fact.0 in
            let gave = some-of l.entry.bytes (all-last Fact l.front l.entry (subst (All Fact) l.is facts)).0 in
            let latest : Took p (slot_number p read) wrote.0 l.front =
            (found.entry.access, found.latest ∙ (λ i. Some (record { access = found.entry.access; bytes = wrote.1 i }))) in
            let same : gave.0 ≡ wrote.0 =
            faithful-last p l.front l.entry gave.0 wrote.0 (subst (IsFaithful p) l.is faithful) (op, gave.1)
            (subst (λ (x : Access). Took p (slot_number p x) wrote.0 l.front) (sym l.access) latest) in
            let last : last_given log ≡ gave.0 =
            ap last_given (l.is ∙ (λ i. l.front ++ record { access = l.entry.access; bytes = gave.1 i } ∷ []))
            ∙ given-read {T = Unit {0}} {E = Unit {0}} l.front l.entry.access (Ok tt) tt gave.0 refl op in
            ap (opens p keys (at read.region read.index) read.attempt (items_in p (ds read.attempt) (order p.b (turns read.attempt)) read)) (last ∙ same)
            ∙ written-opens before read back found.entry wrote.0 found.access found.writes found.fact wrote.1
