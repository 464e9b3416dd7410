-- A batch file has one spelling: what is read is what would be written, and what is written is read.
use Rattle.std.proofs.Common.{◌≡◌, ◌⊎◌, ℕ, ◌+◌, ◌*◌, ◌<◌, ◌≤◌, ◌^◌, cond, List, ◌++◌, length, drop, Option, Some, None, Result, Ok, Err, refl, sym, ap, subst, ◌∙◌, inl, inr, arith}
use Rattle.std.specs.Prelude.{nat_lt, IfOk, MatchResult}
use Rattle.std.specs.List.{concat}
use Rattle.std.specs.List.Sorted.{IsSorted}
use Rattle.std.proofs.lemmas.List.{take_at, drop_at, length-append, length-drop, take-append-drop}
use Rattle.esa_params.specs.Form.{envelope_length}
use Rattle.esa_header.specs.Pieces.{pieces, HaveLength}
use Rattle.esa_header.specs.Version.{IsEpochOf}
use Rattle.esa_header.specs.declared.header.FileKind.TheVariants.{Batch}
use Rattle.esa_header.specs.declared.header.Header.{Header}
use Rattle.esa_header.specs.declared.header.HeaderRefused.{HeaderRefused}
use Rattle.esa_header.specs.Header.{header_length, header_bytes, header_in, file_length, IsFileOf}
use Rattle.esa_header.proofs.HeaderLaws.{AreBytes, header_in-spelled, header_in-accepts, first_passed, no_test, not_below, length-header_bytes}
use Rattle.esa_header.proofs.PieceLaws.{concat-pieces, length-pieces, HaveLength-pieces, pieces-concat, length-concat}
use Rattle.esa_batcher.specs.declared.refused.BatchRefused.{BatchRefused}
use Rattle.esa_batcher.specs.declared.refused.BatchRefused.TheVariants.{TooFew, TooMany, OutOfMemory}
use Rattle.esa_batcher.specs.Batched.{Batched, batch_front, batch_bytes, IsBatch}
use Rattle.esa_batcher.specs.declared.envelopes.Envelopes.{Envelopes}
use Rattle.esa_batcher.specs.Envelopes.{list_of, form_of}
use Rattle.esa_batcher.specs.Inside.{IsBatched}
use Rattle.esa_batcher.specs.Reading.{number_in, unless_fallen, order_in, batch_behind, accepted_as, behind_header, batch_in}
use Rattle.esa_batcher.specs.Rising.{by_bytes, fall_at}
use Rattle.esa_batcher.proofs.RisingLaws.{IsSorted-from_none, fall_at-sorted}

pub behind-size : (bytes : List ℕ) (header : Header) → length bytes ≡ file_length Batch header → length (drop (header_length header.form) bytes) ≡ envelope_length header.form * header.count
behind-size bytes header size = omega (arith, length-drop (header_length header.form) bytes)

-- the records pass all their tests
pub record Pass (m : ℕ) (records : List (List ℕ)) : Type 0 where
  pub rise : fall_at 0 records ≡ None
  pub many : m ≤ length records
  pub few : length records ≤ 262144

not_fallen : (fall : Option ℕ) (later : Result (Unit {0}) BatchRefused) (done : Unit {0}) → unless_fallen fall later ≡ Ok done → (fall ≡ None) × (later ≡ Ok done)
not_fallen (Some place) later done passed = cc
not_fallen None later done passed = (refl, passed)

pass : (m : ℕ) (records : List (List ℕ)) (done : Unit {0}) → order_in m records ≡ Ok done → Pass m records
pass m records done passed =
    let rise = not_fallen (fall_at 0 records) (number_in m (length records)) done passed in
    let many = first_passed (nat_lt (length records) m) _ _ done rise.1 in
    let few = first_passed (nat_lt 262144 (length records)) _ _ done many.1 in
    record { rise = rise.0; many = not_below _ _ many.0; few = not_below _ _ few.0 }

pub order_in-pass : (m : ℕ) (records : List (List ℕ)) → Pass m records → order_in m records ≡ Ok tt
order_in-pass m records p =
    let n = length records in
    ap (λ fall. unless_fallen fall (number_in m n)) p.rise
    ∙ ap (λ b. cond b (Err (TooFew n m)) (cond (nat_lt 262144 n) (Err (TooMany n)) (Ok tt))) (no_test n m p.many)
    ∙ ap (λ b. cond b (Err (TooMany n)) (Ok tt)) (no_test 262144 n p.few)

-- of records that rise, the number is tested
pub order_by_number : (m count : ℕ) (records : List (List ℕ)) → length records ≡ count → fall_at 0 records ≡ None → number_in m count ≡ order_in m records
order_by_number m count records number rise =
    ap (λ n. number_in m n) (sym number) ∙ ap (λ fall. unless_fallen fall (number_in m (length records))) (sym rise)

-- records that pass can be kept
pub held : (m : ℕ) (bytes records : List ℕ) (header : Header) (envelopes : Envelopes) (done : Unit {0}) → IsFileOf Batch header bytes → records ≡ drop (header_length header.form) bytes
    → Ok done ≡ order_in m (pieces (envelope_length header.form) header.count records)
    → form_of envelopes ≡ header.form
    → ((count : ℕ) → length records ≡ envelope_length header.form * count → list_of envelopes ≡ pieces (envelope_length header.form) count records)
    → IsBatched (record { envelopes = envelopes; epoch = header.epoch })
held m bytes records header envelopes done is behind passed form_is list_is =
    let size = envelope_length header.form in
    let whole : length records ≡ size * header.count = ap length behind ∙ behind-size bytes header is.size in
    let list : list_of envelopes ≡ pieces size header.count records = list_is header.count whole in
    let p = pass m (pieces size header.count records) done (sym passed) in
    record {
      lengths = subst (λ n. HaveLength n (list_of envelopes)) (ap envelope_length (sym form_is)) (subst (λ xs. HaveLength size xs) (sym list) (HaveLength-pieces size header.count records whole));
      number = subst (λ xs. length xs ≤ 262144) (sym list) p.few;
      epoch = subst (λ form. IsEpochOf form header.epoch) (sym form_is) is.epoch;
      rising = subst (λ xs. IsSorted by_bytes xs) (sym list) (IsSorted-from_none 0 (pieces size header.count records) p.rise);
    }

-- what was read is a batch, and its file are the bytes
pub record IsRead (m : ℕ) (bytes : List ℕ) (batch : Batched) : Type 0 where
  pub is : IsBatch batch
  pub many : m ≤ length batch.list
  pub spelled : bytes ≡ batch_bytes batch

of_file : (m : ℕ) (bytes : List ℕ) (header : Header) → IsFileOf Batch header bytes → Pass m (batch_behind bytes header).list → IsRead m bytes (batch_behind bytes header)
of_file m bytes header is p =
    let rest = drop (header_length header.form) bytes in
    let size = envelope_length header.form in
    let whole : length rest ≡ size * header.count = behind-size bytes header is.size in
    let list = pieces size header.count rest in
    let number : length list ≡ header.count = length-pieces size header.count rest in
    let joined : concat list ≡ rest = concat-pieces size header.count rest whole in
    record {
      is = record { lengths = HaveLength-pieces size header.count rest whole; number = p.few; epoch = is.epoch; rising = IsSorted-from_none 0 list p.rise };
      many = p.many;
      spelled = sym (take-append-drop (header_length header.form) bytes)
          ∙ ap (λ ys. ys ++ rest) is.front
          ∙ sym (λ i. batch_front header.form header.epoch (number i) ++ joined i);
    }

accepted : (batch read : Batched) (tests : Result (Unit {0}) BatchRefused) → accepted_as batch tests ≡ Ok read → (batch ≡ read) × (tests ≡ Ok tt)
accepted batch read (Ok tt) is = (cc, refl)
accepted batch read (Err refused) is = cc

pub batch_in-spelled : (m : ℕ) (bytes : List ℕ) → AreBytes bytes → (batch : Batched) → batch_in m bytes ≡ Ok batch → IsRead m bytes batch
batch_in-spelled m bytes are batch read = by_header (header_in Batch bytes (length bytes)) refl read
  where
    by_header : (r : Result Header HeaderRefused) → header_in Batch bytes (length bytes) ≡ r → behind_header m bytes r ≡ Ok batch → IsRead m bytes batch
    by_header (Err refused) first rest = cc
    by_header (Ok header) first rest =
        let passed = accepted (batch_behind bytes header) batch (order_in m (batch_behind bytes header).list) rest in
        subst (λ b. IsRead m bytes b) passed.0 (of_file m bytes header (header_in-spelled Batch bytes are header first) (pass m (batch_behind bytes header).list tt passed.1))

fits : (n : ℕ) → n ≤ 262144 → n < 2 ^ 32
fits n few = omega arith

pub batch_in-accepts : (m : ℕ) (batch : Batched) → IsBatch batch → m ≤ length batch.list → batch_in m (batch_bytes batch) ≡ Ok batch
batch_in-accepts m batch is many =
    let header : Header = record { form = batch.form; epoch = batch.epoch; count = length batch.list } in
    let joined = concat batch.list in
    let size = envelope_length batch.form in
    let front_size : length (header_bytes Batch header) ≡ header_length batch.form = length-header_bytes Batch header in
    let file : IsFileOf Batch header (header_bytes Batch header ++ joined) = record {
      count = fits (length batch.list) is.number;
      epoch = is.epoch;
      front = take_at (header_bytes Batch header) joined (header_length batch.form) front_size;
      size = length-append (header_bytes Batch header) joined ∙ (λ i. front_size i + length-concat size batch.list is.lengths i);
    } in
    let again : batch_behind (batch_bytes batch) header ≡ batch =
    (λ i. record { form = batch.form; epoch = batch.epoch; list = pieces size (length batch.list) (drop_at (header_bytes Batch header) joined (header_length batch.form) front_size i) })
    ∙ (λ i. record { form = batch.form; epoch = batch.epoch; list = pieces-concat size batch.list is.lengths i }) in
    let passes = order_in-pass m batch.list (record { rise = fall_at-sorted 0 batch.list is.rising; many = many; few = is.number }) in
    ap (λ r. behind_header m (batch_bytes batch) r) (header_in-accepts Batch (batch_bytes batch) header file)
    ∙ ap (λ b. accepted_as b (order_in m b.list)) again
    ∙ ap (λ tests. accepted_as batch tests) passes

-- what an answer of the reader says
abbrev pub IsAnswer : ℕ → List ℕ → Result Batched BatchRefused → Type 0
IsAnswer m bytes result = MatchResult result (λ batch. batch_in m bytes ≡ Ok batch) (λ refused. (refused ≡ OutOfMemory) ⊎ (batch_in m bytes ≡ Err refused))

pub answer-spelled : (m : ℕ) (bytes : List ℕ) → AreBytes bytes → (result : Result Batched BatchRefused) → IsAnswer m bytes result
    → IfOk result (λ batch. IsBatch batch × (m ≤ length batch.list) × (bytes ≡ batch_bytes batch))
answer-spelled m bytes are (Ok batch) answer = let r = batch_in-spelled m bytes are batch answer in (r.is, r.many, r.spelled)
answer-spelled m bytes are (Err refused) answer = tt

pub answer-accepts : (m : ℕ) (bytes : List ℕ) (batch : Batched) → IsBatch batch → m ≤ length batch.list → bytes ≡ batch_bytes batch → (result : Result Batched BatchRefused) → IsAnswer m bytes result
    → MatchResult result (λ read. read ≡ batch) (λ refused. refused ≡ OutOfMemory)
answer-accepts m bytes batch is many spelled (Ok read) answer =
    let reads : batch_in m bytes ≡ Ok batch = ap (batch_in m) spelled ∙ batch_in-accepts m batch is many in
    cc
answer-accepts m bytes batch is many spelled (Err refused) answer =
    let reads : batch_in m bytes ≡ Ok batch = ap (batch_in m) spelled ∙ batch_in-accepts m batch is many in
    elim answer [ inl want ↦ want | inr other ↦ cc ]
