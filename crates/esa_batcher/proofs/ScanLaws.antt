-- A file that is scanned is accepted and refused as one that is read.
use Rattle.std.proofs.Common.{◌≡◌, ◌⊎◌, inl, inr, ℕ, ◌+◌, ◌-◌, ◌*◌, ◌<◌, ◌≤◌, true, cond, List, [], ◌∷◌, ◌++◌, length, take, drop, Option, Some, None, Result, Ok, Err, refl, sym, ap, subst, ◌∙◌, arith}
use Rattle.std.specs.Prelude.{nat_lt, min}
use Rattle.std.specs.List.{concat}
use Rattle.std.specs.Option.{option_map}
use Rattle.std.specs.FinMap as map
use Rattle.std.proofs.lemmas.List.{append_assoc, length-append, length-drop, drop-append-le, take-append-drop}
use Rattle.esa_lists.specs.Files.{Files}
use Rattle.esa_outside.specs.Heard.{Event, length_of}
use Rattle.esa_page.specs.Piecewise.{pieces_heard}
use Rattle.esa_params.specs.declared.form.Form.TheVariants.{One, Two}
use Rattle.esa_params.specs.Form.{envelope_length}
use Rattle.esa_header.specs.Pieces.{pieces}
use Rattle.esa_header.specs.declared.header.FileKind.TheVariants.{Batch}
use Rattle.esa_header.specs.declared.header.Header.{Header}
use Rattle.esa_header.specs.declared.header.HeaderRefused.{HeaderRefused}
use Rattle.esa_header.specs.Header.{header_length, header_in}
use Rattle.esa_header.proofs.HeaderLaws.{no_test}
use Rattle.esa_header.proofs.PieceLaws.{length-pieces}
use Rattle.esa_batcher.specs.declared.refused.BatchRefused.{BatchRefused}
use Rattle.esa_batcher.specs.declared.refused.BatchRefused.TheVariants.{Unsorted}
use Rattle.esa_batcher.specs.declared.scan.Scanned.{Scanned}
use Rattle.esa_batcher.specs.declared.scan.ScanRefused.{ScanRefused}
use Rattle.esa_batcher.specs.declared.scan.ScanRefused.TheVariants.{Failed, TooLarge, Grammar}
use Rattle.esa_batcher.specs.Paging.{IsHeard, RecordsScanned, RecordsHeard, HeaderFront, HeaderHeard, FileScanned, FileHeard}
use Rattle.esa_batcher.specs.Reading.{number_in, unless_fallen, batch_behind, accepted_as, behind_header}
use Rattle.esa_batcher.specs.Refusal.{refusal_of}
use Rattle.esa_batcher.specs.Rising.{fall_at}
use Rattle.esa_batcher.specs.Scanning.{scanned_as, scan_in, BeginsWith, IsScanned, ScanHeard}
use Rattle.esa_batcher.proofs.BatchLaws.{order_by_number}
use Rattle.esa_batcher.proofs.FrontLaws.{header_in-append}
use Rattle.esa_batcher.proofs.PagingLaws.{heard-none, heard-then}

-- a file within the limit is judged by its header first
scan_by_header : (m have : ℕ) (bytes : List ℕ) → have ≡ length bytes → have ≤ 134217728 → scan_in m bytes ≡ scanned_as (behind_header m bytes (header_in Batch bytes have))
scan_by_header m have bytes long few =
    ap (λ n. cond (nat_lt 134217728 n) (Err (TooLarge n)) (scanned_as (behind_header m bytes (header_in Batch bytes n)))) (sym long)
    ∙ ap (λ b. cond b (Err (TooLarge have)) (scanned_as (behind_header m bytes (header_in Batch bytes have)))) (no_test 134217728 have few)

-- where the records rise, their number decides
abbrev pub scanned_by : Header → Result (Unit {0}) BatchRefused → Result Scanned ScanRefused
scanned_by header (Ok passed) = Ok (record { form = header.form; epoch = header.epoch; count = header.count })
scanned_by header (Err refused) = Err (Grammar refused)

scanned_as-accepted : (bytes : List ℕ) (header : Header) (tests : Result (Unit {0}) BatchRefused) → scanned_as (accepted_as (batch_behind bytes header) tests) ≡ scanned_by header tests
scanned_as-accepted bytes header (Ok passed) = λ i. Ok (record { form = header.form; epoch = header.epoch; count = length-pieces (envelope_length header.form) header.count (drop (header_length header.form) bytes) i })
scanned_as-accepted bytes header (Err refused) = refl

-- what was heard of the records, where the cabinet, the place and the size are the same
pub records_here : {E : Type 0} (name : List ℕ) (told_then told : Option Files) (at place : ℕ) (before now : List Event) (size_then size count : ℕ) (kept : List ℕ) (result : Result (Option ℕ) E)
    → told_then ≡ told → at ≡ place → size_then ≡ size → RecordsHeard name told_then at before now size_then count kept result → RecordsHeard name told place before now size count kept result
records_here name told_then told at place before now size_then size count kept result tells is size_is heard =
    subst (λ t. RecordsHeard name t place before now size count kept result) tells
    (subst (λ a. RecordsHeard name told_then a before now size count kept result) is
    (subst (λ s. RecordsHeard name told_then at before now s count kept result) size_is heard))

module _ (m : ℕ) (name : List ℕ) (told : Option Files) (have : ℕ) (few : have ≤ 134217728) (before : List Event) where
  -- the header is refused by the first bytes
  pub refused_file : (now : List Event) (why : HeaderRefused) → HeaderFront name told have before now (Err why) → FileScanned m name told have before now (Err (Grammar (refusal_of why)))
  refused_file now why scanned = record {
    front = scanned.front;
    heard = scanned.heard;
    within = omega (arith, scanned.long);
    answers = λ rest whole.
        let file = scanned.front ++ rest in
        let long : have ≡ length file = omega (arith, whole, length-append scanned.front rest) in
        scan_by_header m have file long few ∙ ap (λ read. scanned_as (behind_header m file read)) (header_in-append Batch have scanned.front rest scanned.long ∙ scanned.is);
  }

  -- no header is answered
  pub unheaded_file : (now : List Event) (buffer : List ℕ) (why : ScanRefused) → HeaderHeard name told have before now buffer (Err why) → FileHeard m name told have before now (Err why)
  unheaded_file now buffer Failed same = ([], heard-none name told 0 before now same)
  unheaded_file now buffer (TooLarge n) never = absurd never
  unheaded_file now buffer (Grammar refused) failed =
      subst (λ r. FileScanned m name told have before now (Err (Grammar r))) (sym failed.2) (refused_file now failed.0 failed.1)

  -- a call failed behind the header
  pub begun_file : (middle now : List Event) (header : Header) → HeaderFront name told have before middle (Ok header) → (bytes : List ℕ) × IsHeard name told (min 15 have) middle now bytes → (all : List ℕ) × IsHeard name told 0 before now all
  begun_file middle now header scanned records =
      let place : min 15 have ≡ 0 + length scanned.front = omega (arith, scanned.long) in
      (scanned.front ++ records.0, heard-then name told 0 before middle now scanned.front records.0 scanned.heard (subst (λ at. IsHeard name told at middle now records.0) place records.1))

  -- the header is accepted, and the records behind it are looked at
  module _ (middle now : List Event) (header : Header) (fits : have ≡ header_length header.form + envelope_length header.form * header.count) (scanned : HeaderFront name told have before middle (Ok header))
      (kept : List ℕ) (kept_is : kept ≡ drop (header_length header.form) scanned.front) (fall : Option ℕ)
      (records : RecordsScanned name told (min 15 have) middle now (envelope_length header.form) header.count kept fall) where
    abbrev front : List ℕ
    front = scanned.front ++ records.bytes

    start_inside : header_length header.form ≤ length scanned.front
    start_inside = elim header.form as (λ form. have ≡ header_length form + envelope_length form * header.count → header_length form ≤ length scanned.front) [ One ↦ λ f. omega (arith, f, scanned.long) | Two ↦ λ f. omega (arith, f, scanned.long) ] fits

    heard_all : IsHeard name told 0 before now front
    heard_all =
        let place : min 15 have ≡ 0 + length scanned.front = omega (arith, scanned.long) in
        heard-then name told 0 before middle now scanned.front records.bytes scanned.heard (subst (λ at. IsHeard name told at middle now records.bytes) place records.read)

    within_all : length front ≤ have
    within_all =
        let size : envelope_length header.form * header.count ≡ header.count * envelope_length header.form = omega arith in
        omega (arith, records.within, ap length kept_is, length-drop (header_length header.form) scanned.front, start_inside, length-append scanned.front records.bytes, fits, size)

    behind : (rest : List ℕ) → drop (header_length header.form) (front ++ rest) ≡ (kept ++ records.bytes) ++ rest
    behind rest =
        let inside : header_length header.form ≤ length front = omega (arith, start_inside, length-append scanned.front records.bytes) in
        drop-append-le (header_length header.form) front rest inside
        ∙ ap (λ bytes. bytes ++ rest) (drop-append-le (header_length header.form) scanned.front records.bytes start_inside ∙ ap (λ bytes. bytes ++ records.bytes) (sym kept_is))

    fall_is : (rest : List ℕ) → length front + length rest ≡ have → fall ≡ fall_at 0 (batch_behind (front ++ rest) header).list
    fall_is rest whole =
        let size : envelope_length header.form * header.count ≡ header.count * envelope_length header.form = omega arith in
        let full : length ((kept ++ records.bytes) ++ rest) ≡ header.count * envelope_length header.form =
        ap length (sym (behind rest)) ∙ omega (arith, length-drop (header_length header.form) (front ++ rest), length-append front rest, whole, fits, size) in
        records.order rest full ∙ ap (λ bytes. fall_at 0 (pieces (envelope_length header.form) header.count bytes)) (sym (behind rest))

    by_records : (rest : List ℕ) → length front + length rest ≡ have → scan_in m (front ++ rest) ≡ scanned_as (behind_header m (front ++ rest) (Ok header))
    by_records rest whole =
        let long : have ≡ length (front ++ rest) = omega (arith, whole, length-append front rest) in
        let read : header_in Batch (front ++ rest) have ≡ Ok header =
        ap (λ bytes. header_in Batch bytes have) (append_assoc scanned.front records.bytes rest) ∙ header_in-append Batch have scanned.front (records.bytes ++ rest) scanned.long ∙ scanned.is in
        scan_by_header m have (front ++ rest) long few ∙ ap (λ r. scanned_as (behind_header m (front ++ rest) r)) read

    pub fallen_file : (place : ℕ) → fall ≡ Some place → FileScanned m name told have before now (Err (Grammar (Unsorted place)))
    fallen_file place is = record {
      front = front;
      heard = heard_all;
      within = within_all;
      answers = λ rest whole.
          let batch = batch_behind (front ++ rest) header in
          by_records rest whole
          ∙ ap (λ found. scanned_as (accepted_as batch (unless_fallen found (number_in m (length batch.list))))) (sym (fall_is rest whole) ∙ is);
    }

    pub risen_file : fall ≡ None → (tests : Result (Unit {0}) BatchRefused) → tests ≡ number_in m header.count → FileScanned m name told have before now (scanned_by header tests)
    risen_file none tests is = record {
      front = front;
      heard = heard_all;
      within = within_all;
      answers = λ rest whole.
          let batch = batch_behind (front ++ rest) header in
          let number : length batch.list ≡ header.count = length-pieces (envelope_length header.form) header.count (drop (header_length header.form) (front ++ rest)) in
          by_records rest whole
          ∙ ap (λ t. scanned_as (accepted_as batch t)) (sym (order_by_number m header.count batch.list number (sym (fall_is rest whole) ∙ none)) ∙ sym is)
          ∙ scanned_as-accepted (front ++ rest) header tests;
    }

-- the length that is told is that of the bytes
pub have_of : (file : Option (List ℕ)) (bytes : List ℕ) (have : ℕ) → file ≡ Some bytes → option_map length file ≡ Some have → have ≡ length bytes
have_of file bytes have there told = let known : Some (length bytes) ≡ Some have = ap (option_map length) (sym there) ∙ told in cc

module _ (m : ℕ) (name : List ℕ) (told : Option Files) (have : ℕ) where
  answered_told : (before now : List Event) (result : Result Scanned ScanRefused) → FileScanned m name told have before now result
      → (files : Files) (bytes : List ℕ) → told ≡ Some files → map.get files name ≡ Some bytes → have ≡ length bytes → result ≡ scan_in m bytes
  answered_told before now result scanned files bytes tells there long =
      let n = length scanned.front in
      let begins : scanned.front ≡ take n bytes = scanned.heard.tells files bytes tells there in
      let whole : n + length (drop n bytes) ≡ have = omega (arith, long, length-drop n bytes, scanned.within) in
      sym (scanned.answers (drop n bytes) whole) ∙ ap (λ front. scan_in m (front ++ drop n bytes)) begins ∙ ap (scan_in m) (take-append-drop n bytes)

  -- where the file is told, the answer is by what it holds
  pub file_told : (before now : List Event) (result : Result Scanned ScanRefused) → FileHeard m name told have before now result
      → (files : Files) (bytes : List ℕ) → told ≡ Some files → map.get files name ≡ Some bytes → have ≡ length bytes → (result ≡ Err Failed) ⊎ (result ≡ scan_in m bytes)
  file_told before now (Ok scanned) file files bytes tells there long = inr (answered_told before now (Ok scanned) file files bytes tells there long)
  file_told before now (Err Failed) file files bytes tells there long = inl refl
  file_told before now (Err (TooLarge n)) file files bytes tells there long = absurd file
  file_told before now (Err (Grammar refused)) file files bytes tells there long = inr (answered_told before now (Err (Grammar refused)) file files bytes tells there long)

  module _ (before middle : List Event) (length_heard : middle ≡ before ++ length_of name have ∷ []) where
    behind_length : (events : List Event) → middle ++ events ≡ before ++ length_of name have ∷ events
    behind_length events = ap (λ all. all ++ events) length_heard ∙ append_assoc before (length_of name have ∷ []) events

    begins : (held : Option (List ℕ)) (pieces : List (List ℕ)) → length (concat pieces) ≤ have → option_map length held ≡ Some have
        → ((bytes : List ℕ) → held ≡ Some bytes → concat pieces ≡ take (length (concat pieces)) bytes) → BeginsWith pieces (have - length (concat pieces)) held
    begins None pieces within long front = cc
    begins (Some bytes) pieces within long front =
        let n = length (concat pieces) in
        let whole : have ≡ length bytes = cc in
        (drop n bytes, ap Some (sym (take-append-drop n bytes) ∙ ap (λ some. some ++ drop n bytes) (sym (front bytes refl))), omega (arith, whole, length-drop n bytes))

    scanned_heard : (now : List Event) (result : Result Scanned ScanRefused) → FileScanned m name told have middle now result
        → ((files : Files) → told ≡ Some files → option_map length (map.get files name) ≡ Some have) → IsScanned m name told before now result
    scanned_heard now result scanned long =
        let all = concat scanned.heard.pieces in
        let n : length all ≡ length scanned.front = ap length scanned.heard.are in
        let within : length all ≤ have = omega (arith, n, scanned.within) in
        let whole : have ≡ length all + (have - length all) = omega (arith, within) in
        record {
          pieces = scanned.heard.pieces;
          behind = have - length all;
          heard = scanned.heard.heard ∙ behind_length (pieces_heard name 0 scanned.heard.pieces) ∙ ap (λ k. before ++ length_of name k ∷ pieces_heard name 0 scanned.heard.pieces) whole;
          tells = λ files tells. begins (map.get files name) scanned.heard.pieces within (long files tells)
              (λ bytes there. subst (λ front. front ≡ take (length front) bytes) (sym scanned.heard.are) (scanned.heard.tells files bytes tells there));
          answers = λ rest is. ap (λ front. scan_in m (front ++ rest)) scanned.heard.are ∙ scanned.answers rest (omega (arith, is, n, within));
        }

    -- what was heard once the length was told
    pub file_heard : (now : List Event) (result : Result Scanned ScanRefused) → FileHeard m name told have middle now result
        → ((files : Files) → told ≡ Some files → option_map length (map.get files name) ≡ Some have) → ScanHeard m name told before now result
    file_heard now (Ok scanned) file long = scanned_heard now (Ok scanned) file long
    file_heard now (Err Failed) file long = inr (have, file.1.pieces, file.1.heard ∙ behind_length (pieces_heard name 0 file.1.pieces))
    file_heard now (Err (TooLarge n)) file long = absurd file
    file_heard now (Err (Grammar refused)) file long = scanned_heard now (Err (Grammar refused)) file long

    -- a length past the limit
    pub large_heard : 134217728 < have → ((files : Files) → told ≡ Some files → option_map length (map.get files name) ≡ Some have) → IsScanned m name told before middle (Err (TooLarge have))
    large_heard past long = record {
      pieces = [];
      behind = have;
      heard = length_heard ∙ (let same : have ≡ 0 + have = omega arith in ap (λ k. before ++ length_of name k ∷ []) same);
      tells = λ files tells. begins_none (map.get files name) (long files tells);
      answers = λ rest is.
          let large : nat_lt 134217728 (length rest) ≡ true = grind (arith, past, is) in
          ap (λ b. cond b (Err (TooLarge (length rest))) (scanned_as (behind_header m rest (header_in Batch rest (length rest))))) large ∙ ap (λ k. Err (TooLarge k)) is;
    }
      where
        begins_none : (held : Option (List ℕ)) → option_map length held ≡ Some have → BeginsWith [] have held
        begins_none None is = cc
        begins_none (Some bytes) is = (bytes, refl, cc)
