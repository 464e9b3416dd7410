-- A value's report gives the value back, and the other way round.
use Rattle.std.proofs.Common.{◌≡◌, ℕ, ◌+◌, ◌-◌, ◌^◌, ◌<◌, ◌≤◌, true, ◌&&◌, List, [], ◌++◌, length, take, drop, get_or, Option, Some, None, refl, sym, ap, ◌∙◌, arith, append_assoc, length-append, length-drop, leb, inl, inr}
use Rattle.std.specs.Prelude.{replicate, slice_range, unwrap_or, IfSome, IfNone}
use Rattle.std.specs.Option.{option_copied}
use denote.Ref.{Bor}
use borrow.Rule.Slice.PartMut.{put_mid}
use Rattle.std.specs.Int.{w16, from_be_bytes, to_be_bytes}
use Rattle.std.proofs.lemmas.Bool.{and_parts, cases_Bool, cases_lt, leb-true, le-leb}
use Rattle.std.proofs.lemmas.List.{drop_at, drop-drop, drop-replicate, get_or-take, get_or_past, length-take-le, take-append-drop}
use Rattle.std.proofs.lemmas.Nat.{be_bytes_2}
use Rattle.esa_bytes.specs.Field.{u16_in}
use Rattle.esa_bytes.proofs.FieldLemmas.{slice_range-middle, u16_in-written}
use Rattle.esa_report.specs.Zero.{is_zero}
use Rattle.esa_report.specs.Report.{IsReport, report_of, value_in}
use Rattle.esa_report.proofs.ZeroLemmas.{is_zero-replicate, replicate-zero}

-- a value that follows its length, with zero bytes behind it
value_in-spelled : (first value blank : List ℕ) → length first ≡ 2 → u16_in (first ++ (value ++ blank)) 0 ≡ length value
    → is_zero blank ≡ true → value_in (first ++ (value ++ blank)) ≡ Some value
unfolding value_in
value_in-spelled first value blank two read zero =
    let whole = length-append first (value ++ blank) in
    let rest = length-append value blank in
    let front = length-append first value in
    let behind : drop (2 + length value) (first ++ (value ++ blank)) ≡ blank =
    ap (λ bytes. drop (2 + length value) bytes) (sym (append_assoc first value blank))
    ∙ drop_at (first ++ value) blank (2 + length value) (omega (arith, front)) in
    let inside : slice_range (first ++ (value ++ blank)) 2 (2 + length value) ≡ value =
    slice_range-middle first value blank 2 (length value) two refl in
    let fits : leb (2 + length value) (length (first ++ (value ++ blank))) ≡ true =
    le-leb (2 + length value) (length (first ++ (value ++ blank))) (omega (arith, whole, rest)) in
    rw (read, fits, behind, zero, inside)

pub value_in-report_of : (size : ℕ) (value : List ℕ) → length value < 2 ^ 16 → value_in (report_of size value) ≡ Some value
unfolding report_of
value_in-report_of size value small =
    value_in-spelled (to_be_bytes w16 (length value)) value (replicate (size - (2 + length value)) 0) refl
    (u16_in-written [] (value ++ replicate (size - (2 + length value)) 0) 0 (length value) refl small)
    (is_zero-replicate (size - (2 + length value)))

pub value_in-IsReport : (report value : List ℕ) → length report ≤ 192 → IsReport report value → value_in report ≡ Some value
value_in-IsReport report value small is =
    let fits = is.fits in
    ap (λ bytes. value_in bytes) is.spelled ∙ value_in-report_of (length report) value (omega arith)

-- a number of two bytes is spelled by those two
first_two : (report : List ℕ) → ((i : ℕ) → get_or report i 0 < 256) → 2 ≤ length report
    → to_be_bytes w16 (u16_in report 0) ≡ take 2 report
unfolding u16_in
first_two report small fits =
    let size = length-take-le 2 report fits in
    be_bytes_2 (take 2 report) (from_be_bytes w16 (take 2 report)) size
    (λ i.
    elim (cases_lt i 2) [
      | inl inside ↦ rw (get_or-take 2 report i 0 inside) (small i)
      | inr past ↦ rw (get_or_past (take 2 report) i 0 (omega (arith, size))) (omega arith)
    ])
    refl

-- a report whose value has n bytes, in parts
parts_of : (report : List ℕ) (n : ℕ) → 2 + n ≤ length report → is_zero (drop (2 + n) report) ≡ true
    → take 2 report ++ (slice_range report 2 (2 + n) ++ replicate (length report - (2 + n)) 0) ≡ report
parts_of report n fits zero =
    let count : 2 + n - 2 ≡ n = omega arith in
    let size : length (drop (2 + n) report) ≡ length report - (2 + n) = length-drop (2 + n) report in
    let blank : replicate (length report - (2 + n)) 0 ≡ drop n (drop 2 report) =
    sym (replicate-zero (drop (2 + n) report) zero ∙ ap (λ more. replicate more 0) size) ∙ sym (drop-drop n 2 report) in
    rw (count, blank, take-append-drop n (drop 2 report)) (take-append-drop 2 report)

IsReport-parts : (report : List ℕ) → ((i : ℕ) → get_or report i 0 < 256) → 2 + u16_in report 0 ≤ length report
    → is_zero (drop (2 + u16_in report 0) report) ≡ true
    → IsReport report (slice_range report 2 (2 + u16_in report 0))
unfolding report_of
IsReport-parts report small fits zero =
    let count : 2 + u16_in report 0 - 2 ≡ u16_in report 0 = omega arith in
    let rest = length-drop 2 report in
    let size : length (slice_range report 2 (2 + u16_in report 0)) ≡ u16_in report 0 =
    ap (λ n. length (take n (drop 2 report))) count ∙ length-take-le (u16_in report 0) (drop 2 report) (omega (arith, rest)) in
    record {
      fits = rw size fits;
      spelled =
          sym (parts_of report (u16_in report 0) fits zero)
          ∙ ap (λ front. front ++ (slice_range report 2 (2 + u16_in report 0) ++ replicate (length report - (2 + u16_in report 0)) 0))
          (sym (first_two report small (omega arith)))
          ∙ ap (λ n. to_be_bytes w16 n ++ (slice_range report 2 (2 + u16_in report 0) ++ replicate (length report - (2 + n)) 0)) (sym size);
    }

pub IsReport-value_in : (report value : List ℕ) → ((i : ℕ) → get_or report i 0 < 256) → value_in report ≡ Some value
    → IsReport report value
unfolding value_in
IsReport-value_in report value small h =
    elim (cases_Bool (leb (2 + u16_in report 0) (length report) && is_zero (drop (2 + u16_in report 0) report))) [
      | inl good ↦
          let parts = and_parts (leb (2 + u16_in report 0) (length report)) (is_zero (drop (2 + u16_in report 0) report)) good in
          let same : slice_range report 2 (2 + u16_in report 0) ≡ value =
          ap (λ (o : Option (List ℕ)). unwrap_or o []) (rw good at h) in
          rw (← same) (IsReport-parts report small (leb-true (2 + u16_in report 0) (length report) parts.0) parts.1)
      | inr bad ↦ cc (rw bad at h)
    ]

-- what an answer shows that is the value of a report, if any
pub found_from : (report : List ℕ) (answer : Option (Bor (List ℕ))) → ((i : ℕ) → get_or report i 0 < 256)
    → option_copied answer ≡ value_in report → IfSome answer (λ value. IsReport report value.now)
found_from report (Some value) small h = IsReport-value_in report value.now small (sym h)
found_from report None small h = tt

pub none_from : (report : List ℕ) (answer : Option (Bor (List ℕ))) → length report ≤ 192
    → option_copied answer ≡ value_in report → IfNone answer ((value : List ℕ) → IsReport report value → ⊥)
none_from report (Some value) small h = tt
none_from report None small h = λ value is. cc (h ∙ value_in-IsReport report value small is)

-- a value was written over zero bytes, behind its length
pub report_of-written : (value first out : List ℕ) (size : ℕ) → out ≡ replicate size 0 → first ≡ to_be_bytes w16 (length value)
    → put_mid 2 (2 + length value - 2) (first ++ drop 2 out) value ≡ report_of size value
unfolding report_of
report_of-written value first out size blank start =
    let count : 2 + (2 + length value - 2) ≡ 2 + length value = omega arith in
    let behind : drop (2 + length value - 2) (drop 2 (replicate size 0)) ≡ replicate (size - (2 + length value)) 0 =
    drop-drop (2 + length value - 2) 2 (replicate size 0) ∙ ap (λ n. drop n (replicate size 0)) count
    ∙ drop-replicate (2 + length value) size 0 in
    rw (start, blank) (ap (λ rest. to_be_bytes w16 (length value) ++ (value ++ rest)) behind)
