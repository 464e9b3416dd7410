-- Sort keys of values: their values, and their order.
use Rattle.std.proofs.Common.{◌≡◌, ℕ, ◌+◌, ◌-◌, ◌<◌, ◌≤◌, ◌/◌, ◌%◌, true, List, [], ◌∷◌, ◌++◌, length, take, drop, get_or, replicate, Option, Some, None, Bor, inl, inr, refl, sym, ap, ◌∙◌, arith, append_assoc}
use Rattle.std.specs.Prelude.{slice_index, IfSome}
use Rattle.std.specs.Option.{is_some}
use Rattle.std.specs.Int.{w16, to_be_bytes}
use Rattle.std.proofs.lemmas.List.{take_at, length-append, length-replicate, get_or-append-add}
use Rattle.esa_report.specs.Report.{IsReport, IsReportLength, report_of, value_in}
use Rattle.esa_report.proofs.ReportLemmas.{value_in-IsReport}
use Rattle.esa_analyser.specs.SortKey.{sort_key, key_value, IsSortKey}

length-zeros_of : (n : ℕ) → length (replicate {A = ℕ} n 0) ≡ n
length-zeros_of n = length-replicate {A = ℕ} n 0

pub two_lengths : (size : ℕ) → IsReportLength size → (64 ≤ size) × (size ≤ 192)
two_lengths size either = elim either [ inl one ↦ (omega arith, omega arith) | inr two ↦ (omega arith, omega arith) ]

-- a length below 256 in two bytes
small_length : (n : ℕ) → n < 256 → to_be_bytes w16 n ≡ 0 ∷ n ∷ []
small_length n small =
    let high : n / 256 % 256 ≡ 0 = omega arith in
    let low : n % 256 ≡ n = omega arith in
    λ i. high i ∷ low i ∷ []

length-sort_key : (size : ℕ) (value : List ℕ) → length value + 2 ≤ size → length (sort_key size value) ≡ size
unfolding sort_key
length-sort_key size value fits =
    let zeros : List ℕ = replicate (size - 2 - length value) 0 in
    omega (arith, length-append value (zeros ++ (0 ∷ length value ∷ [])), length-append zeros (0 ∷ length value ∷ []), length-zeros_of (size - 2 - length value))

regrouped : (value zeros : List ℕ) (n : ℕ) → value ++ (zeros ++ (0 ∷ n ∷ [])) ≡ (value ++ zeros ++ 0 ∷ []) ++ n ∷ []
regrouped value zeros n = simp append_assoc

front-sort_key : (size : ℕ) (value : List ℕ) → take (length value) (sort_key size value) ≡ value
unfolding sort_key
front-sort_key size value = take_at value _ (length value) refl

last-sort_key : (size : ℕ) (value : List ℕ) → length value + 2 ≤ size → slice_index (sort_key size value) (size - 1) ≡ length value
unfolding sort_key
last-sort_key size value fits =
    let zeros : List ℕ = replicate (size - 2 - length value) 0 in
    let front : length (value ++ zeros ++ 0 ∷ []) + 0 ≡ size - 1 = omega (arith, length-append (value ++ zeros) (0 ∷ []), length-append value zeros, length-zeros_of (size - 2 - length value)) in
    ap (λ key. get_or key (size - 1) 0) (regrouped value zeros (length value))
    ∙ ap (λ n. get_or ((value ++ zeros ++ 0 ∷ []) ++ length value ∷ []) n 0) (sym front)
    ∙ get_or-append-add (value ++ zeros ++ 0 ∷ []) (length value ∷ []) 0 0

pub key_value-sort_key : (size : ℕ) (value : List ℕ) → length value + 2 ≤ size → key_value (sort_key size value) ≡ value
key_value-sort_key size value fits =
    let last : slice_index (sort_key size value) (length (sort_key size value) - 1) ≡ length value =
    ap (λ n. slice_index (sort_key size value) (n - 1)) (length-sort_key size value fits) ∙ last-sort_key size value fits in
    ap (λ n. take n (sort_key size value)) last ∙ front-sort_key size value

-- a report with its length bytes behind the rest is the sort key of its value
turned : (size : ℕ) (report value : List ℕ) → length report ≡ size → size ≤ 192 → IsReport report value → drop 2 report ++ take 2 report ≡ sort_key size value
unfolding sort_key report_of
turned size report value long small is =
    let bytes = to_be_bytes w16 (length value) in
    let room : length value < 256 = let fits = is.fits in omega arith in
    let fill : length report - (2 + length value) ≡ size - 2 - length value = omega arith in
    let zeros : List ℕ = replicate (length report - (2 + length value)) 0 in
    (λ i. drop 2 (is.spelled i) ++ take 2 (is.spelled i))
    ∙ append_assoc value zeros bytes
    ∙ ap (λ ys. value ++ (zeros ++ ys)) (small_length (length value) room)
    ∙ ap (λ n. value ++ (replicate n 0 ++ (0 ∷ length value ∷ []))) fill

pub record Turns (size : ℕ) (report key : List ℕ) : Type 0 where
  pub is_key : IsSortKey size key
  pub value : value_in report ≡ Some (key_value key)

turns : (size : ℕ) (report key value : List ℕ) → length report ≡ size → size ≤ 192 → IsReport report value → key ≡ drop 2 report ++ take 2 report → Turns size report key
turns size report key value long small is made =
    let spelled : key ≡ sort_key size value = made ∙ turned size report value long small is in
    let fits : length value + 2 ≤ size = let fits = is.fits in omega arith in
    let same : key_value key ≡ value = ap key_value spelled ∙ key_value-sort_key size value fits in
    record {
      is_key = record { fits = omega (arith, ap length same); spelled = spelled ∙ ap (sort_key size) (sym same) };
      value = value_in-IsReport report value (omega arith) is ∙ ap Some (sym same);
    }

-- an opened report that spells a value, turned
pub turns-found : (size : ℕ) (report key : List ℕ) (found : Option (Bor (List ℕ))) → IsReportLength size → length report ≡ length (replicate {A = ℕ} size 0) → is_some found ≡ true → IfSome found (λ value. IsReport report value.now) → key ≡ drop 2 report ++ take 2 report → Turns size report key
turns-found size report key None either long some is made = cc
turns-found size report key (Some value) either long some is made = turns size report key value.now (long ∙ length-zeros_of size) (two_lengths size either).1 is made
