-- The header of a file is in its first fifteen bytes.
use Rattle.std.proofs.Common.{◌≡◌, ℕ, ◌+◌, ◌-◌, ◌≤◌, Bool, true, false, cond, List, ◌++◌, length, take, drop, get_or, Result, Ok, Err, refl, subst, sym, ap, ◌∙◌, arith}
use Rattle.std.specs.Prelude.{nat_lt, nat_eq, ◌==◌, min}
use Rattle.std.specs.List.{starts_with}
use Rattle.std.specs.Cmp.Lexicographic.{pointwise}
use Rattle.std.specs.Int.{w16, w32, from_be_bytes}
use Rattle.std.proofs.lemmas.List.{get_or-take, take-take, take_at, drop-take}
use Rattle.esa_bytes.specs.Field.{u16_in, u32_in}
use Rattle.esa_params.specs.declared.form.Form.{Form}
use Rattle.esa_params.specs.declared.form.Form.TheVariants.{One, Two}
use Rattle.esa_header.specs.Version.{form_in}
use Rattle.esa_header.specs.declared.header.FileKind.{FileKind}
use Rattle.esa_header.specs.declared.header.FileKind.TheVariants.{Batch, Forward}
use Rattle.esa_header.specs.declared.header.Header.{Header}
use Rattle.esa_header.specs.declared.header.HeaderRefused.{HeaderRefused}
use Rattle.esa_header.specs.declared.header.HeaderRefused.TheVariants.{BadMagic, BadSize}
use Rattle.esa_header.specs.Header.{cut, magic, record_length, header_length, version_result, form_by_front, header_by_length, header_by_form, header_at, header_in, file_length}
use Rattle.esa_header.proofs.HeaderLaws.{not_below, first_passed, then_passed, both_ways}

-- a part that lies inside a front
part_of_front : (at n k : ℕ) (bytes : List ℕ) → at + n ≤ k → take n (drop at (take k bytes)) ≡ take n (drop at bytes)
part_of_front at n k bytes inside =
    let split : k ≡ at + (k - at) = omega arith in
    ap (λ m. take n (drop at (take m bytes))) split ∙ ap (take n) (drop-take at (k - at) bytes) ∙ take-take n (k - at) (drop at bytes) (omega arith)

module _ (k : ℕ) (bytes : List ℕ) where
  u16_front : 11 ≤ k → u16_in (take k bytes) 9 ≡ u16_in bytes 9
  unfolding u16_in
  u16_front enough = ap (from_be_bytes w16) (part_of_front 9 (9 + 2 - 9) k bytes (omega arith))

  u32_front : (at : ℕ) → at + 4 ≤ k → u32_in (take k bytes) at ≡ u32_in bytes at
  unfolding u32_in
  u32_front at enough = ap (from_be_bytes w32) (part_of_front at (at + 4 - at) k bytes (omega arith))

  magic_front : (kind : FileKind) → 11 ≤ k → starts_with nat_eq (take k bytes) (magic kind) ≡ starts_with nat_eq bytes (magic kind)
  magic_front Batch enough = ap (λ front. pointwise nat_eq (magic Batch) front) (take-take 4 k bytes (omega arith))
  magic_front Forward enough = ap (λ front. pointwise nat_eq (magic Forward) front) (take-take 4 k bytes (omega arith))

  form_front : (kind : FileKind) (have : ℕ) → 11 ≤ k → form_by_front kind (take k bytes) have ≡ form_by_front kind bytes have
  form_front kind have enough = λ i.
      cond (nat_lt have 11) (Err (cut 11 have)) (cond (magic_front kind enough i) (version_result (form_in (get_or-take k bytes 4 0 (omega arith) i))) (Err BadMagic))

  header_at_front : (form : Form) → 11 ≤ k → header_length form ≤ k → header_at form (take k bytes) ≡ header_at form bytes
  header_at_front One enough whole = λ i. record { form = One; epoch = 0; count = u32_front 5 (omega arith) i }
  header_at_front Two enough whole = λ i. record { form = Two; epoch = u32_front 11 whole i; count = u32_front 5 (omega arith) i }

  by_length : (kind : FileKind) (have : ℕ) (form : Form) (b : Bool) → 11 ≤ k → (b ≡ false → header_length form ≤ k)
      → cond b (Err (cut (header_length form) have)) (cond (u16_in (take k bytes) 9 == record_length kind form) (header_by_length kind (header_at form (take k bytes)) have) (Err BadSize))
      ≡ cond b (Err (cut (header_length form) have)) (cond (u16_in bytes 9 == record_length kind form) (header_by_length kind (header_at form bytes) have) (Err BadSize))
  by_length kind have form true enough whole = refl
  by_length kind have form false enough whole =
      let fits : header_length form ≤ k = whole refl in
      λ i. cond (u16_front enough i == record_length kind form) (header_by_length kind (header_at_front form enough fits i) have) (Err BadSize)

  by_form : (kind : FileKind) (have : ℕ) (r : Result Form HeaderRefused) → 11 ≤ k → ((form : Form) → nat_lt have (header_length form) ≡ false → header_length form ≤ k)
      → header_by_form kind (take k bytes) have r ≡ header_by_form kind bytes have r
  by_form kind have (Err refused) enough whole = refl
  by_form kind have (Ok form) enough whole = by_length kind have form (nat_lt have (header_length form)) enough (whole form)

least : (form : Form) → header_length form ≤ 15
least One = omega arith
least Two = omega arith

inside : (k have : ℕ) (form : Form) → k ≡ min 15 have → nat_lt have (header_length form) ≡ false → header_length form ≤ k
inside k have form is enough = let fits : header_length form ≤ have = not_below _ _ enough in omega (arith, least form, is)

-- so the header of a file is that of its front
pub header_in-front : (kind : FileKind) (k have : ℕ) (bytes : List ℕ) → k ≡ min 15 have → header_in kind (take k bytes) have ≡ header_in kind bytes have
header_in-front kind k have bytes is = by_test (nat_lt have 11) refl
  where
    by_test : (b : Bool) → nat_lt have 11 ≡ b → header_in kind (take k bytes) have ≡ header_in kind bytes have
    by_test true short =
        let first : form_by_front kind (take k bytes) have ≡ Err (cut 11 have) = ap (λ b. cond b (Err (cut 11 have)) (cond (starts_with nat_eq (take k bytes) (magic kind)) (version_result (form_in (get_or (take k bytes) 4 0))) (Err BadMagic))) short in
        let second : form_by_front kind bytes have ≡ Err (cut 11 have) = ap (λ b. cond b (Err (cut 11 have)) (cond (starts_with nat_eq bytes (magic kind)) (version_result (form_in (get_or bytes 4 0))) (Err BadMagic))) short in
        ap (header_by_form kind (take k bytes) have) first ∙ sym (ap (header_by_form kind bytes have) second)
    by_test false long =
        let enough : 11 ≤ have = not_below _ _ long in
        let wide : 11 ≤ k = omega (arith, is) in
        ap (header_by_form kind (take k bytes) have) (form_front k bytes kind have wide)
        ∙ by_form k bytes kind have (form_by_front kind bytes have) wide (λ form fits. inside k have form is fits)

-- so it is that of the bytes with which the file begins
pub header_in-append : (kind : FileKind) (have : ℕ) (front rest : List ℕ) → length front ≡ min 15 have → header_in kind (front ++ rest) have ≡ header_in kind front have
header_in-append kind have front rest long =
    sym (header_in-front kind (length front) have (front ++ rest) long) ∙ ap (λ bytes. header_in kind bytes have) (take_at front rest (length front) refl)

-- a file with an accepted header is as long as it says
pub length-accepted : (kind : FileKind) (front : List ℕ) (have : ℕ) (header : Header) → header_in kind front have ≡ Ok header → have ≡ file_length kind header
length-accepted kind front have header read = by_result (form_by_front kind front have) read
  where
    by_result : (r : Result Form HeaderRefused) → header_by_form kind front have r ≡ Ok header → have ≡ file_length kind header
    by_result (Err refused) rest = cc
    by_result (Ok form) rest =
        let whole = first_passed (nat_lt have (header_length form)) _ _ header rest in
        let size = then_passed (u16_in front 9 == record_length kind form) _ _ header whole.1 in
        let enough = first_passed (nat_lt have (file_length kind (header_at form front))) _ _ header size.1 in
        let no_more = first_passed (nat_lt (file_length kind (header_at form front)) have) _ _ header enough.1 in
        let same : header_at form front ≡ header = cc no_more.1 in
        subst (λ h. have ≡ file_length kind h) same (both_ways _ _ (not_below _ _ no_more.0) (not_below _ _ enough.0))
