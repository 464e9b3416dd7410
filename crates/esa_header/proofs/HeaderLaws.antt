-- A header has one spelling: what is read is what would be written, and what is written is read.
use Rattle.std.proofs.Common.{◌≡◌, ℕ, zero, suc, ◌+◌, ◌-◌, ◌<◌, ◌≤◌, ◌^◌, Bool, true, false, cond, List, [], ◌∷◌, ◌++◌, length, take, drop, get_or, Option, Some, None, Result, Ok, Err, refl, sym, ap, subst, ◌∙◌, arith}
use Rattle.std.specs.Prelude.{nat_lt, nat_eq, ◌==◌, IfOk}
use Rattle.std.specs.List.{starts_with}
use Rattle.std.specs.Int.{w16, w32, to_be_bytes, from_be_bytes}
use Rattle.std.specs.Cmp.Lexicographic.{bytes_decides}
use Rattle.std.proofs.lemmas.List.{drop_more, drop-drop, length-take-le, length-take, length-drop, length-append, take-append-drop, append-nil, append_assoc, get_or-take, get_or-drop, get_or_past}
use Rattle.std.proofs.lemmas.Nat.{be_bytes_2, be_bytes_4}
use Rattle.std.proofs.lemmas.Bool.Decides.{nat_tests}
use Rattle.esa_bytes.specs.Field.{u16_in, u32_in}
use Rattle.esa_bytes.proofs.FieldLemmas.{u16_in-written, u32_in-written}
use Rattle.esa_params.specs.declared.form.Form.{Form}
use Rattle.esa_params.specs.declared.form.Form.TheVariants.{One, Two}
use Rattle.esa_header.specs.Version.{version_byte, form_in, IsEpochOf}
use Rattle.esa_header.specs.declared.header.FileKind.{FileKind}
use Rattle.esa_header.specs.declared.header.FileKind.TheVariants.{Batch, Forward}
use Rattle.esa_header.specs.declared.header.Header.{Header}
use Rattle.esa_header.specs.declared.header.HeaderRefused.{HeaderRefused}
use Rattle.esa_header.specs.declared.header.HeaderRefused.TheVariants.{BadMagic, BadSize, Trailing}
use Rattle.esa_header.specs.Header.{cut, magic, record_length, header_length, front_bytes, header_bytes, file_length, epoch_bytes, epoch_in, header_at, version_result, form_by_front, header_by_length, header_by_form, header_in, IsFileOf}

take_none : (m : ℕ) → ◌≡◌ {A = List ℕ} [] (take m [])
take_none zero = refl
take_none (suc m) = refl

-- a list up to a place and a part behind it
pub take_split : (n m : ℕ) (xs : List ℕ) → take (n + m) xs ≡ take n xs ++ take m (drop n xs)
take_split zero m xs = ap (λ k. take k xs) (omega arith)
take_split (suc n) m [] = let e : suc n + m ≡ suc (n + m) = omega arith in ap (λ k. take k []) e ∙ take_none m
take_split (suc n) m (x ∷ xs) = let e : suc n + m ≡ suc (n + m) = omega arith in ap (λ k. take k (x ∷ xs)) e ∙ ap (λ ys. x ∷ ys) (take_split n m xs)

-- the bytes of a list
abbrev pub AreBytes : List ℕ → Type 0
AreBytes bytes = (i : ℕ) → get_or bytes i 0 < 256

-- the first eleven bytes by their fields
front_fields : (bytes : List ℕ) → 11 ≤ length bytes → take 11 bytes ≡ take 4 bytes ++ (get_or bytes 4 0 ∷ (take 4 (drop 5 bytes) ++ take 2 (drop 9 bytes)))
front_fields bytes long =
    take_split 4 7 bytes
    ∙ ap (λ ys. take 4 bytes ++ take 7 ys) (drop_more bytes 4 0 (omega arith))
    ∙ ap (λ ys. take 4 bytes ++ (get_or bytes 4 0 ∷ ys)) (take_split 4 2 (drop 5 bytes))
    ∙ ap (λ ys. take 4 bytes ++ (get_or bytes 4 0 ∷ (take 4 (drop 5 bytes) ++ take 2 ys))) (drop-drop 4 5 bytes)

-- a test that refuses was not met where the answer is Ok
pub first_passed : {T E : Type 0} (b : Bool) (e : E) (r : Result T E) (x : T) → cond b (Err e) r ≡ Ok x → (b ≡ false) × (r ≡ Ok x)
first_passed true e r x h = cc
first_passed false e r x h = (refl, h)

pub then_passed : {T E : Type 0} (b : Bool) (e : E) (r : Result T E) (x : T) → cond b r (Err e) ≡ Ok x → (b ≡ true) × (r ≡ Ok x)
then_passed true e r x h = (refl, h)
then_passed false e r x h = cc

pub not_below : (a b : ℕ) → nat_lt a b ≡ false → b ≤ a
not_below a b h = grind (arith, nat_tests)

pub no_test : (a b : ℕ) → b ≤ a → nat_lt a b ≡ false
no_test a b h = grind (arith, nat_tests)

pub same_number : (a b : ℕ) → (a == b) ≡ true → a ≡ b
same_number a b h = grind (arith, nat_tests)

pub number_itself : (a b : ℕ) → a ≡ b → (a == b) ≡ true
number_itself a b h = grind (arith, nat_tests)

version_result-ok : (o : Option Form) (form : Form) → version_result o ≡ Ok form → o ≡ Some form
version_result-ok None form h = cc
version_result-ok (Some other) form h = cc

pub form_in-is : (v : ℕ) (form : Form) → form_in v ≡ Some form → v ≡ version_byte form
form_in-is v form h =
    elim (v == 1) as (λ b. (v == 1) ≡ b → cond b (Some One) (cond (v == 2) (Some Two) None) ≡ Some form → v ≡ version_byte form) [
      | true ↦ λ e h. let is : One ≡ form = cc in same_number v 1 e ∙ ap version_byte is
      | false ↦ λ e. elim (v == 2) as (λ b. (v == 2) ≡ b → cond b (Some Two) None ≡ Some form → v ≡ version_byte form) [
        | true ↦ λ e h. let is : Two ≡ form = cc in same_number v 2 e ∙ ap version_byte is
        | false ↦ λ e h. cc
      ] refl
    ] refl h

magic-is : (kind : FileKind) (bytes : List ℕ) → starts_with nat_eq bytes (magic kind) ≡ true → take 4 bytes ≡ magic kind
magic-is Batch bytes h = sym ((bytes_decides (magic Batch) (take 4 bytes)).0 h)
magic-is Forward bytes h = sym ((bytes_decides (magic Forward) (take 4 bytes)).0 h)

record-fits : (kind : FileKind) (form : Form) → record_length kind form < 2 ^ 16
record-fits Batch One = omega arith
record-fits Batch Two = omega arith
record-fits Forward One = omega arith
record-fits Forward Two = omega arith

below : (a b : ℕ) → nat_lt a b ≡ true → a < b
below a b h = grind (arith, nat_tests)

past : (i m : ℕ) (xs : List ℕ) → m ≤ i → length (take m xs) ≤ i
past i m xs h = omega (arith, length-take m xs)

below_part : (bytes : List ℕ) → AreBytes bytes → (n m i : ℕ) → get_or (take m (drop n bytes)) i 0 < 256
below_part bytes are n m i =
    elim (nat_lt i m) as (λ b. nat_lt i m ≡ b → get_or (take m (drop n bytes)) i 0 < 256) [
      | true ↦ λ e. rw (get_or-take m (drop n bytes) i 0 (below i m e), get_or-drop n bytes i 0) (are (n + i))
      | false ↦ λ e. rw (get_or_past (take m (drop n bytes)) i 0 (past i m (drop n bytes) (not_below i m e))) (omega arith)
    ] refl

module _ (bytes : List ℕ) (are : AreBytes bytes) where
  length_part : (at n : ℕ) → at + n ≤ length bytes → length (take n (drop at bytes)) ≡ n
  length_part at n inside = length-take-le n (drop at bytes) (omega (arith, length-drop at bytes))

  part_byte : (n m i : ℕ) → get_or (take m (drop n bytes)) i 0 < 256
  part_byte n m i = below_part bytes are n m i

  pub field_u32 : (at : ℕ) → at + 4 ≤ length bytes → to_be_bytes w32 (u32_in bytes at) ≡ take 4 (drop at bytes)
  unfolding u32_in
  field_u32 at inside =
      let size : at + 4 - at ≡ 4 = omega arith in
      be_bytes_4 (take 4 (drop at bytes)) _ (length_part at 4 inside) (part_byte at 4) (ap (λ n. from_be_bytes w32 (take n (drop at bytes))) size)

  field_u16 : (at : ℕ) → at + 2 ≤ length bytes → to_be_bytes w16 (u16_in bytes at) ≡ take 2 (drop at bytes)
  unfolding u16_in
  field_u16 at inside =
      let size : at + 2 - at ≡ 2 = omega arith in
      be_bytes_2 (take 2 (drop at bytes)) _ (length_part at 2 inside) (part_byte at 2) (ap (λ n. from_be_bytes w16 (take n (drop at bytes))) size)

pub both_ways : (a b : ℕ) → a ≤ b → b ≤ a → a ≡ b
both_ways a b h g = omega arith

front_is : (kind : FileKind) (bytes : List ℕ) → AreBytes bytes → (form : Form) → 11 ≤ length bytes → take 4 bytes ≡ magic kind → get_or bytes 4 0 ≡ version_byte form → u16_in bytes 9 ≡ record_length kind form
    → take 11 bytes ≡ magic kind ++ (version_byte form ∷ (to_be_bytes w32 (u32_in bytes 5) ++ to_be_bytes w16 (record_length kind form)))
front_is kind bytes are form long begins version size =
    let count : to_be_bytes w32 (u32_in bytes 5) ≡ take 4 (drop 5 bytes) = field_u32 bytes are 5 (omega arith) in
    let record_size : to_be_bytes w16 (u16_in bytes 9) ≡ take 2 (drop 9 bytes) = field_u16 bytes are 9 (omega arith) in
    front_fields bytes long
    ∙ ap (λ ys. ys ++ (get_or bytes 4 0 ∷ (take 4 (drop 5 bytes) ++ take 2 (drop 9 bytes)))) begins
    ∙ ap (λ v. magic kind ++ (v ∷ (take 4 (drop 5 bytes) ++ take 2 (drop 9 bytes)))) version
    ∙ ap (λ ys. magic kind ++ (version_byte form ∷ (ys ++ take 2 (drop 9 bytes)))) (sym count)
    ∙ ap (λ ys. magic kind ++ (version_byte form ∷ (to_be_bytes w32 (u32_in bytes 5) ++ ys))) (sym record_size ∙ ap (λ n. to_be_bytes w16 n) size)

pub u32_in-fits : (bytes : List ℕ) → AreBytes bytes → (at : ℕ) → u32_in bytes at < 2 ^ 32
unfolding u32_in
u32_in-fits bytes are at =
    let b = below_part bytes are at (at + 4 - at) in
    omega (arith, b 0, b 1, b 2, b 3)

whole_header : (kind : FileKind) (bytes : List ℕ) → AreBytes bytes → (form : Form) → header_length form ≤ length bytes → 11 ≤ length bytes → take 4 bytes ≡ magic kind → get_or bytes 4 0 ≡ version_byte form → u16_in bytes 9 ≡ record_length kind form
    → take (header_length form) bytes ≡ header_bytes kind (header_at form bytes)
whole_header kind bytes are One whole long begins version size =
    front_is kind bytes are One long begins version size ∙ sym (append-nil _)
whole_header kind bytes are Two whole long begins version size =
    let epoch : to_be_bytes w32 (u32_in bytes 11) ≡ take 4 (drop 11 bytes) = field_u32 bytes are 11 whole in
    take_split 11 4 bytes
    ∙ ap (λ ys. ys ++ take 4 (drop 11 bytes)) (front_is kind bytes are Two long begins version size)
    ∙ ap (λ ys. (magic kind ++ (2 ∷ (to_be_bytes w32 (u32_in bytes 5) ++ to_be_bytes w16 (record_length kind Two)))) ++ ys) (sym epoch)

epoch-fits : (bytes : List ℕ) → AreBytes bytes → (form : Form) → IsEpochOf form (epoch_in form bytes)
epoch-fits bytes are One = refl
epoch-fits bytes are Two = u32_in-fits bytes are 11

spelled : (kind : FileKind) (bytes : List ℕ) → AreBytes bytes → (form : Form) (header : Header) → 11 ≤ length bytes → take 4 bytes ≡ magic kind → get_or bytes 4 0 ≡ version_byte form → header_length form ≤ length bytes → u16_in bytes 9 ≡ record_length kind form
    → header_by_length kind (header_at form bytes) (length bytes) ≡ Ok header → IsFileOf kind header bytes
spelled kind bytes are form header long begins version whole size ends =
    let read = header_at form bytes in
    let enough = first_passed (nat_lt (length bytes) (file_length kind read)) _ _ header ends in
    let no_more = first_passed (nat_lt (file_length kind read) (length bytes)) _ _ header enough.1 in
    let same : read ≡ header = cc no_more.1 in
    let at_least : file_length kind read ≤ length bytes = not_below _ _ enough.0 in
    let at_most : length bytes ≤ file_length kind read = not_below _ _ no_more.0 in
    subst (λ h. IsFileOf kind h bytes) same (record {
      count = u32_in-fits bytes are 5;
      epoch = epoch-fits bytes are form;
      front = whole_header kind bytes are form whole long begins version size;
      size = both_ways _ _ at_most at_least;
    })

-- what is accepted is a file of the header that was read
pub header_in-spelled : (kind : FileKind) (bytes : List ℕ) → AreBytes bytes → (header : Header) → header_in kind bytes (length bytes) ≡ Ok header → IsFileOf kind header bytes
header_in-spelled kind bytes are header read = by_form (form_by_front kind bytes (length bytes)) refl read
  where
    by_form : (form : Result Form HeaderRefused) → form_by_front kind bytes (length bytes) ≡ form → header_by_form kind bytes (length bytes) form ≡ Ok header → IsFileOf kind header bytes
    by_form (Err refused) first rest = cc
    by_form (Ok form) first rest =
        let long = first_passed (nat_lt (length bytes) 11) _ _ form first in
        let begins = then_passed (starts_with nat_eq bytes (magic kind)) _ _ form long.1 in
        let version = form_in-is _ form (version_result-ok _ form begins.1) in
        let whole = first_passed (nat_lt (length bytes) (header_length form)) _ _ header rest in
        let size = then_passed (u16_in bytes 9 == record_length kind form) _ _ header whole.1 in
        spelled kind bytes are form header (not_below _ _ long.0) (magic-is kind bytes begins.0) version (not_below _ _ whole.0) (same_number _ _ size.0) size.1

-- the fields of bytes that begin with a header
pub length-magic : (kind : FileKind) → length (magic kind) ≡ 4
length-magic Batch = refl
length-magic Forward = refl

begins_with-magic : (kind : FileKind) (rest : List ℕ) → starts_with nat_eq (magic kind ++ rest) (magic kind) ≡ true
begins_with-magic Batch rest = refl
begins_with-magic Forward rest = refl

version-at : (kind : FileKind) (v : ℕ) (rest : List ℕ) → get_or (magic kind ++ (v ∷ rest)) 4 0 ≡ v
version-at Batch v rest = refl
version-at Forward v rest = refl

pub form_in-version_byte : (form : Form) → form_in (version_byte form) ≡ Some form
form_in-version_byte One = refl
form_in-version_byte Two = refl

front_length : (kind : FileKind) (v : ℕ) → length (magic kind ++ (v ∷ [])) ≡ 5
front_length Batch v = refl
front_length Forward v = refl

regrouped : (m : List ℕ) (v : ℕ) (c s e rest : List ℕ) → ((m ++ (v ∷ (c ++ s))) ++ e) ++ rest ≡ (m ++ (v ∷ [])) ++ (c ++ (s ++ (e ++ rest)))
regrouped m v c s e rest = simp append_assoc

-- the tests that a file of a header passes
module _ (kind : FileKind) (form : Form) (epoch count : ℕ) (rest : List ℕ) (count_fits : count < 2 ^ 32) (epoch_fits : IsEpochOf form epoch) where
  count_at : u32_in (header_bytes kind (record { form = form; epoch = epoch; count = count }) ++ rest) 5 ≡ count
  count_at =
      let e = epoch_bytes form epoch in
      let s = to_be_bytes w16 (record_length kind form) in
      ap (λ bytes. u32_in bytes 5) (regrouped (magic kind) (version_byte form) (to_be_bytes w32 count) s e rest)
      ∙ u32_in-written (magic kind ++ (version_byte form ∷ [])) (s ++ (e ++ rest)) 5 count (front_length kind (version_byte form)) count_fits

  size_at : u16_in (header_bytes kind (record { form = form; epoch = epoch; count = count }) ++ rest) 9 ≡ record_length kind form
  size_at =
      let e = epoch_bytes form epoch in
      let c = to_be_bytes w32 count in
      let s = to_be_bytes w16 (record_length kind form) in
      let front = (magic kind ++ (version_byte form ∷ [])) ++ c in
      let place : length front ≡ 9 = omega (arith, length-append (magic kind ++ (version_byte form ∷ [])) c, front_length kind (version_byte form)) in
      ap (λ bytes. u16_in bytes 9) (regrouped (magic kind) (version_byte form) c s e rest ∙ sym (append_assoc (magic kind ++ (version_byte form ∷ [])) c (s ++ (e ++ rest))))
      ∙ u16_in-written front (e ++ rest) 9 (record_length kind form) place (record-fits kind form)

to_epoch : (m : List ℕ) (v : ℕ) (c s e rest : List ℕ) → ((m ++ (v ∷ (c ++ s))) ++ e) ++ rest ≡ ((m ++ (v ∷ [])) ++ (c ++ s)) ++ (e ++ rest)
to_epoch m v c s e rest = simp append_assoc

header_length-least : (form : Form) → 11 ≤ header_length form
header_length-least One = omega arith
header_length-least Two = omega arith

at_least : (a b : ℕ) → a ≡ b → b ≤ a
at_least a b e = omega arith

at_most : (a b : ℕ) → a ≡ b → a ≤ b
at_most a b e = omega arith

epoch_at : (kind : FileKind) (form : Form) (epoch count : ℕ) (rest : List ℕ) → IsEpochOf form epoch → epoch_in form (header_bytes kind (record { form = form; epoch = epoch; count = count }) ++ rest) ≡ epoch
epoch_at kind One epoch count rest fits = sym fits
epoch_at kind Two epoch count rest fits =
    let e = to_be_bytes w32 epoch in
    let c = to_be_bytes w32 count in
    let s = to_be_bytes w16 (record_length kind Two) in
    let front = (magic kind ++ (2 ∷ [])) ++ (c ++ s) in
    let place : length front ≡ 11 = omega (arith, length-append (magic kind ++ (2 ∷ [])) (c ++ s), length-append c s, front_length kind 2) in
    ap (λ bytes. u32_in bytes 11) (to_epoch (magic kind) 2 c s e rest)
    ∙ u32_in-written front rest 11 epoch place fits

by_tests : (kind : FileKind) (header : Header) (bytes : List ℕ) (have : ℕ) → 11 ≤ have → starts_with nat_eq bytes (magic kind) ≡ true → get_or bytes 4 0 ≡ version_byte header.form → header_length header.form ≤ have → u16_in bytes 9 ≡ record_length kind header.form → header_at header.form bytes ≡ header → have ≡ file_length kind header
    → header_in kind bytes have ≡ Ok header
by_tests kind header bytes have long begins version whole size fields ends =
    let form : form_by_front kind bytes have ≡ Ok header.form =
    ap (λ b. cond b (Err (cut 11 have)) (cond (starts_with nat_eq bytes (magic kind)) (version_result (form_in (get_or bytes 4 0))) (Err BadMagic))) (no_test have 11 long)
    ∙ ap (λ b. cond b (version_result (form_in (get_or bytes 4 0))) (Err BadMagic)) begins
    ∙ ap (λ v. version_result (form_in v)) version
    ∙ ap version_result (form_in-version_byte header.form) in
    ap (header_by_form kind bytes have) form
    ∙ ap (λ b. cond b (Err (cut (header_length header.form) have)) (cond (u16_in bytes 9 == record_length kind header.form) (header_by_length kind (header_at header.form bytes) have) (Err BadSize))) (no_test have (header_length header.form) whole)
    ∙ ap (λ b. cond b (header_by_length kind (header_at header.form bytes) have) (Err BadSize)) (number_itself _ _ size)
    ∙ ap (λ h. header_by_length kind h have) fields
    ∙ ap (λ b. cond b (Err (cut (file_length kind header) have)) (cond (nat_lt (file_length kind header) have) (Err Trailing) (Ok header))) (no_test have (file_length kind header) (at_least _ _ ends))
    ∙ ap (λ b. cond b (Err Trailing) (Ok header)) (no_test (file_length kind header) have (at_most _ _ ends))

longer : (kind : FileKind) (header : Header) (bytes : List ℕ) → length bytes ≡ file_length kind header → 11 ≤ length bytes
longer kind header bytes size = let h = header_length-least header.form in omega arith

header-le : (kind : FileKind) (header : Header) (bytes : List ℕ) → length bytes ≡ file_length kind header → header_length header.form ≤ length bytes
header-le kind header bytes size = omega arith

from_magic : (m f e rest : List ℕ) → ((m ++ f) ++ e) ++ rest ≡ m ++ (f ++ (e ++ rest))
from_magic m f e rest = simp append_assoc

begins : (kind : FileKind) (header : Header) (rest : List ℕ) → starts_with nat_eq (header_bytes kind header ++ rest) (magic kind) ≡ true
begins kind header rest =
    ap (λ ys. starts_with nat_eq ys (magic kind)) (from_magic (magic kind) _ (epoch_bytes header.form header.epoch) rest) ∙ begins_with-magic kind _

version : (kind : FileKind) (header : Header) (rest : List ℕ) → get_or (header_bytes kind header ++ rest) 4 0 ≡ version_byte header.form
version kind header rest =
    ap (λ ys. get_or ys 4 0) (from_magic (magic kind) _ (epoch_bytes header.form header.epoch) rest) ∙ version-at kind (version_byte header.form) _

fields : (kind : FileKind) (header : Header) (rest : List ℕ) → header.count < 2 ^ 32 → IsEpochOf header.form header.epoch → header_at header.form (header_bytes kind header ++ rest) ≡ header
fields kind header rest count_fits epoch_fits =
    let e = epoch_at kind header.form header.epoch header.count rest epoch_fits in
    let c = count_at kind header.form header.epoch header.count rest count_fits epoch_fits in
    λ i. record { form = header.form; epoch = e i; count = c i }

-- a file of a header is accepted with that header
pub header_in-accepts : (kind : FileKind) (bytes : List ℕ) (header : Header) → IsFileOf kind header bytes → header_in kind bytes (length bytes) ≡ Ok header
header_in-accepts kind bytes header is =
    let rest = drop (header_length header.form) bytes in
    let whole : bytes ≡ header_bytes kind header ++ rest = sym (take-append-drop (header_length header.form) bytes) ∙ ap (λ ys. ys ++ rest) is.front in
    by_tests kind header bytes (length bytes) (longer kind header bytes is.size)
    (ap (λ ys. starts_with nat_eq ys (magic kind)) whole ∙ begins kind header rest)
    (ap (λ ys. get_or ys 4 0) whole ∙ version kind header rest)
    (header-le kind header bytes is.size)
    (ap (λ ys. u16_in ys 9) whole ∙ size_at kind header.form header.epoch header.count rest is.count is.epoch)
    (ap (λ ys. header_at header.form ys) whole ∙ fields kind header rest is.count is.epoch)
    is.size

pub result-spelled : (kind : FileKind) (bytes : List ℕ) → AreBytes bytes → (r : Result Header HeaderRefused) → r ≡ header_in kind bytes (length bytes) → IfOk r (λ header. IsFileOf kind header bytes)
result-spelled kind bytes are (Ok header) read = header_in-spelled kind bytes are header (sym read)
result-spelled kind bytes are (Err refused) read = tt

pub length-header_bytes : (kind : FileKind) (header : Header) → length (header_bytes kind header) ≡ header_length header.form
length-header_bytes kind header = length-append (front_bytes kind header) _ ∙ by_form kind header.form header.epoch header.count
  where
    by_form : (kind : FileKind) (form : Form) (epoch count : ℕ) → length (front_bytes kind (record { form = form; epoch = epoch; count = count })) + length (epoch_bytes form epoch) ≡ header_length form
    by_form Batch One epoch count = refl
    by_form Batch Two epoch count = refl
    by_form Forward One epoch count = refl
    by_form Forward Two epoch count = refl
