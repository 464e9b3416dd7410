-- An item's bytes give the item back, and the other way round.
use Rattle.std.proofs.Common.{◌≡◌, ℕ, ◌-◌, ◌<◌, ◌≤◌, suc, true, List, [], ◌∷◌, ◌++◌, length, take, drop, Option, Some, None, refl, sym, ap, ◌∙◌, arith, eqb, length-drop, inl, inr}
use Rattle.std.specs.Prelude.{replicate, IfSome, ◌&&◌, if◌then◌else◌}
use Rattle.std.specs.Option.{option_map}
use Rattle.std.proofs.lemmas.Bool.{cases_Bool}
use Rattle.std.proofs.lemmas.List.{append-nil, drop_all, length-take-le, take-append-drop, take_at}
use Rattle.std.proofs.Math.ListN.{set}
use borrow.Rule.Slice.PartMut.{put_mid}
use Rattle.esa_report.specs.declared.item.Item.{Item}
use Rattle.esa_report.specs.declared.item.Kind.{Kind}
use Rattle.esa_report.specs.declared.item.Kind.TheVariants.{Dummy, Real, Malformed}
use Rattle.esa_report.specs.Zero.{is_zero}
use Rattle.esa_report.specs.Item.{full_body, is_body_of, is_well_formed, item_bytes, item_in, item_of, kind_byte, kind_in}
use Rattle.esa_report.proofs.ZeroLemmas.{is_zero-replicate, replicate-zero}

-- a body whose rest is zero comes back from its front
pub full_body-take : (body : List ℕ) (n : ℕ) → length body ≡ 264 → n ≤ 264 → is_zero (drop n body) ≡ true
    → full_body (take n body) ≡ body
full_body-take body n size small blank =
    let front = length-take-le n body (omega arith) in
    let rest = length-drop n body in
    let left : 264 - length (take n body) ≡ length (drop n body) = omega arith in
    ap (λ more. take n body ++ replicate more 0) left
    ∙ ap (λ more. take n body ++ more) (sym (replicate-zero (drop n body) blank))
    ∙ take-append-drop n body

kind_in-kind_byte : (kind : Kind) → kind_in (kind_byte kind) ≡ Some kind
kind_in-kind_byte Dummy = refl
kind_in-kind_byte Real = refl
kind_in-kind_byte Malformed = refl

pub item_in-item_bytes : (size : ℕ) (item : Item) → length item.body ≡ 264 → size ≤ 265
    → is_zero (drop (size - 1) item.body) ≡ true → is_well_formed item ≡ true
    → item_in (item_bytes size item) ≡ Some item
unfolding item_in
item_in-item_bytes size item full small blank good =
    rw (kind_in-kind_byte item.kind, full_body-take item.body (size - 1) full (omega arith) blank, good)

kind_byte-kind_in : (byte : ℕ) (kind : Kind) → kind_in byte ≡ Some kind → kind_byte kind ≡ byte
kind_byte-kind_in byte Dummy h = grind arith
kind_byte-kind_in byte Real h = grind arith
kind_byte-kind_in byte Malformed h = grind arith

item_bytes-item_of : (byte : ℕ) (body : List ℕ) (kind : Option Kind) → kind_in byte ≡ kind
    → IfSome (item_of kind (full_body body)) (λ item. item_bytes (length (byte ∷ body)) item ≡ byte ∷ body)
item_bytes-item_of byte body None h = tt
item_bytes-item_of byte body (Some kind) h =
    let size : length (byte ∷ body) - 1 ≡ length body = omega arith in
    elim (cases_Bool (is_body_of kind (full_body body))) [
      | inl good ↦
          rw (good, size, kind_byte-kind_in byte kind h, take_at body (replicate (264 - length body) 0) (length body) refl)
      | inr bad ↦ rw bad tt
    ]

pub item_bytes-item_in : (bytes : List ℕ) → 0 < length bytes
    → IfSome (item_in bytes) (λ item. item_bytes (length bytes) item ≡ bytes)
unfolding item_in
item_bytes-item_in [] some = absurd (omega arith)
item_bytes-item_in (byte ∷ body) some = item_bytes-item_of byte body (kind_in byte) refl

-- a byte was written first, and a part behind it up to the end
pub put_behind : (out part : List ℕ) (byte : ℕ) → 0 < length out
    → put_mid 1 (length (set out 0 byte) - 1) (set out 0 byte) part ≡ byte ∷ part
put_behind [] part byte some = absurd (omega arith)
put_behind (first ∷ rest) part byte some =
    let size : suc (length rest) - 1 ≡ length rest = omega arith in
    rw size
    (ap (λ more. byte ∷ (part ++ more)) (drop_all (length rest) rest (omega arith)) ∙ ap (λ more. byte ∷ more) (append-nil part))

is_zero-append : (xs ys : List ℕ) → is_zero ys ≡ true → is_zero (xs ++ ys) ≡ is_zero xs
is_zero-append [] ys h = h
is_zero-append (x ∷ xs) ys h = ap (λ rest. eqb x 0 && rest) (is_zero-append xs ys h)

-- the zero bytes behind a body change nothing of whether it is zero
pub is_zero-full_body : (body : List ℕ) → is_zero (full_body body) ≡ is_zero body
is_zero-full_body body = is_zero-append body (replicate (264 - length body) 0) (is_zero-replicate (264 - length body))

-- the kind of an item, where its body fits it
pub item_of_full : (kind : Kind) (body : List ℕ) → option_map (λ (item : Item). item.kind) (item_of (Some kind) (full_body body))
    ≡ (if is_body_of kind body then Some kind else None)
item_of_full Real body = refl
item_of_full Dummy body = elim (cases_Bool (is_zero body)) [
  | inl zero ↦ rw (is_zero-full_body body, zero) refl
  | inr not ↦ rw (is_zero-full_body body, not) refl
]
item_of_full Malformed body = elim (cases_Bool (is_zero body)) [
  | inl zero ↦ rw (is_zero-full_body body, zero) refl
  | inr not ↦ rw (is_zero-full_body body, not) refl
]
