-- Reading and writing decimal digits.
use Rattle.std.proofs.Common.{◌≡◌, ℕ, ◌^◌, ◌<◌, Bool, true, false, not, ◌&&◌, List, length, get_or, Some, None, Result, Ok, Err, eqb, ltb, sym, ◌∙◌, ap, arith, inl, inr}
use Rattle.std.specs.Prelude.{IfSome}
use Rattle.std.specs.Result.{result_ok}
use Rattle.std.specs.Fmt.{decimal}
use Rattle.std.specs.Str.{all_ascii_digits, IsUtf8}
use Rattle.std.proofs.lemmas.Str.{IsUtf8-from_ascii}
use Rattle.std.specs.Str.Parse.{ParsesUnsigned, digits_value}
use Rattle.std.proofs.lemmas.Bool.{cases_Bool, cases_eq, and_parts, and_from, and_left, not-true, not_from_false, lt-ltb, ltb-true, ne_eqb, eq-eqb, cond-true, cond-false}
use Rattle.std.proofs.lemmas.Str.Parse.{IsNumeralModel, numerals_by_value, tells_all_ascii_digits, parse_plain}
use Rattle.std.proofs.lemmas.Fmt.{IsAscii-from_digits, decimal-digits_value, decimal_digit, digits_decimal, digits_value-decimal, decimal_nonempty, first_decimal}
use Rattle.esa_bytes.specs.Decimal.{decimal_in, decimal_of, has_leading_zero, is_decimal}

-- the digits of this crate are those that std reads
pub own : IsNumeralModel (λ ds. all_ascii_digits ds ≡ true) (digits_value 10)
own = numerals_by_value (λ ds. all_ascii_digits ds ≡ true) tells_all_ascii_digits

-- what a text shows that reads as a number
pub record Reads (text : List ℕ) : Type 0 where
  pub some : 0 < length text
  pub digits : all_ascii_digits text ≡ true
  pub plain : has_leading_zero text ≡ false
  pub fits : digits_value 10 text < 2 ^ 64

-- the test that `decimal_in` makes
abbrev pub reads : List ℕ → Bool
reads text = is_decimal text && ltb (digits_value 10 text) (2 ^ 64)

Reads-from_test : (text : List ℕ) → reads text ≡ true → Reads text
Reads-from_test text h =
    let whole = and_parts (is_decimal text) (ltb (digits_value 10 text) (2 ^ 64)) h in
    let shape = and_parts (ltb 0 (length text) && all_ascii_digits text) (not (has_leading_zero text)) whole.0 in
    let front = and_parts (ltb 0 (length text)) (all_ascii_digits text) shape.0 in
    record {
      some = ltb-true 0 (length text) front.0;
      digits = front.1;
      plain = not-true (has_leading_zero text) shape.1;
      fits = ltb-true (digits_value 10 text) (2 ^ 64) whole.1;
    }

pub decimal_in-reads : (text : List ℕ) → Reads text → decimal_in text ≡ Some (digits_value 10 text)
decimal_in-reads text r =
    cond-true (reads text) (Some (digits_value 10 text)) None
    (and_from (is_decimal text) (ltb (digits_value 10 text) (2 ^ 64))
    (and_from (ltb 0 (length text) && all_ascii_digits text) (not (has_leading_zero text))
    (and_from (ltb 0 (length text)) (all_ascii_digits text) (lt-ltb 0 (length text) r.some) r.digits)
    (not_from_false (has_leading_zero text) r.plain))
    (lt-ltb (digits_value 10 text) (2 ^ 64) r.fits))

pub decimal_in-none : (text : List ℕ) → (Reads text → ⊥) → decimal_in text ≡ None
decimal_in-none text h =
    elim (cases_Bool (reads text)) [
      | inl good ↦ absurd (h (Reads-from_test text good))
      | inr bad ↦ cond-false (reads text) (Some (digits_value 10 text)) None bad
    ]

-- a zero stands first only alone
plain_zero : (text : List ℕ) → has_leading_zero text ≡ false → get_or text 0 0 ≡ 48 → 0 < length text → length text ≡ 1
plain_zero text h zero some =
    elim (cases_eq (length text) 1) [
      | inl one ↦ one
      | inr other ↦ cc (sym (and_from (eqb (get_or text 0 0) 48) (ltb 1 (length text)) (eq-eqb (get_or text 0 0) 48 zero) (lt-ltb 1 (length text) (omega arith))) ∙ h)
    ]

-- a text that reads as a number is what that number writes
pub decimal_of-reads : (text : List ℕ) → Reads text → decimal_of (digits_value 10 text) ≡ text
decimal_of-reads text r =
    decimal-digits_value own text r.digits r.some (λ zero. plain_zero text r.plain zero r.some) r.fits

pub decimal_of-decimal_in : (text : List ℕ) → IfSome (decimal_in text) (λ n. decimal_of n ≡ text)
decimal_of-decimal_in text =
    elim (cases_Bool (reads text)) [
      | inl good ↦ rw good (decimal_of-reads text (Reads-from_test text good))
      | inr bad ↦ rw bad tt
    ]

no_leading_zero : (n : ℕ) → n < 2 ^ 64 → has_leading_zero (decimal n) ≡ false
no_leading_zero n fits =
    elim (cases_eq n 0) [
      | inl zero ↦ rw (zero, decimal_digit 0 (omega arith))
      | inr other ↦
          let first = first_decimal n (omega arith) fits in
          and_left (eqb (get_or (decimal n) 0 0) 48) (ltb 1 (length (decimal n))) (ne_eqb (get_or (decimal n) 0 0) 48 (λ e. omega arith))
    ]

-- what a number writes reads back
pub decimal_in-decimal_of : (n : ℕ) → n < 2 ^ 64 → decimal_in (decimal_of n) ≡ Some n
decimal_in-decimal_of n fits =
    let value = digits_value-decimal own n fits in
    decimal_in-reads (decimal n) record {
      some = decimal_nonempty n fits;
      digits = digits_decimal own n fits;
      plain = no_leading_zero n fits;
      fits = rw value fits;
    } ∙ ap (λ (v : ℕ). Some v) value

-- what std's reader answers at a text that doesn't begin with a plus or a superfluous zero
pub decimal_in-parsed : {E : Type 0} (text : List ℕ) (r : Result ℕ E) → ParsesUnsigned 64 10 text r
    → (get_or text 0 0 ≡ 43 → ⊥) → has_leading_zero text ≡ false → result_ok r ≡ decimal_in text
decimal_in-parsed {E} text (Ok x) parsed no_plus plain =
    let h = parse_plain own {E = E} 64 text (Ok x) parsed no_plus in
    rw h.1 (sym (decimal_in-reads text record { some = h.0.1; digits = h.0.0; plain = plain; fits = h.0.2 }))
decimal_in-parsed {E} text (Err e) parsed no_plus plain =
    let h = parse_plain own {E = E} 64 text (Err e) parsed no_plus in
    sym (decimal_in-none text (λ r. h (r.digits, r.some, r.fits)))

-- a text that reads as a number is text
pub IsUtf8-reads : (text : List ℕ) → Reads text → IsUtf8 text
IsUtf8-reads text r = IsUtf8-from_ascii text (IsAscii-from_digits text (own.to text r.digits))
