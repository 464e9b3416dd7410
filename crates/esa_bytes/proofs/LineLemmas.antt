-- The first line of a text, and the text behind it.
use Rattle.std.proofs.Common.{◌≡◌, ◌≢◌, ℕ, ◌+◌, ◌-◌, ◌<◌, ◌≤◌, suc, not, false, Option, Some, None, unwrap_or, List, [], ◌∷◌, ◌++◌, length, take, drop, get_or, refl, sym, ap, ◌∙◌, arith, inl, inr}
use Rattle.std.specs.Prelude.{◌==◌, All}
use Rattle.std.specs.List.{position_or_len, before_first, after_first, onto_first}
use Rattle.std.proofs.lemmas.Bool.{cases_Bool, eqb-true, eqb-false, false_from_ne_true}
use Rattle.std.proofs.lemmas.Bool.Decides.{nat_tests}
use Rattle.std.proofs.lemmas.List.{get_or-take, length-take-le, take_rest, take_all, drop_all}
use Rattle.std.proofs.lemmas.List.Sums.{fails_before_first, passes_at_first, prefix_len-le-length, position_or_len_is, split_at_first}
use Rattle.memchr.specs.Find.{IsFirstByte}
use Rattle.esa_bytes.specs.Lines.{IsFirstLine, is_newline, text_lines}

-- a byte before a first line of n bytes
longer_first : (byte : ℕ) (rest : List ℕ) (n : ℕ)
    → take (1 + n) (byte ∷ rest) ∷ text_lines (drop (1 + n + 1) (byte ∷ rest))
    ≡ (byte ∷ take n rest) ∷ text_lines (drop (n + 1) rest)
longer_first byte rest n =
    let behind : 1 + n + 1 ≡ suc (n + 1) = omega arith in
    let inside : 1 + n ≡ suc n = omega arith in
    rw (behind, inside)

-- the first line goes up to the first newline, and the other lines come after it
pub text_lines-first : (text : List ℕ) → 0 < length text
    → text_lines text ≡ before_first is_newline text ∷ text_lines (after_first is_newline text)
text_lines-first [] some = absurd (omega arith)
text_lines-first (byte ∷ []) some =
    elim (cases_Bool (is_newline byte)) [
      | inl ends ↦ rw ends
      | inr goes_on ↦ rw goes_on
    ]
text_lines-first (byte ∷ next ∷ rest) some =
    let more = text_lines-first (next ∷ rest) (omega arith) in
    elim (cases_Bool (is_newline byte)) [
      | inl ends ↦ rw ends
      | inr goes_on ↦
          rw goes_on
          (ap (onto_first byte) more ∙ sym (longer_first byte (next ∷ rest) (position_or_len is_newline (next ∷ rest))))
    ]

-- a line that is written with its newline is the first of the text
pub text_lines-line : (line rest : List ℕ) → All (λ byte. byte ≢ 10) line
    → text_lines (line ++ 10 ∷ rest) ≡ line ∷ text_lines rest
text_lines-line [] rest plain = refl
text_lines-line (byte ∷ line) rest plain =
    let more = text_lines-line line rest (λ k d h. plain (suc k) d (omega arith)) in
    elim (cases_Bool (is_newline byte)) [
      | inl ends ↦ absurd (plain 0 0 (omega arith) (eqb-true byte 10 ends))
      | inr goes_on ↦ rw (goes_on, more)
    ]

-- it ends before a newline
pub ends_before : (text : List ℕ) (end : ℕ) → end ≡ position_or_len is_newline text → end < length text
    → text_lines text ≡ take end text ∷ text_lines (take (length text - (end + 1)) (drop (end + 1) text))
ends_before text end is before =
    text_lines-first text (omega arith)
    ∙ sym (λ i. take (is i) text ∷ text_lines (drop (is i + 1) text))
    ∙ ap (λ rest. take end text ∷ text_lines rest) (sym (take_rest text (end + 1)))

some_byte : (n : ℕ) → (n == 0) ≡ false → 0 < n
some_byte n some = grind (arith, nat_tests)

-- it is the whole text
pub is_whole : (text : List ℕ) (end : ℕ) → end ≡ position_or_len is_newline text → length text ≤ end → (length text == 0) ≡ false
    → text_lines text ≡ text ∷ text_lines (take (length text - end) (drop end text))
is_whole text end is last some =
    text_lines-first text (some_byte (length text) some)
    ∙ sym (λ i. take (is i) text ∷ text_lines (drop (is i + 1) text))
    ∙ (λ i. take_all end text last i ∷ text_lines (drop_all (end + 1) text (omega arith) i))
    ∙ ap (λ rest. text ∷ text_lines rest) (sym (take_rest text end ∙ drop_all end text last))

-- no newline stands before the first one
before_newline : (text : List ℕ) (end : ℕ) → end ≡ position_or_len is_newline text → All (λ byte. byte ≢ 10) (take end text)
before_newline text end is k d inside =
    let bound = prefix_len-le-length (λ byte. not (is_newline byte)) text in
    let size = length-take-le (position_or_len is_newline text) text bound in
    let before : k < position_or_len is_newline text = omega (arith, simp is at inside, size) in
    rw (is, get_or-take (position_or_len is_newline text) text k d before)
    (eqb-false (get_or text k d) 10 (fails_before_first is_newline text k d before))

-- what a first line is, where a newline ends it
pub first_ends_before : (text : List ℕ) (end : ℕ) → end ≡ position_or_len is_newline text → end < length text
    → IsFirstLine text (take end text) (take (length text - (end + 1)) (drop (end + 1) text))
first_ends_before text end is before =
    let newline : get_or text end 0 ≡ 10 = rw is (eqb-true (get_or text (position_or_len is_newline text) 0) 10 (passes_at_first is_newline text 0 (omega arith))) in
    let split = split_at_first is_newline text 0 (omega arith) in
    record {
      plain = before_newline text end is;
      ends = inl (rw (take_rest text (end + 1)) (split ∙ (λ i. take (sym is i) text ++ get_or text (sym is i) 0 ∷ drop (sym is i + 1) text) ∙ ap (λ byte. take end text ++ byte ∷ drop (end + 1) text) newline));
    }

-- and where the text does
pub first_is_whole : (text : List ℕ) (end : ℕ) → end ≡ position_or_len is_newline text → length text ≤ end
    → IsFirstLine text text (take (length text - end) (drop end text))
first_is_whole text end is last = record {
  plain = rw (take_all end text last) at (before_newline text end is);
  ends = inr (refl, take_rest text end ∙ drop_all end text last);
}

-- the first newline that a search found, or the length where it found none
pub first_newline : (text : List ℕ) (found : Option ℕ) → IsFirstByte is_newline text found
    → unwrap_or found (length text) ≡ position_or_len is_newline text
first_newline text (Some place) is =
    sym (position_or_len_is is_newline text place 0 (omega (arith, is.0.high))
    (λ k below. false_from_ne_true _ (is.0.before k (omega arith) below)) (λ _. is.1))
first_newline text None is =
    sym (position_or_len_is is_newline text (length text) 0 (omega arith)
    (λ k below. false_from_ne_true _ (is k (omega arith) below)) (λ past. absurd (omega arith)))
