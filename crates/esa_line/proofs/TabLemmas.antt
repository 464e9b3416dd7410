-- The fields of a line, by the places of its tabs.
use Rattle.std.proofs.Common.{◌≡◌, ℕ, ◌+◌, ◌-◌, ◌<◌, ◌≤◌, suc, cond, ltb, Some, None, List, [], ◌∷◌, ◌++◌, length, take, drop, get_or, refl, sym, ap, ◌∙◌, subst, arith, inl, inr, append_assoc, length-append, length-drop}
use Rattle.std.specs.List.{position, position_or_len, before_first, after_first}
use Rattle.std.proofs.lemmas.Bool.{cases_Bool, cases_lt, cond-true, cond-false, lt-ltb, le-ltb, eqb-true}
use Rattle.std.proofs.lemmas.List.{take_at, drop_at, take_rest, length-take-le}
use Rattle.std.proofs.lemmas.List.Sums.{sum_by-cons, split_at_first, passes_at_first}
use Rattle.esa_line.specs.declared.head.Head.{Head}
use Rattle.esa_line.specs.Front.{is_tab}
use Rattle.esa_line.specs.Line.{tabs, moment_of, sender_of, rest_of, head_of, IsHead}

-- the first tab of a text stands at this place
pub record HasTab (text : List ℕ) (place : ℕ) : Type 0 where
  pub inside : place < length text
  pub first : place ≡ position_or_len is_tab text

pub tab_found : (text : List ℕ) (place : ℕ) → position is_tab text ≡ Some place → HasTab text place
tab_found text place is =
    elim (cases_lt (position_or_len is_tab text) (length text)) [
      | inl within ↦
          let found : Some (position_or_len is_tab text) ≡ Some place = sym (cond-true (ltb (position_or_len is_tab text) (length text)) (Some (position_or_len is_tab text)) None (lt-ltb (position_or_len is_tab text) (length text) within)) ∙ is in
          let first : place ≡ position_or_len is_tab text = cc in
          record { inside = omega arith; first = first }
      | inr past ↦ cc (sym (cond-false (ltb (position_or_len is_tab text) (length text)) (Some (position_or_len is_tab text)) None (le-ltb (position_or_len is_tab text) (length text) past)) ∙ is)
    ]

-- the tabs of a text are its first and those behind it
tabs-cons : (byte : ℕ) (rest : List ℕ) → tabs (byte ∷ rest) ≡ cond (is_tab byte) 1 0 + tabs rest
tabs-cons byte rest = sum_by-cons (λ b. cond (is_tab b) 1 0) byte rest

pub tabs_behind : (text : List ℕ) → position_or_len is_tab text < length text → tabs text ≡ 1 + tabs (after_first is_tab text)
tabs_behind [] inside = absurd (omega arith)
tabs_behind (byte ∷ rest) inside =
    elim (cases_Bool (is_tab byte)) [
      | inl tab ↦ rw (tabs-cons byte rest, tab) refl
      | inr other ↦
          let within = rw other at inside in
          let behind : 1 + position_or_len is_tab rest + 1 ≡ suc (position_or_len is_tab rest + 1) = omega arith in
          rw (tabs-cons byte rest, other, behind) (omega (arith, tabs_behind rest (omega arith)))
    ]

tabs_past : (text : List ℕ) → length text ≤ position_or_len is_tab text → tabs text ≡ 0
tabs_past [] past = refl
tabs_past (byte ∷ rest) past =
    elim (cases_Bool (is_tab byte)) [
      | inl tab ↦
          let none = rw tab at past in
          absurd (omega arith)
      | inr other ↦
          let beyond = rw other at past in
          rw (tabs-cons byte rest, other) (omega (arith, tabs_past rest (omega arith)))
    ]

-- a text without a first tab has none
pub tabs_none : (text : List ℕ) → position is_tab text ≡ None → tabs text ≡ 0
tabs_none text is =
    elim (cases_lt (position_or_len is_tab text) (length text)) [
      | inl within ↦ absurd (cc (sym (cond-true (ltb (position_or_len is_tab text) (length text)) (Some (position_or_len is_tab text)) None (lt-ltb (position_or_len is_tab text) (length text) within)) ∙ is))
      | inr past ↦ tabs_past text past
    ]

-- a text is what stands before its first tab, the tab, and what stands behind it
pub at_tab : (text : List ℕ) → position_or_len is_tab text < length text → text ≡ before_first is_tab text ++ 9 ∷ after_first is_tab text
at_tab text inside =
    let tab : get_or text (position_or_len is_tab text) 0 ≡ 9 = eqb-true (get_or text (position_or_len is_tab text) 0) 9 (passes_at_first is_tab text 0 inside) in
    split_at_first is_tab text 0 inside ∙ ap (λ byte. before_first is_tab text ++ byte ∷ after_first is_tab text) tab

line_parts : (line : List ℕ) → position_or_len is_tab line < length line → position_or_len is_tab (after_first is_tab line) < length (after_first is_tab line) → line ≡ head_of line ++ rest_of line
line_parts line one two =
    let joined : head_of line ++ rest_of line ≡ moment_of line ++ 9 ∷ (sender_of line ++ 9 ∷ rest_of line) = simp append_assoc in
    at_tab line one ∙ ap (λ rest. moment_of line ++ 9 ∷ rest) (at_tab (after_first is_tab line) two) ∙ sym joined

head_parts : (line : List ℕ) → position_or_len is_tab line < length line → position_or_len is_tab (after_first is_tab line) < length (after_first is_tab line)
    → IsHead line record { moment = position_or_len is_tab line; length = position_or_len is_tab line + 1 + position_or_len is_tab (after_first is_tab line) + 1 }
head_parts line one two =
    let m : ℕ = position_or_len is_tab line in
    let s : ℕ = position_or_len is_tab (after_first is_tab line) in
    let n : ℕ = m + 1 + s + 1 in
    let behind : length (after_first is_tab line) ≡ length line - (m + 1) = length-drop (m + 1) line in
    let first : length (moment_of line) ≡ m = length-take-le m line (omega arith) in
    let second : length (sender_of line) ≡ s = length-take-le s (after_first is_tab line) (omega arith) in
    let size : length (head_of line) ≡ n = omega (arith, length-append (moment_of line) (9 ∷ (sender_of line ++ 9 ∷ [])), length-append (sender_of line) (9 ∷ [])) in
    let whole = line_parts line one two in
    let count : n - 1 - (m + 1) ≡ s = omega arith in
    record {
      moment = refl;
      sender = rw count refl;
      whole = ap (take n) whole ∙ take_at (head_of line) (rest_of line) n size;
      rest = ap (drop n) whole ∙ drop_at (head_of line) (rest_of line) n size;
      inside = (omega arith, omega arith);
    }

pub head_at : (line : List ℕ) (m s : ℕ) → HasTab line m → HasTab (drop (m + 1) line) s → IsHead line record { moment = m; length = m + 1 + s + 1 }
head_at line m s one two =
    let e = one.first in
    let f : s ≡ position_or_len is_tab (after_first is_tab line) = two.first ∙ ap (λ n. position_or_len is_tab (drop (n + 1) line)) e in
    let within : position_or_len is_tab (drop (m + 1) line) < length (drop (m + 1) line) = subst (λ k. k < length (drop (m + 1) line)) two.first two.inside in
    rw (e, f) (head_parts line (subst (λ n. n < length line) e one.inside) (subst (λ n. position_or_len is_tab (drop (n + 1) line) < length (drop (n + 1) line)) e within))

-- ---- what the code looks at behind a tab

pub rest_is : (line : List ℕ) (m : ℕ) → m < length line → take (length line - (m + 1)) (drop (m + 1) line) ≡ drop (m + 1) line
rest_is line m inside = take_rest line (m + 1)

-- fewer than two tabs: none at all, or none behind the first
pub first_missing : (line : List ℕ) → position is_tab line ≡ None → tabs line < 2
first_missing line is = omega (arith, tabs_none line is)

pub second_missing : (line : List ℕ) (m : ℕ) → position is_tab line ≡ Some m → position is_tab (take (length line - (m + 1)) (drop (m + 1) line)) ≡ None → tabs line < 2
second_missing line m one none =
    let found = tab_found line m one in
    let behind : tabs (after_first is_tab line) ≡ 0 = tabs_none (after_first is_tab line) (subst (λ n. position is_tab (drop (n + 1) line) ≡ None) found.first (rw (rest_is line m found.inside) at none)) in
    omega (arith, behind, tabs_behind line (subst (λ n. n < length line) found.first found.inside))

pub both_found : (line : List ℕ) (m s : ℕ) → position is_tab line ≡ Some m → position is_tab (take (length line - (m + 1)) (drop (m + 1) line)) ≡ Some s
    → HasTab line m × HasTab (drop (m + 1) line) s
both_found line m s one two =
    let found = tab_found line m one in
    (found, tab_found _ s (rw (rest_is line m found.inside) at two))

pub two_tabs : (line : List ℕ) (m s : ℕ) → HasTab line m → HasTab (drop (m + 1) line) s → 2 ≤ tabs line
two_tabs line m s one two =
    let e = one.first in
    let within : position_or_len is_tab (after_first is_tab line) < length (after_first is_tab line) = subst (λ n. position_or_len is_tab (drop (n + 1) line) < length (drop (n + 1) line)) e (subst (λ k. k < length (drop (m + 1) line)) two.first two.inside) in
    omega (arith, tabs_behind line (subst (λ n. n < length line) e one.inside), tabs_behind (after_first is_tab line) within)

-- ---- a third tab

has_tab : (text : List ℕ) → 1 ≤ tabs text → position_or_len is_tab text < length text
has_tab text some =
    elim (cases_lt (position_or_len is_tab text) (length text)) [
      | inl within ↦ within
      | inr past ↦ absurd (omega (arith, some, tabs_past text past))
    ]

tabs_two : (line : List ℕ) → 2 ≤ tabs line → tabs line ≡ 2 + tabs (rest_of line)
tabs_two line some =
    let one = tabs_behind line (has_tab line (omega (arith, some))) in
    let two = tabs_behind (after_first is_tab line) (has_tab (after_first is_tab line) (omega (arith, some, one))) in
    omega (arith, one, two)

pub third_missing : (line : List ℕ) (head : Head) → IsHead line head → 2 ≤ tabs line → position is_tab (take (length line - head.length) (drop head.length line)) ≡ None → tabs line < 3
third_missing line head is some none =
    let behind : tabs (rest_of line) ≡ 0 = tabs_none (rest_of line) (rw (take_rest line head.length, is.rest) at none) in
    omega (arith, tabs_two line some, behind)

pub third_found : (line : List ℕ) (head : Head) (place : ℕ) → IsHead line head → 2 ≤ tabs line → position is_tab (take (length line - head.length) (drop head.length line)) ≡ Some place → 3 ≤ tabs line
third_found line head place is some found =
    let there = tab_found (rest_of line) place (rw (take_rest line head.length, is.rest) at found) in
    omega (arith, tabs_two line some, tabs_behind (rest_of line) (subst (λ n. n < length (rest_of line)) there.first there.inside))
