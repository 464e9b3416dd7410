-- A log is the parts of all numbers together.
use Rattle.std.proofs.Common.{◌≡◌, ◌≢◌, ℕ, zero, suc, ◌+◌, ◌≤◌, ◌==◌, Bool, true, false, true≢false, cond, List, [], ◌∷◌, ◌++◌, length, map, sym, refl, ap, ◌∙◌, subst, arith}
use Rattle.std.specs.Prelude.{All, nat_lt}
use Rattle.std.specs.List.{filter, sum_by}
use Rattle.std.specs.List.Sorted.{IsPermutation}
use Rattle.std.proofs.lemmas.List.Elements.{All-head, All-tail}
use Rattle.std.proofs.lemmas.List.Sorted.{IsPermutation-refl, sum_by-IsPermutation}
use Rattle.std.proofs.lemmas.List.Sums.{sum_by-cons, sum_by-append}
use Rattle.std.proofs.lemmas.List.{length-append, nil_from_length}
use Rattle.std.proofs.lemmas.Bool.Decides.{nat_tests}
use Rattle.esa_intake.specs.declared.sealed.Sealed.{Sealed}
use Rattle.esa_intake.specs.declared.hand.Hand.{Hand}
use Rattle.esa_intake.specs.declared.hand.Closed.{Closed}
use Rattle.esa_intake.specs.Keeping.{envelopes, put_by, TakerSees}
use Rattle.esa_intake.specs.Standing.{numbers}

-- the sum from 0 to n
abbrev total : (ℕ → ℕ) → ℕ → ℕ
total h zero = h 0
total h (suc n) = total h n + h (suc n)

total-numbers : (h : ℕ → ℕ) (n : ℕ) → total h n ≡ h 0 + sum_by h (numbers n)
total-numbers h zero = omega arith
total-numbers h (suc n) = omega (arith, total-numbers h n, sum_by-append h (numbers n) (suc n ∷ []), sum_by-cons h (suc n) [])

-- one more at one place
total-before : (h more : ℕ → ℕ) (n : ℕ) → ((k : ℕ) → k ≤ n → more k ≡ h k) → total more n ≡ total h n
total-before h more zero same = same 0 (omega arith)
total-before h more (suc n) same = omega (arith, total-before h more n (λ k low. same k (omega arith)), same (suc n) (omega arith))

total-once : (h more : ℕ → ℕ) (place extra n : ℕ) → place ≤ n → more place ≡ extra + h place → ((k : ℕ) → k ≢ place → more k ≡ h k) → total more n ≡ extra + total h n
total-once h more place extra zero low here other =
    let is : place ≡ 0 = omega arith in
    subst (λ p. more p ≡ extra + h p) is here
total-once h more place extra (suc n) low here other =
    elim (place == suc n) as (λ b. (place == suc n) ≡ b → total more (suc n) ≡ extra + total h (suc n)) [
      | true ↦ λ e.
          let is : place ≡ suc n = grind (arith, nat_tests) in
          let last : more (suc n) ≡ extra + h (suc n) = subst (λ p. more p ≡ extra + h p) is here in
          omega (arith, last, total-before h more n (λ k below. other k (λ same. absurd (omega (arith, same, is)))))
      | false ↦ λ e.
          let isnt : place ≢ suc n = λ same. true≢false (sym (test_same place (suc n) same) ∙ e) in
          let smaller : place ≤ n = grind (arith, nat_tests) in
          omega (arith, total-once h more place extra n smaller here other, other (suc n) (λ same. isnt (sym same)))
    ] refl
  where
    test_same : (a b : ℕ) → a ≡ b → (a == b) ≡ true
    test_same a b same = grind (arith, nat_tests)

-- the part of a number, with one entry more before the log
part-own : (f : Sealed → ℕ) (number : ℕ) (sealed : Sealed) (log : List (ℕ × Sealed)) → sum_by f (put_by number ((number, sealed) ∷ log)) ≡ f sealed + sum_by f (put_by number log)
part-own f number sealed log =
    let others = filter (λ (entry : ℕ × Sealed). entry.0 == number) log in
    let same : (number == number) ≡ true = grind (arith, nat_tests) in
    ap (λ b. sum_by f (envelopes (cond b ((number, sealed) ∷ others) others))) same ∙ sum_by-cons f sealed (envelopes others)

part-other : (number place : ℕ) (sealed : Sealed) (log : List (ℕ × Sealed)) → number ≢ place → put_by number ((place, sealed) ∷ log) ≡ put_by number log
part-other number place sealed log apart =
    let others = filter (λ (entry : ℕ × Sealed). entry.0 == number) log in
    let differs : (place == number) ≡ false = grind (arith, nat_tests) in
    ap (λ b. envelopes (cond b ((place, sealed) ∷ others) others)) differs

-- no entry has a number above n
abbrev IsWithin : ℕ → List (ℕ × Sealed) → Type 0
IsWithin n log = (number : ℕ) → n + 1 ≤ number → put_by number log ≡ []

sum-log : (f : Sealed → ℕ) (n : ℕ) (log : List (ℕ × Sealed)) → IsWithin n log → sum_by f (envelopes log) ≡ total (λ k. sum_by f (put_by k log)) n
sum-log f n [] within = sym (total-none n)
  where
    total-none : (n : ℕ) → total (λ k. sum_by f (put_by k [])) n ≡ 0
    total-none zero = refl
    total-none (suc n) = omega (arith, total-none n)
sum-log f n (entry ∷ log) within =
    let place = entry.0 in
    let sealed = entry.1 in
    let low : place ≤ n = at_most (nat_lt n place) refl in
    let rest : IsWithin n log = λ number past. sym (part-other number place sealed log (λ same. absurd (omega (arith, same, low, past)))) ∙ within number past in
    omega (
      arith,
      sum_by-cons f sealed (envelopes log),
      sum-log f n log rest,
      total-once (λ k. sum_by f (put_by k log)) (λ k. sum_by f (put_by k (entry ∷ log))) place (f sealed) n low (part-own f place sealed log) (λ k apart. ap (sum_by f) (part-other k place sealed log apart)),
    )
  where
    at_most : (b : Bool) → nat_lt n entry.0 ≡ b → entry.0 ≤ n
    at_most false e = grind (arith, nat_tests)
    at_most true e =
        let past : n + 1 ≤ entry.0 = grind (arith, nat_tests) in
        absurd (omega (arith, part-own (λ x. 1) entry.0 entry.1 log, ap (sum_by (λ x. 1)) (within entry.0 past)))

-- sums over closed senders, by their numbers
sum-closed : (f : Sealed → ℕ) (log : List (ℕ × Sealed)) (closed : List Closed) → All (λ (c : Closed). c.put ≡ put_by c.number log) closed
    → sum_by (λ (c : Closed). sum_by f c.put) closed ≡ sum_by (λ k. sum_by f (put_by k log)) (map (λ (c : Closed). c.number) closed)
sum-closed f log [] each = refl
sum-closed f log (c ∷ closed) each =
    omega (
      arith,
      sum_by-cons (λ (c : Closed). sum_by f c.put) c closed,
      sum_by-cons (λ k. sum_by f (put_by k log)) c.number (map (λ (c : Closed). c.number) closed),
      ap (sum_by f) (All-head (λ (c : Closed). c.put ≡ put_by c.number log) c closed each),
      sum-closed f log closed (All-tail (λ (c : Closed). c.put ≡ put_by c.number log) c closed each),
    )

-- what the log has is what the closed senders put
pub log-closed : (f : Sealed → ℕ) (n : ℕ) (log : List (ℕ × Sealed)) (closed : List Closed) → IsWithin n log → [] ≡ put_by 0 log → All (λ (c : Closed). c.put ≡ put_by c.number log) closed → IsPermutation (numbers n) (map (λ (c : Closed). c.number) closed)
    → sum_by f (envelopes log) ≡ sum_by (λ (c : Closed). sum_by f c.put) closed
log-closed f n log closed within none each all =
    let h : ℕ → ℕ = λ k. sum_by f (put_by k log) in
    omega (
      arith,
      sum-log f n log within,
      total-numbers h n,
      sym (ap (sum_by f) none),
      sum-closed f log closed each,
      sum_by-IsPermutation h (numbers n) (map (λ (c : Closed). c.number) closed) all,
    )

-- what a look shows of a log, where every sender is closed
pub seen-closed : (hand : Hand) (waiting : List Sealed) (sees : TakerSees hand waiting) → hand.put ≡ [] → IsPermutation (numbers hand.senders) (map (λ (c : Closed). c.number) hand.closed)
    → (f : Sealed → ℕ) → sum_by f (envelopes sees.0) ≡ sum_by (λ (c : Closed). sum_by f c.put) hand.closed
seen-closed hand waiting sees none all f = log-closed f hand.senders sees.0 hand.closed sees.4 (sym none ∙ sees.2) sees.3 all

length-sum : {X : Type 0} (xs : List X) → length xs ≡ sum_by (λ x. 1) xs
length-sum [] = refl
length-sum (x ∷ xs) = omega (arith, length-sum xs, sum_by-cons (λ x. 1) x xs)

-- a log in which no number has put is empty
pub none-put : (log : List (ℕ × Sealed)) → [] ≡ put_by 0 log → ((number : ℕ) → 1 ≤ number → put_by number log ≡ []) → envelopes log ≡ []
none-put log own others =
    nil_from_length (envelopes log)
    (length-sum (envelopes log) ∙ log-closed (λ x. 1) 0 log [] (λ number past. others number (omega (arith, past))) own (λ k d below. absurd (omega arith)) (IsPermutation-refl []))

pub nothing_left : (hand later : Hand) (waiting left : List Sealed) (taken rest : List Sealed) (sees : TakerSees hand waiting) (sees_later : TakerSees later left) → hand.put ≡ [] → later.put ≡ [] → IsPermutation (numbers hand.senders) (map (λ (c : Closed). c.number) hand.closed)
    → later.senders ≡ hand.senders → later.closed ≡ hand.closed → hand.taken ≡ taken → later.taken ≡ taken ++ rest → length waiting ≤ length rest → left ≡ []
nothing_left hand later waiting left taken rest sees sees_later none none_later all same_number same_closed was now few =
    let all_later : IsPermutation (numbers later.senders) (map (λ (c : Closed). c.number) later.closed) = subst (λ (v : ℕ × List Closed). IsPermutation (numbers v.0) (map (λ (c : Closed). c.number) v.1)) (λ i. (sym same_number i, sym same_closed i)) all in
    let one : Sealed → ℕ = λ x. 1 in
    let before = seen-closed hand waiting sees none all one in
    let after = seen-closed later left sees_later none_later all_later one in
    let same : sum_by (λ (c : Closed). sum_by one c.put) later.closed ≡ sum_by (λ (c : Closed). sum_by one c.put) hand.closed = ap (λ closed. sum_by (λ (c : Closed). sum_by one c.put) closed) same_closed in
    nil_from_length left (omega (
      arith,
      before,
      after,
      same,
      length-sum (envelopes sees.0),
      length-sum (envelopes sees_later.0),
      ap length sees.1,
      ap length sees_later.1,
      length-append hand.taken waiting,
      length-append later.taken left,
      ap length was,
      ap length now,
      length-append taken rest,
      few,
    ))
