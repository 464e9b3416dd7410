-- How many chunks are written and how many buckets are exchanged, bucket by bucket.
use Rattle.std.proofs.Common.{◌≡◌, ℕ, ◌+◌, ◌*◌, ◌≤◌, ◌<◌, Bool, true, false, cond, ◌==◌, List, [], ◌∷◌, ◌++◌, length, refl, sym, ◌∙◌, ap, arith}
use Rattle.std.specs.List.{count_by, sum_by, filter_map}
use Rattle.std.specs.List.Sorted.{IsPermutation}
use Rattle.std.proofs.lemmas.List.Sums.{sum_by-cons, sum_by_push}
use Rattle.esa_laws.proofs.Tests.{bit}
use Rattle.esa_laws.proofs.Events.{event-by}
use Rattle.esa_params.specs.Sizes.{below}
use Rattle.esa_laws.proofs.Ranges.{sum-below-same}
use Rattle.esa_laws.proofs.Sums.{sum-below-zero, sum-below-add, sum-below-full, sum-below-each, hit-once}
use Rattle.esa_laws.proofs.RoundLaws.{by_pushes, is_exchange_of, is_write_of, exchanges_of, writes_of, writes_of-le, exchanges_of-le, all-written, Written, next-by_phase}
use Rattle.esa_laws.proofs.PermLaws.{permutes}
use Rattle.esa_laws.proofs.TurnLaws.{events-push}
use Rattle.esa_spec.specs.Turns.{event_of, events, next, next_phase, held, exchanged, order, is_write, writes}
use Rattle.esa_spec.specs.declared.event.Event.{Event}
use Rattle.esa_spec.specs.declared.event.Event.TheVariants.{Claim, Read, Exchange, Write, Done, Idle}

-- an event is of one bucket or of none, so that a count over all is the sum of the counts over the buckets
pub by_buckets : (test : Event → Bool) (test_of : ℕ → Event → Bool) (b : ℕ)
    → ((g f : ℕ) → f < b + 3 → sum_by (λ j. bit (test_of j (event_of b g f))) (below b) ≡ bit (test (event_of b g f)))
    → (h : List ℕ) → count_by test (events b h) ≡ sum_by (λ j. count_by (test_of j) (events b h)) (below b)
by_buckets test test_of b one = by_pushes (λ h. count_by test (events b h) ≡ sum_by (λ j. count_by (test_of j) (events b h)) (below b))
    (sym (sum-below-zero (λ j. count_by (test_of j) []) b (λ x x_in. refl)))
    (λ h w before.
    let e = event_of b (held b h w) (next_phase b h w) in
    let hit = λ (j : ℕ). bit (test_of j e) in
    let in_phases : next_phase b h w < b + 3 = omega arith in
    let push : (t : Event → Bool) → count_by t (events b (h ++ w ∷ [])) ≡ count_by t (events b h) + bit (t e) =
    λ t. ap (count_by t) (events-push b h w) ∙ sum_by_push (λ e. bit (t e)) (events b h) (next b h w) ∙ ap (λ y. count_by t (events b h) + bit (t y)) (next-by_phase b h w) in
    push test ∙ ap (λ y. y + bit (test e)) before
    ∙ sym (sum-below-same (λ j. count_by (test_of j) (events b (h ++ w ∷ []))) (λ j. count_by (test_of j) (events b h) + hit j) b (λ j j_in. push (test_of j))
    ∙ sum-below-add (λ j. count_by (test_of j) (events b h)) hit b
    ∙ ap (λ y. sum_by (λ j. count_by (test_of j) (events b h)) (below b) + y) (one (held b h w) (next_phase b h w) in_phases)))

pub zeros : (b : ℕ) → sum_by (λ (j : ℕ). 0) (below b) ≡ 0
zeros b = sum-below-zero (λ j. 0) b (λ x h. refl)

-- the chunks written are those of the buckets
pub total-writes : (b : ℕ) (h : List ℕ) → writes b h ≡ sum_by (writes_of b h) (below b)
total-writes b h = by_buckets is_write is_write_of b
    (λ g f f_in. event-by (λ e. sum_by (λ j. bit (is_write_of j e)) (below b) ≡ bit (is_write e)) b g f
    (λ g_in phase. zeros b) (λ g_in phase. zeros b) (λ g_in phase. zeros b) (λ g_in late. hit-once g b g_in) (λ past. zeros b) (λ past. zeros b))
    h

-- where all chunks are written, each bucket has written all of its own
pub each-wrote : (b : ℕ) (h : List ℕ) → writes b h ≡ b * b → (j : ℕ) → j < b → writes_of b h j ≡ b
each-wrote b h all j j_in = sum-below-full (writes_of b h) b b (writes_of-le b h) (sym (total-writes b h) ∙ all) j j_in

pub each-written : (b : ℕ) (h : List ℕ) → writes b h ≡ b * b → (j : ℕ) → j < b → Written b h j
each-written b h all j j_in = all-written b h j j_in (each-wrote b h all j j_in)

-- an element that doesn't count
passed : {X : Type 0} (f : X → ℕ) (x : X) (xs : List X) → f x ≡ 0 → sum_by f (x ∷ xs) ≡ sum_by f xs
passed f x xs none_here = omega (arith, sum_by-cons f x xs)

-- how often a bucket was exchanged
abbrev exchange_count : ℕ → Event → ℕ
exchange_count j e = cond (is_exchange_of j e) 1 0

count-exchanged : (es : List Event) (j : ℕ) → count_by (λ i. i == j) (filter_map exchanged es) ≡ count_by (is_exchange_of j) es
count-exchanged [] j = refl
count-exchanged (Claim i ∷ es) j = count-exchanged es j ∙ sym (passed (exchange_count j) (Claim i) es refl)
count-exchanged (Read i ∷ es) j = count-exchanged es j ∙ sym (passed (exchange_count j) (Read i) es refl)
count-exchanged (Exchange i ∷ es) j =
    sum_by-cons (λ i. bit (i == j)) i (filter_map exchanged es) ∙ ap (λ y. bit (i == j) + y) (count-exchanged es j)
    ∙ sym (sum_by-cons (exchange_count j) (Exchange i) es)
count-exchanged (Write i t ∷ es) j = count-exchanged es j ∙ sym (passed (exchange_count j) (Write i t) es refl)
count-exchanged (Done ∷ es) j = count-exchanged es j ∙ sym (passed (exchange_count j) Done es refl)
count-exchanged (Idle ∷ es) j = count-exchanged es j ∙ sym (passed (exchange_count j) Idle es refl)

pub exchanges-in_order : (b : ℕ) (h : List ℕ) (j : ℕ) → count_by (λ i. i == j) (order b h) ≡ exchanges_of b h j
exchanges-in_order b h j = count-exchanged (events b h) j

pub once : (b : ℕ) (h : List ℕ) (j : ℕ) → writes b h ≡ b * b → j < b → count_by (λ i. i == j) (order b h) ≡ 1
once b h j all j_in = exchanges-in_order b h j ∙ (each-written b h all j j_in).exchanged

-- the buckets exchanged are those of the events
abbrev is_exchange : Event → Bool
is_exchange (Exchange j) = true
is_exchange _ = false

exchanges-count : (es : List Event) → length (filter_map exchanged es) ≡ count_by is_exchange es
exchanges-count [] = refl
exchanges-count (Claim j ∷ es) = exchanges-count es ∙ sym (passed (λ e. bit (is_exchange e)) (Claim j) es refl)
exchanges-count (Read j ∷ es) = exchanges-count es ∙ sym (passed (λ e. bit (is_exchange e)) (Read j) es refl)
exchanges-count (Exchange j ∷ es) = omega (arith, exchanges-count es, sum_by-cons (λ e. bit (is_exchange e)) (Exchange j) es)
exchanges-count (Write j i ∷ es) = exchanges-count es ∙ sym (passed (λ e. bit (is_exchange e)) (Write j i) es refl)
exchanges-count (Done ∷ es) = exchanges-count es ∙ sym (passed (λ e. bit (is_exchange e)) Done es refl)
exchanges-count (Idle ∷ es) = exchanges-count es ∙ sym (passed (λ e. bit (is_exchange e)) Idle es refl)

pub total-exchanges : (b : ℕ) (h : List ℕ) → length (order b h) ≡ sum_by (exchanges_of b h) (below b)
total-exchanges b h = exchanges-count (events b h) ∙ by_buckets is_exchange is_exchange_of b
    (λ g f f_in. event-by (λ e. sum_by (λ j. bit (is_exchange_of j e)) (below b) ≡ bit (is_exchange e)) b g f
    (λ g_in phase. zeros b) (λ g_in phase. zeros b) (λ g_in phase. hit-once g b g_in) (λ g_in late. zeros b) (λ past. zeros b) (λ past. zeros b))
    h

pub all-exchanged : (b : ℕ) (h : List ℕ) → writes b h ≡ b * b → length (order b h) ≡ b
all-exchanged b h all = total-exchanges b h ∙ sum-below-each (exchanges_of b h) b 1 (λ j j_in. (each-written b h all j j_in).exchanged) ∙ omega arith

pub order-permutes : (b : ℕ) (h : List ℕ) → writes b h ≡ b * b → IsPermutation (below b) (order b h)
order-permutes b h all = permutes b (order b h) (all-exchanged b h all) (λ j j_in. once b h j all j_in)

-- no bucket is exchanged twice
pub at-most-once : (b : ℕ) (h : List ℕ) (j : ℕ) → j < b → count_by (λ i. i == j) (order b h) ≤ 1
at-most-once b h j j_in = omega (arith, exchanges-in_order b h j, exchanges_of-le b h j j_in)
