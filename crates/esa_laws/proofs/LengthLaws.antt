-- How many accesses a run makes at most.
use Rattle.std.proofs.Common.{◌≡◌, ◌≢◌, ℕ, zero, suc, ◌+◌, ◌-◌, ◌*◌, ◌≤◌, ⊎_elim, Bool, true, false, cond, ◌==◌, List, [], ◌∷◌, ◌++◌, length, map, refl, sym, ◌∙◌, ap, subst, arith, length-append}
use Rattle.std.specs.List.{count_by, sum_by, filter_map, flat_map, range_with_len}
use Rattle.std.specs.Prelude.{Option, Some, None, unwrap_or}
use Rattle.std.proofs.lemmas.Bool.{cases_eq}
use Rattle.std.proofs.lemmas.List.{length-map}
use Rattle.std.proofs.lemmas.List.Elements.{filter_map-append}
use Rattle.std.proofs.lemmas.Nat.{mul-le}
use Rattle.std.proofs.lemmas.List.FromFn.{length-range_with_len}
use Rattle.std.proofs.lemmas.List.Sums.{sum_by_push, sum_by-cons, sum_by-append}
use Rattle.esa_laws.proofs.Tests.{bit, equal}
use Rattle.esa_laws.proofs.Events.{event-by}
use Rattle.esa_params.specs.Sizes.{Sizes, below}
use Rattle.esa_params.specs.Slots.{access_of, at, greatest_trace}
use Rattle.esa_params.specs.declared.slot.Op.TheVariants.{Read as Reads, Write as Writes}
use Rattle.esa_params.specs.declared.slot.Region.TheVariants.{Tail, Output}
use Rattle.esa_params.specs.declared.slot.Access.{Access}
use Rattle.esa_laws.proofs.Ranges.{sum-below-suc}
use Rattle.esa_laws.proofs.RoundLaws.{by_pushes, Past, past-stays, past-now, next-by_phase, writes_of, writes_of-le}
use Rattle.esa_laws.proofs.SpreadLaws.{left-in, through-begins}
use Rattle.esa_laws.proofs.Sums.{sum-below-le, hit-once, sum-of-flat_map}
use Rattle.esa_laws.proofs.TotalLaws.{by_buckets, zeros, total-writes}
use Rattle.esa_laws.proofs.TurnLaws.{events-push}
use Rattle.esa_spec.specs.Draws.{Draw}
use Rattle.esa_spec.specs.Traces.{asked, through, made, spread, load, written_input, read_chunk, import_reads, written_tail, read_output, step_accesses, walk, drain, rest, attempt_trace, is_failed, attempts, shuffle_trace, scan, scans, good_attempt, trace}
use Rattle.esa_spec.specs.Turns.{event_of, events, next, next_phase, held, is_write, order, writes}
use Rattle.esa_spec.specs.Verdicts.{failing, is_finished, left, Step, Import, Put, imported, steps, steps_of, step_verdict, is_good}
use Rattle.esa_spec.specs.declared.event.Event.{Event}
use Rattle.esa_spec.specs.declared.event.Event.TheVariants.{Claim, Read, Exchange, Write, Done, Idle}

-- whether an event reads a bucket
abbrev is_read : Event → Bool
is_read (Read j) = true
is_read _ = false

abbrev is_read_of : ℕ → Event → Bool
is_read_of j (Read i) = i == j
is_read_of j _ = false

abbrev reads : ℕ → List ℕ → ℕ
reads b h = count_by is_read (events b h)

abbrev reads_of : ℕ → List ℕ → ℕ → ℕ
reads_of b h j = count_by (is_read_of j) (events b h)

reads_of-push : (b : ℕ) (h : List ℕ) (w j : ℕ) → reads_of b (h ++ w ∷ []) j ≡ reads_of b h j + bit (is_read_of j (event_of b (held b h w) (next_phase b h w)))
reads_of-push b h w j =
    ap (count_by (is_read_of j)) (events-push b h w) ∙ sum_by_push (λ e. bit (is_read_of j e)) (events b h) (next b h w)
    ∙ ap (λ e. reads_of b h j + bit (is_read_of j e)) (next-by_phase b h w)

-- a bucket that is read is the worker's own, in phase 1
read-is : (b g f j : ℕ) → is_read_of j (event_of b g f) ≡ true → (f ≡ 1) × (g ≡ j)
read-is b g f j =
    event-by (λ e. is_read_of j e ≡ true → (f ≡ 1) × (g ≡ j)) b g f
    (λ g_in phase e. absurd (cc)) (λ g_in phase e. (phase, equal g j e)) (λ g_in phase e. absurd (cc)) (λ g_in late e. absurd (cc))
    (λ past e. absurd (cc)) (λ past e. absurd (cc))

-- no bucket is read twice
record ReadOnce (b : ℕ) (j : ℕ) (h : List ℕ) : Type 0 where
  once : reads_of b h j ≤ 1
  past : reads_of b h j ≢ 0 → Past b h j 1

read-step : (b j : ℕ) (h : List ℕ) (w : ℕ) → ReadOnce b j h → ReadOnce b j (h ++ w ∷ [])
read-step b j h w s = by (is_read_of j (event_of b (held b h w) (next_phase b h w))) refl
  where
    by : (c : Bool) → is_read_of j (event_of b (held b h w) (next_phase b h w)) ≡ c → ReadOnce b j (h ++ w ∷ [])
    by false e = record {
      once = omega (arith, reads_of-push b h w j, ap bit e, s.once);
      past = λ some. past-stays b h w j 1 (s.past (λ z. some (omega (arith, reads_of-push b h w j, ap bit e, z))));
    }
    by true e =
        let is = read-is b (held b h w) (next_phase b h w) j e in
        let inside : next_phase b h w ≢ 0 = λ z. absurd (omega (arith, is.0, z)) in
        let none : reads_of b h j ≡ 0 = ⊎_elim
        (λ (zero_is : reads_of b h j ≡ 0). zero_is)
        (λ (some : reads_of b h j ≢ 0). let early = (s.past some).later w inside is.1 in absurd (omega (arith, early, is.0)))
        (cases_eq (reads_of b h j) 0) in
        record {
          once = omega (arith, reads_of-push b h w j, ap bit e, none);
          past = λ some. subst (λ f. Past b (h ++ w ∷ []) j f) is.0 (subst (λ g. Past b (h ++ w ∷ []) g (next_phase b h w)) is.1 (past-now b h w inside));
        }

reads_of-le : (b : ℕ) (h : List ℕ) (j : ℕ) → reads_of b h j ≤ 1
reads_of-le b h j = (by_pushes (ReadOnce b j) (record { once = omega arith; past = λ some. absurd (some refl) }) (read-step b j) h).once

-- the buckets that are read are those of the events
total-reads : (b : ℕ) (h : List ℕ) → reads b h ≡ sum_by (reads_of b h) (below b)
total-reads b h = by_buckets is_read is_read_of b
    (λ g f f_in. event-by (λ e. sum_by (λ j. bit (is_read_of j e)) (below b) ≡ bit (is_read e)) b g f
    (λ g_in phase. zeros b) (λ g_in phase. hit-once g b g_in) (λ g_in phase. zeros b) (λ g_in late. zeros b) (λ past. zeros b) (λ past. zeros b))
    h

reads-le : (b : ℕ) (h : List ℕ) → reads b h ≤ b
reads-le b h = omega (arith, total-reads b h, sum-below-le (reads_of b h) b 1 (λ j j_in. reads_of-le b h j))

writes-le : (b : ℕ) (h : List ℕ) → writes b h ≤ b * b
writes-le b h = omega (arith, total-writes b h, sum-below-le (writes_of b h) b b (writes_of-le b h))

-- the accesses of events
accesses-of : (p : Sizes) (a : ℕ) (es : List Event) → length (filter_map (asked p a) es) ≡ count_by is_read es + count_by is_write es
accesses-of p a [] = refl
accesses-of p a (Claim j ∷ es) = omega (arith, sum_by-cons (λ e. bit (is_read e)) (Claim j) es, sum_by-cons (λ e. bit (is_write e)) (Claim j) es, accesses-of p a es)
accesses-of p a (Read j ∷ es) = omega (arith, sum_by-cons (λ e. bit (is_read e)) (Read j) es, sum_by-cons (λ e. bit (is_write e)) (Read j) es, accesses-of p a es)
accesses-of p a (Exchange j ∷ es) = omega (arith, sum_by-cons (λ e. bit (is_read e)) (Exchange j) es, sum_by-cons (λ e. bit (is_write e)) (Exchange j) es, accesses-of p a es)
accesses-of p a (Write j i ∷ es) = omega (arith, sum_by-cons (λ e. bit (is_read e)) (Write j i) es, sum_by-cons (λ e. bit (is_write e)) (Write j i) es, accesses-of p a es)
accesses-of p a (Done ∷ es) = omega (arith, sum_by-cons (λ e. bit (is_read e)) Done es, sum_by-cons (λ e. bit (is_write e)) Done es, accesses-of p a es)
accesses-of p a (Idle ∷ es) = omega (arith, sum_by-cons (λ e. bit (is_read e)) Idle es, sum_by-cons (λ e. bit (is_write e)) Idle es, accesses-of p a es)

-- the accesses up to an exchange are fewer
made-le : (p : Sizes) (a : ℕ) (f : Option ℕ) (es : List Event) → length (filter_map (asked p a) (made f es)) ≤ length (filter_map (asked p a) es)
made-le p a None es = omega arith
made-le p a (Some k) es =
    let b = through-begins k es in
    omega (
      arith,
      ap (λ y. length (filter_map (asked p a) y)) b.1,
      ap length (filter_map-append (asked p a) (through k es) b.0),
      length-append (filter_map (asked p a) (through k es)) (filter_map (asked p a) b.0),
    )

pub spread-le : (p : Sizes) (d : Draw) (a : ℕ) (h : List ℕ) → length (spread p d a h) ≤ p.b + p.b * p.b
spread-le p d a h =
    omega (arith, made-le p a (failing p d (order p.b h)) (events p.b h), accesses-of p a (events p.b h), reads-le p.b h, writes-le p.b h)

-- the accesses of the compression
abbrev cost : Sizes → Step → ℕ
cost p (Import j i) = p.b + 1
cost p (Put j) = 1

-- an import reads the chunks and the tail
pub length-import : (p : Sizes) (a i : ℕ) → length (import_reads p a i) ≡ p.b + 1
length-import p a i =
    length-append (map (read_chunk p a i) (below p.b)) (access_of p a Reads (at Tail i) ∷ [])
    ∙ omega (arith, length-map (below p.b) (read_chunk p a i), length-range_with_len 0 p.b)

length-if : (c : Bool) (xs : List Access) → length (cond c xs []) ≤ length xs
length-if true xs = omega arith
length-if false xs = omega arith

step-le : (p : Sizes) (d : Draw) (a : ℕ) (x : Step) → length (step_accesses p d a x) ≤ cost p x
step-le p d a (Import j i) = omega (arith, length-import p a i)
step-le p d a (Put j) = length-if (is_good (step_verdict p d (Put j))) (access_of p a Writes (at Output j) ∷ [])

walk-le : (p : Sizes) (d : Draw) (a : ℕ) (xs : List Step) → length (walk p d a xs) ≤ sum_by (cost p) xs
walk-le p d a [] = omega arith
walk-le p d a (x ∷ xs) =
    omega (
      arith,
      length-append (step_accesses p d a x) (cond (is_good (step_verdict p d x)) (walk p d a xs) []),
      step-le p d a x,
      length-if (is_good (step_verdict p d x)) (walk p d a xs),
      walk-le p d a xs,
      sum_by-cons (cost p) x xs,
    )

imports-cost : (p : Sizes) (j : ℕ) (is : List ℕ) → sum_by (cost p) (map (Import j) is) ≡ length is * (p.b + 1)
imports-cost p j [] = omega arith
imports-cost p j (i ∷ is) = omega (arith, sum_by-cons (cost p) (Import j i) (map (Import j) is), imports-cost p j is)

-- imports only go on
pub imported-rises : (p : Sizes) (j : ℕ) → imported p j ≤ imported p (suc j)
imported-rises p zero = omega arith
imported-rises p (suc j) = omega arith

pub imported-few : (p : Sizes) (j : ℕ) → imported p j ≤ p.b
imported-few p zero = omega arith
imported-few p (suc j) = omega arith

difference : (x y c : ℕ) → x ≤ y → x * c + (y - x) * c ≡ y * c
difference x y c le = let split : x + (y - x) ≡ y = omega arith in sym (ap (λ z. z * c) (sym split) ∙ omega arith)

steps_of-cost : (p : Sizes) (j : ℕ) → sum_by (cost p) (steps_of p j) ≡ (imported p (suc j) - imported p j) * (p.b + 1) + 1
steps_of-cost p j =
    let n = imported p (suc j) - imported p j in
    let before = range_with_len (imported p j) n in
    sum_by-append (cost p) (map (Import j) before) (Put j ∷ [])
    ∙ omega (arith, imports-cost p j before, ap (λ y. y * (p.b + 1)) (length-range_with_len (imported p j) n))

steps-cost : (p : Sizes) (m : ℕ) → sum_by (cost p) (flat_map (steps_of p) (below m)) ≡ imported p m * (p.b + 1) + m
steps-cost p zero = omega arith
steps-cost p (suc m) =
    sum-of-flat_map (cost p) (steps_of p) (below (suc m)) ∙ sum-below-suc (λ j. sum_by (cost p) (steps_of p j)) m
    ∙ omega (
      arith,
      sum-of-flat_map (cost p) (steps_of p) (below m),
      steps-cost p m,
      steps_of-cost p m,
      difference (imported p m) (imported p (suc m)) (p.b + 1) (imported-rises p m),
    )

compression-le : (p : Sizes) (d : Draw) (a : ℕ) → length (walk p d a (steps p)) ≤ p.b * (p.b + 1) + p.b
compression-le p d a =
    omega (arith, walk-le p d a (steps p), steps-cost p p.b, mul-le (imported p p.b) (p.b + 1) p.b (p.b + 1) (imported-few p p.b) (omega arith))

-- the drain and what follows it
length-tails : (p : Sizes) (a m : ℕ) → length (map (written_tail p a) (below m)) ≡ m
length-tails p a m = length-map (below m) (written_tail p a) ∙ length-range_with_len 0 m

drain-le : (p : Sizes) (d : Draw) (a : ℕ) (l : Option ℕ) → unwrap_or l p.b ≤ p.b → length (drain p d a l) ≤ p.b + (p.b * (p.b + 1) + p.b)
drain-le p d a (Some i) few = omega (arith, length-append (map (written_tail p a) (below i)) [], length-tails p a i)
drain-le p d a None few =
    omega (arith, length-append (map (written_tail p a) (below p.b)) (walk p d a (steps p)), length-tails p a p.b, compression-le p d a)

rest-le : (p : Sizes) (d : Draw) (a : ℕ) (h : List ℕ) (f : Option ℕ) → length (rest p d a h f) ≤ p.b + (p.b * (p.b + 1) + p.b)
rest-le p d a h (Some k) = omega arith
rest-le p d a h None =
    let l = left p d (order p.b h) in
    omega (arith, length-if (is_finished p d h) (drain p d a l), drain-le p d a l (left-in p d (order p.b h) l refl))

pub attempt-le : (p : Sizes) (d : Draw) (a : ℕ) (h : List ℕ) → length (attempt_trace p d a h) ≤ 2 * p.b * p.b + 4 * p.b
attempt-le p d a h =
    let f = failing p d (order p.b h) in
    omega (arith, length-append (spread p d a h) (rest p d a h f), spread-le p d a h, rest-le p d a h f)

-- the attempts, and the whole run
module _ (p : Sizes) (ds : ℕ → Draw) where
  pub attempts-le : (a : ℕ) (hs : List (List ℕ)) → length (attempts p ds a hs) ≤ length hs * (2 * p.b * p.b + 4 * p.b)
  attempts-le a [] = omega arith
  attempts-le a (h ∷ hs) =
      omega (
        arith,
        length-append (attempt_trace p (ds a) a h) (cond (is_failed p (ds a) h) (attempts p ds (a + 1) hs) []),
        attempt-le p (ds a) a h,
        length-if (is_failed p (ds a) h) (attempts p ds (a + 1) hs),
        attempts-le (a + 1) hs,
      )

  pub shuffle-le : (hs : List (List ℕ)) → length (shuffle_trace p ds hs) ≤ p.b + length hs * (2 * p.b * p.b + 4 * p.b)
  shuffle-le hs =
      omega (arith, length-append (load p) (attempts p ds 0 hs), length-map (below p.b) (written_input p), length-range_with_len 0 p.b, attempts-le 0 hs)

  scans-le : (o : Option ℕ) → length (scans p o) ≤ 2 * p.b
  scans-le None = omega arith
  scans-le (Some a) =
      omega (arith, length-append (scan p a) (scan p a), length-map (below p.b) (read_output p a), length-range_with_len 0 p.b)

  pub trace-le : (hs : List (List ℕ)) → length hs ≤ p.attempts → length (trace p ds hs) ≤ greatest_trace p
  trace-le hs few =
      omega (
        arith,
        length-append (shuffle_trace p ds hs) (scans p (good_attempt p ds 0 hs)),
        shuffle-le hs,
        scans-le (good_attempt p ds 0 hs),
        mul-le (length hs) (2 * p.b * p.b + 4 * p.b) p.attempts (2 * p.b * p.b + 4 * p.b) few (omega arith),
      )
