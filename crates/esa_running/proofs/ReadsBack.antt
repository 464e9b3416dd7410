-- In a run each read comes behind a write of its slot.
use Rattle.std.proofs.Common.{◌≡◌, ◌≢◌, ℕ, suc, ◌+◌, ◌-◌, ◌*◌, ◌≤◌, ◌<◌, inl, inr, Bool, true, false, cond, ◌&&◌, ◌==◌, List, [], ◌∷◌, ◌++◌, All, length, map, Some, refl, sym, ap, ◌∙◌, subst, arith, append-nil, append_assoc}
use Rattle.std.specs.List.{count_by, filter_map, flat_map, range_with_len}
use Rattle.std.specs.Prelude.{Option, None, is_some, ◌||◌}
use Rattle.std.proofs.lemmas.List.Concat.{flat_map-cons}
use Rattle.std.proofs.lemmas.List.Elements.{All-append, All-head, All-nil, All-push, All-tail, All-weaker}
use Rattle.std.proofs.lemmas.List.Sums.{sum_by-cons}
use Rattle.esa_device.proofs.LogLaws.{writes_here}
use Rattle.esa_laws.proofs.PairLaws.{both-true, each-pair}
use Rattle.esa_laws.proofs.Sums.{hit-once}
use Rattle.esa_laws.proofs.Tests.{bit, equal}
use Rattle.esa_laws.proofs.WalkLaws.{steps_verdict, steps_verdict-append, walk-append, walk-one}
use Rattle.esa_params.specs.Sizes.{Sizes, below}
use Rattle.esa_params.specs.Slots.{IsPlanned, access_of, at, blocks, number_of, slot_number, start, writes_number}
use Rattle.esa_params.specs.declared.slot.Access.{Access}
use Rattle.esa_params.specs.declared.slot.Op.TheVariants.{Read as Reads, Write as Writes}
use Rattle.esa_params.specs.declared.slot.Region.TheVariants.{Input, Tail, Output}
use Rattle.esa_spec.specs.Draws.{Draw}
use Rattle.esa_spec.specs.Fronts.{Begins}
use Rattle.esa_spec.specs.Traces.{asked, attempt_trace, attempts, chunk_slot, compression, drain, good_attempt, load, made, rest, scan, scans, spread, trace, walk, written_input, written_tail}
use Rattle.esa_spec.specs.Turns.{events, is_write_at, order, writes}
use Rattle.esa_spec.specs.Verdicts.{Import, Put, Step, drained, failing, imported, is_finished, is_good, left, settled, step_verdict, steps, steps_of, verdict}
use Rattle.esa_spec.specs.declared.event.Event.{Event}
use Rattle.esa_spec.specs.declared.event.Event.TheVariants.{Claim, Read, Exchange, Write, Done, Idle}
use Rattle.esa_spec.specs.declared.event.Verdict.{Verdict}
use Rattle.esa_spec.specs.declared.event.Verdict.TheVariants.{Good}
use Rattle.esa_vault.specs.Latest.{latest_write}
use Rattle.esa_running.proofs.EachRead.{EachRead, each-append, each-at, latest-of, writes-append, writes-cons, writes-map, writes_to}
use Rattle.esa_running.proofs.AttemptReads.{AreThere, IsIn, all-more, compression-in, scan-in, spread-in, tails-in}

-- an access behind others, where hs are the turns of the attempts, is to a slot that was written: its latest write is of the
-- same attempt, but in the input, which is written once. The output is read of the attempt that succeeded
pub record ReadsBack (p : Sizes) (ds : ℕ → Draw) (hs : List (List ℕ)) (before : List Access) (read : Access) : Type 0 where
  pub write : Access
  pub latest : latest_write p (slot_number p read) before ≡ Some write
  pub attempt : read.region ≢ Input → write.attempt ≡ read.attempt
  pub planned : IsPlanned p (at read.region read.index)
  pub made : read.attempt < length hs
  pub good : read.region ≡ Output → good_attempt p ds 0 hs ≡ Some read.attempt

-- ---- what is written in an attempt

-- the chunk of bucket j for the target i
module _ (p : Sizes) (a j i : ℕ) where
  abbrev chunk_number : ℕ
  chunk_number = number_of p (chunk_slot p j i)

  chunk-bit : (k t : ℕ) (c : Bool) → ((k == j) && (t == i)) ≡ c → bit c ≤ bit (writes_number p chunk_number (access_of p a Writes (chunk_slot p k t)))
  chunk-bit k t false e = omega arith
  chunk-bit k t true e =
      let parts = both-true (k == j) (t == i) e in
      let number : chunk_number ≡ number_of p (chunk_slot p k t) = λ n. number_of p (chunk_slot p (sym (equal k j parts.0) n) (sym (equal t i parts.1) n)) in
      let here = ap bit (writes_here p chunk_number (access_of p a Writes (chunk_slot p k t)) refl number) in
      omega (arith, here)

  abbrev events_at : List Event → ℕ
  events_at es = count_by (is_write_at j i) es

  abbrev accesses_at : List Event → ℕ
  accesses_at es = writes_to p chunk_number (filter_map (asked p a) es)

  event-writes : (e : Event) (es : List Event) → events_at es ≤ accesses_at es → events_at (e ∷ es) ≤ accesses_at (e ∷ es)
  event-writes (Claim k) es few = let one = sum_by-cons (λ e. bit (is_write_at j i e)) (Claim k) es in omega (arith, one, few)
  event-writes (Read k) es few =
      let one = sum_by-cons (λ e. bit (is_write_at j i e)) (Read k) es in
      let more = writes-cons p chunk_number (access_of p a Reads (at Input k)) (filter_map (asked p a) es) in omega (arith, one, few, more)
  event-writes (Exchange k) es few = let one = sum_by-cons (λ e. bit (is_write_at j i e)) (Exchange k) es in omega (arith, one, few)
  event-writes (Write k t) es few =
      let one = sum_by-cons (λ e. bit (is_write_at j i e)) (Write k t) es in
      let more = writes-cons p chunk_number (access_of p a Writes (chunk_slot p k t)) (filter_map (asked p a) es) in
      let here = chunk-bit k t ((k == j) && (t == i)) refl in omega (arith, one, few, more, here)
  event-writes Done es few = let one = sum_by-cons (λ e. bit (is_write_at j i e)) Done es in omega (arith, one, few)
  event-writes Idle es few = let one = sum_by-cons (λ e. bit (is_write_at j i e)) Idle es in omega (arith, one, few)

  events-write : (es : List Event) → events_at es ≤ accesses_at es
  events-write [] = omega arith
  events-write (e ∷ es) = event-writes e es (events-write es)

  chunk-written : (d : Draw) (h : List ℕ) → failing p d (order p.b h) ≡ None → writes p.b h ≡ p.b * p.b → j < p.b → i < p.b
      → 1 ≤ writes_to p chunk_number (spread p d a h)
  chunk-written d h none all j_in i_in =
      let some = events-write (events p.b h) in
      let once = each-pair p.b h j i all j_in i_in in
      let is = ap (λ f. writes_to p chunk_number (filter_map (asked p a) (made f (events p.b h)))) none in
      omega (arith, some, once, is)

-- the verdicts of steps that are good
both-good : (v w : Verdict) → is_good (cond (is_good v) w v) ≡ true → (is_good v ≡ true) × (is_good w ≡ true)
both-good v w good = by (is_good v) refl
  where
    by : (c : Bool) → is_good v ≡ c → (is_good v ≡ true) × (is_good w ≡ true)
    by true e = (e, sym (ap (λ y. is_good (cond y w v)) e) ∙ good)
    by false e = let other : is_good v ≡ true = sym (ap (λ y. is_good (cond y w v)) e) ∙ good in absurd (let is : true ≡ false = sym other ∙ e in cc is)

-- the output bucket j
module _ (p : Sizes) (d : Draw) (a j : ℕ) where
  abbrev output_number : ℕ
  output_number = number_of p (at Output j)

  abbrev put : ℕ → Access
  put y = access_of p a Writes (at Output y)

  put-bit : (y : ℕ) (c : Bool) → (j == y) ≡ c → bit c ≤ bit (writes_number p output_number (put y))
  put-bit y false e = omega arith
  put-bit y true e =
      let here = ap bit (writes_here p output_number (put y) refl (ap (λ n. number_of p (at Output n)) (equal j y e))) in
      omega (arith, here)

  put-written : (y : ℕ) → is_good (step_verdict p d (Put y)) ≡ true → bit (j == y) ≤ writes_to p output_number (walk p d a (Put y ∷ []))
  put-written y good =
      let is = ap (writes_to p output_number) (walk-one p d a (Put y) ∙ ap (λ c. cond c (put y ∷ []) []) good) in
      let one = writes-cons p output_number (put y) [] in
      let here = put-bit y (j == y) refl in
      omega (arith, is, one, here)

  puts-written : (js : List ℕ) → is_good (steps_verdict p d (flat_map (steps_of p) js)) ≡ true
      → count_by (λ y. j == y) js ≤ writes_to p output_number (walk p d a (flat_map (steps_of p) js))
  puts-written [] good = omega arith
  puts-written (y ∷ js) good =
      let here = steps_of p y in
      let later = flat_map (steps_of p) js in
      let imports = map (Import y) (range_with_len (imported p y) (imported p (suc y) - imported p y)) in
      let last : List Step = Put y ∷ [] in
      let whole : is_good (cond (is_good (steps_verdict p d here)) (steps_verdict p d later) (steps_verdict p d here)) ≡ true =
      sym (ap is_good (ap (steps_verdict p d) (flat_map-cons (steps_of p) y js) ∙ steps_verdict-append p d here later)) ∙ good in
      let two = both-good (steps_verdict p d here) (steps_verdict p d later) whole in
      let inner = both-good (steps_verdict p d imports) (steps_verdict p d last) (sym (ap is_good (steps_verdict-append p d imports last)) ∙ two.0) in
      let good_put = both-good (step_verdict p d (Put y)) Good inner.1 in
      let walked = ap (writes_to p output_number) (ap (walk p d a) (flat_map-cons (steps_of p) y js) ∙ walk-append p d a here later ∙ ap (λ c. walk p d a here ++ cond c (walk p d a later) []) two.0)
      ∙ writes-append p output_number (walk p d a here) (walk p d a later) in
      let walked_here = ap (writes_to p output_number) (walk-append p d a imports last ∙ ap (λ c. walk p d a imports ++ cond c (walk p d a last) []) inner.0)
      ∙ writes-append p output_number (walk p d a imports) (walk p d a last) in
      let one = sum_by-cons (λ y. bit (j == y)) y js in
      let there = put-written y good_put.0 in
      let more = puts-written js two.1 in
      omega (arith, walked, walked_here, one, there, more)

  -- a good attempt wrote it
  output-by : (h : List ℕ) (f l : Option ℕ) → failing p d (order p.b h) ≡ f → left p d (order p.b h) ≡ l → is_finished p d h ≡ true
      → is_good (verdict p d h) ≡ true → j < p.b → 1 ≤ writes_to p output_number (attempt_trace p d a h)
  output-by h (Some k) l ef el finished good j_in =
      absurd (let bad : false ≡ true = sym (ap (λ f. is_good (settled p d (order p.b h) f)) ef) ∙ good in cc bad)
  output-by h None (Some i) ef el finished good j_in =
      absurd (let bad : false ≡ true = sym (ap (λ f. is_good (settled p d (order p.b h) f)) ef ∙ ap (λ l. is_good (drained p d l)) el) ∙ good in cc bad)
  output-by h None None ef el finished good j_in =
      let each : is_good (steps_verdict p d (steps p)) ≡ true = sym (ap (λ f. is_good (settled p d (order p.b h) f)) ef ∙ ap (λ l. is_good (drained p d l)) el) ∙ good in
      let turns = spread p d a h in
      let tails = map (written_tail p a) (below p.b) in
      let is : attempt_trace p d a h ≡ turns ++ (tails ++ walk p d a (steps p)) =
      ap (λ f. turns ++ rest p d a h f) ef ∙ ap (λ c. turns ++ cond c (drain p d a (left p d (order p.b h))) []) finished ∙ ap (λ l. turns ++ drain p d a l) el in
      let parts = ap (writes_to p output_number) is ∙ writes-append p output_number turns (tails ++ walk p d a (steps p)) in
      let behind = writes-append p output_number tails (walk p d a (steps p)) in
      let some = puts-written (below p.b) each in
      let once = hit-once j p.b j_in in
      omega (arith, parts, behind, some, once)

  pub output-written : (h : List ℕ) → is_finished p d h ≡ true → is_good (verdict p d h) ≡ true → j < p.b → 1 ≤ writes_to p output_number (attempt_trace p d a h)
  output-written h = output-by h (failing p d (order p.b h)) (left p d (order p.b h)) refl refl

-- ---- the reads

-- each block of the input was written
abbrev pub HasInputs : Sizes → List Access → Type 0
HasInputs p before = (j : ℕ) → j < p.b → 1 ≤ writes_to p j before

-- the accesses are of attempt a
abbrev pub IsOf : ℕ → Access → Type 0
IsOf a x = x.attempt ≡ a

module _ (p : Sizes) (ds : ℕ → Draw) (hs : List (List ℕ)) where
  abbrev Back : List Access → Access → Type 0
  Back = ReadsBack p ds hs

  abbrev Each : List Access → List Access → Type 0
  Each = EachRead Back

  inputs-more : (before more : List Access) → HasInputs p before → HasInputs p (before ++ more)
  inputs-more before more inputs j inside = let some = inputs j inside in let parts = writes-append p j before more in omega (arith, some, parts)

  module _ (a : ℕ) (few : a < length hs) where
    abbrev IsGood : Type 0
    IsGood = good_attempt p ds 0 hs ≡ Some a

    abbrev In : List Access → Access → Type 0
    In = IsIn p a IsGood

    reads-input : (before made : List Access) (x : Access) → HasInputs p before → In made x → (reads : x.op ≡ Reads) → x.region ≡ Input → Back (before ++ made) x
    reads-input before made x inputs i reads input =
        let planned : x.index < blocks p x.region = i.planned reads in
        let few_blocks : blocks p x.region ≡ p.b = ap (blocks p) input in
        let number : slot_number p x ≡ x.index = ap (λ r. start p r + x.index) input ∙ omega arith in
        let there = inputs-more before made inputs x.index (omega (arith, planned, few_blocks)) in
        let some = ap (λ n. writes_to p n (before ++ made)) number in
        let found = latest-of p (slot_number p x) (λ (y : Access). Unit {0}) [] (before ++ made) (λ k d inside. tt) (omega (arith, there, some)) in
        record {
          write = found.write;
          latest = found.latest;
          attempt = λ other. absurd (other input);
          planned = planned;
          made = let own = i.attempt in omega (arith, own, few);
          good = λ output. i.good reads output ∙ ap Some (sym i.attempt);
        }

    reads-own : (before made : List Access) (x : Access) → All (IsOf a) made → In made x → (reads : x.op ≡ Reads) → 1 ≤ writes_to p (slot_number p x) made → Back (before ++ made) x
    reads-own before made x own i reads some =
        let found = latest-of p (slot_number p x) (IsOf a) before made own some in
        record {
          write = found.write;
          latest = found.latest;
          attempt = λ other. found.such ∙ sym i.attempt;
          planned = i.planned reads;
          made = let own = i.attempt in omega (arith, own, few);
          good = λ output. i.good reads output ∙ ap Some (sym i.attempt);
        }

    reads-back : (before made : List Access) (x : Access) → HasInputs p before → All (IsOf a) made → In made x → x.op ≡ Reads → Back (before ++ made) x
    reads-back before made x inputs own i reads = elim (i.written reads) [
      | inl input ↦ reads-input before made x inputs i reads input
      | inr some ↦ reads-own before made x own i reads some
    ]

    each-in : (before made xs : List Access) → HasInputs p before → All (IsOf a) made → All (In made) xs → Each (before ++ made) xs
    each-in before made [] inputs own all = tt
    each-in before made (x ∷ xs) inputs own all =
        let here = All-head (In made) x xs all in (
          reads-back before made x inputs own here,
          subst (λ (b : List Access). Each b xs) (sym (append_assoc before made (x ∷ [])))
              (each-in before (made ++ x ∷ []) xs inputs (All-push (IsOf a) made x own here.attempt) (all-more p a IsGood made (x ∷ []) xs (All-tail (In made) x xs all))),
        )

    own-in : (made xs : List Access) → All (In made) xs → All (IsOf a) xs
    own-in made xs all = All-weaker (In made) (IsOf a) (λ x i. i.attempt) xs all

    -- accesses of this attempt behind others of it
    record Goes (before made xs : List Access) : Type 0 where
      each : Each (before ++ made) xs
      own : All (IsOf a) xs

    goes-in : (before made xs : List Access) → HasInputs p before → All (IsOf a) made → All (In made) xs → Goes before made xs
    goes-in before made xs inputs own all = record { each = each-in before made xs inputs own all; own = own-in made xs all }

    goes-none : (before made : List Access) → Goes before made []
    goes-none before made = record { each = tt; own = All-nil (IsOf a) }

    goes-on : (before made xs ys : List Access) → Goes before made xs → Goes before (made ++ xs) ys → Goes before made (xs ++ ys)
    goes-on before made xs ys first second = record {
      each = each-append Back (before ++ made) xs ys first.each (subst (λ (b : List Access). Each b ys) (sym (append_assoc before made xs)) second.each);
      own = All-append (IsOf a) xs ys first.own second.own;
    }

    module _ (d : Draw) (h : List ℕ) (before : List Access) (inputs : HasInputs p before) where
      abbrev turns : List Access
      turns = spread p d a h

      turns-own : All (IsOf a) turns
      turns-own = own-in [] turns (spread-in p a IsGood d h)

      turns-go : Goes before [] turns
      turns-go = goes-in before [] turns inputs (All-nil (IsOf a)) (spread-in p a IsGood d h)

      tails-go : (n : ℕ) → Goes before turns (map (written_tail p a) (below n))
      tails-go n = goes-in before turns (map (written_tail p a) (below n)) inputs turns-own (tails-in p a IsGood turns n)

      there : failing p d (order p.b h) ≡ None → writes p.b h ≡ p.b * p.b → AreThere p a IsGood (turns ++ map (written_tail p a) (below p.b))
      there none all = record {
        chunks = λ j i j_in i_in.
            let some = chunk-written p a j i d h none all j_in i_in in
            let parts = writes-append p (number_of p (chunk_slot p j i)) turns (map (written_tail p a) (below p.b)) in omega (arith, some, parts);
        tails = λ i i_in.
            let some = writes-map p (number_of p (at Tail i)) (written_tail p a) p.b i i_in (writes_here p (number_of p (at Tail i)) (written_tail p a i) refl refl) in
            let parts = writes-append p (number_of p (at Tail i)) turns (map (written_tail p a) (below p.b)) in omega (arith, some, parts);
      }

      drain-goes : (l : Option ℕ) → failing p d (order p.b h) ≡ None → writes p.b h ≡ p.b * p.b → Goes before turns (drain p d a l)
      drain-goes (Some i) none all =
          goes-on before turns (map (written_tail p a) (below i)) [] (tails-go i) (goes-none before (turns ++ map (written_tail p a) (below i)))
      drain-goes None none all =
          let tails = map (written_tail p a) (below p.b) in
          goes-on before turns tails (compression p d a None) (tails-go p.b)
          (goes-in before (turns ++ tails) (compression p d a None) inputs
          (All-append (IsOf a) turns tails turns-own (own-in turns tails (tails-in p a IsGood turns p.b)))
          (compression-in p a IsGood d (turns ++ tails) None (there none all)))

      finished-goes : (c : Bool) → is_finished p d h ≡ c → failing p d (order p.b h) ≡ None → Goes before turns (cond c (drain p d a (left p d (order p.b h))) [])
      finished-goes false e none = goes-none before turns
      finished-goes true e none =
          let all : (writes p.b h == p.b * p.b) ≡ true = sym (ap (λ f. is_some f || (writes p.b h == p.b * p.b)) none) ∙ e in
          drain-goes (left p d (order p.b h)) none (equal (writes p.b h) (p.b * p.b) all)

      rest-goes : (f : Option ℕ) → failing p d (order p.b h) ≡ f → Goes before turns (rest p d a h f)
      rest-goes (Some k) e = goes-none before turns
      rest-goes None e = finished-goes (is_finished p d h) refl e

      attempt-goes : Goes before [] (attempt_trace p d a h)
      attempt-goes = goes-on before [] turns (rest p d a h (failing p d (order p.b h))) turns-go (rest-goes (failing p d (order p.b h)) refl)

      attempt-each : Each before (attempt_trace p d a h)
      attempt-each = subst (λ (b : List Access). Each b (attempt_trace p d a h)) (append-nil before) attempt-goes.each

      -- and its scans
      scanned-each : is_finished p d h ≡ true → is_good (verdict p d h) ≡ true → IsGood → Each before (attempt_trace p d a h ++ (scan p a ++ scan p a))
      scanned-each finished good is =
          let all = attempt_trace p d a h in
          let outputs = λ (j : ℕ) (j_in : j < p.b). output-written p d a j h finished good j_in in
          let once = scan-in p a IsGood all outputs is in
          each-append Back before all (scan p a ++ scan p a) attempt-each
          (each-in before all (scan p a ++ scan p a) inputs attempt-goes.own (All-append (In all) (scan p a) (scan p a) once once))

  -- ---- all attempts

  -- the accesses of the attempts from attempt a on, and the scans
  abbrev attempts_on : ℕ → List (List ℕ) → List Access
  attempts_on a gs = attempts p ds a gs ++ scans p (good_attempt p ds a gs)

  attempts-by : (a : ℕ) (h : List ℕ) (gs : List (List ℕ)) (before : List Access) → a < length hs → HasInputs p before → (c g : Bool) → is_finished p (ds a) h ≡ c → is_good (verdict p (ds a) h) ≡ g
      → ((m : ℕ) → cond c (cond g (Some a) (good_attempt p ds (a + 1) gs)) None ≡ Some m → good_attempt p ds 0 hs ≡ Some m)
      → (((m : ℕ) → good_attempt p ds (a + 1) gs ≡ Some m → good_attempt p ds 0 hs ≡ Some m) → Each (before ++ attempt_trace p (ds a) a h) (attempts_on (a + 1) gs))
      → Each before ((attempt_trace p (ds a) a h ++ cond (cond c (cond g false true) false) (attempts p ds (a + 1) gs) []) ++ scans p (cond c (cond g (Some a) (good_attempt p ds (a + 1) gs)) None))
  attempts-by a h gs before few inputs false g ec eg is later =
      let here = attempt_trace p (ds a) a h in
      subst (Each before) (sym (append-nil (here ++ []) ∙ append-nil here)) (attempt-each a few (ds a) h before inputs)
  attempts-by a h gs before few inputs true true ec eg is later =
      let here = attempt_trace p (ds a) a h in
      subst (λ (xs : List Access). Each before (xs ++ (scan p a ++ scan p a))) (sym (append-nil here)) (scanned-each a few (ds a) h before inputs ec eg (is a refl))
  attempts-by a h gs before few inputs true false ec eg is later =
      let here = attempt_trace p (ds a) a h in
      subst (Each before) (sym (append_assoc here (attempts p ds (a + 1) gs) (scans p (good_attempt p ds (a + 1) gs))))
      (each-append Back before here (attempts_on (a + 1) gs) (attempt-each a few (ds a) h before inputs) (later is))

  attempts-each : (a : ℕ) (gs : List (List ℕ)) (before : List Access) → a + length gs ≡ length hs
      → ((m : ℕ) → good_attempt p ds a gs ≡ Some m → good_attempt p ds 0 hs ≡ Some m) → HasInputs p before
      → Each before (attempts_on a gs)
  attempts-each a [] before long good inputs = tt
  attempts-each a (h ∷ gs) before long good inputs =
      attempts-by a h gs before (omega (arith, long)) inputs (is_finished p (ds a) h) (is_good (verdict p (ds a) h)) refl refl good
      (λ is. attempts-each (a + 1) gs (before ++ attempt_trace p (ds a) a h) (omega (arith, long)) is (inputs-more before (attempt_trace p (ds a) a h) inputs))

  -- the load reads nothing
  load-each : (before : List Access) (js : List ℕ) → Each before (map (written_input p) js)
  load-each before [] = tt
  load-each before (j ∷ js) = ((λ reads. absurd (cc reads)), load-each (before ++ written_input p j ∷ []) js)

  load-inputs : HasInputs p (load p)
  load-inputs j inside = writes-map p j (written_input p) p.b j inside (writes_here p j (written_input p j) refl (omega arith))

  trace-each : Each [] (trace p ds hs)
  trace-each =
      subst (Each []) (sym (append_assoc (load p) (attempts p ds 0 hs) (scans p (good_attempt p ds 0 hs))))
      (each-append Back [] (load p) (attempts p ds 0 hs ++ scans p (good_attempt p ds 0 hs)) (load-each [] (below p.b))
      (attempts-each 0 hs (load p) (omega arith) (λ m is. is) load-inputs))

  -- a read with which the accesses of a run end
  pub reads_come_behind_writes : (before : List Access) (read : Access) → Begins (before ++ read ∷ []) (trace p ds hs) → read.op ≡ Reads → ReadsBack p ds hs before read
  reads_come_behind_writes before read front reads =
      each-at Back [] before read front.0
      (subst (Each []) (front.1 ∙ append_assoc before (read ∷ []) front.0) trace-each) reads
