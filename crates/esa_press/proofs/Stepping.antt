-- The steps of a compression, one after another.
use Rattle.std.proofs.Common.{◌≡◌, ℕ, suc, ◌+◌, ◌-◌, ◌<◌, ◌≤◌, Bool, false, cond, List, [], ◌∷◌, ◌++◌, length, take, drop, map, sum, Option, Some, Result, Ok, Err, refl, sym, ap, ◌∙◌, subst, arith, append-nil, append_assoc, length-append, length-drop, OnOk}
use Rattle.std.specs.Prelude.{nat_lt}
use Rattle.std.proofs.lemmas.Bool.{lt-ltb, le-ltb}
use Rattle.std.specs.List.{range_with_len}
use Rattle.std.specs.List.{flat_map}
use Rattle.std.proofs.lemmas.Grind.{flat_map-append}
use Rattle.esa_floor.specs.Parts.{Parts}
use Rattle.esa_floor.specs.Standing.{turns_made}
use Rattle.esa_laws.proofs.Ranges.{below-add, below-add-one, range-add, range-suc}
use Rattle.esa_laws.proofs.LengthLaws.{length-import}
use Rattle.esa_laws.proofs.SizeLaws.{first-more}
use Rattle.std.proofs.lemmas.List.{length-take-le, map-append, take-append-drop, take_all}
use Rattle.esa_compress.proofs.ImportLaws.{few-reached, import-counted, put-counted, waiting-more}
use Rattle.esa_compress.specs.Imported.{parts_of}
use Rattle.esa_device.specs.Recording.{Recorded}
use Rattle.esa_envelope.specs.declared.keys.Keys.{Keys}
use Rattle.esa_spec.specs.Fronts.{items_in}
use Rattle.esa_laws.proofs.WalkLaws.{steps_verdict, steps_verdict-append, walk-append, walk-one}
use Rattle.esa_params.specs.Sizes.{Sizes, below, first, size}
use Rattle.esa_params.specs.Slots.{access_of, at}
use Rattle.esa_params.specs.declared.slot.Access.{Access}
use Rattle.esa_params.specs.declared.slot.Op.{Op}
use Rattle.esa_params.specs.declared.slot.Op.TheVariants.{Write as Writes}
use Rattle.esa_params.specs.declared.slot.Region.TheVariants.{Output}
use Rattle.esa_report.specs.declared.item.Item.{Item}
use Rattle.esa_spec.specs.Draws.{Draw}
use Rattle.esa_spec.specs.Traces.{import_reads, walk}
use Rattle.esa_spec.specs.Turns.{order}
use Rattle.esa_spec.specs.Verdicts.{Step, Import, Put, first_bad, imported, is_good, reached, step_verdict, steps_of}
use Rattle.esa_spec.specs.declared.event.Verdict.{Verdict}
use Rattle.esa_spec.specs.declared.event.Verdict.TheVariants as verdict
use Rattle.esa_vault.specs.Seals.{opens}
use Rattle.esa_vault.specs.declared.fault.VaultFault.{VaultFault}
use Rattle.esa_vault.specs.declared.fault.VaultFault.TheVariants.{Device, Tampered}
use Rattle.esa_press.specs.Fetched.{GoesOnReading, IsFetched, part_slot}
use Rattle.esa_press.specs.Pressed.{ImportAnswer, Pressed, PutAnswer}
use Rattle.esa_press.specs.Stepped.{AreCounted, AreMade, EndsSteps, IsAtImport, parts_counted}
use Rattle.esa_press.specs.declared.halt.Halt.{Halt}
use Rattle.esa_press.specs.declared.halt.Halt.TheVariants as halt
use Rattle.esa_press.proofs.Counting.{part_items, parts_sum}
use Rattle.esa_press.proofs.Fetching.{one_read_more, read_part}

module _ {V : Type 0} (faults : V → ℕ) (p : Sizes) (keys : Keys) (d : Draw) (a : ℕ) where
  module _ (o : List ℕ) where
    pub made_none : (at : Recorded V) (done : Unit {0}) → AreMade faults p keys d o a [] at at (Ok done)
    made_none at done = (refl, sym (append-nil at.trace), refl)

    -- steps that follow others which were all made
    pub made_more : (xs ys : List Step) (old mid new : Recorded V) (done : Unit {0}) (result : Result (Unit {0}) Halt)
        → AreMade faults p keys d o a xs old mid (Ok done) → AreMade faults p keys d o a ys mid new result → AreMade faults p keys d o a (xs ++ ys) old new result
    made_more xs ys old mid new done (Ok again) one other = (
      steps_verdict-append p d xs ys ∙ ap (λ (v : Verdict). cond (is_good v) (steps_verdict p d ys) v) one.0 ∙ other.0,
      other.1 ∙ ap (λ (t : List Access). t ++ walk p d a ys) one.1 ∙ append_assoc old.trace (walk p d a xs) (walk p d a ys)
          ∙ ap (λ (l : List Access). old.trace ++ l) (sym (walk-append p d a xs ys ∙ ap (λ (v : Verdict). walk p d a xs ++ cond (is_good v) (walk p d a ys) []) one.0)),
      other.2 ∙ one.2,
    )
    made_more xs ys old mid new done (Err (halt.Verdict v)) one other = (
      steps_verdict-append p d xs ys ∙ ap (λ (v : Verdict). cond (is_good v) (steps_verdict p d ys) v) one.0 ∙ other.0,
      other.1,
      other.2 ∙ ap (λ (t : List Access). t ++ walk p d a ys) one.1 ∙ append_assoc old.trace (walk p d a xs) (walk p d a ys)
          ∙ ap (λ (l : List Access). old.trace ++ l) (sym (walk-append p d a xs ys ∙ ap (λ (v : Verdict). walk p d a xs ++ cond (is_good v) (walk p d a ys) []) one.0)),
      other.3 ∙ one.2,
    )
    made_more xs ys old mid new done (Err (halt.Fault fault)) one other =
        let front = other.0 in
        let access = other.1 in
        let rest = other.2 in (
          walk p d a xs ++ front,
          access,
          rest,
          walk-append p d a xs ys ∙ ap (λ (v : Verdict). walk p d a xs ++ cond (is_good v) (walk p d a ys) []) one.0
              ∙ ap (λ (l : List Access). walk p d a xs ++ l) other.3 ∙ sym (append_assoc (walk p d a xs) front (access ∷ rest)),
          other.4 ∙ ap (λ (t : List Access). t ++ (front ++ access ∷ [])) one.1 ∙ append_assoc old.trace (walk p d a xs) (front ++ access ∷ [])
              ∙ ap (λ (l : List Access). old.trace ++ l) (sym (append_assoc (walk p d a xs) front (access ∷ []))),
          subst (λ (n : ℕ). EndsSteps p keys a (items_in p d o access) n (faults new.device) new.last access fault) one.2 other.5,
        )

    -- steps behind one that wasn't done are not made
    pub made_bad : (xs ys : List Step) (old new : Recorded V) (stop : Halt) → AreMade {T = Unit {0}} faults p keys d o a xs old new (Err stop)
        → AreMade {T = Unit {0}} faults p keys d o a (xs ++ ys) old new (Err stop)
    made_bad xs ys old new (halt.Verdict v) made =
        let bad : is_good (steps_verdict p d xs) ≡ false = ap is_good made.0 ∙ made.1 in (
          steps_verdict-append p d xs ys ∙ ap (λ (c : Bool). cond c (steps_verdict p d ys) (steps_verdict p d xs)) bad ∙ made.0,
          made.1,
          made.2 ∙ ap (λ (l : List Access). old.trace ++ l)
              (sym (walk-append p d a xs ys ∙ ap (λ (c : Bool). walk p d a xs ++ cond c (walk p d a ys) []) bad ∙ append-nil (walk p d a xs))),
          made.3,
        )
    made_bad xs ys old new (halt.Fault fault) made =
        let more = cond (is_good (steps_verdict p d xs)) (walk p d a ys) [] in (
          made.0,
          made.1,
          made.2 ++ more,
          walk-append p d a xs ys ∙ ap (λ (l : List Access). l ++ more) made.3 ∙ append_assoc made.0 (made.1 ∷ made.2) more,
          made.4,
          made.5,
        )

  -- one import, by what is counted
  module _ (h counts tails : List ℕ) (counted : AreCounted p d h counts tails) (j i : ℕ) (i_in : i < p.b) (put : first p j ≤ reached p d i) (queue : List Item) (waits : length queue ≡ reached p d i - first p j) where
    abbrev parts : List ℕ
    parts = parts_counted p counts tails i

    abbrev reads : List Access
    reads = import_reads p a i

    sum_is : sum parts ≡ parts_of p d (order p.b h) i
    sum_is = parts_sum p d h counts tails counted i i_in

    verdict_is : step_verdict p d (Import j i) ≡ cond (nat_lt p.q (length queue + sum parts)) (verdict.QueueOverflow i) verdict.Good
    verdict_is = import-counted p d h counted.drawn counted.all counted.fits j i (length queue) (sum parts) i_in put waits sum_is

    pub waits_more : length queue + sum parts ≡ reached p d (i + 1) - first p j
    waits_more = waiting-more p d h counted.drawn counted.all counted.fits j i (length queue) (sum parts) i_in put waits sum_is

    pub waits_few : length queue + sum parts ≤ p.n
    waits_few =
        let few = few-reached p d h counted.drawn counted.all counted.fits (i + 1) (omega arith) (omega arith) in
        omega (arith, waits_more, few)

    whole : (made : ℕ) → made ≡ p.b + 1 → take made reads ≡ walk p d a (Import j i ∷ [])
    whole made all =
        ap (λ (n : ℕ). take n reads) all ∙ take_all (p.b + 1) reads (omega (arith, length-import p a i)) ∙ sym (walk-one p d a (Import j i))

    cut : (x : ℕ) → x < p.b + 1 → walk p d a (Import j i ∷ []) ≡ take x reads ++ read_part p a i x ∷ drop (x + 1) reads
    cut x inside =
        walk-one p d a (Import j i) ∙ sym (take-append-drop (x + 1) reads)
        ∙ ap (λ (l : List Access). l ++ drop (x + 1) reads) (one_read_more p a i x inside)
        ∙ append_assoc (take x reads) (read_part p a i x ∷ []) (drop (x + 1) reads)

    upto : (made x : ℕ) → made ≡ x + 1 → x < p.b + 1 → take made reads ≡ take x reads ++ read_part p a i x ∷ []
    upto made x is inside = ap (λ (n : ℕ). take n reads) is ∙ one_read_more p a i x inside

    pub import_one : (old new : Recorded V) (result : Result (Unit {0}) Halt) → ImportAnswer faults p keys a i parts queue old new result
        → AreMade faults p keys d (order p.b h) a (Import j i ∷ []) old new result
    import_one old new (Ok done) answer =
        let good = verdict_is ∙ ap (λ (c : Bool). cond c (verdict.QueueOverflow i) verdict.Good) (le-ltb p.q (length queue + sum parts) answer.0) in
        let fetched = answer.1 in (
          ap (λ (v : Verdict). first_bad (v ∷ [])) good,
          fetched.trace ∙ ap (λ (l : List Access). old.trace ++ l) (whole fetched.made fetched.answer.0),
          fetched.answer.1,
        )
    import_one old new (Err (halt.Verdict v)) answer =
        let bad = verdict_is ∙ ap (λ (c : Bool). cond c (verdict.QueueOverflow i) verdict.Good) (lt-ltb p.q (length queue + sum parts) answer.1) in
        let fetched = answer.2 in (
          ap (λ (v : Verdict). first_bad (v ∷ [])) bad ∙ sym answer.0,
          ap is_good answer.0,
          fetched.trace ∙ ap (λ (l : List Access). old.trace ++ l) (whole fetched.made fetched.answer.0),
          fetched.answer.1,
        )
    import_one old new (Err (halt.Fault (Device number))) answer =
        let few = answer.few in
        let made = answer.answer.1 in
        let inside : answer.answer.0 < p.b + 1 = omega (arith, few, made) in (
          take answer.answer.0 reads,
          read_part p a i answer.answer.0,
          drop (answer.answer.0 + 1) reads,
          cut answer.answer.0 inside,
          answer.trace ∙ ap (λ (l : List Access). old.trace ++ l) (upto answer.made answer.answer.0 made inside),
          (answer.answer.2, answer.answer.3),
        )
    import_one old new (Err (halt.Fault (Tampered number))) answer =
        let few = answer.few in
        let made = answer.answer.1 in
        let x = answer.answer.0 in
        let inside : x < p.b + 1 = omega (arith, few, made) in (
          take x reads,
          read_part p a i x,
          drop (x + 1) reads,
          cut x inside,
          answer.trace ∙ ap (λ (l : List Access). old.trace ++ l) (upto answer.made x made inside),
          (
            answer.answer.2,
            refl,
            refl,
            subst (λ (n : ℕ). opens p keys (part_slot p i x) a n new.last ≡ false) (part_items p d h counts tails counted i i_in a x inside) answer.answer.3,
            answer.answer.4,
          ),
        )

  -- one output bucket, by what waits
  module _ (o : List ℕ) (told : V → Option (List (List ℕ))) (last_call : V → Option (Op × ℕ)) (j : ℕ) (put : first p j ≤ reached p d (imported p (suc j))) (queue rest : List Item) (waits : length queue ≡ reached p d (imported p (suc j)) - first p j) where
    abbrev written : Access
    written = access_of p a Writes (at Output j)

    put_is : step_verdict p d (Put j) ≡ cond (nat_lt (length queue) (size p j)) (verdict.QueueStarved j) verdict.Good
    put_is = put-counted p d j (length queue) put waits

    enough : size p j ≤ length queue → step_verdict p d (Put j) ≡ verdict.Good
    enough some = put_is ∙ ap (λ (c : Bool). cond c (verdict.QueueStarved j) verdict.Good) (le-ltb (length queue) (size p j) some)

    walked : (v : Verdict) → step_verdict p d (Put j) ≡ v → walk p d a (Put j ∷ []) ≡ cond (is_good v) (written ∷ []) []
    walked v is = walk-one p d a (Put j) ∙ ap (λ (w : Verdict). cond {A = List Access} (is_good w) (written ∷ []) []) is

    pub put_one : (old new : Recorded V) (result : Result (Unit {0}) Halt) → PutAnswer told faults last_call p keys a j queue rest old new result
        → AreMade faults p keys d o a (Put j ∷ []) old new result
    put_one old new (Ok done) answer = (
      ap (λ (v : Verdict). first_bad (v ∷ [])) (enough answer.0),
      answer.2.recorded.trace ∙ ap (λ (l : List Access). old.trace ++ l) (sym (walked verdict.Good (enough answer.0))),
      answer.2.answer,
    )
    put_one old new (Err (halt.Verdict v)) answer =
        let starved = put_is ∙ ap (λ (c : Bool). cond c (verdict.QueueStarved j) verdict.Good) (lt-ltb (length queue) (size p j) answer.1) in (
          ap (λ (v : Verdict). first_bad (v ∷ [])) starved ∙ sym answer.0,
          ap is_good answer.0,
          ap (λ (r : Recorded V). r.trace) answer.3 ∙ sym (append-nil old.trace) ∙ ap (λ (l : List Access). old.trace ++ l) (sym (walked (verdict.QueueStarved j) starved)),
          ap (λ (r : Recorded V). faults r.device) answer.3,
        )
    put_one old new (Err (halt.Fault (Device number))) answer = (
      [],
      written,
      [],
      walked verdict.Good (enough answer.0),
      answer.2.recorded.trace,
      (answer.2.answer.0, answer.2.answer.1),
    )
    put_one old new (Err (halt.Fault (Tampered number))) answer = absurd answer.2.answer

  -- the same of a press that knows its parts
  pub import_made : (h counts tails : List ℕ) (counted : AreCounted p d h counts tails) (j i : ℕ) → i < p.b → first p j ≤ reached p d i → (w : Pressed)
      → w.plan ≡ p → w.run ≡ keys → w.counts ≡ parts_counted p counts tails i → length w.queue ≡ reached p d i - first p j
      → (old new : Recorded V) (result : Result (Unit {0}) Halt) → ImportAnswer faults w.plan w.run a i w.counts w.queue old new result
      → AreMade faults p keys d (order p.b h) a (Import j i ∷ []) old new result
  import_made h counts tails counted j i i_in put w plan run parts waits old new result answer =
      import_one h counts tails counted j i i_in put w.queue waits old new result
      (subst (λ (xs : List ℕ). ImportAnswer faults p keys a i xs w.queue old new result) parts
      (subst (λ (k : Keys). ImportAnswer faults p k a i w.counts w.queue old new result) run
      (subst (λ (q : Sizes). ImportAnswer faults q w.run a i w.counts w.queue old new result) plan answer)))

-- an import keeps the plan of the recorder, and makes so many accesses at most
pub import_keeps : {V : Type 0} (faults : V → ℕ) (p : Sizes) (keys : Keys) (a i : ℕ) (counts : List ℕ) (queue : List Item) (old new : Recorded V) (result : Result (Unit {0}) Halt)
    → ImportAnswer faults p keys a i counts queue old new result → (new.plan ≡ old.plan) × (old.room ≤ new.room + (p.b + 1))
import_keeps faults p keys a i counts queue old new (Ok done) answer =
    (answer.1.plan, let few = answer.1.few in let room = answer.1.room in omega (arith, few, room))
import_keeps faults p keys a i counts queue old new (Err (halt.Verdict v)) answer =
    (answer.2.plan, let few = answer.2.few in let room = answer.2.room in omega (arith, few, room))
import_keeps faults p keys a i counts queue old new (Err (halt.Fault fault)) answer =
    (answer.plan, let few = answer.few in let room = answer.room in omega (arith, few, room))

-- each access takes its room
fetch_totals : {V T : Type 0} (faults : V → ℕ) (p : Sizes) (keys : Keys) (a i : ℕ) (counts : List ℕ) (old new : Recorded V) (result : Result T VaultFault)
    → IsFetched faults p keys a i counts (p.b + 1) old new result → length new.trace + new.room ≡ length old.trace + old.room
fetch_totals faults p keys a i counts old new result fetched =
    let few = fetched.few in
    let room = fetched.room in
    let some = length-take-le fetched.made (import_reads p a i) (omega (arith, few, length-import p a i)) in
    let long = ap length fetched.trace ∙ length-append old.trace (take fetched.made (import_reads p a i)) in
    omega (arith, room, some, long)

pub import_totals : {V : Type 0} (faults : V → ℕ) (p : Sizes) (keys : Keys) (a i : ℕ) (counts : List ℕ) (queue : List Item) (old new : Recorded V) (result : Result (Unit {0}) Halt)
    → ImportAnswer faults p keys a i counts queue old new result → length new.trace + new.room ≡ length old.trace + old.room
import_totals faults p keys a i counts queue old new (Ok done) answer = fetch_totals faults p keys a i counts old new (Ok done) answer.1
import_totals faults p keys a i counts queue old new (Err (halt.Verdict v)) answer = fetch_totals {T = Unit {0}} faults p keys a i counts old new (Ok tt) answer.2
import_totals faults p keys a i counts queue old new (Err (halt.Fault fault)) answer = fetch_totals {T = Unit {0}} faults p keys a i counts old new (Err fault) answer

pub put_totals : {V : Type 0} (told : V → Option (List (List ℕ))) (faults : V → ℕ) (last_call : V → Option (Op × ℕ)) (p : Sizes) (keys : Keys) (a j : ℕ) (queue rest : List Item) (old new : Recorded V) (result : Result (Unit {0}) Halt)
    → PutAnswer told faults last_call p keys a j queue rest old new result → length new.trace + new.room ≡ length old.trace + old.room
put_totals told faults last_call p keys a j queue rest old new (Ok done) answer =
    let room = answer.2.recorded.room in
    let long = ap length answer.2.recorded.trace ∙ length-append old.trace (access_of p a Writes (at Output j) ∷ []) in
    omega (arith, room, long)
put_totals told faults last_call p keys a j queue rest old new (Err (halt.Verdict v)) answer = ap (λ (r : Recorded _). length r.trace + r.room) answer.3
put_totals told faults last_call p keys a j queue rest old new (Err (halt.Fault fault)) answer =
    let room = answer.2.recorded.room in
    let long = ap length answer.2.recorded.trace ∙ length-append old.trace (access_of p a Writes (at Output j) ∷ []) in
    omega (arith, room, long)

-- and reads alone come to its log
pub import_logs : {V : Type 0} (faults : V → ℕ) (p : Sizes) (keys : Keys) (a i : ℕ) (counts : List ℕ) (queue : List Item) (old new : Recorded V) (result : Result (Unit {0}) Halt)
    → ImportAnswer faults p keys a i counts queue old new result → GoesOnReading old.log new.log
import_logs faults p keys a i counts queue old new (Ok done) answer = answer.1.log
import_logs faults p keys a i counts queue old new (Err (halt.Verdict v)) answer = answer.2.log
import_logs faults p keys a i counts queue old new (Err (halt.Fault fault)) answer = answer.log

-- one import more of those of an output bucket
module _ {V : Type 0} (faults : V → ℕ) (p : Sizes) (keys : Keys) (d : Draw) (o : List ℕ) (a j from n : ℕ) where
  next_is : map (Import j) (range_with_len from (suc n)) ≡ map (Import j) (range_with_len from n) ++ Import j (from + n) ∷ []
  next_is = ap (map (Import j)) (range-suc from n) ∙ map-append (Import j) (range_with_len from n) ((from + n) ∷ [])

  pub made_import : (old mid new : Recorded V) (done : Unit {0}) (result : Result (Unit {0}) Halt) → AreMade faults p keys d o a (map (Import j) (range_with_len from n)) old mid (Ok done)
      → AreMade faults p keys d o a (Import j (from + n) ∷ []) mid new result → AreMade faults p keys d o a (map (Import j) (range_with_len from (suc n))) old new result
  made_import old mid new done result so_far one =
      subst (λ (xs : List Step). AreMade faults p keys d o a xs old new result) (sym next_is)
      (made_more faults p keys d a o (map (Import j) (range_with_len from n)) (Import j (from + n) ∷ []) old mid new done result so_far one)

  pub made_imports_bad : (m : ℕ) (old new : Recorded V) (stop : Halt) → n ≤ m → AreMade {T = Unit {0}} faults p keys d o a (map (Import j) (range_with_len from n)) old new (Err stop)
      → AreMade {T = Unit {0}} faults p keys d o a (map (Import j) (range_with_len from m)) old new (Err stop)
  made_imports_bad m old new stop within made =
      let rest : m ≡ n + (m - n) = omega arith in
      let is : map (Import j) (range_with_len from m) ≡ map (Import j) (range_with_len from n) ++ map (Import j) (range_with_len (from + n) (m - n)) =
      ap (λ (k : ℕ). map (Import j) (range_with_len from k)) rest ∙ ap (map (Import j)) (range-add from n (m - n))
      ∙ map-append (Import j) (range_with_len from n) (range_with_len (from + n) (m - n)) in
      subst (λ (xs : List Step). AreMade {T = Unit {0}} faults p keys d o a xs old new (Err stop)) (sym is)
      (made_bad faults p keys d a o (map (Import j) (range_with_len from n)) (map (Import j) (range_with_len (from + n) (m - n))) old new stop made)

-- a put keeps the plan of the recorder, makes one access at most, and takes the front of the queue
pub put_keeps : {V : Type 0} (told : V → Option (List (List ℕ))) (faults : V → ℕ) (last_call : V → Option (Op × ℕ)) (p : Sizes) (keys : Keys) (a j : ℕ) (queue rest : List Item) (old new : Recorded V) (result : Result (Unit {0}) Halt)
    → PutAnswer told faults last_call p keys a j queue rest old new result → (new.plan ≡ old.plan) × (old.room ≤ new.room + 1)
put_keeps told faults last_call p keys a j queue rest old new (Ok done) answer =
    (answer.2.recorded.plan, let room = answer.2.recorded.room in omega (arith, room))
put_keeps told faults last_call p keys a j queue rest old new (Err (halt.Verdict v)) answer =
    (ap (λ (r : Recorded _). r.plan) answer.3, let room = ap (λ (r : Recorded _). r.room) answer.3 in omega (arith, room))
put_keeps told faults last_call p keys a j queue rest old new (Err (halt.Fault fault)) answer =
    (answer.2.recorded.plan, let room = answer.2.recorded.room in omega (arith, room))

-- what is put out then, and what waits
pub put_waits : {V : Type 0} (told : V → Option (List (List ℕ))) (faults : V → ℕ) (last_call : V → Option (Op × ℕ)) (p : Sizes) (d : Draw) (keys : Keys) (a j : ℕ) (queue rest : List Item) (old new : Recorded V) (n : ℕ) (result : Result (Unit {0}) Halt)
    → PutAnswer told faults last_call p keys a j queue rest old new result → first p j ≤ n → length queue ≡ n - first p j
    → OnOk result ((first p (j + 1) ≤ n) × (length rest ≡ n - first p (j + 1)))
put_waits told faults last_call p d keys a j queue rest old new n (Ok done) answer put waits =
    let enough = answer.0 in
    let next = first-more p j in
    let left = ap length answer.1 ∙ length-drop (size p j) queue in
    (omega (arith, enough, next, put, waits), omega (arith, enough, next, put, waits, left))
put_waits told faults last_call p d keys a j queue rest old new n (Err stop) answer put waits = tt

-- one output bucket more
module _ {V : Type 0} (faults : V → ℕ) (p : Sizes) (keys : Keys) (d : Draw) (o : List ℕ) (a : ℕ) where
  abbrev upto_output : ℕ → List Step
  upto_output j = flat_map (steps_of p) (below j)

  pub made_output : (j : ℕ) (old mid new : Recorded V) (done : Unit {0}) (result : Result (Unit {0}) Halt) → AreMade faults p keys d o a (upto_output j) old mid (Ok done)
      → AreMade faults p keys d o a (steps_of p j) mid new result → AreMade faults p keys d o a (upto_output (j + 1)) old new result
  made_output j old mid new done result so_far one =
      let is : upto_output (j + 1) ≡ upto_output j ++ steps_of p j =
      ap (flat_map (steps_of p)) (below-add-one j) ∙ flat_map-append (steps_of p) (below j) (j ∷ [])
      ∙ ap (λ (l : List Step). upto_output j ++ l) (append-nil (steps_of p j)) in
      subst (λ (xs : List Step). AreMade faults p keys d o a xs old new result) (sym is)
      (made_more faults p keys d a o (upto_output j) (steps_of p j) old mid new done result so_far one)

  pub made_outputs_bad : (n m : ℕ) (old new : Recorded V) (stop : Halt) → n ≤ m → AreMade {T = Unit {0}} faults p keys d o a (upto_output n) old new (Err stop)
      → AreMade {T = Unit {0}} faults p keys d o a (upto_output m) old new (Err stop)
  made_outputs_bad n m old new stop within made =
      let rest : m ≡ n + (m - n) = omega arith in
      let is : upto_output m ≡ upto_output n ++ flat_map (steps_of p) (range_with_len n (m - n)) =
      ap upto_output rest ∙ ap (flat_map (steps_of p)) (below-add n (m - n))
      ∙ flat_map-append (steps_of p) (below n) (range_with_len n (m - n)) in
      subst (λ (xs : List Step). AreMade {T = Unit {0}} faults p keys d o a xs old new (Err stop)) (sym is)
      (made_bad faults p keys d a o (upto_output n) (flat_map (steps_of p) (range_with_len n (m - n))) old new stop made)

-- a press is at an import still where no more than the recorder of the floor, the window and the counts have changed
pub still_at : {V : Type 0} (drawn_for : Sizes) (d : Draw) (a j i : ℕ) (f new : Parts V) (w now : Pressed) → new ≡ record f { recorder = new.recorder }
    → now ≡ record w { queue = now.queue; counts = now.counts } → new.recorder.plan ≡ f.recorder.plan
    → w.plan ≡ f.plan → w.run ≡ f.run → drawn_for ≡ f.plan → a < f.plan.attempts → f.recorder.plan ≡ Some f.plan → AreCounted f.plan d (turns_made f) f.counts w.tails
    → first f.plan j ≤ reached f.plan d i → length now.queue ≡ reached f.plan d i - first f.plan j → IsAtImport drawn_for d a j i new now
still_at {V} drawn_for d a j i f new w now floor others kept plan run coins attempt ready counted put waits =
    let plan_is : new.plan ≡ f.plan = ap (λ (x : Parts V). x.plan) floor in
    let attempts = ap (λ (q : Sizes). q.attempts) plan_is in
    record {
      plan = ap (λ (x : Pressed). x.plan) others ∙ plan ∙ sym plan_is;
      run = ap (λ (x : Pressed). x.run) others ∙ run ∙ sym (ap (λ (x : Parts V). x.run) floor);
      coins = coins ∙ sym plan_is;
      attempt = omega (arith, attempts, attempt);
      ready = kept ∙ ready ∙ ap Some (sym plan_is);
      counted = subst (λ (x : Parts V). AreCounted x.plan d (turns_made x) x.counts now.tails) (sym floor)
          (subst (λ (x : Pressed). AreCounted f.plan d (turns_made f) f.counts x.tails) (sym others) counted);
      put = subst (λ (q : Sizes). first q j ≤ reached q d i) (sym plan_is) put;
      waits = waits ∙ ap (λ (q : Sizes). reached q d i - first q j) (sym plan_is);
    }
