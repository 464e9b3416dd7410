-- The reads of an attempt come behind writes of their slots.
use Rattle.std.proofs.Common.{◌≡◌, ℕ, suc, ◌+◌, ◌-◌, ◌≤◌, ◌<◌, ◌⊎◌, inl, inr, cond, List, [], ◌∷◌, ◌++◌, All, get_or, length, map, Some, refl, sym, subst, arith}
use Rattle.std.specs.List.{flat_map, range_with_len}
use Rattle.std.specs.Prelude.{Option, None}
use Rattle.std.proofs.lemmas.List.Concat.{flat_map-cons}
use Rattle.std.proofs.lemmas.List.Elements.{All-append, All-cons, All-head, All-map, All-nil, All-push, All-tail, All-weaker}
use Rattle.std.proofs.lemmas.List.FromFn.{get_or-range_with_len, length-range_with_len}
use Rattle.std.proofs.lemmas.Nat.{mul-add-lt}
use Rattle.esa_laws.proofs.Events.{event-by}
use Rattle.esa_laws.proofs.LengthLaws.{imported-few}
use Rattle.esa_laws.proofs.SpreadLaws.{through-begins}
use Rattle.esa_params.specs.Sizes.{Sizes, below}
use Rattle.esa_params.specs.Slots.{IsPlanned, access_of, at, number_of, slot_number}
use Rattle.esa_params.specs.declared.slot.Access.{Access}
use Rattle.esa_params.specs.declared.slot.Op.TheVariants.{Read as Reads, Write as Writes}
use Rattle.esa_params.specs.declared.slot.Region.TheVariants.{Input, Tail, Output}
use Rattle.esa_spec.specs.Draws.{Draw}
use Rattle.esa_spec.specs.Traces.{asked, chunk_slot, compression, import_reads, made, read_chunk, read_output, scan, spread, step_accesses, through, walk, written_tail}
use Rattle.esa_spec.specs.Turns.{bucket, event_at, event_of, events, order, phase}
use Rattle.esa_spec.specs.Verdicts.{Import, Put, Step, failing, imported, is_good, step_verdict, steps, steps_of}
use Rattle.esa_spec.specs.declared.event.Event.{Event}
use Rattle.esa_running.proofs.EachRead.{all-filter_map, all-front, all-where, writes-append, writes_to}

-- an access of attempt a, behind those that were made in it: what it reads was written in it, or is of the input. The
-- output is read where Good is so
pub record IsIn (p : Sizes) (a : ℕ) (Good : Type 0) (made : List Access) (x : Access) : Type 0 where
  pub attempt : x.attempt ≡ a
  pub planned : x.op ≡ Reads → IsPlanned p (at x.region x.index)
  pub written : x.op ≡ Reads → (x.region ≡ Input) ⊎ (1 ≤ writes_to p (slot_number p x) made)
  pub good : x.op ≡ Reads → x.region ≡ Output → Good

no_read : {A : Type 0} → Writes ≡ Reads → A
no_read is = absurd (cc)

module _ (p : Sizes) (a : ℕ) (Good : Type 0) where
  abbrev In : List Access → Access → Type 0
  In made x = IsIn p a Good made x

  -- more may have been made
  pub in-more : (made more : List Access) (x : Access) → In made x → In (made ++ more) x
  in-more made more x i = record {
    attempt = i.attempt;
    planned = i.planned;
    written = λ reads. elim (i.written reads) [
      | inl input ↦ inl input
      | inr some ↦ let parts = writes-append p (slot_number p x) made more in inr (omega (arith, some, parts))
    ];
    good = i.good;
  }

  pub all-more : (made more xs : List Access) → All (In made) xs → All (In (made ++ more)) xs
  all-more made more xs all = All-weaker (In made) (In (made ++ more)) (in-more made more) xs all

  -- ---- the turns

  asked-in : (g f : ℕ) (x : Access) → asked p a (event_of p.b g f) ≡ Some x → In [] x
  asked-in g f x = event-by (λ e. asked p a e ≡ Some x → In [] x) p.b g f
      (λ g_in phase is. absurd (cc))
      (λ g_in phase is. subst (In []) (the_same (access_of p a Reads (at Input g)) is)
      (record { attempt = refl; planned = λ reads. g_in; written = λ reads. inl refl; good = λ reads output. absurd (cc) }))
      (λ g_in phase is. absurd (cc))
      (λ g_in late is. subst (In []) (the_same (access_of p a Writes (chunk_slot p g (f - 3))) is)
      (record { attempt = refl; planned = no_read; written = no_read; good = λ reads. no_read reads }))
      (λ past is. absurd (cc)) (λ past is. absurd (cc))
    where
      the_same : (y : Access) → Some y ≡ Some x → y ≡ x
      the_same y is = cc is

  events-in : (h : List ℕ) → All (λ (e : Event). (x : Access) → asked p a e ≡ Some x → In [] x) (events p.b h)
  events-in h = All-map (λ (e : Event). (x : Access) → asked p a e ≡ Some x → In [] x) (event_at p.b h) (below (length h))
      (λ k d inside. asked-in (bucket p.b h _) (phase p.b h _))

  made-in : (f : Option ℕ) (es : List Event) → All (λ (e : Event). (x : Access) → asked p a e ≡ Some x → In [] x) es
      → All (λ (e : Event). (x : Access) → asked p a e ≡ Some x → In [] x) (made f es)
  made-in None es all = all
  made-in (Some k) es all = all-front (λ (e : Event). (x : Access) → asked p a e ≡ Some x → In [] x) (through k es) es (through-begins k es) all

  pub spread-in : (d : Draw) (h : List ℕ) → All (In []) (spread p d a h)
  spread-in d h =
      all-filter_map (In []) (asked p a) (made (failing p d (order p.b h)) (events p.b h)) (made-in (failing p d (order p.b h)) (events p.b h) (events-in h))

  -- ---- the tails and the compression

  -- all chunks were written, and all tails
  pub record AreThere (made : List Access) : Type 0 where
    pub chunks : (j i : ℕ) → j < p.b → i < p.b → 1 ≤ writes_to p (number_of p (chunk_slot p j i)) made
    pub tails : (i : ℕ) → i < p.b → 1 ≤ writes_to p (number_of p (at Tail i)) made

  pub tails-in : (made : List Access) (n : ℕ) → All (In made) (map (written_tail p a) (below n))
  tails-in made n = All-map (In made) (written_tail p a) (below n)
      (λ k d inside. record { attempt = refl; planned = no_read; written = no_read; good = λ reads. no_read reads })

  chunk-in : (made : List Access) (i j : ℕ) → i < p.b → j < p.b → AreThere made → In made (read_chunk p a i j)
  chunk-in made i j i_in j_in there = record {
    attempt = refl;
    planned = λ reads. mul-add-lt j p.b i p.b j_in i_in;
    written = λ reads. inr (there.chunks j i j_in i_in);
    good = λ reads output. absurd (cc);
  }

  import-in : (made : List Access) (i : ℕ) → i < p.b → AreThere made → All (In made) (import_reads p a i)
  import-in made i i_in there =
      All-push (In made) (map (read_chunk p a i) (below p.b)) (access_of p a Reads (at Tail i))
      (All-map (In made) (read_chunk p a i) (below p.b)
      (λ k d inside. let long = length-range_with_len 0 p.b in let is = get_or-range_with_len 0 p.b k d (omega (arith, long, inside)) in
      chunk-in made i _ i_in (omega (arith, is, long, inside)) there))
      (record { attempt = refl; planned = λ reads. i_in; written = λ reads. inr (there.tails i i_in); good = λ reads output. absurd (cc) })

  -- a step imports one of the buckets
  abbrev pub StepIn : Step → Type 0
  StepIn (Import j i) = i < p.b
  StepIn (Put j) = Unit {0}

  step-in : (d : Draw) (made : List Access) (x : Step) → StepIn x → AreThere made → All (In made) (step_accesses p d a x)
  step-in d made (Import j i) i_in there = import-in made i i_in there
  step-in d made (Put j) step there =
      let write : Access = access_of p a Writes (at Output j) in
      all-where (In made) (is_good (step_verdict p d (Put j))) (write ∷ [])
      (All-cons (In made) write [] (record { attempt = refl; planned = no_read; written = no_read; good = λ reads. no_read reads }) (All-nil (In made)))

  walk-in : (d : Draw) (made : List Access) (xs : List Step) → All StepIn xs → AreThere made → All (In made) (walk p d a xs)
  walk-in d made [] steps there = All-nil (In made)
  walk-in d made (x ∷ xs) steps there =
      All-append (In made) (step_accesses p d a x) (cond (is_good (step_verdict p d x)) (walk p d a xs) [])
      (step-in d made x (All-head StepIn x xs steps) there)
      (all-where (In made) (is_good (step_verdict p d x)) (walk p d a xs) (walk-in d made xs (All-tail StepIn x xs steps) there))

  imports-in : (j n : ℕ) → imported p j + n ≤ p.b → All StepIn (map (Import j) (range_with_len (imported p j) n))
  imports-in j n few = All-map StepIn (Import j) (range_with_len (imported p j) n)
      (λ k d inside. let long = length-range_with_len (imported p j) n in
      let is = get_or-range_with_len (imported p j) n k d (omega (arith, long, inside)) in omega (arith, is, long, inside, few))

  steps-of-in : (j : ℕ) → All StepIn (steps_of p j)
  steps-of-in j =
      All-push StepIn (map (Import j) (range_with_len (imported p j) (imported p (suc j) - imported p j))) (Put j)
      (imports-in j (imported p (suc j) - imported p j) (let now = imported-few p j in let next = imported-few p (suc j) in omega (arith, now, next))) tt

  all-steps-in : (js : List ℕ) → All StepIn (flat_map (steps_of p) js)
  all-steps-in [] = All-nil StepIn
  all-steps-in (j ∷ js) = subst (All StepIn) (sym (flat_map-cons (steps_of p) j js)) (All-append StepIn (steps_of p j) (flat_map (steps_of p) js) (steps-of-in j) (all-steps-in js))

  pub compression-in : (d : Draw) (made : List Access) (l : Option ℕ) → AreThere made → All (In made) (compression p d a l)
  compression-in d made (Some i) there = All-nil (In made)
  compression-in d made None there = walk-in d made (steps p) (all-steps-in (below p.b)) there

  -- ---- the scans

  pub scan-in : (made : List Access) → ((j : ℕ) → j < p.b → 1 ≤ writes_to p (number_of p (at Output j)) made) → Good → All (In made) (scan p a)
  scan-in made there good = All-map (In made) (read_output p a) (below p.b)
      (λ k d inside. let long = length-range_with_len 0 p.b in let is = get_or-range_with_len 0 p.b k d (omega (arith, long, inside)) in
      let j_in : get_or (below p.b) k d < p.b = omega (arith, is, long, inside) in
      record { attempt = refl; planned = λ reads. j_in; written = λ reads. inr (there (get_or (below p.b) k d) j_in); good = λ reads output. good })
