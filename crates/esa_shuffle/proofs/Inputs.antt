-- Which writes of a run are those of the input: as many as there are buckets, all of them in the load.
use Rattle.std.proofs.Common.{◌≡◌, ℕ, zero, suc, ◌+◌, ◌*◌, Bool, true, false, cond, ◌&&◌, List, [], ◌∷◌, ◌++◌, length, map, refl, sym, ap, ◌∙◌, subst, arith, mul-zero}
use Rattle.std.specs.List.{count_by, filter_map}
use Rattle.std.specs.Prelude.{All, Option, Some, None, unwrap_or}
use Rattle.std.proofs.lemmas.List.Elements.{All-append, All-cons, All-head, All-map, All-nil, All-push, All-tail}
use Rattle.std.proofs.lemmas.List.Sums.{sum_by-cons, sum_by-append}
use Rattle.esa_device.specs.Logs.{Carried}
use Rattle.esa_ending.proofs.FrontLaws.{fewer}
use Rattle.esa_envelope.specs.declared.keys.Keys.{Keys}
use Rattle.esa_laws.proofs.Ranges.{map-below-suc}
use Rattle.esa_laws.proofs.SizeLaws.{first-zero}
use Rattle.esa_laws.proofs.Tests.{bit}
use Rattle.esa_load.specs.Loads.{bucket_text, failed_block, written_block, written_blocks}
use Rattle.esa_params.specs.Form.{envelope_length}
use Rattle.esa_params.specs.Sizes.{Sizes, below, first}
use Rattle.esa_params.specs.Slots.{access_of, at, is_writing}
use Rattle.esa_params.specs.declared.slot.Access.{Access}
use Rattle.esa_params.specs.declared.slot.Op.{Op}
use Rattle.esa_params.specs.declared.slot.Op.TheVariants.{Read as Reads, Write as Writes}
use Rattle.esa_params.specs.declared.slot.Region.TheVariants.{Input, Mid, Tail, Output}
use Rattle.esa_spec.specs.Draws.{Draw}
use Rattle.esa_spec.specs.Fronts.{Begins}
use Rattle.esa_spec.specs.Traces.{asked, made, spread, written_input, load, read_chunk, step_accesses, walk, compression, written_tail, drain, rest, attempt_trace, is_failed, attempts, read_output, scan, scans, good_attempt, trace}
use Rattle.esa_spec.specs.Turns.{events, order}
use Rattle.esa_spec.specs.Verdicts.{failing, is_finished, left, Step, Import, Put, steps, step_verdict, is_good}
use Rattle.esa_spec.specs.declared.event.Event.{Event}
use Rattle.esa_spec.specs.declared.event.Event.TheVariants.{Claim, Read, Exchange, Write, Done, Idle}
use Rattle.esa_shuffle.specs.Records.{IsWrittenFrom, TookItsBucket, inputs_written, is_input, writes_input}

-- how many accesses write the input
abbrev pub inputs_asked : List Access → ℕ
inputs_asked xs = count_by writes_input xs

asked-append : (xs ys : List Access) → inputs_asked (xs ++ ys) ≡ inputs_asked xs + inputs_asked ys
asked-append xs ys = omega (arith, sum_by-append (λ x. bit (writes_input x)) xs ys)

-- ---- of the computed trace

abbrev Quiet : List Access → Type 0
Quiet xs = inputs_asked xs ≡ 0

quiet-append : (xs ys : List Access) → Quiet xs → Quiet ys → Quiet (xs ++ ys)
quiet-append xs ys f g = omega (arith, asked-append xs ys, f, g)

quiet-one : (x : Access) → writes_input x ≡ false → Quiet (x ∷ [])
quiet-one x none = omega (arith, sum_by-cons (λ x. bit (writes_input x)) x [], ap bit none)

quiet-if : (c : Bool) (xs : List Access) → Quiet xs → Quiet (cond c xs [])
quiet-if true xs q = q
quiet-if false xs q = refl

quiet-map : (f : ℕ → Access) (m : ℕ) → ((i : ℕ) → writes_input (f i) ≡ false) → Quiet (map f (below m))
quiet-map f zero each = refl
quiet-map f (suc m) each = subst Quiet (sym (map-below-suc f m)) (quiet-append (map f (below m)) (f m ∷ []) (quiet-map f m each) (quiet-one (f m) (each m)))

module _ (p : Sizes) where
  quiet-turns : (a : ℕ) (es : List Event) → Quiet (filter_map (asked p a) es)
  quiet-turns a [] = refl
  quiet-turns a (Claim j ∷ es) = quiet-turns a es
  quiet-turns a (Read j ∷ es) =
      quiet-append (access_of p a Reads (at Input j) ∷ []) (filter_map (asked p a) es) (quiet-one (access_of p a Reads (at Input j)) refl) (quiet-turns a es)
  quiet-turns a (Exchange j ∷ es) = quiet-turns a es
  quiet-turns a (Write j i ∷ es) =
      quiet-append (access_of p a Writes (at Mid (j * p.b + i)) ∷ []) (filter_map (asked p a) es) (quiet-one (access_of p a Writes (at Mid (j * p.b + i))) refl) (quiet-turns a es)
  quiet-turns a (Done ∷ es) = quiet-turns a es
  quiet-turns a (Idle ∷ es) = quiet-turns a es

  quiet-step : (d : Draw) (a : ℕ) (x : Step) → Quiet (step_accesses p d a x)
  quiet-step d a (Import j i) =
      quiet-append (map (read_chunk p a i) (below p.b)) (access_of p a Reads (at Tail i) ∷ []) (quiet-map (read_chunk p a i) p.b (λ k. refl)) (quiet-one (access_of p a Reads (at Tail i)) refl)
  quiet-step d a (Put j) = quiet-if (is_good (step_verdict p d (Put j))) (access_of p a Writes (at Output j) ∷ []) (quiet-one (access_of p a Writes (at Output j)) refl)

  quiet-walk : (d : Draw) (a : ℕ) (xs : List Step) → Quiet (walk p d a xs)
  quiet-walk d a [] = refl
  quiet-walk d a (x ∷ xs) =
      quiet-append (step_accesses p d a x) (cond (is_good (step_verdict p d x)) (walk p d a xs) []) (quiet-step d a x)
      (quiet-if (is_good (step_verdict p d x)) (walk p d a xs) (quiet-walk d a xs))

  quiet-compression : (d : Draw) (a : ℕ) (l : Option ℕ) → Quiet (compression p d a l)
  quiet-compression d a (Some i) = refl
  quiet-compression d a None = quiet-walk d a (steps p)

  quiet-drain : (d : Draw) (a : ℕ) (l : Option ℕ) → Quiet (drain p d a l)
  quiet-drain d a l =
      quiet-append (map (written_tail p a) (below (unwrap_or l p.b))) (compression p d a l) (quiet-map (written_tail p a) (unwrap_or l p.b) (λ i. refl)) (quiet-compression d a l)

  quiet-rest : (d : Draw) (a : ℕ) (h : List ℕ) (f : Option ℕ) → Quiet (rest p d a h f)
  quiet-rest d a h (Some k) = refl
  quiet-rest d a h None = quiet-if (is_finished p d h) (drain p d a (left p d (order p.b h))) (quiet-drain d a (left p d (order p.b h)))

  quiet-attempt : (d : Draw) (a : ℕ) (h : List ℕ) → Quiet (attempt_trace p d a h)
  quiet-attempt d a h =
      let f = failing p d (order p.b h) in
      quiet-append (spread p d a h) (rest p d a h f) (quiet-turns a (made f (events p.b h))) (quiet-rest d a h f)

  quiet-attempts : (ds : ℕ → Draw) (a : ℕ) (hs : List (List ℕ)) → Quiet (attempts p ds a hs)
  quiet-attempts ds a [] = refl
  quiet-attempts ds a (h ∷ hs) =
      quiet-append (attempt_trace p (ds a) a h) (cond (is_failed p (ds a) h) (attempts p ds (a + 1) hs) []) (quiet-attempt (ds a) a h)
      (quiet-if (is_failed p (ds a) h) (attempts p ds (a + 1) hs) (quiet-attempts ds (a + 1) hs))

  quiet-scans : (o : Option ℕ) → Quiet (scans p o)
  quiet-scans None = refl
  quiet-scans (Some a) = let one = quiet-map (read_output p a) p.b (λ j. refl) in quiet-append (scan p a) (scan p a) one one

  loads : (m : ℕ) → inputs_asked (map (written_input p) (below m)) ≡ m
  loads zero = refl
  loads (suc m) =
      ap inputs_asked (map-below-suc (written_input p) m) ∙ omega (arith, asked-append (map (written_input p) (below m)) (written_input p m ∷ []), loads m)

  -- a whole run writes as many blocks of the input as there are buckets
  trace-inputs : (ds : ℕ → Draw) (hs : List (List ℕ)) → inputs_asked (trace p ds hs) ≡ p.b
  trace-inputs ds hs =
      omega (
        arith,
        asked-append (load p ++ attempts p ds 0 hs) (scans p (good_attempt p ds 0 hs)),
        asked-append (load p) (attempts p ds 0 hs),
        loads p.b,
        quiet-attempts ds 0 hs,
        quiet-scans (good_attempt p ds 0 hs),
      )

-- ---- of a log

abbrev accesses_in : List Carried → List Access
accesses_in log = map (λ (entry : Carried). entry.access) log

log-inputs : (log : List Carried) → inputs_written log ≡ inputs_asked (accesses_in log)
log-inputs [] = refl
log-inputs (entry ∷ log) =
    omega (
      arith,
      sum_by-cons (λ (e : Carried). bit (writes_input e.access)) entry log,
      sum_by-cons (λ x. bit (writes_input x)) entry.access (accesses_in log),
      log-inputs log,
    )

pub written-append : (xs ys : List Carried) → inputs_written (xs ++ ys) ≡ inputs_written xs + inputs_written ys
written-append xs ys = omega (arith, sum_by-append (λ (entry : Carried). bit (writes_input entry.access)) xs ys)

module _ (p : Sizes) (run : Keys) (given : List ℕ) where
  abbrev Took : Carried → Type 0
  Took = TookItsBucket p run given

  -- what writes no input took no bucket
  pub none_took : (log : List Carried) → inputs_written log ≡ 0 → All Took log
  none_took [] none = All-nil Took
  none_took (entry ∷ log) none =
      let both : bit (writes_input entry.access) + inputs_written log ≡ 0 = sym (sum_by-cons (λ (e : Carried). bit (writes_input e.access)) entry log) ∙ none in
      All-cons Took entry log (λ bytes writes there. absurd (let one = ap bit writes in omega (arith, one, both))) (none_took log (omega (arith, both)))

  -- so a log goes on whose accesses begin the computed trace, where the whole input was written before
  pub written_on : (ds : ℕ → Draw) (hs : List (List ℕ)) (old new : List Carried) (accesses : List Access) → Begins old new → inputs_written old ≡ p.b → accesses_in new ≡ accesses
      → Begins accesses (trace p ds hs) → IsWrittenFrom p run given old → IsWrittenFrom p run given new
  written_on ds hs old new accesses on all are front before =
      let whole = trace-inputs p ds hs in
      let few = fewer writes_input accesses (trace p ds hs) front in
      let these : inputs_written new ≡ inputs_asked accesses = log-inputs new ∙ ap inputs_asked are in
      let parts : inputs_written new ≡ inputs_written old + inputs_written on.0 = ap inputs_written on.1 ∙ written-append old on.0 in
      let rest : inputs_written on.0 ≡ 0 = omega (arith, whole, few, these, parts, all) in
      let same : inputs_written old ≡ inputs_written new = omega (arith, parts, rest) in
      record {
        took = subst (All Took) (sym on.1) (All-append Took old on.0 before.took (none_took on.0 rest));
        count = before.count ∙ ap (λ n. envelope_length p.form * first p n) same;
      }

  -- ---- of a load

  abbrev blocks : ℕ → List Carried
  blocks k = written_blocks p run given k

  pub blocks_count : (k : ℕ) → inputs_written (blocks k) ≡ k
  blocks_count zero = refl
  blocks_count (suc k) =
      let one : Carried = written_block p run k (bucket_text p given k) in
      ap inputs_written (map-below-suc (λ j. written_block p run j (bucket_text p given j)) k) ∙ omega (arith, written-append (blocks k) (one ∷ []), blocks_count k)

  blocks_took : (k : ℕ) → All Took (blocks k)
  blocks_took k = All-map Took (λ j. written_block p run j (bucket_text p given j)) (below k) (λ x d inside bytes writes there. cc there)

  pub written_well : (k : ℕ) → length given ≡ envelope_length p.form * first p k → IsWrittenFrom p run given (blocks k)
  written_well k long = record { took = blocks_took k; count = long ∙ ap (λ n. envelope_length p.form * first p n) (sym (blocks_count k)) }

  pub written_badly : (k : ℕ) → length given ≡ envelope_length p.form * first p (k + 1) → IsWrittenFrom p run given (blocks k ++ failed_block p k ∷ [])
  written_badly k long =
      let these : k + 1 ≡ inputs_written (blocks k ++ failed_block p k ∷ []) = omega (arith, written-append (blocks k) (failed_block p k ∷ []), blocks_count k) in
      record {
        took = All-push Took (blocks k) (failed_block p k) (blocks_took k) (λ bytes writes there. absurd (cc there));
        count = long ∙ ap (λ n. envelope_length p.form * first p n) these;
      }

-- nothing is written from no bytes
pub written_nothing : (p : Sizes) (run : Keys) → IsWrittenFrom p run [] []
written_nothing p run = record {
  took = All-nil (TookItsBucket p run []);
  count = sym (ap (λ n. envelope_length p.form * n) (first-zero p) ∙ mul-zero (envelope_length p.form));
}

-- reads write no input
reads_inputs : (more : List Carried) → All (λ (entry : Carried). entry.access.op ≡ Reads) more → inputs_written more ≡ 0
reads_inputs [] read = refl
reads_inputs (entry ∷ more) read =
    let none : bit (writes_input entry.access) ≡ 0 = ap (λ (o : Op). bit (is_writing o && is_input entry.access.region)) (All-head (λ (entry : Carried). entry.access.op ≡ Reads) entry more read) in
    let rest = reads_inputs more (All-tail (λ (entry : Carried). entry.access.op ≡ Reads) entry more read) in
    omega (arith, none, rest, sum_by-cons (λ (entry : Carried). bit (writes_input entry.access)) entry more)

pub written_read : (p : Sizes) (run : Keys) (given : List ℕ) (old more : List Carried) → All (λ (entry : Carried). entry.access.op ≡ Reads) more → IsWrittenFrom p run given old
    → IsWrittenFrom p run given (old ++ more)
written_read p run given old more read before =
    let none = reads_inputs more read in
    let same : inputs_written old ≡ inputs_written (old ++ more) = omega (arith, none, written-append old more) in
    record {
      took = All-append (TookItsBucket p run given) old more before.took (none_took p run given more none);
      count = before.count ∙ ap (λ n. envelope_length p.form * first p n) same;
    }

-- the same for other names of the plan and the keys
pub written_by : (p q : Sizes) (run keys : Keys) (given : List ℕ) (log : List Carried) → p ≡ q → run ≡ keys → IsWrittenFrom p run given log → IsWrittenFrom q keys given log
written_by p q run keys given log plan_is run_is written =
    subst (λ (k : Keys). IsWrittenFrom q k given log) run_is (subst (λ (x : Sizes). IsWrittenFrom x run given log) plan_is written)
