-- A floor after the load.
use Rattle.std.proofs.Common.{◌≡◌, true, false, ℕ, ◌+◌, ◌-◌, ◌<◌, ◌≤◌, Option, List, [], ◌∷◌, ◌++◌, length, map, Result, Ok, Err, refl, sym, ap, ◌∙◌, subst, arith, add-one}
use Rattle.std.proofs.lemmas.List.{length-map, map-append}
use Rattle.std.proofs.lemmas.List.FromFn.{length-range_with_len}
use Rattle.std.specs.List.{range_with_len}
use Rattle.esa_device.specs.Recording.{Recorded}
use Rattle.esa_envelope.specs.declared.keys.Keys.{Keys}
use Rattle.esa_laws.proofs.Ranges.{below-add, map-below-suc}
use Rattle.esa_outside.specs.Cause.{Rose}
use Rattle.esa_outside.specs.Heard.{Event}
use Rattle.esa_params.specs.Sizes.{Sizes, below}
use Rattle.esa_params.specs.declared.slot.Access.{Access}
use Rattle.esa_spec.specs.Draws.{Draw}
use Rattle.esa_spec.specs.Fronts.{Begins, EndsWith}
use Rattle.esa_spec.specs.Histories.{begun}
use Rattle.esa_spec.specs.Traces.{load, written_input}
use Rattle.esa_device.specs.Logs.{Carried, IsFaithful}
use Rattle.esa_floor.specs.Ends.{IsLoading}
use Rattle.esa_floor.specs.Keeping.{IsInput}
use Rattle.esa_floor.specs.Parts.{Parts, ended_as}
use Rattle.esa_floor.specs.Standing.{IsOf, Stands}
use Rattle.esa_floor.specs.declared.turn.Outcome.{Outcome}
use Rattle.esa_floor.specs.declared.turn.Outcome.TheVariants as outcome
use Rattle.esa_load.specs.Loads.{AreGiven, LoadEnd, Source, failed_block, written_blocks}
use Rattle.esa_load.specs.declared.fault.LoadFault.{LoadFault}
use Rattle.esa_load.specs.declared.fault.LoadFault.TheVariants.{Batch, Device}
use Rattle.esa_crew.specs.Loads.{IsLoaded}
use Rattle.esa_crew.proofs.Finishing.{batch_fails, load_fails}
use Rattle.esa_shuffle.specs.Loading.{EndsLoad, HasGiven, IsGiven, IsUnbegun, TakesBatch, TakesInput}
use Rattle.esa_shuffle.specs.Records.{IsWrittenFrom, inputs_written, record_at}
use Rattle.esa_shuffle.proofs.Inputs.{blocks_count, written_well}

-- where the log is faithful, it has the records that were given as its input
abbrev pub IsInputOfLog : Sizes → Keys → Keys → List ℕ → List Carried → Type 0
IsInputOfLog p outer run given log = IsFaithful p log → IsInput p outer run (record_at p outer given) log

module _ {V : Type 0} (faults : V → ℕ) (p : Sizes) (ds : ℕ → Draw) (f : Parts V) (new : IsUnbegun faults p ds f) (r : Recorded V)
    (told : Option (List (List ℕ))) (part : ℕ → List ℕ → List Event) (given : List ℕ) (before after : Source)
  where
    abbrev loaded : Parts V
    loaded = record f { recorder = r }

    none_begun : begun f.plan.workers f.history ≡ 0
    none_begun = new.none_begun

    room_left : length f.history < f.room
    room_left = new.room

    -- the writes of the first k buckets were asked for
    module _ (k : ℕ) (entries : List Carried) (are : AreGiven f.plan told part k given entries f.recorder r before after) where
      trace_is : r.trace ≡ map (written_input f.plan) (below k)
      trace_is = are.trace ∙ ap (λ (t : List Access). t ++ map (written_input f.plan) (below k)) new.trace

      -- its log has the writes of the load alone
      pub log_is : f.recorder.log ≡ [] → r.log ≡ entries
      log_is none = are.log ∙ ap (λ (l : List Carried). l ++ entries) none

      length_is : length r.trace ≡ k
      length_is = ap length trace_is ∙ length-map (below k) (written_input f.plan) ∙ length-range_with_len 0 k

      of_loaded : IsOf p loaded
      of_loaded = record {
        plan = new.stands.of.plan;
        ready = are.plan ∙ new.stands.of.ready;
        room = let most = new.stands.of.room in let none = ap length new.trace in let long = length_is in let left = are.room in omega (arith, most, none, long, left);
        entries = new.stands.of.entries;
      }

      front : k ≤ f.plan.b → Begins r.trace (load f.plan)
      front within = (
        map (written_input f.plan) (range_with_len k (f.plan.b - k)),
        (let whole : f.plan.b ≡ k + (f.plan.b - k) = omega (arith, within) in
            ap (λ (n : ℕ). map (written_input f.plan) (below n)) whole ∙ ap (map (written_input f.plan)) (below-add k (f.plan.b - k))
            ∙ map-append (written_input f.plan) (below k) (range_with_len k (f.plan.b - k))
            ∙ ap (λ (t : List Access). t ++ map (written_input f.plan) (range_with_len k (f.plan.b - k))) (sym trace_is)),
      )

      loading : k ≤ f.plan.b → IsLoading p ds loaded
      loading within = record {
        of = of_loaded;
        room = room_left;
        drawn = new.stands.drawn;
        none_begun = none_begun;
        trace = front within;
      }

    -- a load of the floor's plan and keys, on its recorder
    pub moved : {T : Type 0} (q : Sizes) (run : Keys) (old : Recorded V) (result : Result T LoadFault) → q ≡ f.plan → run ≡ f.run → old ≡ f.recorder
        → LoadEnd faults q run told part given old r before after result → LoadEnd faults f.plan f.run told part given f.recorder r before after result
    moved q run old result same_plan same_run same end =
        subst (λ (o : Recorded V). LoadEnd faults f.plan f.run told part given o r before after result) same
        (subst (λ (k : Keys). LoadEnd faults f.plan k told part given old r before after result) same_run
        (subst (λ (x : Sizes). LoadEnd faults x run told part given old r before after result) same_plan end))

    pub is_loaded : AreGiven f.plan told part f.plan.b given (written_blocks f.plan f.run given f.plan.b) f.recorder r before after
        → faults r.device ≡ faults f.recorder.device → IsLoaded faults p ds loaded
    is_loaded are calm = record {
      of = of_loaded f.plan.b (written_blocks f.plan f.run given f.plan.b) are;
      room = room_left;
      drawn = new.stands.drawn;
      attempts = let some = new.planned.parameters.attempts_least in omega (arith, some);
      none_begun = none_begun;
      goes_on = new.outcome;
      trace = trace_is f.plan.b (written_blocks f.plan f.run given f.plan.b) are;
      calm = calm ∙ new.calm;
    }

    pub batch_ends : (j : ℕ) → LoadEnd {T = Unit {0}} faults f.plan f.run told part given f.recorder r before after (Err (Batch j))
        → EndsLoad {T = Unit {0}} faults p ds loaded before.faults after.faults (Err outcome.BatchFailed)
    batch_ends j end =
        let entries = written_blocks f.plan f.run given j in
        let long = length_is j entries end.1 in
        let inside = end.0 in (
          batch_fails faults p ds loaded (loading j entries end.1 (omega (arith, inside))) (end.2 ∙ new.calm),
          ((let short : length r.trace < f.plan.b = omega (arith, long, inside) in short), end.3),
          tt,
        )

    pub device_ends : (number : ℕ) → LoadEnd {T = Unit {0}} faults f.plan f.run told part given f.recorder r before after (Err (Device number))
        → EndsLoad {T = Unit {0}} faults p ds loaded before.faults after.faults (Err (outcome.DeviceFault number))
    device_ends number end =
        let j = end.0 in
        let entries = written_blocks f.plan f.run given j ++ failed_block f.plan j ∷ [] in
        let inside = end.1 in
        let last : EndsWith r.trace (written_input f.plan j) = (
          map (written_input f.plan) (below j),
          trace_is (j + 1) entries end.3 ∙ ap (λ (n : ℕ). map (written_input f.plan) (below n)) (add-one j) ∙ map-below-suc (written_input f.plan) j,
        ) in (
          subst (λ (n : ℕ). Stands faults p ds (ended_as loaded (outcome.DeviceFault n))) (sym end.2)
              (load_fails faults p ds loaded (loading (j + 1) entries end.3 (omega (arith, inside))) (written_input f.plan j) last
              (subst (λ (n : ℕ). Rose n (faults r.device)) new.calm end.4)),
          end.5,
          tt,
        )

    -- the floor takes what was given as its input
    takes_input : AreGiven f.plan told part f.plan.b given (written_blocks f.plan f.run given f.plan.b) f.recorder r before after
        → IsInputOfLog f.plan f.outer f.run given (f.recorder.log ++ written_blocks f.plan f.run given f.plan.b) → TakesInput loaded given
    takes_input are is faithful =
        subst (IsInput f.plan f.outer f.run (record_at f.plan f.outer given)) (sym are.log) (is (subst (IsFaithful f.plan) are.log faithful))

    -- what was given
    given_of : (all : Type 0) (k : ℕ) (entries : List Carried) → k ≤ f.plan.b → AreGiven f.plan told part k given entries f.recorder r before after
        → (all → k ≡ f.plan.b) → IsGiven f.plan told part before.heard after.heard all given
    given_of all k entries few are whole = record {
      count = k;
      few = few;
      bytes = are.bytes;
      as_told = are.as_told;
      heard = are.heard;
      whole = whole;
    }

    pub all_given : AreGiven f.plan told part f.plan.b given (written_blocks f.plan f.run given f.plan.b) f.recorder r before after
        → IsInputOfLog f.plan f.outer f.run given (f.recorder.log ++ written_blocks f.plan f.run given f.plan.b)
        → (done : Unit {0}) → HasGiven f.plan told part before.heard after.heard (true ≡ true) (TakesBatch f loaded (Ok done))
    all_given are is done =
        let blocks = written_blocks f.plan f.run given f.plan.b in
        record {
          given = given;
          load = given_of (true ≡ true) f.plan.b blocks (omega arith) are (λ _. refl);
          became = record {
            written = λ none. subst (IsWrittenFrom f.plan f.run given) (sym (log_is f.plan.b blocks are none)) (written_well f.plan f.run given f.plan.b are.bytes);
            whole = λ none. ap inputs_written (log_is f.plan.b blocks are none) ∙ blocks_count f.plan f.run given f.plan.b;
            input = takes_input are is;
          };
        }

    pub some_given : (k : ℕ) (entries : List Carried) → k ≤ f.plan.b → AreGiven f.plan told part k given entries f.recorder r before after
        → IsWrittenFrom f.plan f.run given entries → (o : Outcome) → HasGiven f.plan told part before.heard after.heard (false ≡ true) (TakesBatch {T = Unit {0}} f loaded (Err o))
    some_given k entries few are written o = record {
      given = given;
      load = given_of (false ≡ true) k entries few are (λ (never : false ≡ true). absurd (cc never));
      became = record {
        written = λ none. subst (IsWrittenFrom f.plan f.run given) (sym (log_is k entries are none)) written;
        whole = λ none. tt;
        input = tt;
      };
    }

-- the same, where it is all under another condition
pub given_where : (p : Sizes) (told : Option (List (List ℕ))) (part : ℕ → List ℕ → List Event) (before after : List Event) (all other : Type 0) (given : List ℕ) → (other → all)
    → IsGiven p told part before after all given → IsGiven p told part before after other given
given_where p told part before after all other given so load = record {
  count = load.count;
  few = load.few;
  bytes = load.bytes;
  as_told = load.as_told;
  heard = load.heard;
  whole = λ is. load.whole (so is);
}
