-- What the accesses are that come behind the turns of an attempt, and before all turns.
use Rattle.std.proofs.Common.{◌≡◌, ℕ, ◌+◌, Bool, true, false, cond, List, [], ◌∷◌, ◌++◌, map, Err, refl, sym, ap, ◌∙◌, subst, add-one, append_assoc}
use Rattle.std.specs.Prelude.{All}
use Rattle.std.proofs.lemmas.List.Elements.{All-append, All-cons, All-head, All-nil, All-tail}
use Rattle.esa_device.specs.Recording.{Recorded}
use Rattle.esa_envelope.specs.declared.keys.Keys.{Keys}
use Rattle.esa_ending.specs.Seen.{IsBehind}
use Rattle.esa_ending.proofs.HistoryLaws.{ends-in-load}
use Rattle.esa_laws.proofs.HistoryLaws.{lists-first}
use Rattle.esa_laws.proofs.Ranges.{map-below-suc}
use Rattle.esa_params.specs.Sizes.{Sizes, below}
use Rattle.esa_params.specs.Slots.{access_of, at}
use Rattle.esa_params.specs.declared.slot.Access.{Access}
use Rattle.esa_params.specs.declared.slot.Op.TheVariants.{Read as Reads, Write as Writes}
use Rattle.esa_params.specs.declared.slot.Region.TheVariants.{Input, Tail, Output}
use Rattle.esa_spec.specs.Draws.{Draw}
use Rattle.esa_spec.specs.Fronts.{Begins, EndsWith}
use Rattle.esa_spec.specs.Histories.{lists}
use Rattle.esa_spec.specs.Traces.{load, read_chunk, shuffle_trace, step_accesses, walk, written_input, written_tail}
use Rattle.esa_spec.specs.Verdicts.{Import, Put, Step, is_good, step_verdict}
use Rattle.esa_vault.specs.declared.fault.VaultFault.TheVariants as fault
use Rattle.esa_floor.specs.Parts.{Parts}
use Rattle.esa_floor.specs.declared.turn.Outcome.{Outcome}
use Rattle.esa_floor.specs.declared.turn.Outcome.TheVariants as outcome
use Rattle.esa_press.specs.Drained.{DrainEnd}
use Rattle.esa_press.specs.Stepped.{AreMade}
use Rattle.esa_press.specs.declared.halt.Halt.{Halt}
use Rattle.esa_press.specs.declared.halt.Halt.TheVariants as halt
use Rattle.esa_shuffle.specs.Attempts.{EndsBehind, end_of}
use Rattle.esa_shuffle.specs.Loading.{EndsLoad}
use Rattle.esa_shuffle.specs.Runs.{EndWithCut, lists_ended}
use Rattle.esa_shuffle.proofs.Taking.{last_same}

module _ (Fact : Access → Type 0) where
  every-map : {X : Type 0} (f : X → Access) (xs : List X) → ((x : X) → Fact (f x)) → All Fact (map f xs)
  every-map f [] each = All-nil Fact
  every-map f (x ∷ xs) each = All-cons Fact (f x) (map f xs) (each x) (every-map f xs each)

  every-if : (c : Bool) (xs : List Access) → All Fact xs → All Fact (cond c xs [])
  every-if true xs each = each
  every-if false xs each = All-nil Fact

  one-of : (front rest : List Access) (access : Access) → All Fact (front ++ access ∷ rest) → Fact access
  one-of [] rest access each = All-head Fact access rest each
  one-of (x ∷ front) rest access each = one-of front rest access (All-tail Fact x (front ++ access ∷ rest) each)

-- the accesses of the compression
module _ (p : Sizes) (d : Draw) (a : ℕ) where
  step-behind : (x : Step) → All (IsBehind a) (step_accesses p d a x)
  step-behind (Import j i) =
      All-append (IsBehind a) (map (read_chunk p a i) (below p.b)) (access_of p a Reads (at Tail i) ∷ []) (every-map (IsBehind a) (read_chunk p a i) (below p.b) (λ j. (refl, refl)))
      (All-cons (IsBehind a) (access_of p a Reads (at Tail i)) [] (refl, refl) (All-nil (IsBehind a)))
  step-behind (Put j) =
      every-if (IsBehind a) (is_good (step_verdict p d (Put j))) (access_of p a Writes (at Output j) ∷ [])
      (All-cons (IsBehind a) (access_of p a Writes (at Output j)) [] (refl, refl) (All-nil (IsBehind a)))

  walk-behind : (xs : List Step) → All (IsBehind a) (walk p d a xs)
  walk-behind [] = All-nil (IsBehind a)
  walk-behind (x ∷ xs) =
      All-append (IsBehind a) (step_accesses p d a x) (cond (is_good (step_verdict p d x)) (walk p d a xs) []) (step-behind x)
      (every-if (IsBehind a) (is_good (step_verdict p d x)) (walk p d a xs) (walk-behind xs))

-- a drain that was not done ends with the write of a tail
pub drained_behind : {V : Type 0} (faults : V → ℕ) (d : Draw) (o : List ℕ) (a : ℕ) (old new : Parts V) (why : Halt)
    → DrainEnd {T = Unit {0}} faults d o a old new (Err why) → EndsBehind a new.recorder.trace (end_of why)
drained_behind faults d o a old new (halt.Verdict v) end = tt
drained_behind faults d o a old new (halt.Fault (fault.Tampered number)) end = absurd end
drained_behind faults d o a old new (halt.Fault (fault.Device number)) end = λ access ends.
    let i = end.0 in
    let tail = written_tail old.plan a in
    let before = old.recorder.trace ++ map tail (below i) in
    let step : map tail (below (i + 1)) ≡ map tail (below i) ++ tail i ∷ [] = ap (λ (n : ℕ). map tail (below n)) (add-one i) ∙ map-below-suc tail i in
    let trace : new.recorder.trace ≡ before ++ tail i ∷ [] =
    end.3.trace ∙ ap (λ (t : List Access). old.recorder.trace ++ t) step ∙ sym (append_assoc old.recorder.trace (map tail (below i)) (tail i ∷ [])) in
    subst (IsBehind a) (last_same before ends.0 (tail i) access (sym trace ∙ ends.1)) (refl, refl)

-- a compression that was not done ends with one of its accesses
pub pressed_behind : {V : Type 0} (faults : V → ℕ) (p : Sizes) (keys : Keys) (d : Draw) (o : List ℕ) (a : ℕ) (steps : List Step) (old new : Recorded V) (why : Halt)
    → AreMade {T = Unit {0}} faults p keys d o a steps old new (Err why) → EndsBehind a new.trace (end_of why)
pressed_behind faults p keys d o a steps old new (halt.Verdict v) made = tt
pressed_behind faults p keys d o a steps old new (halt.Fault cause) made = λ access ends.
    let one = one-of (IsBehind a) made.0 made.2 made.1 (subst (All (IsBehind a)) made.3 (walk-behind p d a steps)) in
    let trace : new.trace ≡ (old.trace ++ made.0) ++ made.1 ∷ [] = made.4 ∙ sym (append_assoc old.trace made.0 (made.1 ∷ [])) in
    subst (IsBehind a) (last_same (old.trace ++ made.0) ends.0 made.1 access (sym trace ∙ ends.1)) one

-- an access of the load
abbrev OfLoad : Access → Type 0
OfLoad access = (access.op ≡ Writes) × (access.region ≡ Input)

-- a load that the device ended stored no turns, and ends with a write of the input
module _ {V : Type 0} (faults : V → ℕ) (p : Sizes) (ds : ℕ → Draw) (hs : List (List ℕ)) (before now : ℕ) (f : Parts V) (none : f.history ≡ []) where
  nothing : (owner : ℕ) → lists owner (f.history ++ owner ∷ []) ≡ []
  nothing owner = ap (λ (h : List ℕ). lists owner (h ++ owner ∷ [])) none ∙ lists-first owner [] refl

  of_load : Begins f.recorder.trace (shuffle_trace f.plan ds []) → (access : Access) → EndsWith f.recorder.trace access → OfLoad access
  of_load begins access ends =
      let whole : load f.plan ++ [] ≡ ends.0 ++ access ∷ begins.0 =
      begins.1 ∙ ap (λ (t : List Access). t ++ begins.0) ends.1 ∙ append_assoc ends.0 (access ∷ []) begins.0 in
      one-of OfLoad ends.0 begins.0 access
      (subst (All OfLoad) whole (All-append OfLoad (load f.plan) [] (every-map OfLoad (written_input f.plan) (below f.plan.b) (λ j. (refl, refl))) (All-nil OfLoad)))

  pub load_cut : (o : Outcome) → EndsLoad {T = Unit {0}} faults p ds f before now (Err o) → EndWithCut p (lists_ended p f) hs f.recorder.trace o
  load_cut (outcome.DeviceFault number) end = λ access ends.
      let begins = subst (λ (xs : List (List ℕ)). Begins f.recorder.trace (shuffle_trace f.plan ds xs)) (nothing f.plan.workers) end.0.state.2.0 in
      let is = of_load begins access ends in
      ends-in-load p (lists_ended p f) hs access is.0 is.1 (nothing p.workers)
  load_cut (outcome.Tampered number) end = absurd end.2
  load_cut (outcome.Shuffled a) end = tt
  load_cut outcome.Overflow end = tt
  load_cut outcome.BatchFailed end = tt
