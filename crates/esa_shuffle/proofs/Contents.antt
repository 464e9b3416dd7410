-- What the output of an attempt has, and how its log goes on.
use Rattle.std.proofs.Common.{◌≡◌, ℕ, List, [], ◌∷◌, ◌++◌, All, length, map, drop, Result, Ok, Err, refl, sym, ap, ◌∙◌, subst, drop_at}
use Rattle.std.proofs.lemmas.List.{map-append}
use Rattle.esa_device.specs.Logs.{Carried, IsFaithful, Took}
use Rattle.esa_device.specs.Recording.{Recorded}
use Rattle.esa_device.proofs.LogLaws.{faithful-front}
use Rattle.esa_params.specs.Sizes.{Sizes, below}
use Rattle.esa_params.specs.Slots.{at, number_of}
use Rattle.esa_params.specs.declared.slot.Region.TheVariants.{Input}
use Rattle.esa_report.specs.declared.item.Item.{Item}
use Rattle.esa_spec.specs.Draws.{Draw}
use Rattle.esa_spec.specs.Fronts.{Begins}
use Rattle.esa_spec.specs.Traces.{made, spread}
use Rattle.esa_spec.specs.Turns.{events, order}
use Rattle.esa_spec.specs.Verdicts.{failing, is_good, steps}
use Rattle.esa_spec.specs.declared.event.Verdict.TheVariants as verdicts
use Rattle.esa_vault.specs.Seals.{sealed_block}
use Rattle.esa_vault.specs.declared.fault.VaultFault.TheVariants as fault
use Rattle.esa_floor.specs.Keeping.{HasInput, IsInput}
use Rattle.esa_floor.specs.Marks.{roots_of}
use Rattle.esa_floor.specs.Parts.{Parts}
use Rattle.esa_floor.specs.Standing.{turns_made}
use Rattle.esa_floor.specs.declared.floor.Roots.{Roots}
use Rattle.esa_press.specs.Contents.{AreOrders, AreOutputsStored, GoesOnPressing, HoldsDistribution}
use Rattle.esa_press.specs.Drained.{DrainEnd, failed_tail, stored_tail}
use Rattle.esa_press.specs.Stepped.{AreMade}
use Rattle.esa_press.specs.declared.halt.Halt.{Halt}
use Rattle.esa_press.specs.declared.halt.Halt.TheVariants as halt
use Rattle.esa_floor.proofs.Trailing.{SparesSlot, accesses_in, asked_spares, spared, took_on}
use Rattle.esa_shuffle.specs.Attempts.{end_of}

-- the log of a drain goes on
pub drained_log : {V T : Type 0} (faults : V → ℕ) (d : Draw) (o : List ℕ) (a : ℕ) (f new : Parts V) (result : Result T Halt) → DrainEnd faults d o a f new result
    → Begins f.recorder.log new.recorder.log
drained_log faults d o a f new (Ok done) end = (map (stored_tail f a) (below f.plan.b), end.1.log)
drained_log faults d o a f new (Err (halt.Verdict v)) end = (map (stored_tail f a) (below end.0), end.3.log)
drained_log faults d o a f new (Err (halt.Fault (fault.Device number))) end = (map (stored_tail f a) (below end.0) ++ failed_tail f a end.0 ∷ [], end.3.log)
drained_log faults d o a f new (Err (halt.Fault (fault.Tampered number))) never = absurd never

-- so does that of a compression
pub pressed_log : (old new : List Carried) → GoesOnPressing old new → Begins old new
pressed_log old new on = (on.1.more, on.1.longer)

-- a front of a faithful log
pub faithful_before : (p : Sizes) (old new : List Carried) → Begins old new → IsFaithful p new → IsFaithful p old
faithful_before p old new on faithful = faithful-front p old on.0 (subst (IsFaithful p) on.1 faithful)

-- an attempt whose rest was not done is not good
pub drain_bad : {V : Type 0} (faults : V → ℕ) (d : Draw) (o : List ℕ) (a : ℕ) (f new : Parts V) (why : Halt) → DrainEnd {T = Unit {0}} faults d o a f new (Err why)
    → end_of why ≡ Ok verdicts.Good → ⊥
drain_bad faults d o a f new (halt.Verdict v) end good = let left = end.2 in cc (left, good)
drain_bad faults d o a f new (halt.Fault fault) end good = cc good

pub press_bad : {V : Type 0} (faults : V → ℕ) (x : Parts V) (d : Draw) (a : ℕ) (new : Recorded V) (why : Halt)
    → AreMade {T = Unit {0}} faults x.plan x.run d (order x.plan.b (turns_made x)) a (steps x.plan) x.recorder new (Err why) → end_of why ≡ Ok verdicts.Good → ⊥
press_bad faults x d a new (halt.Verdict v) made good =
    let same : v ≡ verdicts.Good = cc good in
    let bad = sym made.1 ∙ ap is_good same in cc bad
press_bad faults x d a new (halt.Fault fault) made good = cc good

-- the output buckets of a floor that the drain left
pub outputs_on : {V : Type 0} (f x : Parts V) (d : Draw) (a : ℕ) (orders : ℕ → List ℕ) (record_of : ℕ → Item) (log : List Carried) → x ≡ record f { recorder = x.recorder; stash = x.stash }
    → (AreOrders x.plan d orders → HoldsDistribution x.plan x.run d (turns_made x) a record_of x.recorder.log → IsFaithful x.plan log
    → AreOutputsStored x.plan x.run d (turns_made x) a record_of x.plan.b log)
    → AreOrders f.plan d orders → HoldsDistribution f.plan f.run d (turns_made f) a record_of x.recorder.log → IsFaithful f.plan log
    → AreOutputsStored f.plan f.run d (turns_made f) a record_of f.plan.b log
outputs_on {V} f x d a orders record_of log same compressed =
    subst (λ (y : Parts V). AreOrders y.plan d orders → HoldsDistribution y.plan y.run d (turns_made y) a record_of x.recorder.log → IsFaithful y.plan log
    → AreOutputsStored y.plan y.run d (turns_made y) a record_of y.plan.b log) same compressed

-- so the input stays while turns are taken
pub input_stays : {V : Type 0} (f g : Parts V) (d : Draw) (a : ℕ) (h : List ℕ) (record_of : ℕ → Item) → roots_of g ≡ roots_of f
    → accesses_in f.recorder.log ≡ f.recorder.trace → accesses_in g.recorder.log ≡ g.recorder.trace → g.recorder.trace ≡ f.recorder.trace ++ spread f.plan d a h
    → Begins f.recorder.log g.recorder.log → IsFaithful f.plan g.recorder.log → HasInput f record_of → HasInput g record_of
input_stays f g d a h record_of origin before after longer on faithful input =
    let more = on.0 in
    let long : length (accesses_in f.recorder.log) ≡ length f.recorder.trace = ap length before in
    let rest : accesses_in more ≡ spread f.plan d a h =
    sym (drop_at (accesses_in f.recorder.log) (accesses_in more) (length f.recorder.trace) long)
    ∙ ap (drop (length f.recorder.trace)) (sym (map-append (λ (entry : Carried). entry.access) f.recorder.log more) ∙ ap accesses_in (sym on.1) ∙ after ∙ longer)
    ∙ drop_at f.recorder.trace (spread f.plan d a h) (length f.recorder.trace) refl in
    subst (λ (r : Roots). IsInput r.plan r.outer r.run record_of g.recorder.log) (sym origin) (record {
      faithful = faithful;
      sealed = λ j j_in.
          let one = input.sealed j j_in in (
            one.0,
            subst (Took f.plan (number_of f.plan (at Input j)) (sealed_block f.plan f.run (at Input j) 0 one.0)) (sym on.1)
                (took_on f.plan (number_of f.plan (at Input j)) (sealed_block f.plan f.run (at Input j) 0 one.0) f.recorder.log more
                (spared f.plan (number_of f.plan (at Input j)) more
                (subst (All (SparesSlot f.plan (number_of f.plan (at Input j)))) (sym rest)
                (asked_spares f.plan a j j_in (made (failing f.plan d (order f.plan.b h)) (events f.plan.b h))))) one.1),
            one.2,
          );
    })
