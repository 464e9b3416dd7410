-- Each read of a run gave its block, but the last one.
use Rattle.std.proofs.Common.{◌≡◌, ℕ, List, [], ◌∷◌, ◌++◌, All, Err, subst}
use Rattle.std.proofs.lemmas.List.Elements.{All-weaker}
use Rattle.esa_device.specs.Logs.{Carried}
use Rattle.esa_envelope.specs.declared.keys.Keys.{Keys}
use Rattle.esa_ending.specs.Seen.{turns_in}
use Rattle.esa_floor.specs.Parts.{Parts, ended_as}
use Rattle.esa_floor.specs.Written.{EachUntil, GaveItsBlock, GaveItsOwn}
use Rattle.esa_floor.specs.declared.turn.Outcome.{Outcome}
use Rattle.esa_floor.specs.declared.turn.Outcome.TheVariants as outcome
use Rattle.esa_floor.proofs.Giving.{each_but, gave-ended}
use Rattle.esa_params.specs.Sizes.{Sizes}
use Rattle.esa_press.specs.Contents.{EndsReading}
use Rattle.esa_press.specs.declared.halt.Halt.{Halt}
use Rattle.esa_press.specs.declared.halt.Halt.TheVariants as halt
use Rattle.esa_spec.specs.Draws.{Draw}
use Rattle.esa_spec.specs.Histories.{lists}
use Rattle.esa_spec.specs.declared.event.Verdict.{Verdict}
use Rattle.esa_vault.specs.declared.fault.VaultFault.{VaultFault}
use Rattle.esa_vault.specs.declared.fault.VaultFault.TheVariants as fault
use Rattle.esa_shuffle.specs.Attempts.{end_of, outcome_of}
use Rattle.esa_shuffle.specs.Records.{ReadsOf}
use Rattle.esa_shuffle.proofs.Taken.{turns_stored}

module _ (Fact : Carried → Type 0) where
  -- where the rest of an attempt was not done
  pub rest_gave : (why : Halt) (log : List Carried) → EndsReading {T = Unit {0}} Fact (Err why) log → EachUntil Fact (end_of why) log
  rest_gave (halt.Verdict v) log each = each
  rest_gave (halt.Fault fault) log each = each

  -- at the end of an attempt that ends the run
  pub cut_gave : (why : VaultFault) (log : List Carried) → EachUntil {T = Verdict} Fact (Err why) log → ReadsOf Fact (outcome_of why) log
  cut_gave (fault.Device number) log each = each
  cut_gave (fault.Tampered number) log each = each

  -- by any outcome
  pub any_read : (o : Outcome) (log : List Carried) → All Fact log → ReadsOf Fact o log
  any_read (outcome.Shuffled a) log each = each
  any_read outcome.Overflow log each = each
  any_read (outcome.DeviceFault number) log each = each_but Fact log each
  any_read (outcome.Tampered number) log each = each_but Fact log each
  any_read outcome.BatchFailed log each = each

  pub reads_weaker : (Other : Carried → Type 0) → ((entry : Carried) → Fact entry → Other entry) → (o : Outcome) (log : List Carried)
      → ReadsOf Fact o log → ReadsOf Other o log
  reads_weaker Other then (outcome.Shuffled a) log each = All-weaker Fact Other then log each
  reads_weaker Other then outcome.Overflow log each = All-weaker Fact Other then log each
  reads_weaker Other then (outcome.DeviceFault number) log each = λ x entry inside. then _ (each x entry inside)
  reads_weaker Other then (outcome.Tampered number) log each = λ x entry inside. then _ (each x entry inside)
  reads_weaker Other then outcome.BatchFailed log each = All-weaker Fact Other then log each

-- by the turns that the history has
pub all_gave : {V : Type 0} (ds : ℕ → Draw) (f : Parts V) (o : Outcome) (p : Sizes) (run : Keys) → f.plan ≡ p → f.run ≡ run
    → ReadsOf (GaveItsOwn ds f) o f.recorder.log
    → ReadsOf (GaveItsBlock p run ds (turns_in (lists p.workers (f.history ++ p.workers ∷ [])))) o f.recorder.log
all_gave ds f o p run plan keys gave =
    subst (λ (k : Keys). ReadsOf (GaveItsBlock p k ds (turns_in (lists p.workers (f.history ++ p.workers ∷ [])))) o f.recorder.log) keys
    (subst (λ (q : Sizes). ReadsOf (GaveItsBlock q f.run ds (turns_in (lists q.workers (f.history ++ q.workers ∷ [])))) o f.recorder.log) plan
    (subst (λ (turns : ℕ → List ℕ). ReadsOf (GaveItsBlock f.plan f.run ds turns) o f.recorder.log) (λ i a. turns_stored f o a i)
    (reads_weaker (GaveItsOwn ds f) (GaveItsOwn ds (ended_as f o)) (gave-ended ds f o) o f.recorder.log gave)))
