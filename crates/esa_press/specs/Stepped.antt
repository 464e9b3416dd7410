-- The steps of a compression over the memory: how they end, and which accesses they make.
use Rattle.std.specs.Prelude.{◌≡◌, ℕ, ◌-◌, ◌*◌, ◌<◌, ◌≤◌, false, List, [], ◌∷◌, ◌++◌, length, map, slice_index, None, Some, Result, Ok, Err}
use Rattle.esa_device.specs.Recording.{Recorded}
use Rattle.esa_envelope.specs.declared.keys.Keys.{Keys}
use Rattle.esa_floor.specs.Parts.{Parts, count_at}
use Rattle.esa_floor.specs.Standing.{turns_made}
use Rattle.esa_spec.specs.Fronts.{items_in}
use Rattle.esa_outside.specs.Cause.{Rose}
use Rattle.esa_params.specs.Sizes.{Sizes, below, first}
use Rattle.esa_params.specs.Slots.{at, slot_number}
use Rattle.esa_params.specs.declared.slot.Access.{Access}
use Rattle.esa_params.specs.declared.slot.Op.TheVariants.{Read as Reads}
use Rattle.esa_spec.specs.Draws.{Draw, IsDrawn}
use Rattle.esa_spec.specs.Lines.{backlog, chunk}
use Rattle.esa_spec.specs.Places.{exchange_of}
use Rattle.esa_spec.specs.Traces.{walk}
use Rattle.esa_spec.specs.Turns.{order, writes}
use Rattle.esa_spec.specs.Verdicts.{Step, first_bad, is_good, left, reached, step_verdict}
use Rattle.esa_spec.specs.declared.event.Verdict.TheVariants.{Good}
use Rattle.esa_vault.specs.Seals.{opens}
use Rattle.esa_vault.specs.declared.fault.VaultFault.{VaultFault}
use Rattle.esa_vault.specs.declared.fault.VaultFault.TheVariants.{Device, Tampered}
use Rattle.esa_press.specs.Pressed.{Pressed}
use Rattle.esa_press.specs.declared.halt.Halt.{Halt}
use Rattle.esa_press.specs.declared.halt.Halt.TheVariants.{Verdict, Fault}

-- how many items each part of the import of the target i has: each chunk, and the tail
abbrev pub parts_counted : Sizes → List ℕ → List ℕ → ℕ → List ℕ
parts_counted p counts tails i = map (λ j. count_at p.b counts j i) (below p.b) ++ slice_index tails i ∷ []

-- the turns h have written all chunks, no target has left more than a tail, and chunks and tails are counted
pub record AreCounted (p : Sizes) (d : Draw) (h counts tails : List ℕ) : Type 0 where
  pub drawn : IsDrawn p d
  pub all : writes p.b h ≡ p.b * p.b
  pub fits : left p d (order p.b h) ≡ None
  pub chunks : (j i : ℕ) → j < p.b → i < p.b → count_at p.b counts j i ≡ length (chunk p d (order p.b h) (exchange_of (order p.b h) j) i)
  pub waits : (i : ℕ) → i < p.b → slice_index tails i ≡ backlog p d (order p.b h) p.b i

-- a press is of a floor and of its draws, whose chunks and tails are counted, and its queue has as many items as were reached
-- with i targets and not put with j output buckets
pub record IsAtImport {V : Type 0} (drawn_for : Sizes) (d : Draw) (a j i : ℕ) (f : Parts V) (w : Pressed) : Type 0 where
  pub plan : w.plan ≡ f.plan
  pub run : w.run ≡ f.run
  pub coins : drawn_for ≡ f.plan
  pub attempt : a < f.plan.attempts
  pub ready : f.recorder.plan ≡ Some f.plan
  pub counted : AreCounted f.plan d (turns_made f) f.counts w.tails
  pub put : first f.plan j ≤ reached f.plan d i
  pub waits : length w.queue ≡ reached f.plan d i - first f.plan j

-- why the last access ended the steps: it failed, or it was a read of this attempt and gave a block that doesn't open for as
-- many items as are counted
abbrev pub EndsSteps : Sizes → Keys → ℕ → ℕ → ℕ → ℕ → List ℕ → Access → VaultFault → Type 0
EndsSteps p keys a count before now last access (Device number) = (number ≡ slot_number p access) × Rose before now
EndsSteps p keys a count before now last access (Tampered number) =
    (number ≡ slot_number p access) × (access.op ≡ Reads) × (access.attempt ≡ a)
    × (opens p keys (at access.region access.index) a count last ≡ false) × (now ≡ before)

-- steps are made up to the first that can't be done, with just the accesses of the definition. Where an access ended them, it
-- is the last of those
abbrev pub AreMade : {V T : Type 0} → (V → ℕ) → Sizes → Keys → Draw → List ℕ → ℕ → List Step → Recorded V → Recorded V → Result T Halt → Type 0
AreMade faults p keys d o a steps old new (Ok done) =
    (first_bad (map (step_verdict p d) steps) ≡ Good) × (new.trace ≡ old.trace ++ walk p d a steps) × (faults new.device ≡ faults old.device)
AreMade faults p keys d o a steps old new (Err (Verdict v)) =
    (first_bad (map (step_verdict p d) steps) ≡ v) × (is_good v ≡ false) × (new.trace ≡ old.trace ++ walk p d a steps)
    × (faults new.device ≡ faults old.device)
AreMade faults p keys d o a steps old new (Err (Fault fault)) =
    (front : List Access) × (access : Access) × (rest : List Access) × (walk p d a steps ≡ front ++ access ∷ rest)
    × (new.trace ≡ old.trace ++ (front ++ access ∷ []))
    × EndsSteps p keys a (items_in p d o access) (faults old.device) (faults new.device) new.last access fault
