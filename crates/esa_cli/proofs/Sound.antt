-- What every command keeps while it acts: the files that are told, and counts that fit the status of its work.
use Rattle.std.proofs.Common.{◌≡◌, inl, inr, ℕ, Bool, List, [], Option, refl, sym, ap, subst}
use Rattle.esa_job.specs.declared.command.Command.{Command}
use Rattle.esa_job.specs.declared.command.Command.TheVariants as command
use Rattle.esa_outside.specs.Cause.{Rose}
use Rattle.esa_outside.specs.declared.Role.TheVariants as role
use Rattle.esa_refusal.specs.declared.status.DeviceAt.TheVariants.{Lay, Slot}
use Rattle.esa_refusal.specs.declared.status.Status.{Status}
use Rattle.esa_refusal.specs.declared.status.Status.TheVariants as status
use Rattle.esa_command.specs.Stand.{Stand}
use Rattle.esa_command.specs.Step.{Step, Reads}
use Rattle.esa_command.specs.Work.{Write, Work}
use Rattle.esa_running.specs.declared.purpose.Purpose.{Purpose}
use Rattle.esa_running.specs.declared.purpose.Purpose.TheVariants.{Count, HandOn}
use Rattle.esa_taking.specs.Run.{Asked}
use Rattle.esa_running.specs.RunOwes.{RunOwes}
use Rattle.esa_lists.specs.Files.{Files}
use Rattle.esa_device.specs.Recording.{Recorded}
use Rattle.esa_cli.specs.Meaning.{Used, Meaning, alone, steps_of, meaning_of}

-- what the counts of cabinet and device did, by the status that the work ends with. No work ends with another status
abbrev pub ActCounted : (before now device_before device : ℕ) → List Write → Status → Type 0
ActCounted before now device_before device writes status.Ok = (now ≡ before) × (device ≡ device_before)
ActCounted before now device_before device writes (status.Overflow failures) = (now ≡ before) × (device ≡ device_before)
ActCounted before now device_before device writes (status.Tampered slot) = (now ≡ before) × (device ≡ device_before)
ActCounted before now device_before device writes (status.DeviceFault Lay) = (writes ≡ []) × Rose device_before device
ActCounted before now device_before device writes (status.DeviceFault (Slot slot)) = (now ≡ before) × Rose device_before device
ActCounted before now device_before device writes (status.OutsideFault role.Input) = Rose before now
ActCounted before now device_before device writes other = ⊥

pub record IsSound {V : Type 0} (faults : V → ℕ) (m : Meaning) (used : Used V) : Type 0 where
  pub still : (wanted : m.Wanted) (taken acted : Stand Files) (work : Work) → m.Owes wanted taken acted work → acted.told ≡ taken.told
  pub counts : (wanted : m.Wanted) (taken acted : Stand Files) (work : Work) → m.Owes wanted taken acted work
      → ActCounted taken.faults acted.faults (faults used.recorder.device) (faults used.recorder_now.device) work.writes work.ended

-- ---- a command without a device

sound_alone : {V : Type 0} (faults : V → ℕ) (used : Used V) (steps : Reads → Step Work) → IsSound faults (alone used steps) used
sound_alone faults used steps = record {
  still = λ wanted taken acted work owes. ap (λ c. c.told) owes.as_asked.still;
  counts = λ wanted taken acted work owes.
      subst (ActCounted taken.faults acted.faults (faults used.recorder.device) (faults used.recorder_now.device) work.writes) (sym owes.well)
      (ap (λ c. c.faults) owes.as_asked.still, ap (λ r. faults r.device) owes.untouched.0);
}

-- ---- run and shuffle

module _ {V : Type 0} (purpose : Purpose) (told : V → Option (List (List ℕ))) (faults : V → ℕ) (device : ℕ) (now : Recorded V) (history : List ℕ) (asked : Asked) (taken acted : Stand Files) (work : Work) where
  counted_as : (made : Work) → work ≡ made → ActCounted taken.faults acted.faults device (faults now.device) made.writes made.ended → ActCounted taken.faults acted.faults device (faults now.device) work.writes work.ended
  counted_as made is counts = subst (λ w. ActCounted taken.faults acted.faults device (faults now.device) w.writes w.ended) (sym is) counts

  run_counted : RunOwes purpose told faults device now history asked taken acted work → ActCounted taken.faults acted.faults device (faults now.device) work.writes work.ended
  run_counted owes = elim owes.ends [
    | inl run ↦ counted_as _ run.owed (run.ends.calm.1, run.ends.calm.0)
    | inr (inl over) ↦ counted_as _ over.owed (over.ends.calm.1, over.ends.calm.0)
    | inr (inr (inl failed)) ↦ counted_as _ failed.owed (failed.ends.batch, failed.ends.cause)
    | inr (inr (inr (inl tampered))) ↦ counted_as _ tampered.owed (tampered.ends.calm.1, tampered.ends.calm.0)
    | inr (inr (inr (inr (inl unloaded)))) ↦ counted_as _ unloaded.owed unloaded.ends.cause
    | inr (inr (inr (inr (inr unlaid)))) ↦ counted_as _ unlaid.owed (refl, unlaid.cause)
  ]

-- ---- each command

pub sound_of : {V : Type 0} (told : V → Option (List (List ℕ))) (faults : V → ℕ) (crews : Bool) (used : Used V) (call : Command × List ℕ) → IsSound faults (meaning_of told faults crews used call) used
sound_of told faults crews used (command.Shuffle, name) = record {
  still = λ wanted taken acted work owes. owes.still;
  counts = λ wanted taken acted work owes. run_counted HandOn told faults (faults used.recorder.device) used.recorder_now used.history wanted taken acted work owes;
}
sound_of told faults crews used (command.Run, name) = record {
  still = λ wanted taken acted work owes. owes.still;
  counts = λ wanted taken acted work owes. run_counted Count told faults (faults used.recorder.device) used.recorder_now used.history wanted taken acted work owes;
}
sound_of told faults crews used call = sound_alone faults used (steps_of crews call)
