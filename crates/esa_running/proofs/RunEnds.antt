-- What is owed where a shuffle succeeded, by how the scans of its output went.
use Rattle.std.proofs.Common.{inl, inr, ℕ, List, Option, Err, refl}
use Rattle.std.specs.List.{concat}
use Rattle.esa_device.specs.Recording.{Recorded}
use Rattle.esa_ending.specs.Endings.{Succeeds}
use Rattle.esa_ending.specs.Seen.{Seen}
use Rattle.esa_ending.proofs.FrontLaws.{whole}
use Rattle.esa_floor.specs.declared.turn.Outcome.TheVariants as outcome
use Rattle.esa_job.specs.declared.field.JobField.TheVariants as field
use Rattle.esa_params.specs.Sizes.{ArePlanned}
use Rattle.esa_spec.specs.Draws.{IsDrawn}
use Rattle.esa_spec.specs.Fronts.{Begins}
use Rattle.esa_spec.specs.Traces.{trace}
use Rattle.esa_vault.specs.declared.fault.VaultFault.{VaultFault}
use Rattle.esa_vault.specs.declared.fault.VaultFault.TheVariants.{Device, Tampered}
use Rattle.esa_command.specs.Asked.{number_of}
use Rattle.esa_command.specs.Doing.{failed_work}
use Rattle.esa_shuffle.specs.Runs.{IsShuffled, seen_of}
use Rattle.esa_running.specs.declared.purpose.Purpose.{Purpose}
use Rattle.esa_running.specs.ComingOut.{IsMadeOf}
use Rattle.esa_running.specs.Forwarding.{Forwards, BreaksOff}
use Rattle.esa_taking.specs.Run.{Asked}
use Rattle.esa_running.specs.RunOwes.{fault_status, records_owed, HasShuffled, HasSucceeded, HasEnded}
use Rattle.esa_running.specs.RunWork.{FitFiles, success_work}
use Rattle.esa_taking.specs.Wanted.{sizes_in, turns_by, block_keys, drop_key}
use Rattle.esa_running.proofs.ComingOut.{of_batch}
use Rattle.esa_running.proofs.Fitting.{front_fits}
use Rattle.esa_running.proofs.Shuffled.{shuffled_succeeds, EndsAt, shuffled_fails}
use Rattle.esa_running.proofs.Turned.{few_shuffled}

module _ {V : Type 0} (told : V → Option (List (List ℕ))) (faults : V → ℕ) (asked : Asked) (device batch now : ℕ) (history : List ℕ) (a : ℕ) (old new : Recorded V)
    (s : IsShuffled (sizes_in asked) asked.draws (turns_by asked history) (seen_of faults device batch old history now) a) where
  abbrev seen : Seen
  seen = seen_of faults device batch new history now

  succeeds : (envelopes : List (List ℕ)) → Forwards told faults asked a old new envelopes → Succeeds (sizes_in asked) asked.draws (turns_by asked history) seen a
  succeeds envelopes f =
      shuffled_succeeds told faults (sizes_in asked) asked.draws (turns_by asked history) device batch now history a old new s (block_keys asked) (drop_key asked) asked.drops (number_of asked.job field.T) (concat envelopes) f.forwarded

  module _ (planned : ArePlanned (sizes_in asked)) (drawn : IsDrawn (sizes_in asked) (asked.draws a)) (given : List ℕ) (made : IsMadeOf asked history old.log (outcome.Shuffled a) given) where
    pub succeeded : HasShuffled asked seen old → (purpose : Purpose) (envelopes : List (List ℕ)) → Forwards told faults asked a old new envelopes → HasSucceeded purpose told faults asked given seen new (success_work purpose asked a envelopes new.trace history)
    succeeded shuffled purpose envelopes f =
        let ends = succeeds envelopes f in
        record {
          attempt = a;
          ends = ends;
          shuffled = old;
          made = shuffled;
          envelopes = envelopes;
          forwards = f;
          comes_out = of_batch told faults asked a old new envelopes f history given planned ends.planned drawn ends.good made;
          owed = refl;
        }

  -- one of the scans ended early
  abbrev Broken : VaultFault → Type 0
  Broken fault = EndsAt told faults (sizes_in asked) asked.draws (turns_by asked history) device batch now history a old new s (block_keys asked) fault

  broken : {T : Type 0} (fault : VaultFault) → BreaksOff {V = V} {T = T} told faults asked a old new (Err fault) → Broken fault
  broken {T} fault breaks = shuffled_fails told faults (sizes_in asked) asked.draws (turns_by asked history) device batch now history a old new s T (block_keys asked) fault breaks

  owed : (purpose : Purpose) (given : List ℕ) (fault : VaultFault) → Broken fault → HasEnded purpose told faults asked given seen new (failed_work (fault_status fault) (records_owed asked seen))
  owed purpose given (Device number) ends = inr (inr (inl (record { number = number; ends = ends.end; turns = λ by. ends.turns; owed = refl })))
  owed purpose given (Tampered number) ends = inr (inr (inr (inl (record { number = number; ends = ends.end; turns = λ by. ends.turns; owed = refl }))))

  pub broken_off : {T : Type 0} (purpose : Purpose) (given : List ℕ) (fault : VaultFault) → BreaksOff {V = V} {T = T} told faults asked a old new (Err fault)
      → HasEnded purpose told faults asked given seen new (failed_work (fault_status fault) (records_owed asked seen))
  broken_off purpose given fault breaks = owed purpose given fault (broken fault breaks)

  -- ---- what tells of it fits its files

  module _ (planned : ArePlanned (sizes_in asked)) where
    fits : Begins new.trace (trace (sizes_in asked) asked.draws (turns_by asked history)) → FitFiles (sizes_in asked).workers new.trace history
    fits front = front_fits (sizes_in asked) asked.draws (turns_by asked history) new.trace history planned (few_shuffled asked (seen_of faults device batch old history now) a s) front s.history

    pub success_fits : (envelopes : List (List ℕ)) → Forwards told faults asked a old new envelopes → FitFiles (sizes_in asked).workers new.trace history
    success_fits envelopes f = fits (whole new.trace (trace (sizes_in asked) asked.draws (turns_by asked history)) (succeeds envelopes f).whole)

    broken_front : (fault : VaultFault) → Broken fault → Begins new.trace (trace (sizes_in asked) asked.draws (turns_by asked history))
    broken_front (Device number) ends = ends.end.cut.front
    broken_front (Tampered number) ends = ends.end.cut.front

    pub broken_fits : {T : Type 0} (fault : VaultFault) → BreaksOff {V = V} {T = T} told faults asked a old new (Err fault) → FitFiles (sizes_in asked).workers new.trace history
    broken_fits fault breaks = fits (broken_front fault (broken fault breaks))
