-- What is forwarded of the output of a shuffle.
use Rattle.std.specs.Prelude.{◌≡◌, ◌⊎◌, ℕ, ◌≤◌, List, [], length, Option, Result}
use Rattle.std.specs.List.{concat}
use Rattle.esa_device.specs.Recording.{Recorded}
use Rattle.esa_header.specs.Pieces.{HaveLength}
use Rattle.esa_job.specs.declared.field.JobField.TheVariants as field
use Rattle.esa_params.specs.Form.{inner_length}
use Rattle.esa_spec.specs.Traces.{scan}
use Rattle.esa_scans.specs.Forwarded.{HasForwarded}
use Rattle.esa_scans.specs.Scans.{FailsAt}
use Rattle.esa_vault.specs.declared.fault.VaultFault.{VaultFault}
use Rattle.esa_command.specs.Asked.{number_of}
use Rattle.esa_taking.specs.Run.{Asked}
use Rattle.esa_taking.specs.Wanted.{sizes_in, block_keys, drop_key}

-- Both scans of the output were made, what they were given opens, and these inner envelopes are forwarded of it.
pub record Forwards {V : Type 0} (told : V → Option (List (List ℕ))) (faults : V → ℕ) (asked : Asked) (attempt : ℕ) (old new : Recorded V) (envelopes : List (List ℕ)) : Type 0 where
  pub whole : HaveLength (inner_length asked.batch.form) envelopes
  pub forwarded : HasForwarded told faults (sizes_in asked) (block_keys asked) attempt (drop_key asked) asked.drops (number_of asked.job field.T) old new (concat envelopes)

-- one of the two scans ended early: the device failed, or what it gave doesn't open
abbrev pub BreaksOff : {V T : Type 0} → (told : V → Option (List (List ℕ))) → (faults : V → ℕ) → Asked → (attempt : ℕ) → (old new : Recorded V) → Result T VaultFault → Type 0
BreaksOff told faults asked attempt old new result =
    (j : ℕ) × (FailsAt told faults (sizes_in asked) (block_keys asked) attempt [] j old new result
    ⊎ FailsAt told faults (sizes_in asked) (block_keys asked) attempt (scan (sizes_in asked) attempt) j old new result)

-- the bytes are whole inner envelopes of the batch's form, one after another, and no more than the batch has records
pub record AreJoined (asked : Asked) (envelopes : List (List ℕ)) (bytes : List ℕ) : Type 0 where
  pub whole : HaveLength (inner_length asked.batch.form) envelopes
  pub few : length envelopes ≤ asked.batch.count
  pub joined : bytes ≡ concat envelopes
