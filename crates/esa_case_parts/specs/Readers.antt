-- How the reading of a file ends.
use Rattle.std.specs.Prelude.{◌≡◌, ℕ, List, ◌⊎◌, Result, Ok, Err}
use Rattle.esa_job.specs.Refusal.{job_of}
use Rattle.esa_job.specs.Keys.{keys_of}
use Rattle.esa_job.specs.Drops.{drops_of}
use Rattle.esa_job.specs.declared.drops.DropsRefused.{DropsRefused}
use Rattle.esa_job.specs.declared.drops.DropsRefused.TheVariants as drops
use Rattle.esa_batcher.specs.Reading.{batch_in}
use Rattle.esa_refusal.specs.Status.{status_of}
use Rattle.esa_refusal.specs.Stop.{stop_of_job, stop_of_keys, stop_of_batch}
use Rattle.esa_refusal.specs.declared.refusal.Refusal.TheVariants as refusal
use Rattle.esa_refusal.specs.declared.status.Status.{Status}
use Rattle.esa_refusal.specs.declared.status.Status.TheVariants as status
use Rattle.esa_refusal.specs.declared.stop.Stop.{Stop}
use Rattle.esa_refusal.specs.declared.stop.Stop.TheVariants as stop
use Rattle.esa_case_parts.specs.declared.readers.Reader.{Reader}
use Rattle.esa_case_parts.specs.declared.readers.Reader.TheVariants.{Job, Keys, Drops, Batch}

-- the status by what is read, where a reader refuses by these words
abbrev pub status_by : {A E : Type 0} → (E → Stop) → Result A E → Status
status_by stop_of (Ok _) = status.Ok
status_by stop_of (Err refused) = status_of (stop_of refused)

abbrev pub stop_of_drops : DropsRefused → Stop
stop_of_drops (drops.Line line) = stop.Refused (refusal.Drops line)

-- a reader ends so over a file of this name and these bytes, where memory isn't wanted. A batch has two readers, which
-- are to answer alike: where they don't, it ends as a wrong command line
abbrev pub Ends : Reader → List ℕ → List ℕ → Status → Type 0
Ends (Job command crew) name bytes ended = ended ≡ status_by stop_of_job (job_of command crew name bytes)
Ends (Keys command shares) name bytes ended = ended ≡ status_by stop_of_keys (keys_of command shares bytes)
Ends Drops name bytes ended = ended ≡ status_by stop_of_drops (drops_of bytes)
Ends (Batch m) name bytes ended = (ended ≡ status_by stop_of_batch (batch_in m bytes)) ⊎ (ended ≡ status.Usage)
