-- What run and shuffle take in, and what they are asked for.
use Rattle.std.specs.Prelude.{◌≡◌, ◌⊎◌, ℕ, ◌+◌, ◌*◌, Bool, false, List, length, replicate, Option}
use Rattle.esa_lists.specs.Files.{Files}
use Rattle.esa_outside.specs.Told.{Lacks}
use Rattle.esa_header.specs.Header.{header_length}
use Rattle.esa_params.specs.Form.{envelope_length}
use Rattle.esa_params.specs.Sizes.{Sizes, sizes_of}
use Rattle.esa_spec.specs.Draws.{Draw}
use Rattle.esa_job.specs.declared.command.Command.{Command}
use Rattle.esa_job.specs.declared.command.Command.TheVariants.{Run, Shuffle}
use Rattle.esa_job.specs.declared.drops.DropsRefused.{DropsRefused}
use Rattle.esa_job.specs.declared.drops.DropsRefused.TheVariants.{Line}
use Rattle.esa_job.specs.declared.field.JobField.TheVariants as field
use Rattle.esa_job.specs.Drops.{drops_of}
use Rattle.esa_job.specs.Keys.{Ring}
use Rattle.esa_job.specs.Request.{Request, name_at}
use Rattle.esa_batcher.specs.declared.scan.Scanned.{Scanned}
use Rattle.esa_batcher.specs.Batched.{Batched}
use Rattle.esa_batcher.specs.Reading.{batch_in}
use Rattle.esa_refusal.specs.declared.refusal.Refusal.{Refusal}
use Rattle.esa_refusal.specs.declared.refusal.Refusal.TheVariants as refusal
use Rattle.esa_refusal.specs.declared.source.Source.TheVariants as source
use Rattle.esa_command.specs.Asked.{number_of}
use Rattle.esa_command.specs.Step.{Step, ◌>>=◌, accepted, Reads, file}
use Rattle.esa_command.specs.Taking.{name_of, read_step, job_file, keys_file}
use Rattle.esa_shuffling.specs.Shuffle.{numbers_asked, where_named, turns_file, coins_file}

-- ---- what is asked for

-- the command shuffles a batch
abbrev pub Shuffles : Command → Type 0
Shuffles command = (command ≡ Run) ⊎ (command ≡ Shuffle)

-- the sizes of the shuffle of a batch: by the parameters of the job, and by what the header of the batch says
abbrev pub sizes_with : Request → Scanned → Sizes
sizes_with job batch = sizes_of (numbers_asked job) batch.count batch.form

-- the records of a batch with this header lie inside its file, where the cabinet tells that
abbrev pub IsInside : Option Files → List ℕ → Scanned → Type 0
IsInside told name batch = Lacks told name (header_length batch.form + batch.count * envelope_length batch.form) → ⊥

-- the job, its keys, how many records are dropped of a crowd, the turns that are handed in, the header of the batch, and
-- what is drawn in each attempt
pub record Asked : Type 0 where
  pub job : Request
  pub keys : Ring
  pub drops : List ℕ
  pub turns : List (List ℕ)
  pub batch : Scanned
  pub draws : ℕ → Draw

-- ---- the steps

-- what a drops file is refused for
abbrev pub drops_refusal : DropsRefused → Refusal
drops_refusal (Line line) = refusal.Drops line

-- the drops of a job: none of any crowd where it names no file
abbrev pub read_drops : Command → Reads → List ℕ → Step (List ℕ)
read_drops command read name = file command source.Drops name read >>= λ bytes. read_step drops_refusal (drops_of bytes)

unfoldable pub drops_file : Command → Request → Reads → Step (List ℕ)
drops_file command job read = where_named (name_at job field.Drops) (read_drops command read) (replicate 256 0)

-- what the header of a batch says
abbrev pub header_of : Batched → Scanned
header_of batch = record { form = batch.form; epoch = batch.epoch; count = length batch.list }

-- the batch of a job, which is to have at least as many records as the job says
abbrev pub batch_step : ℕ → List ℕ → Step Scanned
batch_step m bytes = read_step refusal.Batch (batch_in m bytes) >>= λ batch. accepted (header_of batch)

unfoldable pub batch_file : Command → Request → Reads → Step Scanned
batch_file command job read = file command source.Input (name_of job field.Input) read >>= batch_step (number_of job field.M)

-- with all of it
abbrev pub run_drawn : Request → Ring → List ℕ → List (List ℕ) → Scanned → (ℕ → Draw) → Step Asked
run_drawn job keys drops turns batch draws = accepted (record { job = job; keys = keys; drops = drops; turns = turns; batch = batch; draws = draws })

-- with all but the coins: what is drawn
abbrev pub run_batched : Command → Request → Ring → List ℕ → List (List ℕ) → Reads → Scanned → Step Asked
run_batched command job keys drops turns read batch = coins_file command (sizes_with job batch) job read >>= run_drawn job keys drops turns batch

-- with the job, its keys, its drops and its turns: the batch
abbrev pub run_turned : Command → Request → Ring → List ℕ → Reads → List (List ℕ) → Step Asked
run_turned command job keys drops read turns = batch_file command job read >>= run_batched command job keys drops turns read

-- with the job, its keys and its drops: the turns
abbrev pub run_dropped : Command → Request → Ring → Reads → List ℕ → Step Asked
run_dropped command job keys read drops = turns_file command job read >>= run_turned command job keys drops read

-- with the job and its keys: the drops
abbrev pub run_keyed : Command → Request → Reads → Ring → Step Asked
run_keyed command job read keys = drops_file command job read >>= run_dropped command job keys read

-- with the job: its keys
abbrev pub run_asked : Command → Reads → Request → Step Asked
run_asked command read job = keys_file command false job read >>= run_keyed command job read

-- run and shuffle: the job, its keys, its drops, its turns, its batch and its coins
unfoldable pub run_steps : Command → Bool → List ℕ → Reads → Step Asked
run_steps command crew_allowed name read = job_file command crew_allowed name read >>= run_asked command read
