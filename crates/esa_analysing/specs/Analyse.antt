-- What analyse takes in, writes and prints.
use Rattle.std.specs.Prelude.{◌≡◌, ℕ, ◌*◌, ◌/◌, ◌≤◌, Bool, false, List, [], ◌∷◌, ◌++◌, length, codes, unwrap_or}
use Rattle.esa_params.specs.declared.form.Form.{Form}
use Rattle.esa_params.specs.Form.{inner_length}
use Rattle.esa_envelope.specs.declared.label.Label.TheVariants.{Inner}
use Rattle.esa_envelope.specs.Keys.{record_keys}
use Rattle.esa_header.specs.Pieces.{pieces}
use Rattle.esa_job.specs.declared.command.Command.{Command}
use Rattle.esa_job.specs.declared.command.Command.TheVariants.{Analyse}
use Rattle.esa_job.specs.declared.field.JobField.TheVariants as field
use Rattle.esa_job.specs.Request.{Request}
use Rattle.esa_job.specs.Keys.{Ring}
use Rattle.esa_threshold.specs.declared.envelopes.Forwarded.{Forwarded}
use Rattle.esa_threshold.specs.Forward.{forward_in}
use Rattle.esa_analyser.specs.Database.{Database}
use Rattle.esa_analyser.specs.Rows.{database_bytes}
use Rattle.esa_analyser.specs.Opened.{database_of}
use Rattle.esa_refusal.specs.declared.refusal.Refusal.TheVariants as refusal
use Rattle.esa_refusal.specs.declared.source.Sink.TheVariants.{Output}
use Rattle.esa_refusal.specs.declared.source.Source.TheVariants as source
use Rattle.esa_refusal.specs.declared.status.Status.TheVariants as status
use Rattle.esa_refusal.specs.Refusal.{numbered}
use Rattle.esa_command.specs.Step.{Step, ◌>>=◌, accepted, Reads, file}
use Rattle.esa_command.specs.Taking.{name_of, read_step, job_file, keys_file}
use Rattle.esa_command.specs.Work.{Work}

-- the number of envelopes, and each of them
abbrev pub number_of : Forwarded → ℕ
number_of forwarded = length forwarded.envelopes / inner_length forwarded.form

abbrev pub envelopes_of : Forwarded → List (List ℕ)
envelopes_of forwarded = pieces (inner_length forwarded.form) (number_of forwarded) forwarded.envelopes

-- the envelopes are whole, and no more than a batch has
abbrev pub AreWhole : Forwarded → Type 0
AreWhole forwarded = (length forwarded.envelopes ≡ inner_length forwarded.form * number_of forwarded) × (number_of forwarded ≤ 262144)

-- the database of the envelopes, by the inner keys of their form and epoch
abbrev pub counted_by : List ℕ → Forwarded → Database
counted_by master forwarded = database_of (record_keys forwarded.form forwarded.epoch master Inner) (envelopes_of forwarded)

-- the line that tells how much a database holds
abbrev pub counted_text : Database → List ℕ
counted_text database = numbered (codes "rows ") (length database.rows) ++ numbered (codes " unopened ") database.unopened

-- a database is written, and its line is printed
abbrev pub database_work : List ℕ → Form → Database → Work
database_work output form database = record {
  ended = status.Ok;
  writes = record { sink = Output; name = output; bytes = database_bytes form database } ∷ [];
  prints = counted_text database ∷ [];
}

-- the forward file of a job
unfoldable pub forward_file : Command → Request → Reads → Step Forwarded
forward_file command request read =
    file command source.Input (name_of request field.Input) read >>= λ bytes. read_step refusal.Forward (forward_in bytes)

-- what comes of the forward file
abbrev pub analyse_master_work : Request → List ℕ → Forwarded → Work
analyse_master_work job master forwarded = database_work (name_of job field.Output) forwarded.form (counted_by master forwarded)

abbrev pub analyse_work : Request → Ring → Forwarded → Work
analyse_work job ring forwarded = analyse_master_work job (unwrap_or ring.inner []) forwarded

-- with the job and the keys: the forward file
abbrev pub analyse_keyed : Request → Reads → Ring → Step Work
analyse_keyed job read ring = forward_file Analyse job read >>= λ forwarded. accepted (analyse_work job ring forwarded)

-- with the job: its keys
abbrev pub analyse_asked : Reads → Request → Step Work
analyse_asked read job = keys_file Analyse false job read >>= analyse_keyed job read

-- analyse: the job, its keys and its forward file
unfoldable pub analyse_steps : Bool → List ℕ → Reads → Step Work
analyse_steps crew_allowed name read = job_file Analyse crew_allowed name read >>= analyse_asked read
