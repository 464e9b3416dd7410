-- What encode takes in, writes and prints.
use Rattle.std.specs.Prelude.{ℕ, Bool, is_some, List, [], ◌∷◌, length, codes, Option, Some, None, unwrap_or, Result}
use Rattle.esa_bytes.specs.Lines.{text_lines}
use Rattle.esa_envelope.specs.declared.keys.Keys.{Keys}
use Rattle.esa_envelope.specs.declared.label.Label.{Label}
use Rattle.esa_envelope.specs.declared.label.Label.TheVariants.{Inner, Outer}
use Rattle.esa_envelope.specs.Keys.{record_keys}
use Rattle.esa_encoder.specs.declared.submission.EncodeRefused.{EncodeRefused}
use Rattle.esa_encoder.specs.Encoded as encoder
use Rattle.esa_encoder.specs.Report.{Shape, itself}
use Rattle.esa_shares.specs.Share.{share_shape}
use Rattle.esa_job.specs.declared.command.Command.TheVariants as command
use Rattle.esa_job.specs.declared.field.JobField.TheVariants as field
use Rattle.esa_job.specs.Request.{Request, number_at}
use Rattle.esa_job.specs.Keys.{Ring}
use Rattle.esa_refusal.specs.declared.source.Source.TheVariants as source
use Rattle.esa_refusal.specs.declared.source.Sink.TheVariants.{Output}
use Rattle.esa_refusal.specs.declared.status.Status.TheVariants as status
use Rattle.esa_refusal.specs.Refusal.{numbered}
use Rattle.esa_refusal.specs.Stop.{encode_refusal}
use Rattle.esa_command.specs.Asked.{number_of, form_asked}
use Rattle.esa_command.specs.Step.{Step, ◌>>=◌, accepted, Reads, file}
use Rattle.esa_command.specs.Taking.{name_of, read_step, job_file, keys_file}
use Rattle.esa_command.specs.Work.{Work}

-- ---- the submissions of reports

-- the keys that seal the envelopes of a label, for the form and the epoch that a job asks for
abbrev pub sealing_keys : Request → List ℕ → Label → Keys
sealing_keys job master label = record_keys (form_asked job) (number_of job field.Epoch) master label

-- whether a job asks for shares
abbrev pub has_shares : Request → Bool
has_shares job = is_some (number_at job field.Shares)

-- what is sent in place of a value: a share of it, where it is said how many shares give it back, and else itself
abbrev pub shape_by : (shares : Option ℕ) → (key : List ℕ) → Shape
shape_by None key = itself
shape_by (Some t) key = share_shape t key

-- the submissions of reports, by what a job asks for and under its keys
abbrev pub encoded_by : Request → Ring → List ℕ → Result (List ℕ) EncodeRefused
encoded_by job ring reports =
    encoder.encoded_by (shape_by (number_at job field.Shares) (unwrap_or ring.share []))
    (form_asked job) (sealing_keys job (unwrap_or ring.outer []) Outer) (sealing_keys job (unwrap_or ring.inner []) Inner)
    (number_of job field.NonceBase) reports

-- the submissions, and the number of their lines
abbrev pub sealed : Request → Ring → List ℕ → Step (List ℕ × ℕ)
sealed job ring reports = read_step encode_refusal (encoded_by job ring reports) >>= λ bytes. accepted (bytes, length (text_lines reports))

-- ---- the steps

-- the reports of a job, sealed
unfoldable pub reports_file : Request → Ring → Reads → Step (List ℕ × ℕ)
reports_file job ring read = file command.Encode source.Input (name_of job field.Input) read >>= sealed job ring

-- the line that tells how many were encoded
abbrev pub encoded_text : ℕ → List ℕ
encoded_text lines = numbered (codes "encoded ") lines

-- the submissions are written, and their number is printed
abbrev pub encode_work : (output submissions : List ℕ) → ℕ → Work
encode_work output submissions lines = record {
  ended = status.Ok;
  writes = record { sink = Output; name = output; bytes = submissions } ∷ [];
  prints = encoded_text lines ∷ [];
}

abbrev pub encode_sealed : Request → List ℕ × ℕ → Step Work
encode_sealed job made = accepted (encode_work (name_of job field.Output) made.0 made.1)

-- with the job and the keys: the reports
abbrev pub encode_keyed : Request → Reads → Ring → Step Work
encode_keyed job read ring = reports_file job ring read >>= encode_sealed job

-- with the job: its keys, and that of shares where it asks for them
abbrev pub encode_asked : Reads → Request → Step Work
encode_asked read job = keys_file command.Encode (has_shares job) job read >>= encode_keyed job read

-- encode: the job, its keys and its reports
unfoldable pub encode_steps : Bool → List ℕ → Reads → Step Work
encode_steps crew_allowed name read = job_file command.Encode crew_allowed name read >>= encode_asked read
