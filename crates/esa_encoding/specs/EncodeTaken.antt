-- What encode has taken in.
use Rattle.std.specs.Prelude.{ℕ, List}
use Rattle.esa_job.specs.declared.field.JobField.TheVariants as field
use Rattle.esa_job.specs.Seen.{request_of}
use Rattle.esa_command.specs.Taking.{name_of}
use Rattle.esa_command.specs.Work.{Work}
use Rattle.esa_encoding.specs.declared.encode_command.Sealed.{Sealed}
use Rattle.esa_encoding.specs.declared.encode_command.EncodeInput.{EncodeInput}
use Rattle.esa_encoding.specs.Encode.{encode_work}

abbrev pub sealed_as : Sealed → List ℕ × ℕ
sealed_as sealed = (sealed.submissions.items, sealed.lines)

-- what is to be done with it
abbrev pub encode_taken : EncodeInput → Work
encode_taken input = encode_work (name_of (request_of input.job) field.Output) input.sealed.submissions.items input.sealed.lines
