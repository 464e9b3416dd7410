-- What a job asks for.
use Rattle.std.specs.Prelude.{ℕ, ◌==◌, if◌then◌else◌, unwrap_or}
use Rattle.esa_params.specs.declared.form.Form.{Form}
use Rattle.esa_params.specs.declared.form.Form.TheVariants.{One, Two}
use Rattle.esa_job.specs.declared.field.JobField.{JobField}
use Rattle.esa_job.specs.declared.field.JobField.TheVariants as field
use Rattle.esa_job.specs.Request.{Request, number_at}

-- the number at a field, or 0 where the job doesn't say
abbrev pub number_of : Request → JobField → ℕ
number_of job field = unwrap_or (number_at job field) 0

-- form One where the job doesn't say
abbrev pub form_asked : Request → Form
form_asked job = if unwrap_or (number_at job field.Form) 1 == 2 then Two else One
