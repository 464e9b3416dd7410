-- What contracts see in a job.
use Rattle.std.specs.Prelude.{◌≡◌}
use Rattle.esa_job.specs.Asked.{asked}
use Rattle.esa_job.specs.Request.{Request}
use Rattle.esa_job.specs.Table.{need_of}
use Rattle.esa_job.specs.declared.field.JobField.{JobField}
use Rattle.esa_job.specs.declared.field.Need.TheVariants.{Needed}
use Rattle.esa_job.specs.declared.job.Job.{Job}

-- what the job asks for
abbrev pub request_of : Job → Request
request_of job = asked job.command job.object.value

-- the job's command needs the field
abbrev pub Needs : Job → JobField → Type 0
Needs job field = need_of field (request_of job).command ≡ Needed
