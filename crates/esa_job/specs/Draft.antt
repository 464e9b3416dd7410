-- What contracts see in a job before it is judged.
use Rattle.esa_job.specs.Asked.{asked}
use Rattle.esa_job.specs.Request.{Request}
use Rattle.esa_job.specs.declared.draft.Draft.{Draft}

-- what the job asks for
abbrev pub drafted : Draft → Request
drafted draft = asked draft.command draft.object
