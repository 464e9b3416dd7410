-- What a job asks for whose file is a JSON object.
use Rattle.serde_json.specs.View.{view}
use Rattle.serde_json.specs.declared.value.Value.{Value}
use Rattle.esa_job.specs.Request.{Request}
use Rattle.esa_job.specs.declared.command.Command.{Command}

-- the job of this command that the object states
abbrev pub asked : Command → Value → Request
asked command object = record { command = command; object = view object }
