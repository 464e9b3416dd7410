-- What a batch is shuffled for.
use Rattle.esa_job.specs.declared.command.Command.{Command}
use Rattle.esa_job.specs.declared.command.Command.TheVariants.{Run, Shuffle}
use Rattle.esa_running.specs.declared.purpose.Purpose.{Purpose}
use Rattle.esa_running.specs.declared.purpose.Purpose.TheVariants.{Count, HandOn}

-- the command that shuffles a batch for it
abbrev pub command_for : Purpose → Command
command_for Count = Run
command_for HandOn = Shuffle
