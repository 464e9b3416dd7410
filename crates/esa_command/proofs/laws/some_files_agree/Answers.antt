use Rattle.esa_command.proofs.Agreeing.{reads_by, agree_by}
use Rattle.esa_command.proofs.laws.some_files_agree.Goals as goal

pub returns : goal.returns
returns c = λ first last given order. (reads_by given, agree_by first last given order)
