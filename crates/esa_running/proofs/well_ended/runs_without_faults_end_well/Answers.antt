use Rattle.esa_running.proofs.WellEnds.{ends-well}
use Rattle.esa_running.proofs.well_ended.runs_without_faults_end_well.Goals as goal

pub returns : goal.returns
returns g c = λ purpose told faults before now history asked taken acted work calm owes. ends-well purpose told faults before now history asked taken acted work calm owes
