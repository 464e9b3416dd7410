use Rattle.std.proofs.Common.{ap, ◌∙◌, is_some}
use Rattle.esa_job.proofs.Acceptance.{number_at-needed}
use Rattle.esa_job.proofs.job.Job.needed_number.Goals as goal

pub unwrap-requires : goal.unwrap-requires
unwrap-requires c =
    ap is_some c.number_at.ensures ∙ number_at-needed _ c.args.self.now.acceptable _ c.requires.kind c.requires.needed
