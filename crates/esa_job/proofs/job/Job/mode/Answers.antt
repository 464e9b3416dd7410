use Rattle.std.proofs.Common.{ap, ◌∙◌, is_some}
use Rattle.esa_job.proofs.Acceptance.{mode_at-needed}
use Rattle.esa_job.proofs.job.Job.mode.Goals as goal

pub unwrap-requires : goal.unwrap-requires
unwrap-requires c = ap is_some c.stated_mode.ensures ∙ mode_at-needed _ c.args.self.now.acceptable c.requires
