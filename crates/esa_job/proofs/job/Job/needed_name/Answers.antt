use Rattle.esa_job.proofs.Acceptance.{is_some-before, name_at-needed}
use Rattle.esa_job.proofs.job.Job.needed_name.Goals as goal

pub unwrap-requires : goal.unwrap-requires
unwrap-requires c =
    is_some-before _ _ _ c.name.ensures (name_at-needed _ c.args.self.now.acceptable _ c.requires.kind c.requires.needed)
