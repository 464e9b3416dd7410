use Rattle.std.proofs.Common.{◌<◌, ◌^◌, arith}
use Rattle.esa_job.specs.Seen.{request_of}
use Rattle.esa_job.proofs.Acceptance.{within, small}
use Rattle.esa_job.proofs.job.Job.optional_number.Goals as goal

pub overflow_cast-result : goal.overflow_cast-result
overflow_cast-result c =
    let few : c.in-Some.number < 2 ^ 32 = small (request_of c.args.self.now) c.args.self.now.acceptable c.args.field _ c.requires.limited c.in-Some.ensures in
    omega arith

pub returns-in-Some-clause-limits : goal.returns-in-Some-clause-limits
returns-in-Some-clause-limits c = within (request_of c.args.self.now) c.args.self.now.acceptable c.args.field _ c.in-Some.ensures
