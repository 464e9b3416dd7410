use Rattle.std.proofs.Common.{◌<◌, ◌^◌, sym, arith}
use Rattle.esa_job.specs.Seen.{request_of}
use Rattle.esa_job.proofs.Acceptance.{within, small}
use Rattle.esa_job.proofs.job.Job.limited_number.Goals as goal

pub overflow_cast-result : goal.overflow_cast-result
overflow_cast-result c =
    let few : c.needed_number.result < 2 ^ 32 = small (request_of c.args.self.now) c.args.self.now.acceptable c.args.field _ c.requires.limited (sym c.needed_number.ensures) in
    omega arith

pub returns-clause-limits : goal.returns-clause-limits
returns-clause-limits c = within (request_of c.args.self.now) c.args.self.now.acceptable c.args.field _ (sym c.needed_number.ensures)
