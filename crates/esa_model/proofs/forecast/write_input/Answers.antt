use Rattle.std.proofs.Common.{◌∙◌, arith}
use Rattle.esa_spec.specs.Traces.{written_input}
use Rattle.esa_model.proofs.StepLemmas.{recorded-more, length-recorded}
use Rattle.esa_model.proofs.forecast.write_input.Goals as goal

pub push-requires : goal.push-requires
push-requires c =
    let so_far = length-recorded (written_input c.args.plan.now) c.loop-bucket.bucket c.args.trace.now c.loop-bucket.trace c.loop-bucket.invariant in
    omega (arith, so_far.0, so_far.1, c.requires, c.loop-bucket-test.true)

pub loop-bucket-preserved : goal.loop-bucket-preserved
loop-bucket-preserved c =
    c.push.ensures
    ∙ recorded-more (written_input c.args.plan.now) c.loop-bucket.bucket c.args.trace.now c.loop-bucket.trace c.access.result c.loop-bucket.invariant c.access.ensures
