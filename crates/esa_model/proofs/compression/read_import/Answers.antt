use Rattle.std.proofs.Common.{ap, ◌∙◌, arith}
use Rattle.esa_params.specs.Slots.{access_of}
use Rattle.esa_params.specs.declared.slot.Op.TheVariants.{Read as Reads}
use Rattle.esa_spec.specs.Traces.{read_chunk}
use Rattle.esa_model.proofs.StepLemmas.{recorded-more, length-recorded}
use Rattle.esa_model.proofs.compression.read_import.Goals as goal

pub push-requires : goal.push-requires
push-requires c =
    let so_far = length-recorded (read_chunk c.args.plan.now c.args.attempt c.args.target) c.loop-bucket.bucket c.args.trace.now c.loop-bucket.trace c.loop-bucket.invariant in
    omega (arith, so_far.0, so_far.1, c.requires.room, c.loop-bucket-test.true)

pub push-requires-2 : goal.push-requires-2
push-requires-2 c =
    let so_far = length-recorded (read_chunk c.args.plan.now c.args.attempt c.args.target) c.loop-bucket.bucket c.args.trace.now c.loop-bucket.trace c.loop-bucket.invariant in
    omega (arith, so_far.0, so_far.1, c.requires.room, c.loop-bucket.auto.bucket-end)

pub loop-bucket-preserved : goal.loop-bucket-preserved
loop-bucket-preserved c =
    c.push.ensures
    ∙ recorded-more (read_chunk c.args.plan.now c.args.attempt c.args.target) c.loop-bucket.bucket c.args.trace.now c.loop-bucket.trace c.access.result c.loop-bucket.invariant
    (c.access.ensures ∙ ap (access_of c.args.plan.now c.args.attempt Reads) c.chunk_slot-slot.ensures.value)
