use Rattle.std.proofs.Common.{◌+◌, ◌<◌, List, ℕ, [], ◌∷◌, ◌++◌, take, ap, ◌∙◌, arith, length-append}
use Rattle.esa_params.specs.Slots.{at, block_length}
use Rattle.esa_params.specs.declared.slot.Region.TheVariants.{Output}
use Rattle.esa_scans.proofs.ScanLaws.{entries-more, read-failed, read-more}
use Rattle.esa_scans.proofs.scan.gather.Goals as goal

pub gather_block-requires-clause-sealed : goal.gather_block-requires-clause-sealed
gather_block-requires-clause-sealed g c =
    let inside : c.loop-bucket.bucket < c.args.plan.now.b = omega (arith, c.loop-bucket-test.true, c.b-bucket-end.ensures.value) in
    omega (arith, c.requires.sealed (at Output c.loop-bucket.bucket) inside, c.loop-bucket.invariant.sealed)

pub gather_block-requires-clause-plain : goal.gather_block-requires-clause-plain
gather_block-requires-clause-plain g c =
    let inside : c.loop-bucket.bucket < c.args.plan.now.b = omega (arith, c.loop-bucket-test.true, c.b-bucket-end.ensures.value) in
    omega (arith, c.requires.plain (at Output c.loop-bucket.bucket) inside, c.loop-bucket.invariant.plain)

pub returns-in-Err-clause-fault : goal.returns-in-Err-clause-fault
returns-in-Err-clause-fault g c =
    let inside : c.loop-bucket.bucket < c.args.plan.now.b = omega (arith, c.loop-bucket-test.true, c.b-bucket-end.ensures.value) in
    let given = c.loop-bucket.invariant.read in (
      c.loop-bucket.bucket,
      read-failed c.args.plan.now c.args.keys.now c.args.attempt g.V.Device.told g.V.Device.faults g.V.Device.last_call c.args.recorder.now c.loop-bucket.recorder c.gather_block.new.recorder given.0
          (take (block_length c.args.plan.now (at Output c.loop-bucket.bucket)) c.gather_block.new.sealed) c.loop-bucket.bucket given.1 given.2 c.in-Err.fault inside c.in-Err.ensures.read,
    )

pub loop-bucket-preserved : goal.loop-bucket-preserved
loop-bucket-preserved g c =
    let given = c.loop-bucket.invariant.read in
    let bytes : List ℕ = take (block_length c.args.plan.now (at Output c.loop-bucket.bucket)) c.gather_block.new.sealed in
    record {
      read = (
        given.0 ++ bytes ∷ [],
        length-append given.0 (bytes ∷ []) ∙ ap (λ n. n + 1) given.1,
        read-more c.args.plan.now c.args.keys.now c.args.attempt g.V.Device.told g.V.Device.faults g.V.Device.last_call c.args.recorder.now c.loop-bucket.recorder c.gather_block.new.recorder given.0 bytes c.loop-bucket.bucket given.1 given.2 c.in_default.field-0 c.in_default.ensures.read,
        λ key stands.
            entries-more c.args.plan.now c.args.keys.now c.args.attempt key given.0 bytes c.loop-bucket.bucket c.loop-bucket.table.entries c.gather_block.new.table.entries given.1 (given.3 key stands) (c.in_default.ensures.entries key stands),
      );
      next = c.in_default.ensures.next;
      form = c.gather_block.ensures.form ∙ c.loop-bucket.invariant.form;
      records = c.gather_block.ensures.records ∙ c.loop-bucket.invariant.records;
      sealed = c.gather_block.auto.sealed ∙ c.loop-bucket.invariant.sealed;
      plain = c.gather_block.auto.plain ∙ c.loop-bucket.invariant.plain;
    }
