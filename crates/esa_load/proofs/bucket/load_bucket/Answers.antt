-- The bucket lies among the records of the batch.
use Rattle.std.proofs.Common.{◌≡◌, ◌*◌, ◌++◌, take, drop, sym, ap, ◌∙◌, arith, mul_comm}
use Rattle.std.specs.List.{concat}
use Rattle.esa_params.specs.Form.{envelope_length}
use Rattle.esa_params.specs.Sizes.{first, size}
use Rattle.esa_load.specs.Loads.{Source}
use Rattle.esa_load.proofs.Fitting.{bucket_inside}
use Rattle.esa_load.proofs.Giving.{bucket_ends}
use Rattle.esa_load.proofs.bucket.load_bucket.Goals as goal

pub records-requires : goal.records-requires
records-requires g c =
    let p = c.args.plan.now in
    let j = c.args.bucket in
    let inside = bucket_inside p j in
    let place = c.first.ensures in
    let count = c.requires.count in
    record {
      whole = (
        size p j,
        c.requires.text ∙ mul_comm (envelope_length p.form) (size p j) ∙ ap (λ n. size p j * n) (sym c.requires.size),
        omega (arith, inside, place, count),
      );
    }

pub returns-clause-end : goal.returns-clause-end
returns-clause-end g c =
    let p = c.args.plan.now in
    let j = c.args.bucket in
    let inside = bucket_inside p j in
    let count = c.requires.count in
    let place : c.first.result ≡ first p j = c.first.ensures in
    let part = g.R.Records.part (g.R.Records.grounds c.args.batch.now) in
    let before : Source = record { faults = g.R.Records.faults c.args.batch.now; heard = g.R.Records.heard c.args.batch.now } in
    let after : Source = record { faults = g.R.Records.faults c.records.new.self; heard = g.R.Records.heard c.records.new.self } in
    bucket_ends g.V.Device.faults p c.args.run.now (g.R.Records.told c.args.batch.now) (part (first p j)) j c.records.new.out c.args.recorder.now c.write_bucket.new.recorder before after
    (λ records tells. c.in_default.ensures.records records (size p j) tells
    (c.requires.text ∙ mul_comm (envelope_length p.form) (size p j) ∙ ap (λ n. size p j * n) (sym c.requires.size))
    (omega (arith, inside, place, count))
    ∙ ap (λ n. concat (take (size p j) (drop n records))) place)
    (c.in_default.ensures.heard ∙ ap (λ n. before.heard ++ part n c.records.new.out) place)
    c.in_default.ensures.cause.kept c.write_bucket.ensures.last c.write_bucket.result c.write_bucket.ensures.end
