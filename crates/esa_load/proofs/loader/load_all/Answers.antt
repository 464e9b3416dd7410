-- One bucket more is loaded, or ends the load.
use Rattle.std.proofs.Common.{◌≡◌, ℕ, List, [], refl, ap, ◌∙◌, subst, arith}
use Rattle.esa_load.specs.Loads.{AreGiven, Source, written_blocks}
use Rattle.esa_load.proofs.Giving.{given_none, load_ends, loaded_more}
use Rattle.esa_load.proofs.loader.load_all.Goals as goal

pub loop-bucket-init : goal.loop-bucket-init
loop-bucket-init g c =
    let source : Source = record { faults = g.R.Records.faults c.args.batch.now; heard = g.R.Records.heard c.args.batch.now } in
    record {
      given = ([], given_none c.args.plan.now c.args.run.now (g.R.Records.told c.args.batch.now) (g.R.Records.part (g.R.Records.grounds c.args.batch.now)) c.args.recorder.now source);
      device = refl;
      calm = refl;
      told = refl;
      grounds = refl;
      count = refl;
      size = refl;
    }

pub load_bucket-requires-clause-room : goal.load_bucket-requires-clause-room
load_bucket-requires-clause-room g c =
    let room = c.loop-bucket.invariant.given.1.room in
    omega (arith, room, c.requires.room, c.loop-bucket-test.true, c.b-bucket-end.ensures.value)

pub loop-bucket-preserved : goal.loop-bucket-preserved
loop-bucket-preserved g c =
    let p = c.args.plan.now in
    let k = c.loop-bucket.bucket in
    let inv = c.loop-bucket.invariant in
    let before : Source = record { faults = g.R.Records.faults c.args.batch.now; heard = g.R.Records.heard c.args.batch.now } in
    let between : Source = record { faults = g.R.Records.faults c.loop-bucket.batch; heard = g.R.Records.heard c.loop-bucket.batch } in
    let after : Source = record { faults = g.R.Records.faults c.load_bucket.new.batch; heard = g.R.Records.heard c.load_bucket.new.batch } in
    let more = loaded_more g.V.Device.faults p c.args.run.now (g.R.Records.told c.args.batch.now) (g.R.Records.told c.loop-bucket.batch)
    (g.R.Records.part (g.R.Records.grounds c.args.batch.now)) (g.R.Records.part (g.R.Records.grounds c.loop-bucket.batch)) k inv.given.0 c.load_bucket.new.text
    c.args.recorder.now c.loop-bucket.recorder c.load_bucket.new.recorder before between after inv.told (ap (λ ground. g.R.Records.part ground) inv.grounds)
    c.load_bucket.ensures.long inv.given.1 inv.device inv.calm c.in_default.field-0 c.in_default.ensures.end in
    record {
      given = (more.0, more.1);
      device = more.2;
      calm = more.3;
      told = c.load_bucket.ensures.told ∙ inv.told;
      grounds = c.load_bucket.ensures.grounds ∙ inv.grounds;
      count = c.load_bucket.ensures.count ∙ inv.count;
      size = c.load_bucket.ensures.size ∙ inv.size;
    }

pub returns-in-Err-clause-end : goal.returns-in-Err-clause-end
returns-in-Err-clause-end g c =
    let p = c.args.plan.now in
    let k = c.loop-bucket.bucket in
    let inv = c.loop-bucket.invariant in
    let before : Source = record { faults = g.R.Records.faults c.args.batch.now; heard = g.R.Records.heard c.args.batch.now } in
    let between : Source = record { faults = g.R.Records.faults c.loop-bucket.batch; heard = g.R.Records.heard c.loop-bucket.batch } in
    let after : Source = record { faults = g.R.Records.faults c.load_bucket.new.batch; heard = g.R.Records.heard c.load_bucket.new.batch } in
    load_ends g.V.Device.faults p c.args.run.now (g.R.Records.told c.args.batch.now) (g.R.Records.told c.loop-bucket.batch)
    (g.R.Records.part (g.R.Records.grounds c.args.batch.now)) (g.R.Records.part (g.R.Records.grounds c.loop-bucket.batch)) k inv.given.0 c.load_bucket.new.text
    c.args.recorder.now c.loop-bucket.recorder c.load_bucket.new.recorder before between after inv.told (ap (λ ground. g.R.Records.part ground) inv.grounds)
    c.load_bucket.ensures.long inv.given.1 inv.device inv.calm (omega (arith, c.loop-bucket-test.true, c.b-bucket-end.ensures.value)) c.in-Err.fault c.in-Err.ensures.end

pub returns-clause-end : goal.returns-clause-end
returns-clause-end g c =
    let p = c.args.plan.now in
    let inv = c.loop-bucket.invariant in
    let last : c.loop-bucket.bucket ≡ p.b = omega (arith, c.loop-bucket-test.false, c.b-bucket-end.ensures.value, c.loop-bucket.auto.bucket-end) in
    let all = subst (λ (n : ℕ). (given : List ℕ) × AreGiven p (g.R.Records.told c.args.batch.now) (g.R.Records.part (g.R.Records.grounds c.args.batch.now)) n given (written_blocks p c.args.run.now given n)
    c.args.recorder.now c.loop-bucket.recorder (record { faults = g.R.Records.faults c.args.batch.now; heard = g.R.Records.heard c.args.batch.now })
    (record { faults = g.R.Records.faults c.loop-bucket.batch; heard = g.R.Records.heard c.loop-bucket.batch })) last inv.given in
    (all.0, (all.1, inv.device, inv.calm))
