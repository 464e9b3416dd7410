use Rattle.std.proofs.Common.{inr, arith}
use Rattle.esa_scans.proofs.ScanLaws.{both-read, failed-later}
use Rattle.esa_scans.proofs.scan.both.Goals as goal

pub returns-clause-forwarded : goal.returns-clause-forwarded
returns-clause-forwarded g c = λ key stands.
    let one = c.in_default.ensures.read in
    let two = c.in_default-forward.ensures.read in
    both-read g.V.Device.told g.V.Device.faults c.args.plan.now c.args.keys.now c.args.attempt c.args.recorder.now c.gather.new.recorder c.forward.new.recorder one.0 one.1 one.2
    two.0 key c.args.drops.now c.args.t c.decide.new.self.kept c.gather.new.table.entries c.forward.new.sent.bytes two.1 two.2 (one.3 key stands)
    (λ position below. c.decide.ensures.kept key position stands (omega (arith, below, c.gather.ensures.records, c.requires.records))) two.3

pub returns-in-Err-forward-clause-fault : goal.returns-in-Err-forward-clause-fault
returns-in-Err-forward-clause-fault g c =
    let one = c.in_default.ensures.read in
    let failed = c.in-Err-forward.ensures.fault in (
      failed.0,
      inr (failed-later g.V.Device.told g.V.Device.faults c.args.plan.now c.args.keys.now c.args.attempt c.args.recorder.now c.gather.new.recorder c.forward.new.recorder one.0 one.1 one.2 c.in-Err-forward.fault failed.0 failed.1),
    )
