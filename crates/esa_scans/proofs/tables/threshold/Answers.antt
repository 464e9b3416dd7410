use Rattle.std.proofs.Common.{Result, Err, subst, arith}
use Rattle.esa_vault.specs.declared.fault.VaultFault.{VaultFault}
use Rattle.esa_envelope.specs.declared.keys.Keys.{Keys}
use Rattle.esa_params.specs.Sizes.{ArePlanned, Sizes}
use Rattle.esa_scans.specs.Forwarded.{HasForwarded}
use Rattle.esa_scans.proofs.FaithfulLaws.{Fails, forwarded-latest, opens-both}
use Rattle.esa_scans.proofs.tables.threshold.Goals as goal

pub returns-clause-latest : goal.returns-clause-latest
returns-clause-latest g c = λ records faithful sealed.
    let told = g.V.Device.told in
    let faults = g.V.Device.faults in
    let key = c.args.dropkey.now in
    let limits = subst ArePlanned c.requires.tables c.scan.ensures.limits in
    let done = c.in_default.ensures.forwarded key c.start-codes.ensures in
    let planned = subst (λ (p : Sizes). HasForwarded told faults p c.prepare.result c.args.attempt key c.args.drops.now c.args.t c.args.recorder.now c.scan.new.recorder c.scan.new.self.forward) c.requires.tables done in
    let keyed = subst (λ (keys : Keys). HasForwarded told faults c.args.plan.now keys c.args.attempt key c.args.drops.now c.args.t c.args.recorder.now c.scan.new.recorder c.scan.new.self.forward) c.prepare.ensures planned in
    forwarded-latest c.args.plan.now c.args.run.now c.args.attempt records limits (omega arith) told faults key c.args.drops.now c.args.t c.args.recorder.now c.scan.new.recorder c.scan.new.self.forward keyed faithful sealed

pub returns-in-Err-clause-opens : goal.returns-in-Err-clause-opens
returns-in-Err-clause-opens g c = λ records slot faithful sealed held.
    let told = g.V.Device.told in
    let faults = g.V.Device.faults in
    let p = c.args.plan.now in
    let limits = subst ArePlanned c.requires.tables c.scan.ensures.limits in
    let old = c.args.recorder.now in
    let new = c.scan.new.recorder in
    let result : Result (Unit {0}) VaultFault = Err c.in-Err.fault in
    let planned : Fails told faults p c.prepare.result c.args.attempt old new result =
    subst (λ (p : Sizes). Fails told faults p c.prepare.result c.args.attempt old new result) c.requires.tables c.in-Err.ensures.fault in
    let keyed : Fails told faults p c.args.run.now c.args.attempt old new result =
    subst (λ (keys : Keys). Fails told faults p keys c.args.attempt old new result) c.prepare.ensures planned in
    opens-both p c.args.run.now c.args.attempt records limits (omega arith) told faults old new result slot keyed faithful sealed held
