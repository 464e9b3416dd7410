use Rattle.std.proofs.Common.{arith}
use Rattle.esa_vault.proofs.GetLaws.{gives-latest, gives-told}
use Rattle.esa_vault.proofs.get.get_block.Goals as goal

pub returns-clause-latest : goal.returns-clause-latest
returns-clause-latest g c =
    gives-latest g.V.Device.told g.V.Device.faults g.V.Device.last_call c.args.plan.now c.args.keys.now c.args.slot c.args.attempt c.args.count
    c.read_and_open.new.sealed c.args.plain.now c.read_and_open.new.plain c.args.recorder.now c.read_and_open.new.recorder c.read_and_open.result
    c.read_and_open.ensures.limits c.requires.planned (omega arith) c.read_and_open.ensures.read c.read_and_open.ensures.opened

pub returns-clause-told : goal.returns-clause-told
returns-clause-told g c =
    gives-told g.V.Device.told g.V.Device.faults g.V.Device.last_call c.args.plan.now c.args.keys.now c.args.slot c.args.attempt c.args.count
    c.read_and_open.new.sealed c.args.plain.now c.read_and_open.new.plain c.args.recorder.now c.read_and_open.new.recorder c.read_and_open.result
    c.read_and_open.ensures.limits c.requires.planned (omega arith) c.read_and_open.ensures.read c.read_and_open.ensures.opened c.read_and_open.ensures.bytes
