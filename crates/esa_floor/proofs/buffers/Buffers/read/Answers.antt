-- The text is the one that was sealed, and that of the bytes that were given.
use Rattle.std.proofs.Common.{ap, subst, rules}
use Rattle.std.specs.Prelude.{OnOk}
use Rattle.esa_params.specs.Sizes.{Sizes}
use Rattle.esa_floor.specs.Keeping.{OpensTo}
use Rattle.esa_floor.specs.Working.{Buffered}
use Rattle.esa_floor.proofs.Keeping.{opens_ok}
use Rattle.esa_floor.proofs.buffers.Buffers.read.Goals as goal

pub returns-clause-opens : goal.returns-clause-opens
returns-clause-opens g c =
    let p = c.self.inside.plan in
    let j = c.args.bucket in
    let a = c.args.attempt in
    let keys = c.args.keys.now in
    let text = c.read_first.new.text.items in
    let old = c.args.recorder.now in
    let new = c.read_first.new.recorder in
    subst (λ (q : Sizes). OnOk c.read_first.result (OpensTo q keys a j text old new))
    (ap (λ (b : Buffered). b.plan) c.self.view_is)
    (opens_ok g.V.Device.told g.V.Device.faults g.V.Device.last_call p keys a j _ _ _ text old new c.read_first.result
    c.read_first.ensures.read c.read_first.ensures.opened c.read_first.ensures.latest (search rules))
