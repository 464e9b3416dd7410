use Rattle.std.proofs.Common.{sym, ◌∙◌}
use Rattle.esa_params.specs.Slots.{number_of}
use Rattle.esa_params.specs.declared.slot.Op.TheVariants.{Read}
use Rattle.esa_vault.proofs.GetLaws.{number-named, read-gave}
use Rattle.esa_vault.proofs.get.read_and_open.Goals as goal

pub returns-then-not-open_block-clause-bytes : goal.returns-then-not-open_block-clause-bytes
returns-then-not-open_block-clause-bytes g c = λ blocks told.
    read-gave c.read.result blocks _ (number_of c.args.plan.now c.args.slot) c.read.new.out (sym c.is_err.ensures.value ∙ c.if-is_err.false)
    (number-named c.args.recorder.now.plan c.args.plan.now Read c.args.slot c.args.attempt c.access-access.result c.requires.ready c.access-access.ensures)
    (c.read.ensures.bytes blocks told)

pub returns-clause-bytes : goal.returns-clause-bytes
returns-clause-bytes g c = λ blocks told.
    read-gave c.read.result blocks _ (number_of c.args.plan.now c.args.slot) c.read.new.out (sym c.is_err.ensures.value ∙ c.if-is_err.false)
    (number-named c.args.recorder.now.plan c.args.plan.now Read c.args.slot c.args.attempt c.access-access.result c.requires.ready c.access-access.ensures)
    (c.read.ensures.bytes blocks told)
