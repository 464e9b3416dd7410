use Rattle.std.proofs.Common.{ap, ◌∙◌}
use Rattle.esa_batcher.specs.Finishing.{epoch_of}
use Rattle.esa_batcher.proofs.GatheringLaws.{sorted_batch, sorted_others}
use Rattle.esa_batcher.proofs.batcher.Batcher.finish.Goals as goal

pub invariant_of-result : goal.invariant_of-result
invariant_of-result c =
    sorted_batch c.self.inside c.args.self c.self.view_is c.self.invariant c.sort.new.self c.sort.ensures.form c.sort.ensures.list c.args.epoch c.epoch_for-epoch.result
    (c.epoch_for-epoch.ensures ∙ ap (λ form. epoch_of form c.args.epoch) c.form.ensures) c.ranges.epoch.fits

pub returns-clause-is : goal.returns-clause-is
returns-clause-is c =
    sorted_batch c.self.inside c.args.self c.self.view_is c.self.invariant c.sort.new.self c.sort.ensures.form c.sort.ensures.list c.args.epoch c.epoch_for-epoch.result
    (c.epoch_for-epoch.ensures ∙ ap (λ form. epoch_of form c.args.epoch) c.form.ensures) c.ranges.epoch.fits

pub returns-clause-any_order : goal.returns-clause-any_order
returns-clause-any_order c = λ others moved.
    sorted_others c.self.inside c.args.self c.self.view_is c.self.invariant c.sort.new.self c.sort.ensures.form c.sort.ensures.list c.args.epoch c.epoch_for-epoch.result others
    (c.epoch_for-epoch.ensures ∙ ap (λ form. epoch_of form c.args.epoch) c.form.ensures) moved
