use Rattle.std.proofs.Common.{◌∙◌, sym, subst}
use Rattle.crossbeam_queue.specs.Fifo.{Forks}
use Rattle.crossbeam_queue.specs.Passes.{view}
use Rattle.esa_params.specs.declared.form.Form.TheVariants.{One, Two}
use Rattle.esa_intake.specs.Keeping.{Kept, with_sender, new_sender}
use Rattle.esa_intake.proofs.Rules.{forks}
use Rattle.esa_intake.proofs.intake.Intake.sender.Goals as goal

pub another-pass-requires-clause-rule : goal.another-pass-requires-clause-rule
another-pass-requires-clause-rule c =
    let hand = view c.args.taker.now.pass in
    subst (λ place. Forks Kept place hand (with_sender One hand) (new_sender One hand)) (sym c.requires.2)
    (forks One hand c.requires.3 c.requires.4 (λ some. c.requires.6 some ∙ c.in-One.is))

pub another-pass-requires-in-Two-clause-rule : goal.another-pass-requires-in-Two-clause-rule
another-pass-requires-in-Two-clause-rule c =
    let hand = view c.args.taker.now.pass in
    subst (λ place. Forks Kept place hand (with_sender Two hand) (new_sender Two hand)) (sym c.requires.2)
    (forks Two hand c.requires.3 c.requires.4 (λ some. c.requires.6 some ∙ c.in-Two.is))
