-- The text is the one that was sealed.
use Rattle.std.proofs.Common.{ℕ, ◌∙◌, subst}
use Rattle.esa_floor.specs.Keeping.{OpensTo}
use Rattle.esa_floor.specs.Working.{Working, attempt_in}
use Rattle.esa_floor.proofs.Holding.{attempt_is}
use Rattle.esa_floor.proofs.worker.Worker.read.Goals as goal

pub returns-clause-opens : goal.returns-clause-opens
returns-clause-opens g c =
    let text = c.read.new.self.text in
    subst (λ (w : Working _). OpensTo w.buffers.plan w.run (attempt_in w.attempt) w.bucket text c.args.recorder.now c.read.new.recorder) c.self.view_is
    (subst (λ (a : ℕ). OpensTo c.self.inside.buffers.plan c.self.inside.run a c.self.inside.bucket text c.args.recorder.now c.read.new.recorder)
    (c.unwrap_or-attempt.ensures ∙ attempt_is c.self.inside.attempt) c.in_ok-read.ensures.opens)
