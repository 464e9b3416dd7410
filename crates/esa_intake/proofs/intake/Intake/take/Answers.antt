use Rattle.std.proofs.Common.{◌≡◌, sym, subst}
use Rattle.crossbeam_queue.specs.Fifo.{Pops, Learns}
use Rattle.crossbeam_queue.specs.Passes.{view}
use Rattle.esa_intake.specs.Keeping.{IsSealedOf, Kept, with_taken, TakerSees}
use Rattle.esa_intake.proofs.Rules.{takes, taker_sees}
use Rattle.esa_intake.proofs.intake.Intake.take.Goals as goal

pub pop_as-requires-clause-rule : goal.pop_as-requires-clause-rule
pop_as-requires-clause-rule g c =
    let hand = view c.args.taker.now.pass in (
      subst (λ place. Pops Kept place hand (λ sealed now. (now ≡ with_taken hand sealed) × IsSealedOf hand.form sealed)) (sym c.requires.0.2) (takes hand c.requires.0.3),
      subst (λ place. Learns Kept place hand (TakerSees hand)) (sym c.requires.0.2) (taker_sees hand c.requires.0.3),
    )
