-- What was taken in can be asked for.
use Rattle.std.proofs.Common.{◌<◌, sym, subst}
use Rattle.esa_params.specs.Sizes.{Sizes}
use Rattle.esa_shuffling.specs.Drawn.{draws_of}
use Rattle.esa_spec.specs.Draws.{IsDrawn}
use Rattle.esa_taking.specs.RunTaken.{IsTaken, run_taken}
use Rattle.esa_taking.specs.declared.input.RunInput.{RunInput}
use Rattle.esa_running.proofs.ComingOut.{drawn_for}
use Rattle.esa_running.specs.WellEnded.{CanBeAsked}

pub can_be_asked : (input : RunInput) → IsTaken input → CanBeAsked (run_taken input)
can_be_asked input taken = record {
  planned = taken.limits;
  drawn = λ a inside.
      subst (λ (p : Sizes). IsDrawn p (draws_of input.coins a)) taken.coins
      (drawn_for input.coins a (subst (λ (p : Sizes). a < p.attempts) (sym taken.coins) inside));
}
