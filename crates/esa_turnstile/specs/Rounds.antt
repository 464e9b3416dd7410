-- What a pass has done that entered so many times.
use Rattle.std.specs.Prelude.{◌≡◌, ℕ, ◌+◌}
use Rattle.esa_turnstile.specs.declared.pass.Pass.{Pass}
use Rattle.esa_turnstile.specs.declared.turnstile.Turnstile.{Turnstile}
use Rattle.esa_turnstile.specs.Passes.{IsPassOf, IsOutside, number_of, added_of, left_of}

pub record Goes {T O : Type 0} (turnstile : Turnstile T O) (turns : ℕ) (old new : Pass T) : Type 0 where
  pub pass : IsPassOf turnstile new
  pub outside : IsOutside new
  pub number : number_of new ≡ number_of old
  pub added : added_of new ≡ added_of old + turns
  pub left : left_of new + turns ≡ left_of old
