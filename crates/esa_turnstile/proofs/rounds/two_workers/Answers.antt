use Rattle.std.proofs.Common.{◌≡◌, ℕ, ◌*◌, ◌<◌, length, All, Result, Ok, Err, IfOk, arith}
use Rattle.esa_turnstile.specs.declared.roll.Roll.{Roll}
use Rattle.esa_turnstile.specs.Rolls.{entries_in}
use Rattle.esa_turnstile.specs.Entries.{times}
use Rattle.esa_turnstile.proofs.EachNumber.{two-numbers}
use Rattle.esa_turnstile.proofs.rounds.two_workers.Goals as goal

both : {E : Type 0} (turns : ℕ) (r : Result Roll E) → IfOk r (λ roll. (x : ℕ) → x < 2 → times x (entries_in roll) ≡ turns) → IfOk r (λ roll. All (λ x. x < 2) (entries_in roll))
    → IfOk r (λ roll. length (entries_in roll) ≡ 2 * turns)
both turns (Ok roll) each named = let a = each 0 (omega arith) in let b = each 1 (omega arith) in omega (arith, two-numbers (entries_in roll) named)
both turns (Err e) each named = tt

pub returns-clause-all : goal.returns-clause-all
returns-clause-all g c = both c.args.turns c.workers.result c.workers.ensures.each c.workers.ensures.named
