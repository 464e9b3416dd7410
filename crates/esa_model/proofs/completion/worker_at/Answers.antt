use Rattle.std.proofs.Common.{◌≡◌, ℕ, ◌+◌, ◌-◌, ◌%◌, length, get_or, ap, sym, ◌∙◌, arith}
use Rattle.esa_spec.specs.Completion.{completed}
use Rattle.esa_laws.proofs.FinishLaws.{completed-turn, completed-added}
use Rattle.esa_model.proofs.completion.worker_at.Goals as goal

pub returns-then-turn-turns-clause-value : goal.returns-then-turn-turns-clause-value
returns-then-turn-turns-clause-value c = sym (completed-turn c.args.plan.now c.args.turns.now c.args.turn (omega arith))

pub returns-else-turn-turns-clause-value : goal.returns-else-turn-turns-clause-value
returns-else-turn-turns-clause-value c =
    let p = c.args.plan.now in
    let turns = c.args.turns.now in
    let over = c.args.turn - length turns in
    let is : length turns + over ≡ c.args.turn = omega arith in
    ap (λ (n : ℕ). over % n) c.workers-workers.ensures.value
    ∙ sym (completed-added p turns over (omega arith))
    ∙ ap (λ (n : ℕ). get_or (completed p turns) n 0) is
