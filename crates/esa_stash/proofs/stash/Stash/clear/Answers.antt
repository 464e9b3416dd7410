use Rattle.std.proofs.Common.{ℕ, ap, ap₂, sym, ◌∙◌, length, arith}
use Rattle.std.proofs.lemmas.List.{length-map}
use Rattle.esa_stash.specs.Arena.{items_in}
use Rattle.esa_stash.specs.Stash.{Stashed, Held, contents, empty_stash}
use Rattle.esa_stash.proofs.Exchanging.{seen_cleared}
use Rattle.esa_stash.proofs.stash.Stash.clear.Goals as goal

pub returns-clause-empty : goal.returns-clause-empty
returns-clause-empty c =
    let fields = c.loop-target.self-inside in
    let kept = c.loop-target.invariant in
    let queues = length-map c.self.inside.cells.chains items_in in
    let before = ap (λ (stash : Stashed). length (contents stash).queues) c.self.view_is in
    let chains = c.self.invariant.0 in
    let empty : ℕ → ℕ → ℕ → Held = λ b c s. empty_stash b c s in
    seen_cleared fields.cells fields.chunk fields.targets kept.chains (λ i inside. kept.cleared i (omega arith))
    ∙ ap (λ (b : ℕ). empty b fields.chunk fields.cells.room) (sym kept.targets)
    ∙ ap₂ (λ (chunk room : ℕ). empty (length (contents c.args.self.now).queues) chunk room) kept.chunk kept.room
