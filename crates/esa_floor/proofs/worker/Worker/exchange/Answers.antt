-- Chunks of items that can be spelled can be spelled.
use Rattle.std.proofs.Common.{◌≡◌, ℕ, ◌*◌, ◌≤◌, All, sym, ap, ◌∙◌, subst}
use Rattle.esa_params.specs.Form.{envelope_length}
use Rattle.esa_params.specs.Sizes.{Sizes, size}
use Rattle.esa_params.specs.Slots.{item_length}
use Rattle.esa_vault.specs.Placed.{IsSpelled}
use Rattle.esa_vault.proofs.TextLaws.{dummy_spelled}
use Rattle.esa_floor.specs.Working.{Buffered, Holds, Working, handed_by}
use Rattle.esa_floor.specs.declared.worker.Stage.{Stage}
use Rattle.esa_floor.specs.declared.worker.Stage.TheVariants.{Chunks}
use Rattle.esa_floor.proofs.Dealing.{chunks_after}
use Rattle.esa_floor.proofs.Fitting.{bytes_fit}
use Rattle.esa_floor.proofs.Holding.{opened_are_spelled}
use Rattle.esa_floor.proofs.worker.Worker.exchange.Goals as goal

pub invariant_of-self-2 : goal.invariant_of-self-2
invariant_of-self-2 g c =
    let b = c.self.inside.buffers in
    let p = c.self.inside.buffers.plan in
    let stage = ap (λ (w : Working _). w.stage) c.self.view_is ∙ c.requires.items in
    let holds = subst (λ (s : Stage). Holds c.self.inside.outer c.self.inside.run (g.C.Coins.target_list c.self.inside.coins.now) c.self.inside.attempt c.self.inside.bucket b s) stage c.self.invariant.1 in
    let same : c.exchange.new.self.plan ≡ p = ap (λ (x : Buffered). x.plan) c.exchange.ensures.kept in
    let plan_is : p ≡ c.args.self.now.buffers.plan = ap (λ (w : Working _). w.buffers.plan) c.self.view_is in
    let fits = subst (λ (n : ℕ). size p c.self.inside.bucket * envelope_length p.form ≤ n) (sym c.exchange.ensures.text) (bytes_fit p c.self.inside.bucket (envelope_length p.form)) in
    let items = subst (All (IsSpelled (item_length p.form))) (sym holds.2) (opened_are_spelled c.self.inside.outer p.form b.text (size p c.self.inside.bucket) fits) in
    let waits = subst (λ (q : Sizes). All (All (IsSpelled (item_length q.form))) c.args.exchanger.now.stash.queues) (sym plan_is) c.requires.spelled in
    let all = subst (All (IsSpelled (item_length p.form))) (sym c.in_ok-exchange.ensures.chunks)
    (chunks_after (IsSpelled (item_length p.form)) c.args.exchanger.now.stash (handed_by b c.self.inside.bucket) waits items (dummy_spelled (item_length p.form))) in (
      c.self.invariant.0 ∙ sym same,
      subst (λ (q : Sizes). Holds c.self.inside.outer c.self.inside.run (g.C.Coins.target_list c.self.inside.coins.now) c.self.inside.attempt c.self.inside.bucket (record c.exchange.new.self { plan = q }) Chunks) (sym same) (holds.0, holds.1, all),
    )
