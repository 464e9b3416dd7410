-- The block was sealed for its slot.
use Rattle.std.proofs.Common.{ℕ, ◌-◌, ap, ◌∙◌, subst, sym, arith}
use Rattle.esa_params.specs.Sizes.{ArePlanned, Sizes}
use Rattle.esa_params.specs.Slots.{nonce_of}
use Rattle.esa_spec.specs.Traces.{chunk_slot}
use Rattle.esa_floor.specs.Working.{Holds, Working}
use Rattle.esa_floor.specs.declared.worker.Stage.{Stage}
use Rattle.esa_floor.proofs.Holding.{attempt_is, nonce_kept}
use Rattle.esa_floor.proofs.worker.Worker.write.Goals as goal

pub write-requires-clause-nonce : goal.write-requires-clause-nonce
write-requires-clause-nonce g c =
    let b = c.self.inside.buffers in
    let stage = ap (λ (w : Working _). w.stage) c.self.view_is ∙ c.requires.blocks in
    let holds = subst (λ (s : Stage). Holds c.self.inside.outer c.self.inside.run (g.C.Coins.target_list c.self.inside.coins.now) c.self.inside.attempt c.self.inside.bucket b s) stage c.self.invariant.1 in
    let phase_is = ap (λ (w : Working _). w.phase) c.self.view_is in
    let plan_is = ap (λ (w : Working _). w.buffers.plan.b) c.self.view_is in
    let least = c.requires.least in
    let most = c.requires.most in
    nonce_kept b.plan c.self.inside.run c.self.inside.attempt c.self.inside.bucket (c.self.inside.phase - 3) b.chunks b.blocks
    (subst (λ (q : Sizes). ArePlanned q) c.plan.ensures c.b-round.ensures.limits) holds.0 holds.1 (omega (arith, phase_is, plan_is, least, most)) holds.2
    ∙ ap (λ (a : ℕ). nonce_of b.plan a (chunk_slot b.plan c.self.inside.bucket (c.self.inside.phase - 3))) (sym (attempt_is c.self.inside.attempt) ∙ sym c.unwrap_or-attempt.ensures)
