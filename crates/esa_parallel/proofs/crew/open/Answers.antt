-- The floor that was made has done nothing, and is what the turnstile was opened on.
use Rattle.std.proofs.Common.{ℕ, All, sym, ap, subst, arith}
use Rattle.esa_floor.specs.Marks.{mark_of}
use Rattle.esa_floor.specs.Parts.{Parts}
use Rattle.esa_spec.specs.Histories.{begun}
use Rattle.esa_turnstile.specs.Passes.{IsNewPass, IsPassOf, opened_of}
use Rattle.esa_parallel.proofs.Fronting.{kept_unbegun}
use Rattle.esa_parallel.proofs.crew.open.Goals as goal

pub make-requires-in-Ok-clause-sound : goal.make-requires-in-Ok-clause-sound
make-requires-in-Ok-clause-sound g c =
    let parts = c.in-Ok.ensures.parts in
    kept_unbegun g.V.Device.faults g.G.Told.plan g.G.Told.draws c.in-Ok.floor c.in-Ok.ensures.stands (ap (λ (x : Parts _). begun g.G.Told.plan.workers x.history) parts)
    c.keeps_its_log.ensures

pub returns-in-Ok-make-clause-dealt : goal.returns-in-Ok-make-clause-dealt
returns-in-Ok-make-clause-dealt g c =
    let t = c.in-Ok-make.opened.turnstile in
    let passes = c.in-Ok-make.opened.passes.items in
    subst (λ (n : ℕ). All (λ p. IsPassOf t p × IsNewPass n (mark_of (opened_of t)) p) passes) (sym c.in-Ok-make.ensures.tickets)
    (subst (λ (f : Parts _). All (λ p. IsPassOf t p × IsNewPass c.most_tickets-tickets.result (mark_of f) p) passes) (sym c.in-Ok-make.ensures.opened) c.in-Ok-make.ensures.dealt)

pub returns-in-Ok-make-clause-numbers : goal.returns-in-Ok-make-clause-numbers
returns-in-Ok-make-clause-numbers g c = λ x d inside.
    let workers = c.workers-passes.ensures.value in
    c.in-Ok-make.ensures.numbers x d (omega (arith, inside, workers))
