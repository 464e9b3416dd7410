-- A worker that has opened or sealed is in its round as before.
use Rattle.std.proofs.Common.{◌≡◌, sym, ap, ◌∙◌, subst}
use Rattle.esa_floor.specs.Workers.{HasExchanged, HasRead}
use Rattle.esa_floor.specs.Working.{Working}
use Rattle.esa_floor.specs.declared.worker.Stage.TheVariants.{Envelopes, Items, Chunks, Blocks}
use Rattle.esa_floor.proofs.Rounding.{prepared_round}
use Rattle.esa_floor.proofs.worker.Worker.prepare.Goals as goal

pub returns-in-Envelopes-clause-round : goal.returns-in-Envelopes-clause-round
returns-in-Envelopes-clause-round g c = λ b h round.
    let i = c.self.inside in
    let stage : c.args.self.now.stage ≡ Envelopes = sym (ap (λ (w : Working _). w.stage) c.self.view_is) ∙ c.in-Envelopes.is in
    let now : Working _ = record { coins = i.coins.now; number = i.number; outer = i.outer; run = i.run; attempt = i.attempt; phase = i.phase; bucket = i.bucket; stage = Items; buffers = c.open.new.self } in
    prepared_round b h c.args.self.now round now (ap (λ (w : Working _). w.number) c.self.view_is) (ap (λ (w : Working _). w.phase) c.self.view_is) (ap (λ (w : Working _). w.bucket) c.self.view_is)
    (λ read. tt) (λ exchanged. absurd (subst HasExchanged stage exchanged))

pub returns-in-Chunks-clause-round : goal.returns-in-Chunks-clause-round
returns-in-Chunks-clause-round g c = λ b h round.
    let i = c.self.inside in
    let stage : c.args.self.now.stage ≡ Chunks = sym (ap (λ (w : Working _). w.stage) c.self.view_is) ∙ c.in-Chunks.is in
    let now : Working _ = record { coins = i.coins.now; number = i.number; outer = i.outer; run = i.run; attempt = i.attempt; phase = i.phase; bucket = i.bucket; stage = Blocks; buffers = c.seal.new.self } in
    prepared_round b h c.args.self.now round now (ap (λ (w : Working _). w.number) c.self.view_is) (ap (λ (w : Working _). w.phase) c.self.view_is) (ap (λ (w : Working _). w.bucket) c.self.view_is)
    (λ read. absurd (subst HasRead stage read)) (λ exchanged. tt)
