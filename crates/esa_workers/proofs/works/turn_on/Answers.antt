-- The turn of a worker that stands, on a floor that stands.
use Rattle.std.proofs.Common.{ℕ, ap, ◌∙◌, subst}
use Rattle.esa_floor.specs.Marks.{mark_of}
use Rattle.esa_floor.specs.Working.{Working}
use Rattle.esa_floor.proofs.Doing.{queues_done}
use Rattle.esa_workers.specs.Works.{Shows}
use Rattle.esa_workers.proofs.Placing.{log_turned}
use Rattle.esa_workers.proofs.Turning.{idle, shown}
use Rattle.esa_workers.proofs.works.turn_on.Goals as goal

pub returns-clause-shows : goal.returns-clause-shows
returns-clause-shows g c =
    let t = c.turn-turn.ensures in
    subst (λ (n : ℕ). Shows g.G.Told.plan c.turn-turn.new.self.history (mark_of c.turn-turn.new.self) n c.turn-turn.result) c.arrive.ensures.same.number
    (shown g.V.Device.faults g.G.Told.plan g.G.Told.draws c.args.floor.now c.turn-turn.new.self c.arrive.new.worker.number c.requires.kept.stands t.stands
    c.arrive.ensures.of.number t.history c.turn-turn.result t.attempt t.answer)

pub returns-clause-same : goal.returns-clause-same
returns-clause-same g c =
    let moved = c.turn-turn.ensures.moved in
    let same = c.arrive.ensures.same in
    record {
      number = ap (λ (w : Working _). w.number) moved ∙ same.number;
      coins = ap (λ (w : Working _). w.coins) moved ∙ same.coins;
      plan = ap (λ (w : Working _). w.buffers.plan) moved ∙ same.plan;
      outer = ap (λ (w : Working _). w.outer) moved ∙ same.outer;
      run = ap (λ (w : Working _). w.run) moved ∙ same.run;
    }

pub returns-clause-idle : goal.returns-clause-idle
returns-clause-idle g c = λ none. idle g.V.Device.faults g.G.Told.plan g.G.Told.draws c.turn-turn.new.self c.turn-turn.ensures.stands none

pub returns-clause-kept : goal.returns-clause-kept
returns-clause-kept g c =
    let t = c.turn-turn.ensures in
    let keeps = c.arrive.ensures.keeps in
    record {
      stands = t.stands;
      logged = c.keeps_its_log.ensures;
      done = t.done keeps.records keeps.chunks c.requires.kept.done;
      took = λ record_of items. t.took record_of keeps.chunks (c.requires.kept.took record_of items);
      failed = t.failed_at_end c.requires.kept.failed;
      reads = t.reads_up_to_end c.requires.kept.reads;
    }

pub returns-clause-trail : goal.returns-clause-trail
returns-clause-trail g c =
    let t = c.turn-turn.ensures in
    log_turned c.args.floor.now c.turn-turn.new.self c.arrive.new.worker.number _ t.log t.later t.idle

pub returns-clause-keeps : goal.returns-clause-keeps
returns-clause-keeps g c =
    let t = c.turn-turn.ensures in
    let keeps = c.arrive.ensures.keeps in
    record { records = t.holds; chunks = t.chunks keeps.records (queues_done g.V.Device.faults g.G.Told.draws c.args.floor.now c.requires.kept.done) keeps.chunks }
