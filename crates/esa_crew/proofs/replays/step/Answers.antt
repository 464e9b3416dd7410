-- The worker stands after its turn and its private work, and so do the others.
use Rattle.std.proofs.Common.{sym, ap, ◌∙◌, subst}
use Rattle.esa_floor.specs.Keeping.{HoldsChunks, HoldsRecords}
use Rattle.esa_floor.specs.Working.{Working}
use Rattle.esa_crew.proofs.Posting.{of_on, of_same, turns_on}
use Rattle.esa_crew.proofs.replays.step.Goals as goal

pub returns-clause-turns : goal.returns-clause-turns
returns-clause-turns g c =
    turns_on c.args.floor.now c.turn.new.self c.turn.ensures.origin c.args.worker.now.number c.requires.post.of.number c.turn.ensures.history

pub returns-clause-post : goal.returns-clause-post
returns-clause-post g c =
    let w = c.args.worker.now in
    let kept = c.prepare.ensures.kept in
    let moved = c.turn.ensures.moved in
    let stands = c.turn.ensures.worker c.requires.begun in
    record {
      number = ap (λ (x : Working _). x.number) kept ∙ ap (λ (x : Working _). x.number) moved;
      of = of_same c.turn.new.self g.G.Told.draws g.C.Coins.target_list w c.prepare.new.self
          (ap (λ (x : Working _). x.coins) kept ∙ ap (λ (x : Working _). x.coins) moved)
          (ap (λ (x : Working _). x.number) kept ∙ ap (λ (x : Working _). x.number) moved)
          (ap (λ (x : Working _). x.buffers.plan) kept ∙ ap (λ (x : Working _). x.buffers.plan) moved)
          (ap (λ (x : Working _). x.outer) kept ∙ ap (λ (x : Working _). x.outer) moved)
          (ap (λ (x : Working _). x.run) kept ∙ ap (λ (x : Working _). x.run) moved)
          (of_on c.args.floor.now c.turn.new.self c.turn.ensures.origin g.G.Told.draws (g.C.Coins.target_list w.coins) w c.requires.post.of);
      ready = c.prepare.ensures.ready;
      stands = record {
        attempt = ap (λ (x : Working _). x.attempt) kept ∙ stands.attempt;
        round = λ runs. c.prepare.ensures.round _ _ (stands.round runs);
      };
    }

pub returns-clause-others : goal.returns-clause-others
returns-clause-others g c = λ number other apart post. record {
  number = post.number;
  of = of_on c.args.floor.now c.turn.new.self c.turn.ensures.origin g.G.Told.draws (g.C.Coins.target_list other.coins) other post.of;
  ready = post.ready;
  stands = c.turn.ensures.others other (λ same. apart (sym post.number ∙ same)) post.stands;
}

pub returns-clause-holds : goal.returns-clause-holds
returns-clause-holds g c = λ holds queues. record {
  records = subst (λ (x : Working _). HoldsRecords c.turn.new.self x) (sym c.prepare.ensures.kept) c.turn.ensures.holds;
  chunks = subst (λ (x : Working _). HoldsChunks g.G.Told.draws c.turn.new.self x) (sym c.prepare.ensures.kept)
      (c.turn.ensures.chunks holds.records queues holds.chunks);
}

pub returns-clause-others_hold : goal.returns-clause-others_hold
returns-clause-others_hold g c = λ other holds. record {
  records = c.turn.ensures.others_hold other holds.records;
  chunks = c.turn.ensures.others_chunks other holds.chunks;
}

pub returns-clause-queues : goal.returns-clause-queues
returns-clause-queues g c = λ holds queues. c.turn.ensures.queues holds.records queues

pub returns-clause-slots : goal.returns-clause-slots
returns-clause-slots g c = λ holds slots. c.turn.ensures.slots holds.chunks slots

pub returns-clause-done : goal.returns-clause-done
returns-clause-done g c = λ holds. c.turn.ensures.done holds.records holds.chunks

pub returns-clause-took : goal.returns-clause-took
returns-clause-took g c = λ record_of holds took. c.turn.ensures.took record_of holds.chunks took

pub returns-clause-stops : goal.returns-clause-stops
returns-clause-stops g c = c.turn.ensures.stops c.requires.begun c.requires.runs

pub returns-clause-queues_before : goal.returns-clause-queues_before
returns-clause-queues_before g c = c.turn.ensures.queues_before c.requires.begun c.requires.runs

pub returns-clause-slots_before : goal.returns-clause-slots_before
returns-clause-slots_before g c = c.turn.ensures.slots_before c.requires.begun c.requires.runs

pub returns-clause-others_before : goal.returns-clause-others_before
returns-clause-others_before g c = λ other stopped holds.
    c.turn.ensures.others_before other c.requires.begun c.requires.runs stopped holds.records holds.chunks

pub returns-clause-failed : goal.returns-clause-failed
returns-clause-failed g c = c.turn.ensures.failed

pub returns-clause-log : goal.returns-clause-log
returns-clause-log g c = (_, c.turn.ensures.log c.requires.begun c.requires.runs)

pub returns-clause-reads : goal.returns-clause-reads
returns-clause-reads g c = c.turn.ensures.reads
