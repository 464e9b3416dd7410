-- One worker more has begun.
use Rattle.std.proofs.Common.{◌<◌, length, length-set, sym, ◌∙◌, subst, arith}
use Rattle.esa_floor.specs.Keeping.{KeepsDone, QueuesHold, SlotsHold}
use Rattle.esa_floor.specs.Parts.{Parts}
use Rattle.esa_floor.specs.Written.{EachGaveItsBlock, EachTookItsBlock}
use Rattle.esa_floor.proofs.Doing.{done_begun}
use Rattle.esa_floor.proofs.Giving.{gave-begun}
use Rattle.esa_floor.proofs.Queueing.{queues_begun}
use Rattle.esa_floor.proofs.Storing.{slots_begun}
use Rattle.esa_floor.proofs.Writing.{took-begun}
use Rattle.esa_crew.proofs.Beginning.{holds_more, members_more, none_made, posts_more}
use Rattle.esa_crew.proofs.begins.begin.Goals as goal

pub loop-worker-preserved : goal.loop-worker-preserved
loop-worker-preserved g c =
    let f = c.args.floor.now in
    let inv = c.loop-worker.invariant in
    let workers = c.loop-worker.workers in
    let n = c.loop-worker.worker-index in
    let new = c.begin-in-loop-worker.new.self in
    let each = inv.each in
    let test = c.loop-worker-test.true in
    let inside : n < length workers = omega (arith, each, test) in
    record {
      posts = posts_more g.G.Told.draws g.C.Coins.target_list f c.begin.new.self c.args.attempt c.begin.ensures.begun workers n _ new inside inv.members
          c.begin-in-loop-worker.ensures inv.posts;
      hold = holds_more g.G.Told.draws c.begin.new.self c.args.attempt workers n _ new inside c.begin-in-loop-worker.ensures inv.hold;
      members = members_more g.G.Told.draws g.C.Coins.target_list f c.begin.new.self c.args.attempt c.begin.ensures.begun workers n _ new inside inv.members
          c.begin-in-loop-worker.ensures;
      each = length-set workers n new ∙ each;
    }

pub returns-clause-fresh : goal.returns-clause-fresh
returns-clause-fresh g c = none_made g.G.Told.draws g.C.Coins.target_list c.args.floor.now c.begin.new.self c.args.attempt c.begin.ensures.begun

pub returns-clause-hold : goal.returns-clause-hold
returns-clause-hold g c = λ k w within.
    let each = c.loop-worker.invariant.each in
    let past = c.loop-worker-test.false in
    c.loop-worker.invariant.hold k w (omega (arith, within, each, past))

pub returns-clause-queues : goal.returns-clause-queues
returns-clause-queues g c =
    subst (λ (x : Parts _). QueuesHold g.G.Told.draws x) (sym c.begin.ensures.begun) (queues_begun g.G.Told.draws c.args.floor.now c.args.attempt)

pub returns-clause-slots : goal.returns-clause-slots
returns-clause-slots g c =
    subst (λ (x : Parts _). SlotsHold g.G.Told.draws x) (sym c.begin.ensures.begun) (slots_begun g.G.Told.draws c.args.floor.now c.args.attempt)

pub returns-clause-done : goal.returns-clause-done
returns-clause-done g c =
    subst (KeepsDone g.V.Device.faults g.G.Told.draws) (sym c.begin.ensures.begun)
    (done_begun g.V.Device.faults g.G.Told.draws c.args.floor.now g.G.Told.plan c.args.attempt c.requires.stands)

pub returns-clause-took : goal.returns-clause-took
returns-clause-took g c = λ record_of took.
    subst (λ (x : Parts _). EachTookItsBlock g.G.Told.draws record_of x) (sym c.begin.ensures.begun)
    (took-begun g.G.Told.draws record_of c.args.floor.now c.args.attempt took)

pub returns-clause-reads : goal.returns-clause-reads
returns-clause-reads g c = λ gave.
    subst (λ (x : Parts _). EachGaveItsBlock g.G.Told.draws x) (sym c.begin.ensures.begun)
    (gave-begun g.G.Told.draws c.args.floor.now c.args.attempt gave)
