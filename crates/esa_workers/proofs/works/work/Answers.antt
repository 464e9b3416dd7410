-- The last turn shows what the work leaves. Behind any other the worker goes on.
use Rattle.std.proofs.Common.{sym, ◌∙◌, arith}
use Rattle.esa_turnstile.specs.Passes.{mark_of, number_of, seen_of}
use Rattle.esa_workers.proofs.Turning.{last_leaves, more_goes_on}
use Rattle.esa_workers.proofs.Working.{going_on, has_worked, one_left, starts}
use Rattle.esa_workers.proofs.works.work.Goals as goal

pub loop-turn-init : goal.loop-turn-init
loop-turn-init g c = starts g.V.Device.faults g.G.Told.draws g.C.Coins.target_list g.G.Told.plan c.args.turnstile.now c.args.post.now c.requires.can_work

pub step-turn-requires-clause-ticket : goal.step-turn-requires-clause-ticket
step-turn-requires-clause-ticket g c = one_left g.G.Told.plan c.loop-turn.post.pass c.loop-turn.invariant.enough

pub loop-turn-preserved : goal.loop-turn-preserved
loop-turn-preserved g c =
    let p = g.G.Told.plan in
    let new = c.step-turn.new.post in
    let e = c.step-turn.ensures in
    going_on g.V.Device.faults g.G.Told.draws g.C.Coins.target_list p c.args.turnstile.now c.args.post.now c.loop-turn.post new c.loop-turn.invariant e.manned e.placed e.used e.buckets
    (more_goes_on p (seen_of new.pass) (mark_of new.pass) (number_of new.pass) c.step-turn.result (sym c.is_last.ensures ∙ c.if-is_last.false) e.shows)

pub loop-turn-smaller : goal.loop-turn-smaller
loop-turn-smaller g c = let one = c.step-turn.ensures.used.left in omega (arith, one)

pub returns-then-is_last-clause-worked : goal.returns-then-is_last-clause-worked
returns-then-is_last-clause-worked g c =
    let p = g.G.Told.plan in
    let new = c.step-turn.new.post in
    let e = c.step-turn.ensures in
    has_worked g.V.Device.faults g.G.Told.draws g.C.Coins.target_list p c.args.turnstile.now c.args.post.now c.loop-turn.post new c.loop-turn.invariant e.manned e.placed e.used c.step-turn.result
    (last_leaves p (seen_of new.pass) (mark_of new.pass) (number_of new.pass) c.step-turn.result (sym c.is_last.ensures ∙ c.if-is_last.true) e.shows)

pub returns-then-is_last-clause-leaves : goal.returns-then-is_last-clause-leaves
returns-then-is_last-clause-leaves g c =
    let p = g.G.Told.plan in
    let new = c.step-turn.new.post in
    last_leaves p (seen_of new.pass) (mark_of new.pass) (number_of new.pass) c.step-turn.result (sym c.is_last.ensures ∙ c.if-is_last.true) c.step-turn.ensures.shows
