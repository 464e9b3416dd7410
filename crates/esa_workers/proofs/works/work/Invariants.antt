-- The worker may go on. Each turn takes a ticket.
use Rattle.esa_turnstile.specs.Passes.{left_of}
use Rattle.esa_workers.proofs.Working.{IsGoing}
use Rattle.esa_workers.proofs.works.work.Given as goal

abbrev pub invariant-loop-turn : goal.invariant-loop-turn
invariant-loop-turn g l = IsGoing g.V.Device.faults g.G.Told.draws g.C.Coins.target_list g.G.Told.plan l.turnstile l.initial.post l.post

abbrev pub decreases-loop-turn : goal.decreases-loop-turn
decreases-loop-turn g l = left_of l.post.pass
