-- The worker stands at its post.
use Rattle.std.proofs.Common.{arith}
use Rattle.esa_attempts.proofs.replays.late_turn.Goals as goal

pub turn-requires-clause-of : goal.turn-requires-clause-of
turn-requires-clause-of g c = (c.requires.posts c.in-Some.number c.index-crew-number.result (omega arith)).of

pub turn-requires-clause-ready : goal.turn-requires-clause-ready
turn-requires-clause-ready g c = (c.requires.posts c.in-Some.number c.index-crew-number.result (omega arith)).ready

pub turn-requires-clause-worker : goal.turn-requires-clause-worker
turn-requires-clause-worker g c = λ some. (c.requires.posts c.in-Some.number c.index-crew-number.result (omega arith)).stands
