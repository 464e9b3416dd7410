-- The attempt of this number is at work and has taken its turns.
use Rattle.std.proofs.Common.{◌≡◌, ◌+◌, ◌≤◌, length, Some}
use Rattle.esa_floor.specs.Marks.{roots_of}
use Rattle.esa_attempts.specs.Replays.{HasReplayed}
use Rattle.esa_attempts.proofs.replays.replay_all.Given as goal

abbrev pub invariant-loop-attempt : goal.invariant-loop-attempt
invariant-loop-attempt g l = record {
  replayed : HasReplayed g.V.Device.faults g.G.Told.plan g.G.Told.draws g.C.Coins.target_list l.floor l.crew;
  attempt : l.floor.attempt ≡ Some l.attempt;
  room : length l.floor.history + l.left ≤ l.floor.room;
  origin : roots_of l.floor ≡ roots_of l.initial.floor;
}
