use Rattle.std.proofs.Common.{◌≡◌, ◌++◌, length, take}
use Rattle.crossbeam_queue.specs.Passes.{view}
use Rattle.esa_intake.specs.Standing.{HasTaking, taken_of}
use Rattle.esa_intake.proofs.intake.Intake.drain.Given as goal

abbrev pub invariant-loop-place : goal.invariant-loop-place
invariant-loop-place g l = record {
  taking : HasTaking l.self l.taker;
  hand : view l.taker.pass ≡ record (view l.fn.taker.pass) { taken = taken_of l.fn.taker ++ take l.place l.rest };
  long : length l.rest ≡ length l.fn.rest;
}
