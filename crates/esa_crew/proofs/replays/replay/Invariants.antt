-- So many turns of the completed list were taken, and no fewer finish the attempt.
use Rattle.std.proofs.Common.{◌≡◌, ◌≢◌, ℕ, ◌<◌, ◌++◌, ◌∷◌, false, List, [], length, take, None}
use Rattle.esa_spec.specs.Completion.{completed}
use Rattle.esa_spec.specs.Fronts.{Begins}
use Rattle.esa_spec.specs.Traces.{spread}
use Rattle.esa_spec.specs.Verdicts.{is_finished}
use Rattle.esa_floor.specs.Keeping.{KeepsDone, QueuesHold, QueuesHoldAfter, SlotsHold, SlotsHoldAfter, StopsAfter}
use Rattle.esa_floor.specs.Marks.{roots_of}
use Rattle.esa_floor.specs.Standing.{Stands, attempt_begun, turns_made}
use Rattle.esa_floor.specs.Written.{EachTookItsBlock, FailedByStop, ReadsGaveTheirBlocks}
use Rattle.esa_report.specs.declared.item.Item.{Item}
use Rattle.esa_crew.specs.Posts.{AllHold, ArePosts, OthersHoldAfter}
use Rattle.esa_crew.proofs.replays.replay.Given as goal

abbrev pub invariant-loop-made : goal.invariant-loop-made
invariant-loop-made g l =
    let p = l.initial.floor.plan in
    let a = attempt_begun l.initial.floor in
    let h = take l.made (completed p l.turns) in
    record {
      stands : Stands g.V.Device.faults g.G.Told.plan g.G.Told.draws l.floor;
      posts : ArePosts g.G.Told.draws g.C.Coins.target_list l.floor l.workers;
      each : length l.workers ≡ length l.initial.workers;
      hold : AllHold g.G.Told.draws l.initial.floor l.initial.workers → QueuesHold g.G.Told.draws l.initial.floor → AllHold g.G.Told.draws l.floor l.workers;
      queues : AllHold g.G.Told.draws l.initial.floor l.initial.workers → QueuesHold g.G.Told.draws l.initial.floor → QueuesHold g.G.Told.draws l.floor;
      slots : AllHold g.G.Told.draws l.initial.floor l.initial.workers → QueuesHold g.G.Told.draws l.initial.floor → SlotsHold g.G.Told.draws l.initial.floor
          → SlotsHold g.G.Told.draws l.floor;
      done : AllHold g.G.Told.draws l.initial.floor l.initial.workers → KeepsDone g.V.Device.faults g.G.Told.draws l.initial.floor
          → KeepsDone g.V.Device.faults g.G.Told.draws l.floor;
      took : (record_of : ℕ → Item) → AllHold g.G.Told.draws l.initial.floor l.initial.workers → QueuesHold g.G.Told.draws l.initial.floor
          → EachTookItsBlock g.G.Told.draws record_of l.initial.floor → EachTookItsBlock g.G.Told.draws record_of l.floor;
      log : Begins l.initial.floor.recorder.log l.floor.recorder.log;
      failed : FailedByStop l.initial.floor.stop l.initial.floor.recorder.log → FailedByStop l.floor.stop l.floor.recorder.log;
      reads : ReadsGaveTheirBlocks g.G.Told.draws l.initial.floor → ReadsGaveTheirBlocks g.G.Told.draws l.floor;
      stops : l.initial.floor.stop ≡ None → l.floor.stop ≢ None → (before : List ℕ) × StopsAfter g.V.Device.faults g.G.Told.draws before l.floor
          × (AllHold g.G.Told.draws l.initial.floor l.initial.workers → QueuesHold g.G.Told.draws l.initial.floor → SlotsHold g.G.Told.draws l.initial.floor
          → QueuesHoldAfter g.G.Told.draws before l.floor × SlotsHoldAfter g.G.Told.draws before l.floor);
      others_hold : l.initial.floor.stop ≡ None → l.floor.stop ≢ None → (before : List ℕ) (failed : ℕ) → turns_made l.floor ≡ before ++ failed ∷ []
          → AllHold g.G.Told.draws l.initial.floor l.initial.workers → QueuesHold g.G.Told.draws l.initial.floor
          → OthersHoldAfter g.G.Told.draws before failed l.floor l.workers;
      origin : roots_of l.floor ≡ roots_of l.initial.floor;
      attempt : l.floor.attempt ≡ l.initial.floor.attempt;
      begun : attempt_begun l.floor ≡ a;
      turns : turns_made l.floor ≡ h;
      history : l.floor.history ≡ l.initial.floor.history ++ h;
      trace : l.floor.recorder.trace ≡ l.initial.floor.recorder.trace ++ spread p (g.G.Told.draws a) a h;
      unfinished : (x : ℕ) → x < l.made → is_finished p (g.G.Told.draws a) (take x (completed p l.turns)) ≡ false;
    }
