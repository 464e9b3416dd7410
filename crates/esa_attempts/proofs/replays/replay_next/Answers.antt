-- The turns fit, and there is room for what is left.
use Rattle.std.proofs.Common.{sym, ap, ◌∙◌, arith}
use Rattle.esa_floor.specs.Parts.{Parts}
use Rattle.esa_floor.specs.Standing.{attempt_begun}
use Rattle.esa_floor.specs.declared.floor.Roots.{Roots}
use Rattle.esa_attempts.proofs.Replaying.{room_begun, room_left, some_begun}
use Rattle.esa_attempts.proofs.replays.replay_next.Goals as goal

pub replay-requires-clause-room : goal.replay-requires-clause-room
replay-requires-clause-room g c =
    room_begun c.args.attempt c.args.turns.now c.args.floor.now c.begin.new.floor c.plan.result c.most_turns.result c.args.entries c.begin.ensures.begun
    c.most_turns.ensures.value c.plan.ensures c.requires.room (omega arith)

pub returns-2-clause-replayed : goal.returns-2-clause-replayed
returns-2-clause-replayed g c =
    let begun = c.begin.new.floor in
    let new = c.replay.new.floor in
    let n = attempt_begun begun in
    let left = room_left (g.G.Told.draws n) n c.args.attempt c.args.turns.now c.args.floor.now begun new c.plan.result c.most_turns.result c.args.entries
    c.begin.ensures.begun c.replay.ensures.replayed c.replay.ensures.origin c.most_turns.ensures.value c.plan.ensures c.requires.room in
    record {
      stands = c.replay.ensures.stands;
      begun = some_begun new c.args.attempt (c.replay.ensures.attempt ∙ ap (λ (x : Parts _). x.attempt) c.begin.ensures.begun);
      room = omega (arith, left);
      posts = c.replay.ensures.posts;
      each = c.replay.ensures.each ∙ c.begin.ensures.each ∙ c.requires.each
          ∙ sym (ap (λ (r : Roots). r.plan.workers) c.replay.ensures.origin ∙ ap (λ (x : Parts _). x.plan.workers) c.begin.ensures.begun);
    }

pub returns-2-clause-room : goal.returns-2-clause-room
returns-2-clause-room g c =
    let n = attempt_begun c.begin.new.floor in
    let left = room_left (g.G.Told.draws n) n c.args.attempt c.args.turns.now c.args.floor.now c.begin.new.floor c.replay.new.floor c.plan.result c.most_turns.result
    c.args.entries c.begin.ensures.begun c.replay.ensures.replayed c.replay.ensures.origin c.most_turns.ensures.value c.plan.ensures c.requires.room in
    omega (arith, left)
