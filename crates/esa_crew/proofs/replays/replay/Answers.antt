use Rattle.std.proofs.Common.{◌≡◌, ◌≢◌, ℕ, ◌+◌, ◌*◌, ◌<◌, ◌≤◌, ◌++◌, ◌∷◌, [], Bool, true, false, List, length, take, get_or, None, refl, ap, sym, ◌∙◌, subst, arith, append-nil, append_assoc, length-append}
use Rattle.std.specs.Option.{option_to_list}
use Rattle.std.proofs.lemmas.List.{length-take-le}
use Rattle.esa_laws.proofs.FinishLaws.{length-completed}
use Rattle.esa_params.specs.Sizes.{Sizes}
use Rattle.esa_spec.specs.Completion.{completed}
use Rattle.esa_spec.specs.Draws.{Draw}
use Rattle.esa_spec.specs.Traces.{asked}
use Rattle.esa_spec.specs.Turns.{next, order}
use Rattle.esa_spec.specs.Verdicts.{failing, is_finished}
use Rattle.esa_device.specs.Logs.{Carried}
use Rattle.esa_floor.specs.Parts.{Parts}
use Rattle.esa_floor.proofs.Doing.{queues_done}
use Rattle.esa_floor.specs.Standing.{attempt_begun, turns_made}
use Rattle.esa_floor.specs.declared.floor.Roots.{Roots}
use Rattle.esa_crew.proofs.Ending.{finishes, good, not_finished, not_stopped}
use Rattle.esa_crew.specs.Posts.{OthersHoldAfter}
use Rattle.esa_crew.proofs.Replaying.{at_last, last_is, more, replayed, traced_more, unfinished_more}
use Rattle.esa_crew.proofs.replays.replay.Goals as goal
use Rattle.esa_crew.proofs.replays.replay.Goals.{At-loop-made}
use Rattle.esa_crew.proofs.replays.replay.Given.{Over}

module _ (g : Over) (c : At-loop-made g) where
  abbrev p : Sizes
  p = c.args.floor.now.plan

  abbrev a : ℕ
  a = attempt_begun c.args.floor.now

  abbrev d : Draw
  d = g.G.Told.draws a

  abbrev now : Parts g.row.V.Denot
  now = c.loop-made.floor

  abbrev h : List ℕ
  h = take c.loop-made.made (completed p c.args.turns.now)

  plan_is : now.plan ≡ p
  plan_is = ap (λ (r : Roots). r.plan) c.loop-made.invariant.origin

  all : length (completed p c.args.turns.now) ≡ c.most_turns-made-end.result
  all =
      length-completed p c.args.turns.now
      ∙ sym (c.most_turns-made-end.ensures.value ∙ ap (λ (q : Sizes). length c.args.turns.now + q.b * (q.b + 3) * q.workers) c.plan-plan.ensures)

  some : 1 ≤ p.workers
  some = subst (λ (q : Sizes). 1 ≤ q.workers) c.plan-plan.ensures c.most_turns-made-end.ensures.planned.parameters.workers_least

  begun : now.attempt ≢ None
  begun none = c.requires.begun (sym c.loop-made.invariant.attempt ∙ none)

  -- what is said of the floor's own turns, in the words of the completed list
  here : (t : Bool) → is_finished now.plan (g.G.Told.draws (attempt_begun now)) (turns_made now) ≡ t → is_finished p d h ≡ t
  here t is =
      sym (ap (λ (q : Sizes). is_finished q (g.G.Told.draws (attempt_begun now)) (turns_made now)) plan_is
      ∙ ap (λ (n : ℕ). is_finished p (g.G.Told.draws n) (turns_made now)) c.loop-made.invariant.begun
      ∙ ap (is_finished p d) c.loop-made.invariant.turns) ∙ is

  good_here : now.stop ≡ None → failing p d (order p.b h) ≡ None
  good_here runs =
      sym (ap (λ (q : Sizes). failing q (g.G.Told.draws (attempt_begun now)) (order q.b (turns_made now))) plan_is
      ∙ ap (λ (n : ℕ). failing p (g.G.Told.draws n) (order p.b (turns_made now))) c.loop-made.invariant.begun
      ∙ ap (λ (l : List ℕ). failing p d (order p.b l)) c.loop-made.invariant.turns)
      ∙ good g.V.Device.faults g.G.Told.plan g.G.Told.draws now c.loop-made.invariant.stands begun runs

pub returns-then-is_over-clause-replayed : goal.returns-then-is_over-clause-replayed
returns-then-is_over-clause-replayed g c =
    let at = (goal.at.returns-then-is_over-clause-replayed g c).At-loop-made in
    let inv = c.loop-made.invariant in
    let whole = all g at in
    let inside = c.loop-made-test.true in
    replayed (p g at) (d g at) c.args.turns.now c.loop-made.made (omega (arith, whole, inside)) (some g at) c.requires.numbers inv.unfinished (a g at)
    c.args.floor.now c.loop-made.floor inv.history inv.trace
    (λ unbroken. here g at true (finishes g.V.Device.faults g.G.Told.plan g.G.Told.draws c.loop-made.floor inv.stands (begun g at) c.loop-made.floor.stop refl unbroken
    (c.is_over.ensures.over c.if-is_over.true)))

pub step_of-requires-clause-room : goal.step_of-requires-clause-room
step_of-requires-clause-room g c =
    let at = (goal.at.step_of-requires-clause-room g c).At-loop-made in
    let inv = c.loop-made.invariant in
    let whole = all g at in
    let inside = c.loop-made-test.true in
    let long = ap length inv.history ∙ length-append c.args.floor.now.history (h g at) in
    let made = length-take-le c.loop-made.made (completed (p g at) c.args.turns.now) (omega (arith, whole, inside)) in
    let room = ap (λ (r : Roots). r.room) inv.origin in
    let fits = c.requires.room in
    omega (arith, whole, inside, long, made, room, fits)

pub loop-made-init : goal.loop-made-init
loop-made-init g c = record {
  stands = c.requires.stands;
  posts = c.requires.posts;
  each = refl;
  hold = λ all queues. all;
  queues = λ all queues. queues;
  slots = λ all queues slots. slots;
  done = λ all keeps. keeps;
  took = λ record_of all queues took. took;
  log = ([], sym (append-nil c.args.floor.now.recorder.log));
  failed = λ before. before;
  reads = λ before. before;
  stops = λ ran halted. absurd (halted ran);
  others_hold = λ ran halted. absurd (halted ran);
  origin = refl;
  attempt = refl;
  begun = refl;
  turns = c.requires.fresh;
  history = sym (append-nil c.args.floor.now.history);
  trace = sym (append-nil c.args.floor.now.recorder.trace);
  unfinished = λ x inside. absurd (omega (arith, inside));
}

pub loop-made-preserved : goal.loop-made-preserved
loop-made-preserved g c =
    let at = (goal.at.loop-made-preserved g c).At-loop-made in
    let inv = c.loop-made.invariant in
    let done = c.step_of.ensures in
    let f = c.args.floor.now in
    let now = c.loop-made.floor in
    let turns = c.args.turns.now in
    let made = c.loop-made.made in
    let w = c.worker_at-number.result in
    let whole = all g at in
    let test = c.loop-made-test.true in
    let inside : made < length (completed (p g at) turns) = omega (arith, whole, test) in
    let is = c.worker_at-number.ensures.value ∙ ap (λ (q : Sizes). get_or (completed q turns) made 0) c.plan-plan.ensures in
    let runs = c.is_over.ensures.open c.if-is_over.false in
    record {
      stands = done.stands;
      posts = done.posts;
      each = done.each ∙ inv.each;
      hold = λ all queues. done.hold (inv.hold all queues) (inv.queues all queues);
      queues = λ all queues. done.queues (inv.hold all queues) (inv.queues all queues);
      slots = λ all queues slots. done.slots (inv.hold all queues) (inv.slots all queues slots);
      done = λ all keeps. done.done (inv.hold all (queues_done g.V.Device.faults g.G.Told.draws f keeps)) (inv.done all keeps);
      took = λ record_of all queues took. done.took record_of (inv.hold all queues) (inv.took record_of all queues took);
      log = (inv.log.0 ++ done.log.0, done.log.1 ∙ ap (λ (l : List Carried). l ++ done.log.0) inv.log.1 ∙ append_assoc f.recorder.log inv.log.0 done.log.0);
      failed = λ before. done.failed (inv.failed before);
      reads = λ before. done.reads (inv.reads before);
      stops = λ ran halted. (
        turns_made now,
        done.stops halted,
        (λ all queues slots. (done.queues_before halted (inv.queues all queues), done.slots_before halted (inv.slots all queues slots))),
      );
      others_hold = λ ran halted before failed made_is all queues.
          let one = last_is (turns_made now) before w failed (sym done.turns ∙ made_is) in
          subst (λ (k : ℕ). OthersHoldAfter g.G.Told.draws before k c.step_of.new.floor c.step_of.new.workers) one.1
          (subst (λ (l : List ℕ). OthersHoldAfter g.G.Told.draws l w c.step_of.new.floor c.step_of.new.workers) one.0
          (done.others_before halted (inv.hold all queues)));
      origin = done.origin ∙ inv.origin;
      attempt = done.attempt ∙ inv.attempt;
      begun = done.begun ∙ inv.begun;
      turns = done.turns ∙ ap (λ (l : List ℕ). l ++ w ∷ []) inv.turns ∙ sym (more (p g at) (d g at) turns made w inside is);
      history = done.history ∙ ap (λ (l : List ℕ). l ++ w ∷ []) inv.history ∙ append_assoc f.history (h g at) (w ∷ [])
          ∙ ap (λ (l : List ℕ). f.history ++ l) (sym (more (p g at) (d g at) turns made w inside is));
      trace = traced_more (p g at) (d g at) turns made (a g at) w f.recorder.trace now.recorder.trace c.step_of.new.floor.recorder.trace inside is (good_here g at runs) inv.trace
          (done.access
          ∙ ap (λ (q : Sizes). now.recorder.trace ++ option_to_list (asked q (attempt_begun now) (next q.b (turns_made now) w))) (plan_is g at)
          ∙ ap (λ (n : ℕ). now.recorder.trace ++ option_to_list (asked (p g at) n (next (p g at).b (turns_made now) w))) inv.begun
          ∙ ap (λ (l : List ℕ). now.recorder.trace ++ option_to_list (asked (p g at) (a g at) (next (p g at).b l w))) inv.turns);
      unfinished = unfinished_more (p g at) (d g at) turns made inv.unfinished
          (here g at false (not_finished g.V.Device.faults g.G.Told.plan g.G.Told.draws now inv.stands (begun g at) runs (c.is_over.ensures.fewer c.if-is_over.false)));
    }

pub returns-clause-replayed : goal.returns-clause-replayed
returns-clause-replayed g c =
    let at = (goal.at.returns-clause-replayed g c).At-loop-made in
    let inv = c.loop-made.invariant in
    let whole = all g at in
    let past = c.loop-made-test.false in
    let end = c.loop-made.auto.made-end in
    let last : c.loop-made.made ≡ length (completed (p g at) c.args.turns.now) = omega (arith, whole, past, end) in
    replayed (p g at) (d g at) c.args.turns.now c.loop-made.made (omega (arith, last)) (some g at) c.requires.numbers inv.unfinished (a g at)
    c.args.floor.now c.loop-made.floor inv.history inv.trace
    (λ unbroken. at_last (p g at) (d g at) c.args.turns.now c.loop-made.made last (some g at) c.requires.numbers)

pub returns-then-is_over-clause-hold : goal.returns-then-is_over-clause-hold
returns-then-is_over-clause-hold g c = c.loop-made.invariant.hold

pub returns-then-is_over-clause-queues : goal.returns-then-is_over-clause-queues
returns-then-is_over-clause-queues g c = c.loop-made.invariant.queues

pub returns-clause-hold : goal.returns-clause-hold
returns-clause-hold g c = c.loop-made.invariant.hold

pub returns-clause-queues : goal.returns-clause-queues
returns-clause-queues g c = c.loop-made.invariant.queues

pub returns-then-is_over-clause-slots : goal.returns-then-is_over-clause-slots
returns-then-is_over-clause-slots g c = c.loop-made.invariant.slots

pub returns-clause-slots : goal.returns-clause-slots
returns-clause-slots g c = c.loop-made.invariant.slots

pub returns-then-is_over-clause-done : goal.returns-then-is_over-clause-done
returns-then-is_over-clause-done g c = c.loop-made.invariant.done

pub returns-clause-done : goal.returns-clause-done
returns-clause-done g c = c.loop-made.invariant.done

pub returns-then-is_over-clause-took : goal.returns-then-is_over-clause-took
returns-then-is_over-clause-took g c = c.loop-made.invariant.took

pub returns-clause-took : goal.returns-clause-took
returns-clause-took g c = c.loop-made.invariant.took

pub returns-then-is_over-clause-others_hold : goal.returns-then-is_over-clause-others_hold
returns-then-is_over-clause-others_hold g c =
    let f = c.args.floor.now in
    c.loop-made.invariant.others_hold (not_stopped g.V.Device.faults g.G.Told.plan g.G.Told.draws f c.requires.stands c.requires.begun c.requires.fresh f.stop refl)

pub returns-clause-others_hold : goal.returns-clause-others_hold
returns-clause-others_hold g c =
    let f = c.args.floor.now in
    c.loop-made.invariant.others_hold (not_stopped g.V.Device.faults g.G.Told.plan g.G.Told.draws f c.requires.stands c.requires.begun c.requires.fresh f.stop refl)

pub returns-then-is_over-clause-log : goal.returns-then-is_over-clause-log
returns-then-is_over-clause-log g c = c.loop-made.invariant.log

pub returns-clause-log : goal.returns-clause-log
returns-clause-log g c = c.loop-made.invariant.log

pub returns-then-is_over-clause-failed : goal.returns-then-is_over-clause-failed
returns-then-is_over-clause-failed g c = c.loop-made.invariant.failed

pub returns-clause-failed : goal.returns-clause-failed
returns-clause-failed g c = c.loop-made.invariant.failed

pub returns-then-is_over-clause-reads : goal.returns-then-is_over-clause-reads
returns-then-is_over-clause-reads g c = c.loop-made.invariant.reads

pub returns-clause-reads : goal.returns-clause-reads
returns-clause-reads g c = c.loop-made.invariant.reads

pub returns-then-is_over-clause-stops : goal.returns-then-is_over-clause-stops
returns-then-is_over-clause-stops g c =
    let f = c.args.floor.now in
    c.loop-made.invariant.stops (not_stopped g.V.Device.faults g.G.Told.plan g.G.Told.draws f c.requires.stands c.requires.begun c.requires.fresh f.stop refl)

pub returns-clause-stops : goal.returns-clause-stops
returns-clause-stops g c =
    let f = c.args.floor.now in
    c.loop-made.invariant.stops (not_stopped g.V.Device.faults g.G.Told.plan g.G.Told.draws f c.requires.stands c.requires.begun c.requires.fresh f.stop refl)
