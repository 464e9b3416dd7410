-- The worker at the index of a number has that number.
use Rattle.std.proofs.Common.{ℕ, ◌++◌, ap, ◌∙◌, subst}
use Rattle.std.specs.Option.{option_to_list}
use Rattle.esa_spec.specs.Traces.{asked}
use Rattle.esa_spec.specs.Turns.{next}
use Rattle.esa_floor.specs.Standing.{attempt_begun, turns_made}
use Rattle.esa_crew.specs.Posts.{IsPost}
use Rattle.esa_crew.proofs.Posting.{all_hold, others_hold, posts_on}
use Rattle.esa_crew.proofs.replays.step_of.Goals as goal

pub returns-clause-access : goal.returns-clause-access
returns-clause-access g c =
    let f = c.args.floor.now in
    let w = c.index-workers-number.result in
    let number = (c.requires.posts c.args.number w c.requires.number).number in
    c.step.ensures.access
    ∙ ap (λ (k : ℕ). f.recorder.trace ++ option_to_list (asked f.plan (attempt_begun f) (next f.plan.b (turns_made f) k))) number

pub returns-clause-posts : goal.returns-clause-posts
returns-clause-posts g c =
    let f = c.args.floor.now in
    let w = c.index-workers-number.result in
    let number = (c.requires.posts c.args.number w c.requires.number).number in
    posts_on g.G.Told.draws g.C.Coins.target_list f c.step.new.floor c.args.workers.now c.args.number c.step.new.worker c.requires.number c.requires.posts
    (subst (λ (k : ℕ). IsPost g.G.Told.draws g.C.Coins.target_list c.step.new.floor k c.step.new.worker) number c.step.ensures.post)
    (λ k other apart post. c.step.ensures.others k other (λ same. apart (same ∙ number)) post)

pub returns-clause-hold : goal.returns-clause-hold
returns-clause-hold g c = λ all queues.
    all_hold g.G.Told.draws c.args.floor.now c.step.new.floor c.args.workers.now c.args.number c.step.new.worker c.requires.number
    (c.step.ensures.holds (all c.args.number c.index-workers-number.result c.requires.number) queues) c.step.ensures.others_hold all

pub returns-clause-queues : goal.returns-clause-queues
returns-clause-queues g c = λ all queues.
    c.step.ensures.queues (all c.args.number c.index-workers-number.result c.requires.number) queues

pub returns-clause-slots : goal.returns-clause-slots
returns-clause-slots g c = λ all slots.
    c.step.ensures.slots (all c.args.number c.index-workers-number.result c.requires.number) slots

pub returns-clause-done : goal.returns-clause-done
returns-clause-done g c = λ all.
    c.step.ensures.done (all c.args.number c.index-workers-number.result c.requires.number)

pub returns-clause-took : goal.returns-clause-took
returns-clause-took g c = λ record_of all took.
    c.step.ensures.took record_of (all c.args.number c.index-workers-number.result c.requires.number) took

pub returns-clause-others_before : goal.returns-clause-others_before
returns-clause-others_before g c = λ stopped all.
    others_hold g.G.Told.draws c.args.floor.now c.step.new.floor (turns_made c.args.floor.now) c.args.workers.now c.args.number c.step.new.worker
    (λ other. c.step.ensures.others_before other stopped) all

pub returns-clause-failed : goal.returns-clause-failed
returns-clause-failed g c = c.step.ensures.failed

pub returns-clause-log : goal.returns-clause-log
returns-clause-log g c = c.step.ensures.log

pub returns-clause-reads : goal.returns-clause-reads
returns-clause-reads g c = c.step.ensures.reads
