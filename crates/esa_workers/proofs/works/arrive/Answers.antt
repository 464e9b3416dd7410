-- A worker that begins the attempt stands in it and holds nothing, since it had no turn there.
use Rattle.std.proofs.Common.{sym, ◌∙◌, subst, arith}
use Rattle.esa_crew.specs.Posts.{KeepsRecords}
use Rattle.esa_floor.specs.Workers.{WorkerStands}
use Rattle.esa_workers.proofs.Turning.{started}
use Rattle.esa_workers.proofs.works.arrive.Goals as goal

pub returns-then-not-is_in-clause-stands : goal.returns-then-not-is_in-clause-stands
returns-then-not-is_in-clause-stands g c = λ some.
    let in_it = sym c.attempt.ensures ∙ c.in-Some.is in
    subst (WorkerStands c.args.floor.now) (sym c.begin.ensures)
    (started c.args.floor.now c.args.worker.now c.in-Some.attempt in_it
    ((c.requires.finds c.in-Some.attempt in_it).other (c.is_in.ensures.no c.if-not-is_in.true)))

pub returns-then-not-is_in-clause-keeps : goal.returns-then-not-is_in-clause-keeps
returns-then-not-is_in-clause-keeps g c =
    subst (λ w. KeepsRecords g.G.Told.draws c.args.floor.now w) (sym c.begin.ensures) (record {
      records = λ record_of input some runs second inside. absurd (omega (arith, second));
      chunks = λ record_of input some runs third inside. absurd (omega (arith, third));
    })

pub returns-else-not-is_in-clause-stands : goal.returns-else-not-is_in-clause-stands
returns-else-not-is_in-clause-stands g c = λ some.
    let in_it = sym c.attempt.ensures ∙ c.in-Some.is in
    ((c.requires.finds c.in-Some.attempt in_it).same (c.is_in.ensures.yes c.if-not-is_in.false)).0

pub returns-else-not-is_in-clause-keeps : goal.returns-else-not-is_in-clause-keeps
returns-else-not-is_in-clause-keeps g c =
    let in_it = sym c.attempt.ensures ∙ c.in-Some.is in
    ((c.requires.finds c.in-Some.attempt in_it).same (c.is_in.ensures.yes c.if-not-is_in.false)).1
