-- One post more was told.
use Rattle.std.proofs.Common.{◌<◌, length, length-set, sym, ◌∙◌, subst, arith}
use Rattle.esa_turnstile.specs.Passes.{IsOutside, IsPassOf}
use Rattle.esa_workers.proofs.Meeting.{told_more, untold}
use Rattle.esa_workers.proofs.meetings.tell_all.Goals as goal

pub loop-post-preserved : goal.loop-post-preserved
loop-post-preserved g c =
    let inv = c.loop-post.invariant in
    let t = c.args.turnstile.now in
    let from = c.args.from.now in
    let old = c.args.posts.now in
    let now = c.loop-post.posts in
    let n = c.loop-post.post-index in
    let new = c.tell.new.post in
    let each = inv.each in
    let test = c.loop-post-test.true in
    let inside : n < length now = omega (arith, each, test) in
    record {
      same = c.tell.ensures.same ∙ inv.same;
      each = length-set now n new ∙ each;
      told = told_more t from old now n new inside each inv.rest _ c.loop-post.from inv.same c.tell.ensures.told inv.told;
      rest = untold t from old now n new inside each inv.rest;
    }

pub tell-requires-clause-from : goal.tell-requires-clause-from
tell-requires-clause-from g c =
    subst (λ p. IsPassOf c.args.turnstile.now p × IsOutside p) (sym c.loop-post.invariant.same) c.requires.from
