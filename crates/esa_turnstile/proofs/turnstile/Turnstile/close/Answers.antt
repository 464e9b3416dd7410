use Rattle.std.proofs.Common.{ap, get_or}
use Rattle.esa_turnstile.specs.declared.view.Mark.{Mark}
use Rattle.esa_turnstile.proofs.Closing.{pass-begins, pass-counts, pass-mark, pass-mark_same}
use Rattle.esa_turnstile.proofs.turnstile.Turnstile.close.Goals as goal

pub returns-clause-begins : goal.returns-clause-begins
returns-clause-begins g c = λ k d lt. pass-begins _ _ _ _ _ c.gather-seat.result.me.0 _ (get_or c.args.passes.items k d) c.open.ensures.settled (c.gather-seat.ensures.knows k d lt)

pub returns-clause-counts : goal.returns-clause-counts
returns-clause-counts g c = λ k d lt. pass-counts _ _ _ _ _ c.gather-seat.result.me.0 _ (get_or c.args.passes.items k d) c.open.ensures.settled (c.gather-seat.ensures.knows k d lt)

pub returns-clause-mark : goal.returns-clause-mark
returns-clause-mark g c = λ k d lt. (pass-mark _ _ _ _ _ c.gather-seat.result.me.0 _ (get_or c.args.passes.items k d) c.open.ensures.settled (c.gather-seat.ensures.knows k d lt)).number

pub returns-clause-trail : goal.returns-clause-trail
returns-clause-trail g c = λ k d lt. (pass-mark _ _ _ _ _ c.gather-seat.result.me.0 _ (get_or c.args.passes.items k d) c.open.ensures.settled (c.gather-seat.ensures.knows k d lt)).trail

pub returns-clause-mark_same : goal.returns-clause-mark_same
returns-clause-mark_same g c = λ k d lt same. ap (λ (m : Mark). m.number) (pass-mark_same _ _ _ _ _ c.gather-seat.result.me.0 _ (get_or c.args.passes.items k d) c.open.ensures.settled (c.gather-seat.ensures.knows k d lt) same)
