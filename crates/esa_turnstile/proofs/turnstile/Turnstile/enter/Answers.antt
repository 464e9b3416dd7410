use Rattle.std.proofs.Common.{ap}
use Rattle.esa_turnstile.proofs.Counts.{counted-after, found-after}
use Rattle.esa_turnstile.proofs.turnstile.Turnstile.enter.Goals as goal

pub invariant_of-pass-clause-found : goal.invariant_of-pass-clause-found
invariant_of-pass-clause-found g c =
    let got = c.wait_turn-value.ensures in
    found-after _ _ c.args.pass.now.seat.me.0 c.draw-ticket.new.seat.me.0 _ _ c.args.pass.now.member (ap (λ m. m.0) c.draw-ticket.ensures.drawn) (ap (λ m. m.0) got.enters) got.found.own

pub invariant_of-pass-clause-counted : goal.invariant_of-pass-clause-counted
invariant_of-pass-clause-counted g c =
    counted-after _ _ c.args.pass.now.seat.me.0 c.draw-ticket.new.seat.me.0 _ _ (ap (λ m. m.0) c.draw-ticket.ensures.drawn) (ap (λ m. m.0) c.wait_turn-value.ensures.enters) c.args.pass.now.counted
