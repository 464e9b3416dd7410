use Rattle.std.proofs.Common.{refl, subst, sym}
use Rattle.std.specs.Prelude.{IsSome}
use Rattle.esa_turnstile.proofs.Closing.{closes, closes-with}
use Rattle.esa_turnstile.specs.Marks.{marked}
use Rattle.esa_turnstile.proofs.turnstile.Turnstile.open.Goals as goal

pub unwrap-requires : goal.unwrap-requires
unwrap-requires g c =
    let y = closes g.T.Logged.log g.T.Logged.origin g.T.Logged.IsSound (marked g.T.Logged.mark g.T.Logged.trail) _ _ _ _ c.args.seat.me.0 _ c.requires.outside c.requires.whole c.requires.table.1 c.close_with-closed.ensures.values.2 c.take-value.ensures.value in
    subst IsSome (sym y.1) refl

pub returns : goal.returns
returns g c =
    let y = closes g.T.Logged.log g.T.Logged.origin g.T.Logged.IsSound (marked g.T.Logged.mark g.T.Logged.trail) _ _ _ _ c.args.seat.me.0 _ c.requires.outside c.requires.whole c.requires.table.1 c.close_with-closed.ensures.values.2 c.take-value.ensures.value in
    record { settled = closes-with g.T.Logged.log g.T.Logged.origin g.T.Logged.IsSound (marked g.T.Logged.mark g.T.Logged.trail) _ c.args.seat.me.0 y.0 c.unwrap.result _ y.1 c.unwrap.ensures y.2 }
