-- The next attempt may begin.
use Rattle.std.proofs.Common.{Some, ap, sym, ◌∙◌}
use Rattle.esa_attempts.proofs.Replaying.{leads_on}
use Rattle.esa_attempts.proofs.replays.has_overflowed.Goals as goal

pub returns-in-Some-StashOverflow : goal.returns-in-Some-StashOverflow
returns-in-Some-StashOverflow g c = λ is more.
    leads_on g.V.Device.faults g.G.Told.plan g.G.Told.draws c.args.floor.now c.args.attempt c.in-Some-StashOverflow.field-0-0 c.requires.stands c.requires.attempt c.requires.room
    (sym c.stop.ensures ∙ c.in-Some-StashOverflow.is ∙ ap Some c.in-Some-StashOverflow.field-0-is) more
