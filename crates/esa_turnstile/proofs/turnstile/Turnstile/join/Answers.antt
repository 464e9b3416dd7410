use Rattle.std.proofs.Common.{rules}
use Rattle.esa_turnstile.proofs.Notes.{meets}
use Rattle.esa_turnstile.proofs.turnstile.Turnstile.join.Goals as goal

pub join_seat-requires : goal.join_seat-requires
join_seat-requires g c = (search rules, search rules, search rules, search rules, meets _ _ _ _ _ _ c.args.seat.now.me.0 _ c.args.other.me.0 c.requires.outside.0 c.requires.outside.1 c.requires.table.0.1 c.requires.table.1.1)
