use Rattle.std.proofs.Common.{rules}
use Rattle.esa_turnstile.proofs.Notes.{notes}
use Rattle.esa_turnstile.proofs.turnstile.Turnstile.note.Goals as goal

pub split_seat-requires : goal.split_seat-requires
split_seat-requires g c = (search rules, search rules, notes _ _ _ _ _ _ c.args.seat.now.me.0 c.requires.outside)
