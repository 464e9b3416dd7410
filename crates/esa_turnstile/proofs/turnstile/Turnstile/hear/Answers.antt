use Rattle.std.proofs.Common.{rules}
use Rattle.esa_turnstile.proofs.Notes.{hears}
use Rattle.esa_turnstile.proofs.turnstile.Turnstile.hear.Goals as goal

pub load-requires : goal.load-requires
load-requires g c = (search rules, search rules, hears _ _ _ _ _ _ _ c.args.seat.now.me c.requires.table.1)
