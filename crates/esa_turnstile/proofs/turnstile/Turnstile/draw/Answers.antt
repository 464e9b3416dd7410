use Rattle.std.proofs.Common.{rules}
use Rattle.esa_turnstile.proofs.Draws.{draws}
use Rattle.esa_turnstile.proofs.turnstile.Turnstile.draw.Goals as goal

pub fetch_add-requires : goal.fetch_add-requires
fetch_add-requires g c = (search rules, search rules, draws _ _ _ _ _ _ _ c.args.seat.now.me c.requires.outside c.requires.single c.requires.ticket)
