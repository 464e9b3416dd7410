-- One text more.
use Rattle.esa_turnstile.specs.Rolls.{entries_in}
use Rattle.esa_turnstile.proofs.Prefixes.{texts-push}
use Rattle.esa_bench_turnstile.proofs.turnstile.enter_once.Goals as goal

pub leave-requires-clause-trail : goal.leave-requires-clause-trail
leave-requires-clause-trail g c =
    texts-push (entries_in c.enter-held.result.value) (entries_in c.add.new.self) c.number.result _ c.enter-held.ensures.found.2 c.add.ensures.added
