use Rattle.std.proofs.Common.{arith}
use Rattle.esa_turnstile.specs.Rolls.{entries_in}
use Rattle.esa_turnstile.proofs.EachNumber.{each-counted}
use Rattle.esa_turnstile.proofs.rounds.workers.Goals as goal

pub returns-clause-each : goal.returns-clause-each
returns-clause-each g c = each-counted c.in-Ok.opened.turnstile c.args.turns _ _ c.args.count c.in-Ok.opened.passes.items c.as_mut_slice.result.now c.all_rounds.new.passes (entries_in c.close.result)
    c.in-Ok.ensures.count c.as_mut_slice.ensures.value c.all_rounds.auto.passes c.in-Ok.ensures.dealt c.in-Ok.ensures.numbers c.all_rounds.ensures _ (omega (arith, c.in-Ok.opened.passes.ok.0)) c.close.ensures.counts
