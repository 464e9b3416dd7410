use Rattle.esa_laws.proofs.VerdictLaws.{failing-none, failing-same, finished-now, verdict-now}
use Rattle.esa_laws.proofs.spreads.one_turn_fails.Goals as goal

pub returns-clause-no_exchange : goal.returns-clause-no_exchange
returns-clause-no_exchange c = failing-same

pub returns-clause-fits : goal.returns-clause-fits
returns-clause-fits c = failing-none

pub returns-clause-finished : goal.returns-clause-finished
returns-clause-finished c = finished-now

pub returns-clause-overflow : goal.returns-clause-overflow
returns-clause-overflow c = verdict-now
