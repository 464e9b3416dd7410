use Rattle.esa_trace.proofs.AttemptLaws.{attempts_fit}
use Rattle.esa_trace.proofs.NumberLaws.{number_fits}
use Rattle.esa_trace.proofs.fits.traces_fit.Goals as goal

pub returns-clause-attempts : goal.returns-clause-attempts
returns-clause-attempts c = attempts_fit

pub returns-clause-number : goal.returns-clause-number
returns-clause-number c = number_fits
