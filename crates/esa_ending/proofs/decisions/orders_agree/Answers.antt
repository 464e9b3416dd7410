use Rattle.esa_ending.proofs.DecisionLaws.{output-same, places-same}
use Rattle.esa_ending.proofs.decisions.orders_agree.Goals as goal

pub returns-clause-places : goal.returns-clause-places
returns-clause-places g c = places-same

pub returns-clause-output : goal.returns-clause-output
returns-clause-output g c = λ p ds es hs seen other a e records out others same orders s t from to.
    output-same p ds es hs seen other same a e records out others orders s t from to
