use Rattle.esa_coins.proofs.StreamLaws.{streams-differ, streams-fit}
use Rattle.esa_coins.proofs.streams.streams_differ.Goals as goal

pub returns-clause-differ : goal.returns-clause-differ
returns-clause-differ c = streams-differ

pub returns-clause-fit : goal.returns-clause-fit
returns-clause-fit c = streams-fit
