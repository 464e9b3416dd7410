use Rattle.esa_ending.proofs.CutLaws.{cut-behind, cut-nowhere, shuffle-front, trace-front}
use Rattle.esa_ending.proofs.stored.cut_turns_make_a_front.Goals as goal

pub returns-clause-run : goal.returns-clause-run
returns-clause-run c = trace-front

pub returns-clause-shuffle : goal.returns-clause-shuffle
returns-clause-shuffle c = shuffle-front

pub returns-clause-whole : goal.returns-clause-whole
returns-clause-whole c = cut-nowhere

pub returns-clause-attempts : goal.returns-clause-attempts
returns-clause-attempts c = cut-behind
