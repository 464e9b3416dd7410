use Rattle.esa_spec.specs.Traces.{written_input}
use Rattle.esa_ending.proofs.FrontLaws.{image-front}
use Rattle.esa_ending.proofs.CutLaws.{cut-at, cut-in-shuffle, overflowed, succeeded}
use Rattle.esa_ending.proofs.stored.endings_of_stored_turns.Goals as goal

pub returns-clause-success : goal.returns-clause-success
returns-clause-success c = succeeded

pub returns-clause-overflow : goal.returns-clause-overflow
returns-clause-overflow c = overflowed

pub returns-clause-cut : goal.returns-clause-cut
returns-clause-cut c = cut-at

pub returns-clause-cut_in_shuffle : goal.returns-clause-cut_in_shuffle
returns-clause-cut_in_shuffle c = cut-in-shuffle

pub returns-clause-cut_in_load : goal.returns-clause-cut_in_load
returns-clause-cut_in_load c = λ p seen history cause device none front short.
    record {
      there = short;
      written = image-front (written_input p) p.b seen.trace front;
      turns = none;
      history = history;
      cause = cause;
      device = device;
    }
