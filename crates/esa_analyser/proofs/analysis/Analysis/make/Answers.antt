use Rattle.esa_analyser.proofs.Counting.{IsCounted-empty, counted_in-empty}
use Rattle.esa_analyser.proofs.analysis.Analysis.make.Goals as goal

pub invariant_of-result : goal.invariant_of-result
invariant_of-result c = IsCounted-empty c.in_ok-kept.kept c.args.n c.in_ok-kept.ensures.each c.in_ok-kept.ensures.empty c.in_ok-kept.ensures.room

pub returns : goal.returns
returns c = counted_in-empty c.in_ok-kept.kept c.args.form c.args.n c.in_ok-kept.ensures.form c.in_ok-kept.ensures.empty
