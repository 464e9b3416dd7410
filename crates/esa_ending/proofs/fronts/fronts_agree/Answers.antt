use Rattle.std.proofs.Common.{sym, ◌∙◌}
use Rattle.esa_ending.proofs.FrontLaws.{both-begin}
use Rattle.esa_ending.proofs.fronts.fronts_agree.Goals as goal

pub returns : goal.returns
returns c = λ all xs ys b e. both-begin xs ys b.0 e.0 (sym b.1 ∙ e.1)
