use Rattle.std.proofs.Common.{ap, ◌∙◌}
use Rattle.esa_analyser.specs.Opened.{count_in}
use Rattle.esa_analyser.proofs.Counting.{count_in-database_of, database_of-permutation}
use Rattle.esa_analyser.proofs.analysis.Analysis.count.Goals as goal

pub returns-clause-counts : goal.returns-clause-counts
returns-clause-counts c = λ list value have joined.
    ap (λ v. count_in v.database value) (c.recount.ensures list have joined) ∙ count_in-database_of c.args.inner.now list value

pub returns-clause-any_order : goal.returns-clause-any_order
returns-clause-any_order c = λ list others have joined moved.
    ap (λ v. v.database) (c.recount.ensures list have joined) ∙ database_of-permutation c.args.inner.now list others moved
