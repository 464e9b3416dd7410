use Rattle.esa_analyser.proofs.Counting.{database_of-permutation}
use Rattle.esa_crowds.proofs.OrderLaws.{forward-permutation}
use Rattle.esa_crowds.proofs.laws.database_ignores_order.Goals as goal

pub returns-clause-forwarded : goal.returns-clause-forwarded
returns-clause-forwarded c = λ form key drops t items others moved. forward-permutation form key drops t items others moved

pub returns-clause-database : goal.returns-clause-database
returns-clause-database c = λ inner form key drops t items others moved.
    database_of-permutation inner _ _ (forward-permutation form key drops t items others moved)
