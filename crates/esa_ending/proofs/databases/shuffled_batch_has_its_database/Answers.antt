use Rattle.std.proofs.Common.{sym, subst}
use Rattle.std.specs.List.Sorted.{IsPermutation}
use Rattle.esa_analyser.proofs.Counting.{database_of-permutation}
use Rattle.esa_crowds.proofs.OrderLaws.{forward-permutation}
use Rattle.esa_spec.specs.Places.{places}
use Rattle.esa_ending.specs.Seen.{turns_in}
use Rattle.esa_ending.proofs.OutputLaws.{good-permutes, permuted}
use Rattle.esa_ending.proofs.databases.shuffled_batch_has_its_database.Goals as goal

pub returns : goal.returns
returns c = λ p ds hs seen a records out some drawn s o inner key drops t.
    let moved : IsPermutation records out = subst (IsPermutation records) (sym o.order)
    (permuted records p.n (places p (ds a) (turns_in hs a)) o.all (good-permutes p ds hs a some drawn s.good)) in
    sym (database_of-permutation inner _ _ (forward-permutation p.form key drops t records out moved))
