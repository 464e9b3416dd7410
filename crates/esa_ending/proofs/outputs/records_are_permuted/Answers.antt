use Rattle.std.proofs.Common.{sym, ◌∙◌, ap, subst}
use Rattle.std.specs.List.Sorted.{IsPermutation}
use Rattle.std.specs.Prelude.{slice_get}
use Rattle.esa_spec.specs.Places.{places}
use Rattle.esa_ending.specs.Seen.{turns_in}
use Rattle.esa_ending.proofs.OutputLaws.{good-permutes, permuted, stands-at}
use Rattle.esa_ending.proofs.outputs.records_are_permuted.Goals as goal

pub returns-clause-permuted : goal.returns-clause-permuted
returns-clause-permuted g c = λ p ds hs seen a records out some drawn s o.
    subst (IsPermutation records) (sym o.order)
    (permuted records p.n (places p (ds a) (turns_in hs a)) o.all (good-permutes p ds hs a some drawn s.good))

pub returns-clause-position : goal.returns-clause-position
returns-clause-position g c = λ p ds hs seen a records out x some drawn s o x_in.
    ap (λ y. slice_get y x) o.order
    ∙ stands-at records p.n (places p (ds a) (turns_in hs a)) x o.all (good-permutes p ds hs a some drawn s.good) x_in
