use Rattle.std.proofs.Common.{◌≤◌, [], length, sym, subst, arith}
use Rattle.std.proofs.lemmas.Grind.{common_steps}
use Rattle.esa_analyser.specs.Stored.{Stored}
use Rattle.esa_analyser.specs.Rows.{IsDatabase}
use Rattle.esa_analyser.proofs.DbLaws.{short_for_two}
use Rattle.esa_analyser.proofs.db.Db.value.Goals as goal

pub returns-clause-value : goal.returns-clause-value
returns-clause-value c = grind (arith, common_steps)

-- a value of form Two is the longest
pub returns-clause-short : goal.returns-clause-short
returns-clause-short c =
    let stored = c.args.self.now in
    let holds : IsDatabase stored.form stored.database = subst (λ (stored : Stored). IsDatabase stored.form stored.database) c.self.view_is c.self.invariant.1 in
    subst (λ value. length value ≤ 190) (sym (returns-clause-value c)) (short_for_two stored.form stored.database holds c.args.row ([], 0) c.requires)
