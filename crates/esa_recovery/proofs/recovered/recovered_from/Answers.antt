use Rattle.std.proofs.Common.{ℕ, ◌+◌, ◌≤◌, ◌<◌, List, length, sym, ap, ◌∙◌, subst, arith}
use Rattle.std.specs.Prelude.{All}
use Rattle.std.proofs.lemmas.List.{length-map}
use Rattle.std.proofs.lemmas.List.Elements.{All-weaker}
use Rattle.esa_analyser.specs.Database.{longest}
use Rattle.esa_analyser.specs.Rows.{IsRow, database_bytes}
use Rattle.esa_analyser.proofs.DbLaws.{short_for_two}
use Rattle.esa_recovery.specs.Meaning.{meaning}
use Rattle.esa_recovery.specs.Recovered.{recovered_database}
use Rattle.esa_recovery.specs.Sums.{plain}
use Rattle.esa_recovery.specs.declared.sums.Sum.{Sum}
use Rattle.esa_recovery.proofs.RecoveredLaws.{IsDatabase-recovered, lost-le}
use Rattle.esa_recovery.proofs.recovered.recovered_from.Goals as goal

pub overflow_add-unopened : goal.overflow_add-unopened
overflow_add-unopened c =
    let database = c.args.db.now.database in
    omega (arith, c.unopened.ensures, c.in_ok-tally.ensures.lost, lost-le (meaning database.rows) database.rows, c.requires)

pub spelled-requires-clause-short : goal.spelled-requires-clause-short
spelled-requires-clause-short c =
    let stored = c.args.db.now in
    let is = IsDatabase-recovered stored.form stored.database c.form-form.ensures.holds c.requires in
    subst (All (λ (row : List ℕ × ℕ). length row.0 ≤ 190)) (sym (ap plain c.deref.ensures.value ∙ c.in_ok-tally.ensures.sums)) (short_for_two stored.form (recovered_database stored.database) is)

pub spelled-requires-clause-few : goal.spelled-requires-clause-few
spelled-requires-clause-few c =
    let stored = c.args.db.now in
    let is = IsDatabase-recovered stored.form stored.database c.form-form.ensures.holds c.requires in
    omega (arith, is.number, ap length c.in_ok-tally.ensures.sums, ap length c.deref.ensures.value, length-map {B = List ℕ × ℕ} c.in_ok-tally.tally.sums.items (λ (sum : Sum). (sum.value.now, sum.count)))

pub returns : goal.returns
returns c =
    let stored = c.args.db.now in
    let is = IsDatabase-recovered stored.form stored.database c.form-form.ensures.holds c.requires in
    c.read.ensures stored.form (recovered_database stored.database) is
    (c.deref-2.ensures.value ∙ c.in_ok-bytes.ensures
    ∙ (λ i. database_bytes (c.form-form.ensures.form i) (record { rows = (ap plain c.deref.ensures.value ∙ c.in_ok-tally.ensures.sums) i; unopened = c.unopened.ensures i + c.in_ok-tally.ensures.lost i })))

pub tally_of-requires-clause-some : goal.tally_of-requires-clause-some
tally_of-requires-clause-some c =
    let stored = c.args.db.now in
    All-weaker (IsRow (longest stored.form)) (λ row. 0 < row.1) (λ row is. is.counted) stored.database.rows c.form-form.ensures.holds.rows
