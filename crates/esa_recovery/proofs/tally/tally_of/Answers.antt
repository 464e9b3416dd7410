use Rattle.std.proofs.Common.{true, cond, Some, ap, ◌∙◌, arith}
use Rattle.std.specs.FinMap as finite
use Rattle.esa_recovery.specs.Meaning.{meaning}
use Rattle.esa_recovery.specs.Groups.{given}
use Rattle.esa_recovery.specs.Sums.{tested, tested_groups, plain}
use Rattle.esa_recovery.proofs.SumsLaws.{is_nothing, summed-alike, tested-lost, tested-nothing}
use Rattle.esa_recovery.proofs.tally.tally_of.Goals as goal

pub merged-requires-clause-fits : goal.merged-requires-clause-fits
merged-requires-clause-fits c =
    omega (
      arith,
      c.requires.fits,
      c.in_ok-lost.ensures.counted (λ _. true),
      c.in_ok-counts.ensures.counted (λ _. true),
      ap (λ sums. tested (λ _. true) Some (plain sums.items)) c.in_ok-counts.sums-is,
      ap (tested_groups (λ _. true) (given c.args.groups.now)) c.deref.ensures.value,
    )

pub returns-clause-sums : goal.returns-clause-sums
returns-clause-sums c =
    let rows = c.args.db.now.database.rows in
    c.in_ok-sums.ensures
    ∙ ap finite.entries (summed-alike Some (meaning rows) (plain c.add_groups.new.sums.items) rows c.in_ok-lost.ensures.some c.requires.some
    (λ test none. omega (
      arith,
      c.in_ok-lost.ensures.counted test,
      c.in_ok-counts.ensures.counted test,
      ap (λ b. cond b c.in_ok-lost.lost 0) none,
      ap (λ sums. tested test Some (plain sums.items)) c.in_ok-counts.sums-is,
      ap (tested_groups test (given c.args.groups.now)) c.deref.ensures.value,
    )))

pub returns-clause-lost : goal.returns-clause-lost
returns-clause-lost c =
    let rows = c.args.db.now.database.rows in
    omega (
      arith,
      c.in_ok-lost.ensures.counted is_nothing,
      c.in_ok-counts.ensures.counted is_nothing,
      tested-nothing (plain c.add_groups.new.sums.items),
      tested-lost (meaning rows) rows,
      ap (λ sums. tested is_nothing Some (plain sums.items)) c.in_ok-counts.sums-is,
      ap (tested_groups is_nothing (given c.args.groups.now)) c.deref.ensures.value,
    )
