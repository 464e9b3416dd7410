use Rattle.std.proofs.Common.{ℕ, ◌<◌, List, length, sym, subst, arith}
use Rattle.std.specs.List.{All}
use Rattle.esa_coins.specs.Attempt.{table_of}
use Rattle.esa_coins.specs.TableLaws.{places_inside, targets_inside}
use Rattle.esa_coins.proofs.TableReading.{seen_table}
use Rattle.esa_coins.proofs.table.TableCoinsCoins.targets.Goals as goal

pub copy_targets-requires : goal.copy_targets-requires
copy_targets-requires c =
    let plan = c.args.self.now.plan in
    let table = seen_table table_of plan c.args.self.now.attempts.items c.args.attempt c.index.result.now c.args.self.now.drawn c.requires.attempt_planned c.index.ensures in
    omega (arith, table.targets, places_inside plan c.args.bucket, c.first-first.ensures, c.requires.room_for_all)

pub returns-clause-below : goal.returns-clause-below
returns-clause-below c =
    let plan = c.args.self.now.plan in
    let table = seen_table table_of plan c.args.self.now.attempts.items c.args.attempt c.index.result.now c.args.self.now.drawn c.requires.attempt_planned c.index.ensures in
    let P : List ℕ → Type 0 = λ list. All (λ target. target < plan.b) list in
    subst P (sym c.copy_targets.ensures) (targets_inside plan (table_of c.index.result.now) c.first-first.result (length c.args.out.now) table)
