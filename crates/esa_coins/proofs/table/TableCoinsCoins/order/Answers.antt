use Rattle.std.proofs.Common.{◌<◌, sym, subst, ◌∙◌}
use Rattle.std.specs.List.Sorted.{IsPermutation}
use Rattle.esa_params.specs.Sizes.{below}
use Rattle.esa_coins.specs.Attempt.{table_of}
use Rattle.esa_coins.specs.Table.{import_places}
use Rattle.esa_coins.specs.TableLaws.{order_permuted}
use Rattle.esa_coins.proofs.TableReading.{seen_table, length-order}
use Rattle.esa_coins.proofs.table.TableCoinsCoins.order.Goals as goal

pub copy_order-requires-clause-there : goal.copy_order-requires-clause-there
copy_order-requires-clause-there c =
    let plan = c.args.self.now.plan in
    let table = seen_table table_of plan c.args.self.now.attempts.items c.args.attempt c.index.result.now c.args.self.now.drawn c.requires.attempt_planned c.index.ensures in
    subst (λ n. c.args.bucket < n) (sym table.orders) c.requires.bucket_planned

pub copy_order-requires-clause-room : goal.copy_order-requires-clause-room
copy_order-requires-clause-room c =
    let plan = c.args.self.now.plan in
    let table = seen_table table_of plan c.args.self.now.attempts.items c.args.attempt c.index.result.now c.args.self.now.drawn c.requires.attempt_planned c.index.ensures in
    c.requires.room_for_all ∙ sym (length-order plan (table_of c.index.result.now) c.args.bucket table c.requires.bucket_planned)

pub returns-clause-permutes : goal.returns-clause-permutes
returns-clause-permutes c =
    let plan = c.args.self.now.plan in
    let table = seen_table table_of plan c.args.self.now.attempts.items c.args.attempt c.index.result.now c.args.self.now.drawn c.requires.attempt_planned c.index.ensures in
    subst (λ list. IsPermutation (below (import_places plan)) list) (sym c.copy_order.ensures) (order_permuted plan (table_of c.index.result.now) c.args.bucket table c.requires.bucket_planned)
