use Rattle.std.proofs.Common.{rules}
use Rattle.std.specs.Prelude.{slice_get}
use Rattle.std.specs.Ordering.{is_lt}
use Rattle.std.proofs.lemmas.Fn.{always_returns_same}
use Rattle.std.proofs.lemmas.List.Sorted.{ranks_by}
use Rattle.esa_crowds.specs.Rows.{by_place}
use Rattle.esa_crowds.proofs.SortedLaws.{row_options_total}
use Rattle.esa_crowds.proofs.order.sort.Goals as goal

pub returns-clause-sorted : goal.returns-clause-sorted
returns-clause-sorted c =
    c.sort_unstable_by.ensures.sorted (λ one other. is_lt (by_place c.args.rows.now one other)) (ranks_by row_options_total (slice_get c.args.rows.now))
    (always_returns_same _ _ _ (λ a r f called. search rules))
