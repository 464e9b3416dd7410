-- What makes a list of numbers an order.
use Rattle.std.specs.Prelude.{ℕ, Bool, bytes_eq, List}
use Rattle.std.specs.Ordering.{nat_cmp}
use Rattle.esa_lists.specs.Ordered.{ordered}
use Rattle.esa_params.specs.Sizes.{below}

-- in rising order these are the numbers below n
abbrev pub is_order : ℕ → List ℕ → Bool
is_order n numbers = bytes_eq (ordered nat_cmp numbers) (below n)
