use Rattle.std.proofs.Common.{◌≡◌, [], ◌∷◌, map, replicate, length, ap, ◌∙◌, arith}
use Rattle.std.specs.List.{range_with_len}
use Rattle.esa_stash.specs.Ends.{cells_of}
use Rattle.esa_stash.proofs.Rising.{AreLinked-rising, cells_of-rising, length-rising}
use Rattle.esa_stash.proofs.links.Links.make.Goals as goal
use Rattle.esa_stash.proofs.links.Links.make.Goals.{In_ok-lists}

lists_are : (c : In_ok-lists) → map (cells_of c.in_ok-next.next.items) c.in_ok-lists.lists.items ≡ range_with_len 0 c.args.cells ∷ replicate c.args.lists []
lists_are c = rw (c.in_ok-next.ensures, c.in_ok-lists.ensures) (cells_of-rising c.args.cells c.args.lists)

pub invariant_of-result : goal.invariant_of-result
invariant_of-result c = rw (c.in_ok-next.ensures, c.in_ok-lists.ensures) (AreLinked-rising c.args.cells c.args.lists (omega arith))

pub returns-clause-lists : goal.returns-clause-lists
returns-clause-lists c = lists_are c

pub returns-clause-room : goal.returns-clause-room
returns-clause-room c = ap length c.in_ok-next.ensures ∙ length-rising c.args.cells
