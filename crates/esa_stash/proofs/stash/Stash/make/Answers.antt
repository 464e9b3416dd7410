use Rattle.std.proofs.Common.{◌≡◌, [], ap, ◌∙◌, subst, sym}
use Rattle.esa_stash.specs.Arena.{Arena}
use Rattle.esa_stash.specs.Stash.{empty_stash}
use Rattle.esa_stash.specs.Since.{IsSince}
use Rattle.esa_stash.proofs.Exchanging.{IsSince-empty, seen_empty, seen}
use Rattle.esa_stash.proofs.stash.Stash.make.Goals as goal
use Rattle.esa_stash.proofs.stash.Stash.make.Goals.{In_ok-arriving}

is_empty : (c : In_ok-arriving) → seen c.in_ok-cells.cells c.args.c ≡ empty_stash c.args.b c.args.c c.args.s
is_empty c = ap (λ (a : Arena). seen a c.args.c) c.in_ok-cells.ensures ∙ seen_empty c.args.b c.args.c c.args.s

pub returns-clause-empty : goal.returns-clause-empty
returns-clause-empty c = is_empty c

pub returns-clause-since : goal.returns-clause-since
returns-clause-since c = subst (IsSince []) (sym (is_empty c)) (IsSince-empty c.args.b c.args.c c.args.s)
