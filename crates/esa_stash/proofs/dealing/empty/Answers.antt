use Rattle.std.proofs.Common.{◌+◌, List, drop, sym, subst}
use Rattle.esa_report.specs.declared.item.Item.{Item}
use Rattle.esa_stash.specs.Arena.{Arena, popped}
use Rattle.esa_stash.specs.Dealing.{ChangesQueue, queue_of}
use Rattle.esa_stash.proofs.Drawing.{ChangesQueue-popped, drop-one}
use Rattle.esa_stash.proofs.dealing.empty.Goals as goal

pub loop-taken-preserved : goal.loop-taken-preserved
loop-taken-preserved c =
    let old = c.args.cells.now in
    let now = c.loop-taken.cells in
    let line = queue_of old c.args.chain in
    let n = c.loop-taken._taken in
    let so_far = c.loop-taken.invariant in
    record {
      inside = so_far.inside;
      held = so_far.held;
      queue =
          subst (λ (a : Arena). ChangesQueue old a c.args.chain (drop (n + 1) line)) (sym c.pop.ensures.rest)
          (subst (λ (q : List Item). ChangesQueue old (popped now c.args.chain) c.args.chain q) (drop-one n line) (ChangesQueue-popped old now c.args.chain (drop n line) so_far.inside so_far.queue));
    }
