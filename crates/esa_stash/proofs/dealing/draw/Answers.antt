use Rattle.std.proofs.Common.{◌≡◌, ◌+◌, List, drop, set, sym, ap, ap₂, subst, ◌∙◌, unwrap_or, Option, arith}
use Rattle.std.specs.List.{slice_get}
use Rattle.esa_report.specs.declared.item.Item.{Item}
use Rattle.esa_report.specs.Item.{dummy_item}
use Rattle.esa_stash.specs.Arena.{Arena, popped}
use Rattle.esa_stash.specs.Dealing.{ChangesQueue, queue_of}
use Rattle.esa_stash.proofs.Drawing.{written, first_of_queue, queue_changed, chains_stay, ChangesQueue-popped, drop-one}
use Rattle.esa_stash.proofs.dealing.draw.Goals as goal

pub loop-place-preserved : goal.loop-place-preserved
loop-place-preserved c =
    let line = queue_of c.args.cells.now c.args.chain in
    let n = c.loop-place.place-index in
    let so_far = c.loop-place.invariant in
    let stay = chains_stay c.args.cells.now c.loop-place.cells c.args.chain (drop n line) so_far.queue in
    let first =
    c.pop.ensures.first
    ∙ first_of_queue c.loop-place.cells c.args.chain (omega arith)
    ∙ ap (λ (q : List Item). slice_get q 0) (queue_changed c.args.cells.now c.loop-place.cells c.args.chain (drop n line) so_far.inside so_far.queue)
    in
    let next : c.unwrap_or.result ≡ unwrap_or (slice_get (drop n line) 0) dummy_item =
    c.unwrap_or.ensures ∙ ap₂ (λ (o : Option Item) (d : Item). unwrap_or o d) first c.dummy.ensures
    in
    record {
      inside = so_far.inside;
      out =
          ap₂ (λ (l : List Item) (x : Item). set l n x) so_far.out next
          ∙ written n line c.args.out.now (omega arith);
      queue =
          subst (λ (a : Arena). ChangesQueue c.args.cells.now a c.args.chain (drop (n + 1) line)) (sym c.pop.ensures.rest)
          (subst (λ (q : List Item). ChangesQueue c.args.cells.now (popped c.loop-place.cells c.args.chain) c.args.chain q) (drop-one n line) (ChangesQueue-popped c.args.cells.now c.loop-place.cells c.args.chain (drop n line) so_far.inside so_far.queue));
      count = so_far.count;
    }
