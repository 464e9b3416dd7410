use Rattle.std.proofs.Common.{rules, ◌≡◌, ◌<◌, ◌+◌, length, get_or, take, map, ap, ◌∙◌, arith, List, ℕ, set}
use Rattle.std.proofs.lemmas.List.{length-take}
use Rattle.esa_stash.specs.Sizes.{below}
use Rattle.esa_stash.specs.Dealing.{arrivals}
use Rattle.esa_stash.proofs.TotalLemmas.{none_counted, arrivals-le, count_read, counted-more}
use Rattle.esa_stash.proofs.totals.count_targets.Goals as goal
use Rattle.esa_stash.proofs.totals.count_targets.Goals.{In-loop-target}

pub loop-target-init : goal.loop-target-init
loop-target-init c = record {
  below_all = c.requires;
  counted = c.fill.ensures.after (λ y is. is) ∙ none_counted 0 (length c.args.counts.now);
}

-- the target that comes now, and the count that is read
target_below : (c : In-loop-target) → get_or c.args.targets.now c.loop-target.target-index 0 < length c.args.counts.now
target_below c = c.loop-target.invariant.below_all c.loop-target.target-index 0 c.loop-target-test.true

count_is : (c : In-loop-target) → get_or c.loop-target.counts (get_or c.args.targets.now c.loop-target.target-index 0) 0 ≡ get_or (map (arrivals (take c.loop-target.target-index c.args.targets.now)) (below (length c.args.counts.now))) (get_or c.args.targets.now c.loop-target.target-index 0) 0
count_is c = ap (λ (counts : List ℕ). get_or counts (get_or c.args.targets.now c.loop-target.target-index 0) 0) c.loop-target.invariant.counted

pub overflow_add-counts : goal.overflow_add-counts
overflow_add-counts c =
    let at = (goal.at.overflow_add-counts c).In-loop-target in
    let is = count_read c.args.targets.now c.loop-target.target-index (length c.args.counts.now) _ c.loop-target-test.true (target_below at) (count_is at) in
    let least = arrivals-le (take c.loop-target.target-index c.args.targets.now) (get_or c.args.targets.now c.loop-target.target-index 0) in
    let taken = length-take c.loop-target.target-index c.args.targets.now in
    let fits : get_or c.loop-target.counts (get_or c.args.targets.now c.loop-target.target-index 0) 0 + 1 < 18446744073709551616 = omega arith in
    search rules

pub loop-target-preserved : goal.loop-target-preserved
loop-target-preserved c =
    let at = (goal.at.loop-target-preserved c).In-loop-target in
    let target = get_or c.args.targets.now c.loop-target.target-index 0 in
    record {
      below_all = c.loop-target.invariant.below_all;
      counted =
          ap (λ (counts : List ℕ). set counts target (get_or c.loop-target.counts target 0 + 1)) c.loop-target.invariant.counted
          ∙ counted-more c.args.targets.now c.loop-target.target-index (length c.args.counts.now) _ c.loop-target-test.true (target_below at) (count_is at);
    }
