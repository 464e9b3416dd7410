use Rattle.std.proofs.Common.{◌≡◌, ◌+◌, ◌-◌, ◌<◌, ◌++◌, length, take, drop, replicate, zero-add, Some, sym, ap, subst, ◌∙◌, arith, rules, append-nil, take_all, slice_index, slice_set}
use Rattle.std.specs.Prelude.{All}
use Rattle.std.proofs.lemmas.List.{at_drop_all, drop_all, length-map}
use Rattle.std.specs.Option.{option_map}
use Rattle.esa_recovery.specs.Meaning.{meaning}
use Rattle.esa_recovery.specs.Groups.{given}
use Rattle.esa_recovery.specs.Sums.{tested, tested_groups, plain}
use Rattle.esa_recovery.proofs.SumsLaws.{groups-none}
use Rattle.esa_recovery.proofs.TallyLaws.{number-counted, number-fits, number-inside}
use Rattle.esa_recovery.proofs.tally.count_rows.Goals as goal

pub loop-left-init : goal.loop-left-init
loop-left-init c =
    let rows = c.args.db.now.database.rows in
    let groups = c.args.groups.now in
    let n = c.len.result in
    let none = c.in_ok-counts.ensures.items_if_clones_equal (search rules) in
    record {
      inside = omega (arith, c.rows-left.ensures);
      each = omega (arith, c.in_ok-counts.ensures.len, c.len.ensures, length-map groups.values.items (option_map (λ value. value.items)));
      some = subst (λ sums. All (λ row. 0 < row.1) (plain sums)) (sym c.new-sums.ensures.items) (λ k d below. absurd (omega (arith, below)));
      counted = λ test.
          (λ i. tested test Some (plain (c.new-sums.ensures.items i)) + tested_groups test (given groups) (none i))
          ∙ zero-add (tested_groups test (given groups) (replicate n 0)) ∙ groups-none test (given groups) n
          ∙ sym (at_drop_all (tested test (meaning rows)) rows c.rows-left.result (omega (arith, c.rows-left.ensures)));
    }

pub add_at-requires-clause-inside : goal.add_at-requires-clause-inside
add_at-requires-clause-inside c =
    let rows = c.args.db.now.database.rows in
    let left = c.loop-left.left in
    subst (λ counts. c.index.result.now < length counts) (sym c.deref_mut.ensures.value)
    (number-inside rows c.args.groups.now c.requires.opens left (left - 1) (omega (arith, c.loop-left-test.true, c.loop-left.invariant.inside)) (omega (arith, c.loop-left-test.true))
    c.value-value.result.now c.count-count.result c.value-value.ensures.value c.count-count.ensures c.index.result.now (sym c.is_share.ensures ∙ c.if-is_share.true) c.index.ensures c.loop-left.counts.items c.loop-left.invariant.each)

pub add_at-requires-clause-fits : goal.add_at-requires-clause-fits
add_at-requires-clause-fits c =
    let rows = c.args.db.now.database.rows in
    let left = c.loop-left.left in
    subst (λ counts. slice_index counts c.index.result.now + c.count-count.result < 4294967296) (sym c.deref_mut.ensures.value)
    (number-fits rows c.args.groups.now c.requires.opens left (left - 1) (omega (arith, c.loop-left-test.true, c.loop-left.invariant.inside)) (omega (arith, c.loop-left-test.true))
    c.value-value.result.now c.count-count.result c.value-value.ensures.value c.count-count.ensures c.index.result.now (sym c.is_share.ensures ∙ c.if-is_share.true) c.index.ensures c.loop-left.counts.items c.loop-left.invariant.each
    (plain c.loop-left.sums.items) c.loop-left.invariant.counted c.requires.fits)

pub loop-left-preserved-then-is_share : goal.loop-left-preserved-then-is_share
loop-left-preserved-then-is_share c =
    let rows = c.args.db.now.database.rows in
    let groups = c.args.groups.now in
    let left = c.loop-left.left in
    let counts = c.loop-left.counts.items in
    let written = c.add_at.new.counts in
    let back = take c.loop-left.counts.len (written ++ drop (length written) counts) in
    let whole : back ≡ written =
    ap (λ behind. take c.loop-left.counts.len (written ++ behind)) (drop_all (length written) counts (omega (arith, c.add_at.auto.counts, ap length c.deref_mut.ensures.value)))
    ∙ ap (take c.loop-left.counts.len) (append-nil written)
    ∙ take_all c.loop-left.counts.len written (omega (arith, c.add_at.auto.counts, c.deref_mut.ensures.len)) in
    let added = c.add_at.ensures ∙ ap (λ old. slice_set old c.index.result.now (slice_index old c.index.result.now + c.count-count.result)) c.deref_mut.ensures.value in
    record {
      inside = omega (arith, c.loop-left.invariant.inside);
      each = omega (arith, ap length whole, c.add_at.auto.counts, ap length c.deref_mut.ensures.value, c.loop-left.invariant.each);
      some = c.loop-left.invariant.some;
      counted = λ test.
          ap (λ new. tested test Some (plain c.loop-left.sums.items) + tested_groups test (given groups) new) (whole ∙ added)
          ∙ number-counted rows groups c.requires.opens left (left - 1) (omega (arith, c.loop-left-test.true, c.loop-left.invariant.inside)) (omega (arith, c.loop-left-test.true))
          c.value-value.result.now c.count-count.result c.value-value.ensures.value c.count-count.ensures c.index.result.now (sym c.is_share.ensures ∙ c.if-is_share.true) c.index.ensures counts c.loop-left.invariant.each
          (plain c.loop-left.sums.items) c.loop-left.invariant.counted test;
    }
