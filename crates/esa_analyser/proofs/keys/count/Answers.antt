use Rattle.std.proofs.Common.{rules, ◌≡◌, ◌+◌, ◌*◌, ℕ, List, length, map, sym, ap, subst, ◌∙◌, arith}
use Rattle.std.specs.Prelude.{All, filter_map}
use Rattle.std.specs.List.Sorted.{IsPermutation}
use Rattle.std.specs.List.{sum_by}
use Rattle.std.proofs.lemmas.List.{length-map}
use Rattle.std.proofs.lemmas.List.Sorted.{sum_by-IsPermutation, All-permutation}
use Rattle.esa_lists.specs.Tally.{runs}
use Rattle.esa_header.specs.Pieces.{pieces}
use Rattle.esa_analyser.specs.Opened.{reported}
use Rattle.esa_analyser.specs.declared.repeated.Repeated.{Repeated}
use Rattle.esa_analyser.specs.SortKey.{key_value, row_of}
use Rattle.esa_analyser.specs.Repeated.{all_keys, weighed, IsRepeated}
use Rattle.esa_analyser.proofs.KeyRuns.{by_bytes, rows_of-keys}
use Rattle.esa_analyser.proofs.Repeats.{weighed-all, length-alike, rows_of-alike, length-all_keys, are_sort_keys, IsSorted-all}
use Rattle.esa_analyser.proofs.keys.count.Goals as goal

-- the sums over what is kept are those over what was reported
same_sums : (P : ℕ) (filled sorted : List (Repeated P)) (reports : List (List ℕ)) → IsPermutation filled sorted → ((f : List ℕ → ℕ) → weighed f filled ≡ sum_by f reports) → (f : List ℕ → ℕ) → sum_by f (map key_value (all_keys sorted)) ≡ sum_by f reports
same_sums P filled sorted reports moved counted f =
    weighed-all f sorted ∙ sum_by-IsPermutation (λ (repeated : Repeated P). repeated.times * f (key_value repeated.key)) filled sorted moved ∙ counted f

pub returns-clause-rows : goal.returns-clause-rows
returns-clause-rows g c =
    let reports = filter_map (reported c.args.inner.now) (pieces (g.row.P + 40) c.args.number c.args.envelopes.now) in
    rows_of-alike _ reports (same_sums g.row.P _ _ reports c.sort_unstable.ensures.permutation c.fill.ensures.counted)

pub returns-clause-number : goal.returns-clause-number
returns-clause-number g c =
    let reports = filter_map (reported c.args.inner.now) (pieces (g.row.P + 40) c.args.number c.args.envelopes.now) in
    sym (length-map (all_keys c.sort_unstable.new.self.items) key_value)
    ∙ length-alike _ reports (same_sums g.row.P _ _ reports c.sort_unstable.ensures.permutation c.fill.ensures.counted)

pub returns-clause-few : goal.returns-clause-few
returns-clause-few g c =
    let sorted = c.sort_unstable.new.self.items in
    omega (arith, length-all_keys sorted, sum_by-IsPermutation (λ (repeated : Repeated g.row.P). repeated.times * 1) _ sorted c.sort_unstable.ensures.permutation, c.fill.ensures.few)

pub run_count-requires : goal.run_count-requires
run_count-requires g c = (
  search rules,
  (
    subst (All IsRepeated) (sym c.deref.ensures.value) (All-permutation IsRepeated _ _ c.sort_unstable.ensures.permutation c.fill.ensures.each),
    omega (arith, c.deref.ensures.len, c.sort_unstable.ensures.len, c.fill.ensures.short, c.requires.few),
  ),
)

pub returns-clause-each : goal.returns-clause-each
returns-clause-each g c = All-permutation IsRepeated _ _ c.sort_unstable.ensures.permutation c.fill.ensures.each

pub returns-clause-sorted : goal.returns-clause-sorted
returns-clause-sorted g c = IsSorted-all c.sort_unstable.new.self.items c.sort_unstable.ensures.sorted

pub returns-clause-different : goal.returns-clause-different
returns-clause-different g c =
    let keys = c.sort_unstable.new.self.items in
    let are = are_sort_keys keys (All-permutation IsRepeated _ _ c.sort_unstable.ensures.permutation c.fill.ensures.each) in
    c.run_count.ensures
    ∙ ap (λ ks. length (runs by_bytes (all_keys ks))) c.deref.ensures.value
    ∙ sym (ap length (rows_of-keys g.row.P (all_keys keys) are (IsSorted-all keys c.sort_unstable.ensures.sorted)) ∙ length-map (runs by_bytes (all_keys keys)) row_of)
