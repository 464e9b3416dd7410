use Rattle.std.proofs.Common.{[], length, drop, sym, ap, arith}
use Rattle.std.proofs.lemmas.List.{nil_from_length, length-drop}
use Rattle.esa_header.proofs.HeaderLaws.{same_number}
use Rattle.esa_analyser.specs.Repeated.{all_keys, IsRepeated}
use Rattle.esa_analyser.proofs.KeyRuns.{by_bytes, no_runs, length-run}
use Rattle.esa_analyser.proofs.RunWriting.{all_behind}
use Rattle.esa_lists.specs.Tally.{runs}
use Rattle.esa_analyser.proofs.keys.run_count.Goals as goal

pub returns : goal.returns
returns g c =
    let none = nil_from_length c.loop-rest.rest.now (same_number _ _ (sym c.loop-rest-test.ensures)) in
    omega (arith, c.loop-rest.invariant.counted, no_runs (all_keys c.loop-rest.rest.now) (ap (λ rest. length (all_keys rest)) none))

pub loop-rest-preserved : goal.loop-rest-preserved
loop-rest-preserved g c =
    let i = c.loop-rest.invariant in
    let rest = c.loop-rest.rest.now in
    let number = c.run_length.result in
    let back = c.split_at.ensures.back in
    let run = c.run_length.ensures.run (record { key = []; times = 0 }) in
    record {
      counted = omega (arith, i.counted, length-run (all_keys rest) _ _ (all_keys (drop number rest)) run, ap (λ keys. length (runs by_bytes (all_keys keys))) back);
      few = omega (arith, ap length back, length-drop number rest, i.few, c.run_length.ensures.some, c.run_length.ensures.inside);
      each = all_behind IsRepeated number rest c.split_at.result.1.now back i.each;
    }
