use Rattle.std.proofs.Common.{◌≡◌, ◌+◌, ◌≤◌, ℕ, ◌∷◌, ◌++◌, [], length, drop, ap, arith, inr, length-append, length-drop}
use Rattle.std.specs.Option.{option_map}
use Rattle.std.proofs.lemmas.Result.{err_from_is_err_and}
use Rattle.std.proofs.lemmas.List.Elements.{All-push, All-same}
use Rattle.esa_analyser.specs.Reading.{row_length}
use Rattle.esa_analyser.proofs.RowReading.{Passes, reads_as, reads_more, reads_refused, passes, value_between}
use Rattle.esa_analyser.proofs.db.read_rows.Goals as goal

pub returns-in_err-end-clause-rows : goal.returns-in_err-end-clause-rows
returns-in_err-end-clause-rows c =
    let p = err_from_is_err_and c.from_residual.result c.from_residual.ensures.1 in
    rw (p.1, p.2) (inr (reads_refused c.args.longest c.args.bytes.now c.args.number c.loop-row.starts.items c.loop-row.row (option_map (λ value. value.now) c.loop-row.before) c.loop-row.start c.in_err-end.field-0.0 c.loop-row-test.true c.in_err-end.ensures c.loop-row.invariant.read))

pub loop-row-preserved : goal.loop-row-preserved
loop-row-preserved c =
    let bytes = c.args.bytes.now in
    let before = option_map (λ value. value.now) c.loop-row.before in
    let start = c.loop-row.start in
    let none = c.in_ok-end.ensures.0 in
    let ends : c.in_ok-end.end ≡ start + row_length (drop start bytes) = c.in_ok-end.ensures.1 in
    let row : Passes c.args.longest before (drop start bytes) = passes c.args.longest (length bytes) c.loop-row.row before (drop start bytes) none in
    let inside : start + row_length (drop start bytes) ≤ length bytes = omega (arith, length-drop start bytes, row.whole) in
    let pushed : c.push.new.self.items ≡ c.loop-row.starts.items ++ start ∷ [] = c.in_ok-push.ensures.items in
    let InsideAt = λ (place : ℕ). place + row_length (drop place bytes) ≤ length bytes in
    record {
      place = omega arith;
      number = omega (arith, ap length pushed, length-append c.loop-row.starts.items (start ∷ []), c.loop-row.invariant.number);
      inside = All-same InsideAt _ _ pushed (All-push InsideAt c.loop-row.starts.items start c.loop-row.invariant.inside inside);
      read = reads_as c.args.longest bytes c.args.number (c.loop-row.row + 1) _ _ _ _ _ _ pushed (value_between bytes start c.in_ok-end.end ends) ends
          (reads_more c.args.longest bytes c.args.number c.loop-row.starts.items c.loop-row.row before start c.loop-row-test.true none c.loop-row.invariant.read);
    }
