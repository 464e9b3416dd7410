-- Each run is opened and its number written at the rows of its records.
use Rattle.std.proofs.Common.{◌≡◌, ◌+◌, ◌-◌, ◌==◌, [], ◌∷◌, ◌++◌, ℕ, map, length, take, drop, option_map, slice_index, if◌then◌else◌, sym, ap, subst, ◌∙◌, arith, length-drop, append-nil, le_of_eq, take_all}
use Rattle.std.specs.List.{list_any}
use Rattle.std.proofs.lemmas.List.{drop_all, length-map, map-append}
use Rattle.esa_recovery.specs.declared.members.Member.{Member}
use Rattle.esa_recovery.proofs.RunLaws.{IsOpened, opened-all, opened-step}
use Rattle.esa_recovery.proofs.groups.groups_of.Goals as goal

pub loop-start-preserved : goal.loop-start-preserved
loop-start-preserved c =
    let rows = c.args.db.now.database.rows in
    let found = c.in_ok-found.found.items in
    let start = c.loop-start.start in
    let n = c.run_length.result in
    let all = c.deref.result.now in
    let rest = take (length all - start) (drop start all) in
    let is : rest ≡ drop start found = take_all (length all - start) (drop start all) (le_of_eq (length-drop start all)) ∙ ap (drop start) c.deref.ensures.value in
    let values = map (option_map (λ value. value.items)) c.loop-start.values.items in
    let numbers = c.loop-start.numbers.items in
    let written = c.number_rows.new.numbers in
    let many : c.len-in-loop-start.result ≡ length values = omega (arith, c.len-in-loop-start.ensures, length-map c.loop-start.values.items (option_map (λ value. value.items))) in
    let back = take c.loop-start.numbers.len (written ++ drop (length written) numbers) in
    let whole : back ≡ written =
    ap (λ behind. take c.loop-start.numbers.len (written ++ behind)) (drop_all (length written) numbers (omega (arith, c.number_rows.auto.numbers, ap length c.deref_mut.ensures.value)))
    ∙ ap (take c.loop-start.numbers.len) (append-nil written)
    ∙ take_all c.loop-start.numbers.len written (omega (arith, c.number_rows.auto.numbers, c.deref_mut.ensures.len)) in
    let at : (row : ℕ) → slice_index written row ≡ (if list_any (λ (member : Member). member.row == row) (take n rest) then length values else slice_index numbers row) =
    λ row. c.number_rows.ensures row ∙ (λ i. if list_any (λ (member : Member). member.row == row) (take n rest) then many i else slice_index (c.deref_mut.ensures.value i) row) in
    let next = opened-step rows found start n rest is c.requires c.in_ok-found.ensures.sorted c.in_ok-found.ensures.named c.in_ok-found.ensures.whole
    _ c.run_length.ensures.some c.run_length.ensures.inside c.run_length.ensures.one c.run_length.ensures.end
    (option_map (λ value. value.items) c.in_ok-value.value) c.in_ok-value.ensures values numbers written at c.loop-start.invariant.opened in
    let pushed : map (option_map (λ value. value.items)) c.push.new.self.items ≡ values ++ option_map (λ value. value.items) c.in_ok-value.value ∷ [] =
    ap (map (option_map (λ value. value.items))) c.in_ok-push.ensures.items ∙ map-append (option_map (λ value. value.items)) c.loop-start.values.items (c.in_ok-value.value ∷ []) in
    record {
      opened = subst (λ given. IsOpened rows found (start + length (take n rest)) given back) (sym pushed)
          (subst (IsOpened rows found (start + length (take n rest)) (values ++ option_map (λ value. value.items) c.in_ok-value.value ∷ [])) (sym whole) next);
      numbered = ap length whole ∙ omega (arith, c.number_rows.auto.numbers, ap length c.deref_mut.ensures.value, c.loop-start.invariant.numbered);
    }

pub returns : goal.returns
returns c = record {
  numbered = c.loop-start.invariant.numbered;
  opens = λ row below share. opened-all c.args.db.now.database.rows c.in_ok-found.found.items c.loop-start.start _ _ (omega (arith, c.loop-start-test.false, c.len.ensures)) c.loop-start.invariant.opened row
      (c.in_ok-found.ensures.all row below share);
}
