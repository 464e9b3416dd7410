-- What the shares give back is what the records that they stand in do.
use Rattle.std.proofs.Common.{◌≡◌, ◌-◌, ◌≤◌, length, drop, option_map, slice_index, sym, ap, subst, ◌∙◌, take, length-drop, take_all, arith}
use Rattle.std.specs.Prelude.{IfOk}
use Rattle.esa_shares.specs.Polynomial.{recovered}
use Rattle.esa_recovery.specs.Meaning.{needed, marked}
use Rattle.esa_recovery.specs.Group.{opening_of}
use Rattle.esa_recovery.proofs.GroupLaws.{many, opening-enough}
use Rattle.esa_recovery.proofs.group.Group.open.Goals as goal

pub returns : goal.returns
returns c = λ taken has.
    let key = c.args.key.now in
    let group = c.args.self.now in
    let points = c.as_slice-points.ensures.value ∙ has.points_are in
    let shares = c.deref.ensures.value ∙ has.shares_are in
    let enough : needed key ≤ length taken = omega (arith, c.if-points-from.false, c.from.ensures, ap length c.as_slice-points.ensures.value, many key taken key group.points.items group.shares.items has) in
    let size : c.from-size.result - 19 ≡ slice_index key 1 - 19 = ap (λ n. n - 19) c.from-size.ensures in
    let mark : take 16 (drop 2 key) ≡ drop 2 key = take_all 16 (drop 2 key) (omega (arith, length-drop 2 key)) in
    let is : marked _ (recovered (c.from-size.result - 19) c.as_slice-points.result.now c.deref.result.now) ≡ opening_of key taken =
    (λ i. marked (mark i) (recovered (size i) (points i) (shares i))) ∙ sym (opening-enough key taken enough) in
    subst (λ want. IfOk c.open.result (λ secret. option_map (λ bytes. bytes.items) secret ≡ want)) is c.open.ensures
