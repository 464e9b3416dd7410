use Rattle.std.proofs.Common.{◌≡◌, ◌<◌, ◌++◌, ◌∷◌, [], length, get_or, set, sym, ap, subst, ◌∙◌, length-append, arith}
use Rattle.std.specs.List.Sorted.{IsPermutation}
use Rattle.std.proofs.lemmas.List.Sorted.{IsPermutation-pop_more}
use Rattle.std.proofs.lemmas.List.Elements.{All-set}
use Rattle.esa_gathering.specs.Merging.{next_of, all_left}
use Rattle.esa_gathering.proofs.Left.{one_less, one_shorter, some_left}
use Rattle.esa_gathering.proofs.merging.merge.Goals as goal

pub put_next-requires-clause-room : goal.put_next-requires-clause-room
put_next-requires-clause-room c =
    let d = c.index-texts-place.result in
    let some = c.in-Some.ensures.some in
    omega (arith, c.loop-place.invariant.room, some_left c.loop-place.texts c.in-Some.place d some.0 (some.1 d).0)

pub loop-place-smaller : goal.loop-place-smaller
loop-place-smaller c =
    let d = c.index-texts-place.result in
    let some = c.in-Some.ensures.some in
    let shorter = one_shorter c.loop-place.texts c.in-Some.place d c.put_next.new.text some.0 (some.1 d).0 c.in_ok-put_next.ensures.merged in
    let less : length (all_left (set c.loop-place.texts c.in-Some.place c.put_next.new.text)) < length (all_left c.loop-place.texts) = omega (arith, shorter) in
    less

pub loop-place-preserved : goal.loop-place-preserved
loop-place-preserved c =
    let i = c.loop-place.invariant in
    let place = c.in-Some.place in
    let texts = c.loop-place.texts in
    let d = c.index-texts-place.result in
    let some = c.in-Some.ensures.some in
    let left = (some.1 d).0 in
    let now = c.put_next.new.text in
    let is = c.in_ok-put_next.ensures.merged in
    let old = c.loop-place.batcher.list in
    let added = c.in_ok-put_next.ensures.added in
    let next = next_of (get_or texts place d) in
    let start = c.args.batcher.now.list ++ all_left c.args.texts.now in
    let rest = all_left (set texts place now) in
    record {
      form = c.put_next.ensures.form ∙ i.form;
      forms = All-set (λ text. text.batch.form ≡ c.args.batcher.now.form) texts place now (ap (λ text. text.batch.form) is ∙ i.forms place d some.0) i.forms;
      room = omega (arith, i.room, ap length added, length-append old (next ∷ []), one_shorter texts place d now some.0 left is);
      same = subst (λ list. IsPermutation start (list ++ rest)) (sym added) (IsPermutation-pop_more start old (all_left texts) rest next i.same (one_less texts place d now some.0 left is));
    }
