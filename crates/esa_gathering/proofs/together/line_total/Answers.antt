use Rattle.std.proofs.Common.{◌+◌, length, drop, ap, arith}
use Rattle.esa_gathering.specs.Together.{texts_of, all_lines}
use Rattle.esa_gathering.proofs.Texts.{texts_more, texts_end, lines_behind, lines_fit}
use Rattle.esa_gathering.proofs.together.line_total.Goals as goal

pub overflow_add-total : goal.overflow_add-total
overflow_add-total c =
    let texts = c.args.texts.now in
    let place = c.loop-place.place in
    let text = c.deref.result.now in
    let more = texts_more texts place c.index-texts-place.result text c.loop-place-test.true c.index-texts-place.is c.deref.ensures.value in
    omega (arith, c.loop-place.invariant, lines_behind (drop place (texts_of texts)) text (drop (place + 1) (texts_of texts)) more, lines_fit (texts_of texts), c.requires, c.line_count-total.ensures)

pub loop-place-preserved : goal.loop-place-preserved
loop-place-preserved c =
    let texts = c.args.texts.now in
    let place = c.loop-place.place in
    let text = c.deref.result.now in
    let more = texts_more texts place c.index-texts-place.result text c.loop-place-test.true c.index-texts-place.is c.deref.ensures.value in
    omega (arith, c.loop-place.invariant, lines_behind (drop place (texts_of texts)) text (drop (place + 1) (texts_of texts)) more, c.line_count-total.ensures)

pub returns : goal.returns
returns c =
    let texts = c.args.texts.now in
    let place = c.loop-place.place in
    let none = ap (λ texts. length (all_lines texts)) (texts_end texts place c.loop-place-test.false) in
    omega (arith, c.loop-place.invariant, none)
