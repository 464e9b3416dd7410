use Rattle.std.proofs.Common.{◌+◌, ◌<◌, get_or, set, length, sym, ap, subst, ◌∙◌, arith}
use Rattle.std.specs.Prelude.{All}
use Rattle.std.proofs.lemmas.List.{get_or_read}
use Rattle.std.proofs.lemmas.List.Elements.{All-push}
use Rattle.std.proofs.lemmas.Slice.Eq.{bytes_eq-Decides}
use Rattle.esa_analyser.specs.SortKey.{key_value}
use Rattle.esa_analyser.specs.Repeated.{IsRepeated, weighed}
use Rattle.esa_analyser.proofs.Repeats.{weighed-more}
use Rattle.esa_analyser.proofs.repeated.add_key.Goals as goal

pub returns-then-eq-clause-counted : goal.returns-then-eq-clause-counted
returns-then-eq-clause-counted g c = λ f.
    let items = c.args.list.now.items in
    let place = get_or c.args.hints.now c.slot_of-slot.result 0 in
    let below : place < length items = omega (arith, c.if-place-len.true, c.len.ensures) in
    let one = c.index.result.now in
    let found = get_or_read items place c.index_mut.result.now below c.index_mut.ensures.value one in
    let same = (bytes_eq-Decides one.key c.args.key).0 (sym c.eq.ensures ∙ c.if-eq.true) in
    (λ i. weighed f (set items place (record { key = (found i).key; times = (found i).times + 1 })))
    ∙ weighed-more f items place one below
    ∙ ap (λ repeated. weighed f items + f (key_value repeated.key)) (sym c.index.ensures)
    ∙ ap (λ key. weighed f items + f (key_value key)) same

pub returns-clause-each : goal.returns-clause-each
returns-clause-each g c =
    subst (All IsRepeated) (sym c.push_reserved.ensures.items)
    (All-push IsRepeated c.args.list.now.items _ c.requires.each (record { key = c.requires.is; some = omega arith }))
