use Rattle.std.proofs.Common.{rules, ◌≡◌, ◌<◌, [], length, get_or, map, ap, sym, ◌∙◌, arith}
use Rattle.std.proofs.lemmas.List.{get_or-map}
use Rattle.esa_model.specs.Drafts.{items_of}
use Rattle.esa_model.proofs.TurnLemmas.{length-list}
use Rattle.esa_model.proofs.turns.Turns.list.Goals as goal

pub returns-in-Some-clause-few : goal.returns-in-Some-clause-few
returns-in-Some-clause-few c =
    let lists = c.self.inside.lists.items in
    let found = c.in-Some.ensures.lookup in
    let is : c.in-Some.list.now ≡ get_or lists c.args.attempt c.in-Some.list.now = search (rules, found) in
    let inside : c.args.attempt < length lists = search (rules, found) in
    let mapped = get_or-map items_of lists c.args.attempt c.in-Some.list.now [] inside in
    let same : length c.as_slice.result.now ≡ length (get_or (map items_of lists) c.args.attempt []) = ap length (c.as_slice.ensures.value ∙ ap items_of is ∙ sym mapped) in
    let short = length-list (map items_of lists) c.args.attempt in
    omega (arith, c.self.invariant)
