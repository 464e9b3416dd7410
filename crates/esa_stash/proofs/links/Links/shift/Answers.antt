use Rattle.std.proofs.Common.{◌≡◌, ◌<◌, ℕ, sym, ap, ap₂, ◌∙◌, length, get_or, List, arith, rules}
use Rattle.std.specs.List.{slice_get}
use Rattle.std.proofs.lemmas.Grind.{get_or_default_zero}
use Rattle.esa_stash.specs.Links.{Lists, list_at, shifted}
use Rattle.esa_stash.proofs.Linking.{Move, in_ends, first_inside, last_inside, length_fits, linked_after, shifted_is, source_is, length-next_after}
use Rattle.esa_stash.proofs.links.Links.shift.Goals as goal
use Rattle.esa_stash.proofs.links.Links.shift.Goals.{After-index-target, After-index}

-- the two lists that the code read
move : (c : After-index-target) → Move c.self.inside.next.items c.self.inside.lists.items c.args.from c.args.to c.index-source.result.now c.index-target.result.now
move c =
    let seen = ap (λ (v : Lists). v.lists) c.self.view_is in
    record {
      whole = c.self.invariant;
      from_in = in_ends c.self.inside.next.items c.self.inside.lists.items c.args.self.now c.args.from seen c.requires.from;
      to_in = in_ends c.self.inside.next.items c.self.inside.lists.items c.args.self.now c.args.to seen c.requires.to;
      apart = c.requires.apart;
      source_read = c.index-source.ensures;
      target_read = c.index-target.ensures;
      some = omega arith;
    }

pub index-requires : goal.index-requires
index-requires c =
    let inside = first_inside _ _ _ _ _ _ (move (goal.at.index-requires c).After-index-target) in
    search rules

pub appended-requires-clause-last : goal.appended-requires-clause-last
appended-requires-clause-last c some =
    let inside = last_inside _ _ _ _ _ _ (move (goal.at.appended-requires-clause-last c).After-index-target) some in
    search rules

pub appended-requires-clause-fits : goal.appended-requires-clause-fits
appended-requires-clause-fits c = length_fits _ _ _ _ _ _ (move (goal.at.appended-requires-clause-fits c).After-index-target)

-- what the code reads behind the first cell
next_read : (c : After-index) → c.index-source.result.now.first < length c.self.inside.next.items → c.index.result.now ≡ get_or c.self.inside.next.items c.index-source.result.now.first 0
next_read c inside = c.index.ensures ∙ get_or_default_zero c.self.inside.next.items c.index-source.result.now.first c.index.result.now inside

pub invariant_of-self : goal.invariant_of-self
invariant_of-self c =
    let at = move (goal.at.invariant_of-self c).After-index-target in
    let read = next_read (goal.at.invariant_of-self c).After-index (first_inside _ _ _ _ _ _ at) in
    let sound = linked_after _ _ _ _ _ _ at in
    rw (c.appended.ensures.next, c.appended.ensures.ends, read) sound

pub returns-clause-cell : goal.returns-clause-cell
returns-clause-cell c =
    let first = source_is _ _ _ _ _ _ (move (goal.at.returns-clause-cell c).After-index-target) in
    sym (ap (λ (l : List ℕ). slice_get l 0) first) ∙ ap (λ (v : Lists). slice_get (list_at v.lists c.args.from) 0) c.self.view_is

pub returns-clause-lists : goal.returns-clause-lists
returns-clause-lists c =
    let at = move (goal.at.returns-clause-lists c).After-index-target in
    let read = next_read (goal.at.returns-clause-lists c).After-index (first_inside _ _ _ _ _ _ at) in
    let lists = shifted_is _ _ _ _ _ _ at ∙ ap (λ (v : Lists). shifted v.lists c.args.from c.args.to) c.self.view_is in
    let room = length-next_after _ _ _ _ _ _ at ∙ ap (λ (v : Lists). v.room) c.self.view_is in
    let seen : ℕ → List (List ℕ) → Lists = λ r l. record { room = r; lists = l } in
    rw (c.appended.ensures.next, c.appended.ensures.ends, read) (ap₂ seen room lists)
