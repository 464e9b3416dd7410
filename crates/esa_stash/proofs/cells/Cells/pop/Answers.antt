use Rattle.std.proofs.Common.{rules, ◌≡◌, ℕ, ◌+◌, subst, sym, ap, ◌∙◌, length, ◌<◌, List, [], ◌∷◌, Some, Option, refl, true, false, arith}
use Rattle.std.specs.List.{slice_get}
use Rattle.std.specs.Option.{option_map}
use Rattle.std.proofs.lemmas.List.{get_or_default}
use Rattle.std.proofs.lemmas.Bool.{true≢false}
use Rattle.esa_report.specs.declared.item.Item.{Item}
use Rattle.esa_report.specs.Item.{dummy_item}
use Rattle.esa_stash.specs.Links.{Lists}
use Rattle.esa_stash.specs.Arena.{Arena, IsShared, popped, chain_at}
use Rattle.esa_stash.specs.Inside.{arena_of}
use Rattle.esa_stash.proofs.Arenas.{IsShared-arena, cell_in_room, arena_of-popped, list_of_chain, first_held, none_held}
use Rattle.esa_stash.proofs.cells.Cells.pop.Goals as goal
use Rattle.esa_stash.proofs.cells.Cells.pop.Goals.{After-shift, In_ok-cell}

some_of_empty : (chain : List (ℕ × Item)) (held : ℕ × Item) → Some held ≡ slice_get chain 0 → chain ≡ [] → true ≡ false
some_of_empty [] held here empty = cc
some_of_empty (h ∷ chain) held here empty = cc

chain_inside : (c : After-shift) → c.args.chain < length (arena_of c.self.inside.links c.self.inside.items.items).chains
chain_inside c = subst (λ (a : Arena). c.args.chain < length a.chains) (sym c.self.view_is) c.requires

pub returns-in_err-cell-clause-empty : goal.returns-in_err-cell-clause-empty
returns-in_err-cell-clause-empty c =
    let fields = c.self.inside in
    let inside = chain_inside (goal.at.returns-in_err-cell-clause-empty c).After-shift in
    let none = none_held fields.links fields.items.items c.args.chain inside c.in_err-cell.ensures.cell in
    (λ _. sym (ap (λ (a : Arena). chain_at a c.args.chain) c.self.view_is) ∙ none, λ _. rw c.from_residual.ensures refl)

cell_inside : (c : In_ok-cell) → c.args.chain < length (arena_of c.self.inside.links c.self.inside.items.items).chains → c.in_ok-cell.cell < length c.self.inside.items.items
cell_inside c inside =
    let fields = c.self.inside in
    let list = list_of_chain fields.links fields.items.items c.args.chain inside in
    let in_room = cell_in_room fields.links.room fields.links.lists (c.args.chain + 1) c.in_ok-cell.cell c.shift.ensures.partition list c.in_ok-cell.ensures.cell in
    omega arith

pub index-requires : goal.index-requires
index-requires c =
    let inside = cell_inside (goal.at.index-requires c).In_ok-cell (chain_inside (goal.at.index-requires c).After-shift) in
    search rules

pub returns-clause-first : goal.returns-clause-first
returns-clause-first c =
    let fields = c.self.inside in
    let inside = chain_inside (goal.at.returns-clause-first c).After-shift in
    let in_items = cell_inside (goal.at.returns-clause-first c).In_ok-cell inside in
    let read = c.index.ensures ∙ get_or_default fields.items.items c.in_ok-cell.cell c.index.result.now dummy_item in_items in
    let held = first_held fields.links fields.items.items c.args.chain c.in_ok-cell.cell inside c.in_ok-cell.ensures.cell in
    let item_of : Option (ℕ × Item) → Option Item = option_map (λ (held : ℕ × Item). held.1) in
    ap (λ (item : Item). Some item) read
    ∙ ap item_of (sym held)
    ∙ ap (λ (a : Arena). item_of (slice_get (chain_at a c.args.chain) 0)) c.self.view_is

pub returns-clause-empty : goal.returns-clause-empty
returns-clause-empty c =
    let fields = c.self.inside in
    let inside = chain_inside (goal.at.returns-clause-empty c).After-shift in
    let held = first_held fields.links fields.items.items c.args.chain c.in_ok-cell.cell inside c.in_ok-cell.ensures.cell in
    let here = sym held ∙ ap (λ (a : Arena). slice_get (chain_at a c.args.chain) 0) c.self.view_is in
    (λ never. absurd (true≢false never), λ empty. some_of_empty _ _ here empty)

pub returns-clause-rest : goal.returns-clause-rest
returns-clause-rest c =
    let fields = c.self.inside in
    let inside = chain_inside (goal.at.returns-clause-rest c).After-shift in
    ap (λ (links : Lists). arena_of links fields.items.items) c.shift.ensures.lists
    ∙ arena_of-popped fields.links fields.items.items c.args.chain inside
    ∙ ap (λ (a : Arena). popped a c.args.chain) c.self.view_is

shared : (c : After-shift) → IsShared c.args.self.now
shared c = subst IsShared c.self.view_is (IsShared-arena c.self.inside.links c.self.inside.items.items c.self.invariant c.shift.ensures.partition)

pub returns-in_err-cell-clause-shared : goal.returns-in_err-cell-clause-shared
returns-in_err-cell-clause-shared c = shared (goal.at.returns-in_err-cell-clause-shared c).After-shift

pub returns-clause-shared : goal.returns-clause-shared
returns-clause-shared c = shared (goal.at.returns-clause-shared c).After-shift
