-- The arena that lists of cells and an array of items stand for.
use Rattle.std.proofs.Common.{◌≡◌, ◌≢◌, ℕ, suc, ◌+◌, ◌<◌, List, [], ◌∷◌, ◌++◌, length, get_or, set, map, drop, take, replicate, sum_by, Some, None, refl, sym, ap, ap₂, subst, ◌∙◌, arith, get_or-set_other, get_or-set_same}
use Rattle.std.specs.List.{slice_get, range_with_len}
use Rattle.std.proofs.lemmas.List.{map-append, map-set, get_or-map, take-map, drop-map, length-map, length-drop}
use Rattle.std.proofs.lemmas.List.Sums.{sum_by-cons, get_or-le-sum_by}
use Rattle.esa_report.specs.declared.item.Item.{Item}
use Rattle.esa_report.specs.Item.{dummy_item}
use Rattle.esa_stash.specs.Links.{Lists, list_at, occurrences, IsPartition, shifted}
use Rattle.esa_stash.specs.Arena.{Arena, cells_in, chain_at, IsShared, pushed, popped, empty_arena}
use Rattle.esa_stash.specs.Inside.{held_in, all_held, arena_of, AreCells}
use Rattle.esa_stash.proofs.Partitions.{occurrences-cons, below_room}
use Rattle.esa_stash.proofs.Rising.{map-replicate}
use Rattle.esa_stash.proofs.Walks.{apart_from, rest_apart}

-- the cells of a chain are those of its list
pub cells_in-all_held : (items : List Item) (cells : List ℕ) → cells_in (all_held items cells) ≡ cells
cells_in-all_held items [] = refl
cells_in-all_held items (cell ∷ cells) = ap (λ (l : List ℕ). cell ∷ l) (cells_in-all_held items cells)

all_cells_in : (items : List Item) (lists : List (List ℕ)) → map cells_in (map (all_held items) lists) ≡ lists
all_cells_in items [] = refl
all_cells_in items (l ∷ lists) = ap₂ (λ (k : List ℕ) (ks : List (List ℕ)). k ∷ ks) (cells_in-all_held items l) (all_cells_in items lists)

-- the cells stay shared out
shared : (room : ℕ) (items : List Item) (lists : List (List ℕ)) → 0 < length lists → IsPartition room lists → IsPartition room (list_at lists 0 ∷ map cells_in (map (all_held items) (drop 1 lists)))
shared room items [] some whole = absurd (omega arith)
shared room items (free ∷ lists) some whole = subst (λ (ls : List (List ℕ)). IsPartition room (free ∷ ls)) (sym (all_cells_in items lists)) whole

pub IsShared-arena : (links : Lists) (items : List Item) → AreCells links items → IsPartition links.room links.lists → IsShared (arena_of links items)
IsShared-arena links items sound whole = shared links.room items links.lists sound.free whole

-- the chains of an arena, by the lists behind the free one
chain_is : (items : List Item) (lists : List (List ℕ)) (i : ℕ) → i < length (map (all_held items) (drop 1 lists)) → get_or (map (all_held items) (drop 1 lists)) i [] ≡ all_held items (list_at lists (suc i))
chain_is items [] i inside = absurd (omega arith)
chain_is items (free ∷ lists) i inside =
    let same = length-map lists (all_held items) in
    get_or-map (all_held items) lists i [] [] (omega arith)

pub chain_at-arena : (links : Lists) (items : List Item) (i : ℕ) → i < length (arena_of links items).chains → chain_at (arena_of links items) i ≡ all_held items (list_at links.lists (i + 1))
chain_at-arena links items i inside =
    let one : suc i ≡ i + 1 = omega arith in
    chain_is items links.lists i inside ∙ ap (λ (k : ℕ). all_held items (list_at links.lists k)) one

-- the cells of a chain are as many as those of its list
pub length_chain : (links : Lists) (items : List Item) (i : ℕ) → i < length (arena_of links items).chains → length (chain_at (arena_of links items) i) ≡ length (list_at links.lists (i + 1))
length_chain links items i inside = ap length (chain_at-arena links items i inside) ∙ length-map (list_at links.lists (i + 1)) (held_in items)

-- an item put into a cell is in no list but those where the cell stands
all_held-set : (items : List Item) (cell : ℕ) (item : Item) (l : List ℕ) → occurrences cell l ≡ 0 → all_held (set items cell item) l ≡ all_held items l
all_held-set items cell item [] none = refl
all_held-set items cell item (c ∷ l) none =
    let other : c ≢ cell = apart_from cell c l none in
    ap₂ (λ (h : ℕ × Item) (hs : List (ℕ × Item)). h ∷ hs)
    (ap (λ (x : Item). (c, x)) (get_or-set_other items cell c item dummy_item other))
    (all_held-set items cell item l (rest_apart cell c l none))

all_chains-set : (items : List Item) (cell : ℕ) (item : Item) (lists : List (List ℕ)) → sum_by (occurrences cell) lists ≡ 0 → map (all_held (set items cell item)) lists ≡ map (all_held items) lists
all_chains-set items cell item [] none = refl
all_chains-set items cell item (l ∷ lists) none =
    let split = sum_by-cons (occurrences cell) l lists in
    ap₂ (λ (h : List (ℕ × Item)) (hs : List (List (ℕ × Item))). h ∷ hs)
    (all_held-set items cell item l (omega arith))
    (all_chains-set items cell item lists (omega arith))

-- a cell from elsewhere goes behind a list, with an item
pushed_chains : (items : List Item) (cell : ℕ) (item : Item) (lists : List (List ℕ)) (i : ℕ) → i < length lists → cell < length items → sum_by (occurrences cell) lists ≡ 0
    → map (all_held (set items cell item)) (set lists i (list_at lists i ++ cell ∷ [])) ≡ set (map (all_held items) lists) i (get_or (map (all_held items) lists) i [] ++ (cell, item) ∷ [])
pushed_chains items cell item lists i inside in_room none =
    let least = get_or-le-sum_by (occurrences cell) lists i [] inside in
    let after = set items cell item in
    let old : all_held after (list_at lists i) ≡ get_or (map (all_held items) lists) i [] =
    all_held-set items cell item (list_at lists i) (omega arith) ∙ sym (get_or-map (all_held items) lists i [] [] inside)
    in
    let new = ap (λ (x : Item). (cell, x) ∷ []) (get_or-set_same items cell item dummy_item in_room) in
    map-set (all_held after) lists i (list_at lists i ++ cell ∷ [])
    ∙ ap₂ (λ (chains : List (List (ℕ × Item))) (chain : List (ℕ × Item)). set chains i chain)
    (all_chains-set items cell item lists none)
    (map-append (held_in after) (list_at lists i) (cell ∷ []) ∙ ap₂ (λ (l k : List (ℕ × Item)). l ++ k) old new)

-- the first free cell goes behind a chain
some_free : (room : ℕ) (items : List Item) (lists : List (List ℕ)) (i cell : ℕ) (item : Item) → length items ≡ room → IsPartition room lists → i < length (map (all_held items) (drop 1 lists)) → Some cell ≡ slice_get (list_at lists 0) 0
    → arena_of (record { room = room; lists = shifted lists 0 (suc i) }) (set items cell item) ≡ pushed (arena_of (record { room = room; lists = lists }) items) i item
some_free room items [] i cell item as_long whole inside first = absurd (omega arith)
some_free room items ([] ∷ lists) i cell item as_long whole inside first = cc
some_free room items ((c ∷ free) ∷ lists) i cell item as_long whole inside first =
    let same : cell ≡ c = cc in
    let once = whole.once c in
    let split = sum_by-cons (occurrences c) (c ∷ free) lists in
    let here = occurrences-cons c c free in
    let none : sum_by (occurrences c) lists ≡ 0 = grind arith in
    let in_room : c < room = grind arith in
    let chains = length-map lists (all_held items) in
    let after : List (List (ℕ × Item)) → Arena = λ chains. record { room = room; free = free; chains = chains } in
    ap (λ (k : ℕ). after (map (all_held (set items k item)) (set lists i (list_at lists i ++ c ∷ [])))) same
    ∙ ap after (pushed_chains items c item lists i (omega arith) (omega arith) none)

pub arena_of-pushed : (links : Lists) (items : List Item) (i cell : ℕ) (item : Item) → AreCells links items → IsPartition links.room links.lists → i < length (arena_of links items).chains → Some cell ≡ slice_get (list_at links.lists 0) 0
    → arena_of (record links { lists = shifted links.lists 0 (i + 1) }) (set items cell item) ≡ pushed (arena_of links items) i item
arena_of-pushed links items i cell item sound whole inside first =
    let one : i + 1 ≡ suc i = omega arith in
    ap (λ (k : ℕ). arena_of (record links { lists = shifted links.lists 0 k }) (set items cell item)) one
    ∙ some_free links.room items links.lists i cell item sound.room whole inside first

-- the first cell of a chain, if there is one, goes behind the free ones
freed : (room : ℕ) (items : List Item) (lists : List (List ℕ)) (i : ℕ) → i < length (map (all_held items) (drop 1 lists))
    → arena_of (record { room = room; lists = shifted lists (suc i) 0 }) items ≡ popped (arena_of (record { room = room; lists = lists }) items) i
freed room items [] i inside = absurd (omega arith)
freed room items (free ∷ lists) i inside =
    let chains = length-map lists (all_held items) in
    let read = get_or-map (all_held items) lists i [] [] (omega arith) in
    let after : List ℕ → List (List (ℕ × Item)) → Arena = λ cells chains. record { room = room; free = free ++ cells; chains = chains } in
    ap₂ after
    (sym (cells_in-all_held items (take 1 (list_at lists i))) ∙ ap cells_in (sym (take-map (held_in items) 1 (list_at lists i)) ∙ ap (take 1) (sym read)))
    (map-set (all_held items) lists i (drop 1 (list_at lists i)) ∙ ap (λ (chain : List (ℕ × Item)). set (map (all_held items) lists) i chain) (sym (drop-map (held_in items) 1 (list_at lists i)) ∙ ap (drop 1) (sym read)))

pub arena_of-popped : (links : Lists) (items : List Item) (i : ℕ) → i < length (arena_of links items).chains
    → arena_of (record links { lists = shifted links.lists (i + 1) 0 }) items ≡ popped (arena_of links items) i
arena_of-popped links items i inside =
    let one : i + 1 ≡ suc i = omega arith in
    ap (λ (k : ℕ). arena_of (record links { lists = shifted links.lists k 0 }) items) one
    ∙ freed links.room items links.lists i inside

-- there is a list for each chain, behind the free one
pub list_of_chain : (links : Lists) (items : List Item) (i : ℕ) → i < length (arena_of links items).chains → i + 1 < length links.lists
list_of_chain links items i inside =
    let chains = length-map (drop 1 links.lists) (all_held items) in
    let lists = length-drop 1 links.lists in
    omega arith

begins : (l : List ℕ) (cell : ℕ) → Some cell ≡ slice_get l 0 → 0 < occurrences cell l
begins [] cell first = cc
begins (c ∷ l) cell first =
    let same : cell ≡ c = cc in
    let here = occurrences-cons cell c l in
    grind arith

-- a cell that a list begins with is one of the cells
pub cell_in_room : (room : ℕ) (lists : List (List ℕ)) (i cell : ℕ) → IsPartition room lists → i < length lists → Some cell ≡ slice_get (list_at lists i) 0 → cell < room
cell_in_room room lists i cell whole inside first = below_room room lists whole i cell inside (begins (list_at lists i) cell first)

-- an arena that is new
pub arena_of-empty : (chains room : ℕ) (items : List Item) → arena_of (record { room = room; lists = range_with_len 0 room ∷ replicate chains [] }) items ≡ empty_arena chains room
arena_of-empty chains room items = ap (λ (c : List (List (ℕ × Item))). record { room = room; free = range_with_len 0 room; chains = c }) (map-replicate (all_held items) chains [])

-- what a chain begins with
first_of : (items : List Item) (l : List ℕ) (cell : ℕ) → Some cell ≡ slice_get l 0 → slice_get (all_held items l) 0 ≡ Some (held_in items cell)
first_of items [] cell first = cc
first_of items (c ∷ l) cell first = let same : c ≡ cell = cc in ap (λ (k : ℕ). Some (held_in items k)) same

pub first_held : (links : Lists) (items : List Item) (i cell : ℕ) → i < length (arena_of links items).chains → Some cell ≡ slice_get (list_at links.lists (i + 1)) 0 → slice_get (chain_at (arena_of links items) i) 0 ≡ Some (held_in items cell)
first_held links items i cell inside first =
    ap (λ (chain : List (ℕ × Item)). slice_get chain 0) (chain_at-arena links items i inside) ∙ first_of items (list_at links.lists (i + 1)) cell first

none_of : (items : List Item) (l : List ℕ) → None ≡ slice_get l 0 → all_held items l ≡ []
none_of items [] none = refl
none_of items (c ∷ l) none = cc

pub none_held : (links : Lists) (items : List Item) (i : ℕ) → i < length (arena_of links items).chains → None ≡ slice_get (list_at links.lists (i + 1)) 0 → chain_at (arena_of links items) i ≡ []
none_held links items i inside none = chain_at-arena links items i inside ∙ none_of items (list_at links.lists (i + 1)) none
