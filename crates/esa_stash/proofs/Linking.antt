-- What the lists are once a cell is linked behind one of them.
use Rattle.std.proofs.Common.{◌≡◌, ◌≢◌, ℕ, zero, suc, ◌+◌, ◌-◌, ◌^◌, ◌<◌, ◌≤◌, List, [], ◌∷◌, ◌++◌, length, get_or, set, map, drop, take, eqb, Bool, cond, false, refl, sym, ap, ap₂, subst, ◌⊎◌, inl, inr, ◌∙◌, arith, get_or-set_same, length-set, All}
use Rattle.std.proofs.lemmas.List.{get_or_push, get_or-map, get_or_default, same_lists, length-map, map-set}
use Rattle.std.proofs.lemmas.Bool.{cases_eq, cases_Bool}
use Rattle.std.proofs.lemmas.List.Elements.{All-set}
use Rattle.esa_stash.specs.declared.links.Ends.{Ends}
use Rattle.esa_stash.specs.Links.{Lists, occurrences, cells_from, list_at, IsPartition, shifted}
use Rattle.esa_stash.specs.Ends.{cells_of, EndsInLast, AreLinked, linked, longer}
use Rattle.esa_stash.proofs.Partitions.{occurrences-cons, occurrences-append, below_room, once_in, nowhere_else, two-le-sum_by, IsPartition-shifted}
use Rattle.esa_stash.proofs.Walks.{cell_after, length-cells_from, cell_after-suc, cells_from-suc, cells_from-set, cell_after-set}

-- the links once a cell follows the last of n cells
pub after_link : List ℕ → ℕ → ℕ → ℕ → List ℕ
after_link next n last cell = cond (eqb n 0) next (set next last cell)

not_empty : (m : ℕ) → eqb (suc m) 0 ≡ false
not_empty m = grind arith

after_one : (next : List ℕ) (m last cell : ℕ) → after_link next (suc m) last cell ≡ set next last cell
unfolding after_link
after_one next m last cell = ap (λ (b : Bool). cond b next (set next last cell)) (not_empty m)

-- the last cell of a list that isn't empty
last_is : (next : List ℕ) (first last m : ℕ) → get_or (cells_from next first (suc m)) m 0 ≡ last → cell_after next first m ≡ last
last_is next first last m is =
    let whole = cells_from-suc next first m in
    let read = get_or_push (cells_from next first m) (cell_after next first m) 0 m (length-cells_from next first m) in
    sym read ∙ ap (λ (l : List ℕ). get_or l m 0) (sym whole) ∙ is

-- it stands there once more than before it
last_stands : (next : List ℕ) (first last m : ℕ) → cell_after next first m ≡ last → occurrences last (cells_from next first (suc m)) ≡ occurrences last (cells_from next first m) + 1
last_stands next first last m is =
    let whole = ap (occurrences last) (cells_from-suc next first m) in
    let split = occurrences-append last (cells_from next first m) (cell_after next first m ∷ []) in
    let one = occurrences-cons last (cell_after next first m) [] in
    grind arith

-- a list of n cells ends with this one, which stands there once
pub record EndsOnce (next : List ℕ) (first last n : ℕ) : Type 0 where
  pub ends : 0 < n → get_or (cells_from next first n) (n - 1) 0 ≡ last
  pub once : occurrences last (cells_from next first n) ≤ 1

module _ (next : List ℕ) (first last cell : ℕ) where
  last_after : (m : ℕ) → EndsOnce next first last (suc m) → cell_after next first m ≡ last
  last_after m sound =
      let at : m ≡ suc m - 1 = omega arith in
      last_is next first last m (ap (λ (k : ℕ). get_or (cells_from next first (suc m)) k 0) at ∙ sound.ends (omega arith))

  none_before : (m : ℕ) → EndsOnce next first last (suc m) → occurrences last (cells_from next first m) ≡ 0
  none_before m sound =
      let stands = last_stands next first last m (last_after m sound) in
      let once = sound.once in
      omega arith

  -- the list itself stays the same
  pub same_before : (n : ℕ) → EndsOnce next first last n → cells_from (after_link next n last cell) first n ≡ cells_from next first n
  unfolding after_link
  same_before zero _ = refl
  same_before (suc m) sound =
      let none = none_before m sound in
      ap (λ (links : List ℕ). cells_from links first (suc m)) (after_one next m last cell)
      ∙ cells_from-suc (set next last cell) first m
      ∙ ap₂ (λ (l : List ℕ) (x : ℕ). l ++ x ∷ []) (cells_from-set next first m last cell none) (cell_after-set next first m last cell none)
      ∙ sym (cells_from-suc next first m)

  -- and the cell stands behind it
  pub linked_behind : (n : ℕ) → EndsOnce next first last n → (0 < n → last < length next) → cells_from (after_link next n last cell) (cond (eqb n 0) cell first) (suc n) ≡ cells_from next first n ++ cell ∷ []
  unfolding after_link
  linked_behind zero sound inside = refl
  linked_behind (suc m) sound inside =
      let none = none_before m sound in
      let in_range : last < length next = inside (omega arith) in
      let end : cell_after (set next last cell) first (suc m) ≡ cell =
      cell_after-suc (set next last cell) first m
      ∙ ap (λ (k : ℕ). get_or (set next last cell) k 0) (cell_after-set next first m last cell none ∙ last_after m sound)
      ∙ get_or-set_same next last cell 0 in_range
      in
      let same = ap (λ (links : List ℕ). cells_from links first (suc m)) (sym (after_one next m last cell)) ∙ same_before (suc m) sound in
      ap₂ (λ (links : List ℕ) (b : Bool). cells_from links (cond b cell first) (suc (suc m))) (after_one next m last cell) (not_empty m)
      ∙ cells_from-suc (set next last cell) first (suc m)
      ∙ ap₂ (λ (l : List ℕ) (x : ℕ). l ++ x ∷ []) same end

  -- a list where the last cell doesn't stand stays the same
  pub same_elsewhere : (n other m : ℕ) → (0 < n → occurrences last (cells_from next other m) ≡ 0) → cells_from (after_link next n last cell) other m ≡ cells_from next other m
  unfolding after_link
  same_elsewhere zero other m none = refl
  same_elsewhere (suc n) other m none =
      ap (λ (links : List ℕ). cells_from links other m) (after_one next n last cell) ∙ cells_from-set next other m last cell (none (omega arith))

last_stands_in : (next : List ℕ) (first last n : ℕ) → 0 < n → EndsOnce next first last n → 0 < occurrences last (cells_from next first n)
last_stands_in next first last zero some sound = absurd (omega arith)
last_stands_in next first last (suc m) some sound =
    let stands = last_stands next first last m (last_after next first last last m sound) in
    omega arith

-- what the code reads of the list of ends
module _ (next : List ℕ) (lists : List Ends) (i : ℕ) (ends : Ends) (inside : i < length lists) (read : ends ≡ get_or lists i ends) where
  pub list_read : list_at (map (cells_of next) lists) i ≡ cells_of next ends
  list_read = get_or-map (cells_of next) lists i ends [] inside ∙ ap (cells_of next) (sym read)

  pub length_read : length (list_at (map (cells_of next) lists) i) ≡ ends.length
  length_read = ap length list_read ∙ length-cells_from next ends.first ends.length

  last_read : AreLinked next lists → EndsInLast next ends
  last_read whole = subst (EndsInLast next) (sym read) (whole.last i ends inside)

  last_once : AreLinked next lists → EndsOnce next ends.first ends.last ends.length
  last_once whole =
      let in_map : i < length (map (cells_of next) lists) = simp length-map inside in
      record {
        ends = last_read whole;
        once = subst (λ (l : List ℕ). occurrences ends.last l ≤ 1) list_read (once_in (length next) (map (cells_of next) lists) whole.partition i ends.last in_map);
      }

-- the ends that clauses see as a list are those of the code
pub in_ends : (next : List ℕ) (lists : List Ends) (seen : Lists) (i : ℕ) → map (cells_of next) lists ≡ seen.lists → i < length seen.lists → i < length lists
in_ends next lists seen i is inside =
    let same : length lists ≡ length seen.lists = sym (length-map lists (cells_of next)) ∙ ap length is in
    omega arith

-- two of the lists, the first of which isn't empty, as the code reads their ends
pub record Move (next : List ℕ) (lists : List Ends) (from to : ℕ) (source target : Ends) : Type 0 where
  pub whole : AreLinked next lists
  pub from_in : from < length lists
  pub to_in : to < length lists
  pub apart : from ≢ to
  pub source_read : source ≡ get_or lists from source
  pub target_read : target ≡ get_or lists to target
  pub some : 0 < source.length

-- the first cell of the one goes behind the other
module _ (next : List ℕ) (lists : List Ends) (from to : ℕ) (source target : Ends) (at : Move next lists from to source target) where
  open at use {whole, from_in, to_in, apart, source_read, target_read, some}

  abbrev m : ℕ
  m = source.length - 1

  length_is : source.length ≡ suc m
  length_is = let h = at.some in omega arith

  abbrev cells : List (List ℕ)
  cells = map (cells_of next) lists

  from_in_cells : from < length cells
  from_in_cells = simp length-map from_in

  to_in_cells : to < length cells
  to_in_cells = simp length-map to_in

  cells_whole : IsPartition (length next) cells
  cells_whole = whole.partition

  pub source_is : list_at cells from ≡ source.first ∷ cells_from next (get_or next source.first 0) m
  source_is = list_read next lists from source from_in source_read ∙ ap (cells_from next source.first) length_is

  target_is : list_at cells to ≡ cells_of next target
  target_is = list_read next lists to target to_in target_read

  first_stands : 0 < occurrences source.first (list_at cells from)
  first_stands =
      let one = occurrences-cons source.first source.first (cells_from next (get_or next source.first 0) m) in
      let here = ap (occurrences source.first) source_is in
      grind arith

  pub first_inside : source.first < length next
  first_inside = below_room (length next) cells cells_whole from source.first from_in_cells first_stands

  -- the last cell of the other list
  once_at_end : EndsOnce next target.first target.last target.length
  once_at_end = last_once next lists to target to_in target_read whole

  last_there : 0 < target.length → 0 < occurrences target.last (list_at cells to)
  last_there some = subst (λ (l : List ℕ). 0 < occurrences target.last l) (sym target_is) (last_stands_in next target.first target.last target.length some once_at_end)

  pub last_inside : 0 < target.length → target.last < length next
  last_inside some = below_room (length next) cells cells_whole to target.last to_in_cells (last_there some)

  -- the two lists together are no longer than there are cells
  pub length_fits : target.length + 1 < 2 ^ 32
  length_fits =
      let both = two-le-sum_by length cells from to from_in_cells to_in_cells apart in
      let one = length_read next lists from source from_in source_read in
      let other = length_read next lists to target to_in target_read in
      let total = cells_whole.total in
      let small = whole.small in
      omega arith

  -- the links, the ends of the two lists, and all ends afterwards
  abbrev pub next_after : List ℕ
  next_after = linked next target source.first

  abbrev pub source_after : Ends
  source_after = record { first = get_or next source.first 0; last = source.last; length = source.length - 1 }

  abbrev pub lists_after : List Ends
  lists_after = set (set lists from source_after) to (longer target source.first)

  -- no list but the one that grows changes by the new link
  elsewhere : (i : ℕ) (ends : Ends) → i < length lists → ends ≡ get_or lists i ends → (0 < target.length → occurrences target.last (cells_of next ends) ≡ 0) ⊎ (i ≡ to)
  elsewhere i ends i_in read = elim (cases_eq i to) [
    | inl same ↦ inr same
    | inr other ↦ inl (λ some.
        let i_in_cells : i < length cells = simp length-map i_in in
        let swapped : to ≢ i = λ e. other (sym e) in
        ap (occurrences target.last) (sym (list_read next lists i ends i_in read))
        ∙ nowhere_else (length next) cells cells_whole to i target.last to_in_cells i_in_cells swapped (last_there some))
  ]

  same_ends : (i : ℕ) (ends : Ends) → i < length lists → ends ≡ get_or lists i ends → cells_of next_after ends ≡ cells_of next ends
  unfolding after_link
  same_ends i ends i_in read = elim (elsewhere i ends i_in read) [
    | inl none ↦ same_elsewhere next target.first target.last source.first target.length ends.first ends.length none
    | inr same ↦
        let is : ends ≡ target = read ∙ get_or_default lists i ends target i_in ∙ ap (λ (k : ℕ). get_or lists k target) same ∙ sym target_read in
        subst (λ (e : Ends). cells_of next_after e ≡ cells_of next e) (sym is) (same_before next target.first target.last source.first target.length once_at_end)
  ]

  same_cells : map (cells_of next_after) lists ≡ cells
  same_cells =
      same_lists _ _ (simp length-map) (λ i d i_in.
      let inside : i < length lists = simp length-map at i_in in
      let ends = get_or lists i source in
      let read : ends ≡ get_or lists i ends = get_or_default lists i source ends inside in
      get_or-map (cells_of next_after) lists i source d inside
      ∙ same_ends i ends inside read
      ∙ sym (get_or-map (cells_of next) lists i source d inside))

  -- the first list loses its first cell
  rest_apart : 0 < target.length → occurrences target.last (cells_from next (get_or next source.first 0) m) ≡ 0
  rest_apart some =
      let swapped : to ≢ from = λ e. apart (sym e) in
      let none = nowhere_else (length next) cells cells_whole to from target.last to_in_cells from_in_cells swapped (last_there some) in
      let split = occurrences-cons target.last source.first (cells_from next (get_or next source.first 0) m) in
      let here = ap (occurrences target.last) source_is in
      omega arith

  source_after_is : cells_of next_after source_after ≡ drop 1 (list_at cells from)
  unfolding after_link
  source_after_is =
      let shorter : source.length - 1 ≡ m = omega arith in
      ap (cells_from next_after (get_or next source.first 0)) shorter
      ∙ same_elsewhere next target.first target.last source.first target.length (get_or next source.first 0) m rest_apart
      ∙ ap (drop 1) (sym source_is)

  -- the other gains it
  target_after_is : cells_of next_after (longer target source.first) ≡ list_at cells to ++ take 1 (list_at cells from)
  unfolding after_link
  target_after_is =
      let more : target.length + 1 ≡ suc target.length = omega arith in
      ap (cells_from next_after (longer target source.first).first) more
      ∙ linked_behind next target.first target.last source.first target.length once_at_end last_inside
      ∙ ap₂ (λ (l k : List ℕ). l ++ k) (sym target_is) (ap (take 1) (sym source_is))

  pub shifted_is : map (cells_of next_after) lists_after ≡ shifted cells from to
  shifted_is =
      map-set (cells_of next_after) (set lists from source_after) to (longer target source.first)
      ∙ ap₂ (λ (l : List (List ℕ)) (x : List ℕ). set l to x) (map-set (cells_of next_after) lists from source_after) target_after_is
      ∙ ap₂ (λ (l : List (List ℕ)) (x : List ℕ). set (set l from x) to (list_at cells to ++ take 1 (list_at cells from))) same_cells source_after_is

  -- each list still ends with its last cell
  ends_last : All (EndsInLast next_after) lists
  ends_last i d i_in =
      let ends = get_or lists i d in
      let read : ends ≡ get_or lists i ends = get_or_default lists i d ends i_in in
      let same = same_ends i ends i_in read in
      λ some. ap (λ (l : List ℕ). get_or l (ends.length - 1) 0) same ∙ whole.last i d i_in some

  ends_last_source : EndsInLast next_after source_after
  ends_last_source some =
      let last = last_read next lists from source from_in source_read whole (omega arith) in
      let rest = source_after_is ∙ ap (drop 1) source_is in
      let at : source.length - 1 ≡ suc (source.length - 1 - 1) = omega arith in
      ap (λ (l : List ℕ). get_or l (source.length - 1 - 1) 0) rest
      ∙ ap (λ (k : ℕ). get_or (source.first ∷ cells_from next (get_or next source.first 0) m) k 0) (sym at)
      ∙ ap (λ (l : List ℕ). get_or l (source.length - 1) 0) (sym source_is ∙ list_read next lists from source from_in source_read)
      ∙ last

  ends_last_target : EndsInLast next_after (longer target source.first)
  ends_last_target _ =
      let all = target_after_is ∙ ap₂ (λ (l k : List ℕ). l ++ k) target_is (ap (take 1) source_is) in
      let at : target.length + 1 - 1 ≡ target.length = omega arith in
      ap₂ (λ (l : List ℕ) (k : ℕ). get_or l k 0) all at
      ∙ get_or_push (cells_of next target) source.first 0 target.length (length-cells_from next target.first target.length)

  pub length-next_after : length next_after ≡ length next
  length-next_after = elim (cases_Bool (eqb target.length 0)) [
    | inl none ↦ ap (λ (b : Bool). length (cond b next (set next target.last source.first))) none
    | inr some ↦ ap (λ (b : Bool). length (cond b next (set next target.last source.first))) some ∙ length-set next target.last source.first
  ]

  pub linked_after : AreLinked next_after lists_after
  linked_after =
      let room = length-next_after in
      record {
        small = subst (λ (n : ℕ). n < 2 ^ 32) (sym room) whole.small;
        partition =
            subst (λ (l : List (List ℕ)). IsPartition (length next_after) l) (sym shifted_is)
            (subst (λ (n : ℕ). IsPartition n (shifted cells from to)) (sym room) (IsPartition-shifted (length next) cells from to from_in_cells to_in_cells apart cells_whole));
        last = All-set (EndsInLast next_after) (set lists from source_after) to (longer target source.first) ends_last_target (All-set (EndsInLast next_after) lists from source_after ends_last_source ends_last);
      }
