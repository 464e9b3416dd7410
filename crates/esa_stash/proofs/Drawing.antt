-- Items that leave a queue for places that are padded.
use Rattle.std.proofs.Common.{◌≡◌, ℕ, ◌+◌, ◌-◌, ◌<◌, ◌≤◌, List, [], ◌∷◌, ◌++◌, length, get_or, set, drop, take, replicate, Some, None, Option, unwrap_or, refl, sym, ap, ap₂, ◌∙◌, arith, inl, inr, get_or-set_same}
use Rattle.std.specs.List.{slice_get}
use Rattle.std.specs.Option.{option_map}
use Rattle.std.proofs.lemmas.List.{append-nil, append_assoc, map-append, map-set, length-set, get_or-map, drop-map, length-map, length-append, length-replicate, length-take, drop_more, set_at, take_more, take_all, drop_all, drop-drop, replicate_more, set-set, set-get_or}
use Rattle.std.proofs.lemmas.Bool.{cases_lt}
use Rattle.esa_report.specs.declared.item.Item.{Item}
use Rattle.esa_report.specs.Item.{dummy_item}
use Rattle.esa_stash.specs.Arena.{Arena, items_in, chain_at, queues_of, popped, pushed}
use Rattle.esa_stash.specs.Stash.{padded}
use Rattle.esa_stash.specs.Dealing.{queue_of, ChangesQueue}

pub length-padded : (n : ℕ) (items : List Item) → length items ≤ n → length (padded n items) ≡ n
length-padded n items fits =
    let both = length-append items (replicate (n - length items) dummy_item) in
    let pads = length-replicate (n - length items) dummy_item in
    omega arith

-- what stands at the next place: the next item of the line, or a dummy
pub padded-more : (n : ℕ) (line : List Item) → padded (n + 1) (take (n + 1) line) ≡ padded n (take n line) ++ unwrap_or (slice_get (drop n line) 0) dummy_item ∷ []
padded-more n line = elim (cases_lt n (length line)) [
  | inl more ↦
      let grown = take_more line n dummy_item more in
      let here : slice_get (drop n line) 0 ≡ Some (get_or line n dummy_item) = ap (λ (l : List Item). slice_get l 0) (drop_more line n dummy_item more) in
      let long = length-take n line in
      let longer = length-take (n + 1) line in
      let none : n + 1 - length (take (n + 1) line) ≡ 0 = omega arith in
      let before : n - length (take n line) ≡ 0 = omega arith in
      ap (λ (k : ℕ). take (n + 1) line ++ replicate k dummy_item) none
      ∙ append-nil (take (n + 1) line)
      ∙ grown
      ∙ ap (λ (l : List Item). l ++ get_or line n dummy_item ∷ []) (sym (ap (λ (k : ℕ). take n line ++ replicate k dummy_item) before ∙ append-nil (take n line)))
      ∙ ap (λ (o : Option Item). padded n (take n line) ++ unwrap_or o dummy_item ∷ []) (sym here)
  | inr past ↦
      let whole = take_all n line past in
      let whole_more = take_all (n + 1) line (omega arith) in
      let none : slice_get (drop n line) 0 ≡ None = ap (λ (l : List Item). slice_get l 0) (drop_all n line past) in
      let one : n + 1 - length line ≡ n - length line + 1 = omega arith in
      ap (padded (n + 1)) whole_more
      ∙ ap (λ (k : ℕ). line ++ replicate k dummy_item) one
      ∙ ap (λ (l : List Item). line ++ l) (sym (replicate_more (n - length line) dummy_item))
      ∙ sym (append_assoc line (replicate (n - length line) dummy_item) (dummy_item ∷ []))
      ∙ ap (λ (l : List Item). padded n l ++ dummy_item ∷ []) (sym whole)
      ∙ ap (λ (o : Option Item). padded n (take n line) ++ unwrap_or o dummy_item ∷ []) (sym none)
]

length_padded_take : (n : ℕ) (line : List Item) → length (padded n (take n line)) ≡ n
length_padded_take n line = length-padded n (take n line) (let long = length-take n line in omega arith)

-- one more place is written
pub written : (n : ℕ) (line out : List Item) → n < length out → set (padded n (take n line) ++ drop n out) n (unwrap_or (slice_get (drop n line) 0) dummy_item) ≡ padded (n + 1) (take (n + 1) line) ++ drop (n + 1) out
written n line out inside =
    let next = unwrap_or (slice_get (drop n line) 0) dummy_item in
    ap (λ (l : List Item). set (padded n (take n line) ++ l) n next) (drop_more out n dummy_item inside)
    ∙ set_at (padded n (take n line)) (get_or out n dummy_item) (drop (n + 1) out) next n (length_padded_take n line)
    ∙ sym (append_assoc (padded n (take n line)) (next ∷ []) (drop (n + 1) out))
    ∙ ap (λ (l : List Item). l ++ drop (n + 1) out) (sym (padded-more n line))

-- the queue of a chain
pub queue_of_chain : (arena : Arena) (i : ℕ) → i < length arena.chains → queue_of arena i ≡ items_in (chain_at arena i)
queue_of_chain arena i inside = get_or-map items_in arena.chains i [] [] inside

pub first_of_queue : (arena : Arena) (i : ℕ) → i < length arena.chains → option_map (λ (held : ℕ × Item). held.1) (slice_get (chain_at arena i) 0) ≡ slice_get (queue_of arena i) 0
first_of_queue arena i inside = first_item (chain_at arena i) ∙ ap (λ (q : List Item). slice_get q 0) (sym (queue_of_chain arena i inside))
  where
    first_item : (chain : List (ℕ × Item)) → option_map (λ (held : ℕ × Item). held.1) (slice_get chain 0) ≡ slice_get (items_in chain) 0
    first_item [] = refl
    first_item (held ∷ chain) = refl

pub queues_of-popped : (arena : Arena) (i : ℕ) → i < length arena.chains → queues_of (popped arena i) ≡ set (queues_of arena) i (drop 1 (queue_of arena i))
queues_of-popped arena i inside =
    map-set items_in arena.chains i (drop 1 (chain_at arena i))
    ∙ ap (set (queues_of arena) i) (sym (drop-map (λ (held : ℕ × Item). held.1) 1 (chain_at arena i)) ∙ ap (drop 1) (sym (queue_of_chain arena i inside)))

pub queues_of-pushed : (arena : Arena) (i : ℕ) (item : Item) → i < length arena.chains → queues_of (pushed arena i item) ≡ set (queues_of arena) i (queue_of arena i ++ item ∷ [])
queues_of-pushed arena i item inside =
    map-set items_in arena.chains i (chain_at arena i ++ (get_or arena.free 0 0, item) ∷ [])
    ∙ ap (set (queues_of arena) i) (map-append (λ (held : ℕ × Item). held.1) (chain_at arena i) ((get_or arena.free 0 0, item) ∷ []) ∙ ap (λ (q : List Item). q ++ item ∷ []) (sym (queue_of_chain arena i inside)))

-- nothing has changed
pub ChangesQueue-none : (arena : Arena) (i : ℕ) → ChangesQueue arena arena i (queue_of arena i)
ChangesQueue-none arena i = record { queues = sym (set-get_or (queues_of arena) i []); room = refl }

-- the queue that has changed
pub queue_changed : (old new : Arena) (i : ℕ) (items : List Item) → i < length old.chains → ChangesQueue old new i items → queue_of new i ≡ items
queue_changed old new i items inside changes =
    let long : i < length (queues_of old) = simp length-map inside in
    ap (λ (qs : List (List Item)). get_or qs i []) changes.queues ∙ get_or-set_same (queues_of old) i items [] long

pub chains_stay : (old new : Arena) (i : ℕ) (items : List Item) → ChangesQueue old new i items → length new.chains ≡ length old.chains
chains_stay old new i items changes =
    sym (length-map new.chains items_in) ∙ ap length changes.queues ∙ length-set (queues_of old) i items ∙ length-map old.chains items_in

-- and one item less
pub ChangesQueue-popped : (old new : Arena) (i : ℕ) (items : List Item) → i < length old.chains → ChangesQueue old new i items → ChangesQueue old (popped new i) i (drop 1 items)
ChangesQueue-popped old new i items inside changes =
    let stay = chains_stay old new i items changes in
    record {
      queues =
          queues_of-popped new i (omega arith)
          ∙ ap₂ (λ (qs : List (List Item)) (q : List Item). set qs i (drop 1 q)) changes.queues (queue_changed old new i items inside changes)
          ∙ set-set (queues_of old) i items (drop 1 items);
      room = changes.room;
    }

-- the items that leave next
pub drop-one : (n : ℕ) (line : List Item) → drop 1 (drop n line) ≡ drop (n + 1) line
drop-one n line = drop-drop 1 n line
