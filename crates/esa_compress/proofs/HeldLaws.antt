-- What enters a window is counted, and is what the definitions arrange.
use Rattle.std.proofs.Common.{◌≡◌, ℕ, zero, suc, ◌+◌, ◌-◌, ◌≤◌, ◌<◌, Bool, true, false, cond, List, [], ◌∷◌, ◌++◌, length, get_or, drop, map, replicate, refl, sym, ◌∙◌, ap, arith, add-one, drop-cons, append_assoc, length-append}
use Rattle.std.specs.List.{count_by, sum_by, filter_map, flat_map, cons_option, All}
use Rattle.std.specs.List.Sorted.{IsPermutation}
use Rattle.std.specs.Prelude.{Option, Some, None, IsTrue, slice_get, unwrap_or, option_to_list}
use Rattle.std.specs.Option.{option_map, option_and_then}
use Rattle.std.proofs.lemmas.List.{map-append, length-map}
use Rattle.std.proofs.lemmas.List.Folds.{sum_by-replicate}
use Rattle.std.proofs.lemmas.List.Sorted.{sum_by-IsPermutation, All-permutation}
use Rattle.std.proofs.lemmas.List.Sums.{sum_by-cons, sum_by-append}
use Rattle.std.proofs.lemmas.Option.{slice_get-get_or, slice_get-map}
use Rattle.esa_params.specs.Sizes.{Sizes, below}
use Rattle.esa_report.specs.declared.item.Item.{Item}
use Rattle.esa_report.specs.Item.{dummy_item}
use Rattle.esa_laws.proofs.FinishLaws.{All-below}
use Rattle.esa_laws.proofs.PlaceLaws.{by-index, there, length-filter_map}
use Rattle.esa_laws.proofs.Ranges.{sum-below-same}
use Rattle.esa_laws.proofs.Sums.{sum-of-map, sum-of-flat_map}
use Rattle.esa_laws.proofs.Tests.{bit}
use Rattle.esa_spec.specs.Draws.{Draw}
use Rattle.esa_spec.specs.Lines.{chunk, tail}
use Rattle.esa_spec.specs.Places.{exchange_of, padded as padded_places, padded_chunk, imports, entry, arranged}
use Rattle.esa_compress.specs.Held.{is_held, kept, kept_at, held_in, held_count}
use Rattle.esa_compress.specs.Imported.{items_of, chunk_items, import_items}

-- an item counts once, where it is no dummy
there-if : (item : Item) (c : Bool) → there (cond c (Some item) None) ≡ cond c 1 0
there-if item true = refl
there-if item false = refl

-- arranged by an order, as many enter as there are
pub length_held : (items : List Item) (order : List ℕ) → IsPermutation (below (length items)) order → length (held_in items order) ≡ held_count items
length_held items order perm =
    length-filter_map (kept_at items) order
    ∙ sum_by-IsPermutation (λ y. there (kept_at items y)) (below (length items)) order perm
    ∙ sum-below-same (λ y. there (kept_at items y)) (λ y. cond (is_held (get_or items y dummy_item)) 1 0) (length items)
    (λ y y_in. ap (λ o. there (option_and_then kept o)) (slice_get-get_or items y dummy_item y_in)
    ∙ there-if (get_or items y dummy_item) (is_held (get_or items y dummy_item)))
    ∙ sym (sum-of-map (λ x. cond (is_held x) 1 0) (λ y. get_or items y dummy_item) (below (length items)))
    ∙ sym (ap (count_by is_held) (by-index items dummy_item))

pub order_in : (n : ℕ) (order : List ℕ) → IsPermutation (below n) order → All (λ index. index < n) order
order_in n order perm = All-permutation (λ index. index < n) (below n) order perm (All-below n n (omega arith))

-- one index more
pub front-option : {X : Type 0} (o : Option X) (xs : List X) → cons_option o xs ≡ option_to_list o ++ xs
front-option None xs = refl
front-option (Some x) xs = refl

pub held-next : (items : List Item) (index : ℕ) (item : Item) (order : List ℕ) → slice_get items index ≡ Some item
    → held_in items (index ∷ order) ≡ option_to_list (kept item) ++ held_in items order
held-next items index item order is =
    ap (λ o. cons_option (option_and_then kept o) (held_in items order)) is ∙ front-option (kept item) (held_in items order)

-- items that stand for entries, arranged
module _ (record_of : ℕ → Item) where
  abbrev pub seen : Option ℕ → Option Item
  seen o = option_map record_of o

  and_then-is : (o : Option Item) → option_and_then kept o ≡ unwrap_or (option_map kept o) None
  and_then-is None = refl
  and_then-is (Some x) = refl

  seen-inside : (o : Option (Option ℕ)) → unwrap_or (option_map seen o) None ≡ seen (unwrap_or o None)
  seen-inside None = refl
  seen-inside (Some x) = refl

  seen-cons : (o : Option ℕ) (ys : List ℕ) → cons_option (seen o) (map record_of ys) ≡ map record_of (cons_option o ys)
  seen-cons None ys = refl
  seen-cons (Some y) ys = refl

  module _ (items : List Item) (xs : List (Option ℕ)) (same : map kept items ≡ map seen xs) where
    kept-entry : (k : ℕ) → kept_at items k ≡ seen (entry xs k)
    kept-entry k =
        and_then-is (slice_get items k)
        ∙ ap (λ o. unwrap_or o None) (sym (slice_get-map kept items k) ∙ ap (λ y. slice_get y k) same ∙ slice_get-map seen xs k)
        ∙ seen-inside (slice_get xs k)

    pub held-entries : (order : List ℕ) → held_in items order ≡ map record_of (filter_map (entry xs) order)
    held-entries [] = refl
    held-entries (k ∷ order) =
        ap (λ o. cons_option o (held_in items order)) (kept-entry k)
        ∙ ap (cons_option (seen (entry xs k))) (held-entries order)
        ∙ seen-cons (entry xs k) (filter_map (entry xs) order)

  -- records aren't dummies
  module _ (held : (x : ℕ) → is_held (record_of x) ≡ true) where
    kept-one : (x : ℕ) → kept (record_of x) ≡ Some (record_of x)
    kept-one x = ap (λ c. cond c (Some (record_of x)) None) (held x)

    kept-records : (ys : List ℕ) → map kept (map record_of ys) ≡ map seen (map Some ys)
    kept-records [] = refl
    kept-records (y ∷ ys) = ap (λ o. o ∷ map kept (map record_of ys)) (kept-one y) ∙ ap (λ zs. Some (record_of y) ∷ zs) (kept-records ys)

    kept-pads : (n : ℕ) → map kept (replicate n dummy_item) ≡ map seen (replicate n None)
    kept-pads zero = refl
    kept-pads (suc n) = ap (λ zs. None ∷ zs) (kept-pads n)

    kept-block : (n : ℕ) (ys : List ℕ) → map kept (items_of record_of n ys) ≡ map seen (padded_places n ys)
    kept-block n ys =
        let pads = replicate (n - length (map record_of ys)) dummy_item in
        map-append kept (map record_of ys) pads
        ∙ ap (λ zs. zs ++ map kept pads) (kept-records ys)
        ∙ ap (λ zs. map seen (map Some ys) ++ zs) (kept-pads (n - length (map record_of ys)))
        ∙ ap (λ m. map seen (map Some ys) ++ map seen (replicate (n - m) None)) (length-map ys record_of)
        ∙ sym (map-append seen (map Some ys) (replicate (n - length ys) None))

    kept-blocks : (p : Sizes) (d : Draw) (o : List ℕ) (i : ℕ) (js : List ℕ)
        → map kept (flat_map (chunk_items record_of p d o i) js) ≡ map seen (flat_map (padded_chunk p d o i) js)
    kept-blocks p d o i [] = refl
    kept-blocks p d o i (j ∷ js) =
        map-append kept (chunk_items record_of p d o i j) (flat_map (chunk_items record_of p d o i) js)
        ∙ ap (λ zs. zs ++ map kept (flat_map (chunk_items record_of p d o i) js)) (kept-block p.c (chunk p d o (exchange_of o j) i))
        ∙ ap (λ zs. map seen (padded_chunk p d o i j) ++ zs) (kept-blocks p d o i js)
        ∙ sym (map-append seen (padded_chunk p d o i j) (flat_map (padded_chunk p d o i) js))

    kept-imports : (p : Sizes) (d : Draw) (o : List ℕ) (i : ℕ) → map kept (import_items record_of p d o i) ≡ map seen (imports p d o i)
    kept-imports p d o i =
        let chunks = flat_map (chunk_items record_of p d o i) (below p.b) in
        map-append kept chunks (items_of record_of p.k (tail p d o i))
        ∙ ap (λ zs. zs ++ map kept (items_of record_of p.k (tail p d o i))) (kept-blocks p d o i (below p.b))
        ∙ ap (λ zs. map seen (flat_map (padded_chunk p d o i) (below p.b)) ++ zs) (kept-block p.k (tail p d o i))
        ∙ sym (map-append seen (flat_map (padded_chunk p d o i) (below p.b)) (padded_places p.k (tail p d o i)))

    -- arranged by the order of the target, the items are those of the places that are arranged
    pub held-arranged : (p : Sizes) (d : Draw) (o : List ℕ) (i : ℕ)
        → held_in (import_items record_of p d o i) (d.order i) ≡ map record_of (arranged p d o i)
    held-arranged p d o i = held-entries (import_items record_of p d o i) (imports p d o i) (kept-imports p d o i) (d.order i)

    pub length-import_items : (p : Sizes) (d : Draw) (o : List ℕ) (i : ℕ) → length (import_items record_of p d o i) ≡ length (imports p d o i)
    length-import_items p d o i =
        sym (length-map (import_items record_of p d o i) kept) ∙ ap length (kept-imports p d o i) ∙ length-map (imports p d o i) seen

    -- how many they are
    count-records : (ys : List ℕ) → held_count (map record_of ys) ≡ length ys
    count-records [] = refl
    count-records (y ∷ ys) =
        omega (arith, sum_by-cons (λ x. cond (is_held x) 1 0) (record_of y) (map record_of ys), ap bit (held y), count-records ys)

    pub count-block : (n : ℕ) (ys : List ℕ) → held_count (items_of record_of n ys) ≡ length ys
    count-block n ys =
        let m = n - length (map record_of ys) in
        sum_by-append (λ x. cond (is_held x) 1 0) (map record_of ys) (replicate m dummy_item)
        ∙ omega (arith, count-records ys, sum_by-replicate (λ x. cond (is_held x) 1 0) m dummy_item)

    pub count-imports : (p : Sizes) (d : Draw) (o : List ℕ) (i : ℕ)
        → held_count (import_items record_of p d o i) ≡ sum_by (λ j. length (chunk p d o (exchange_of o j) i)) (below p.b) + length (tail p d o i)
    count-imports p d o i =
        let weight = λ (x : Item). cond (is_held x) 1 0 in
        sum_by-append weight (flat_map (chunk_items record_of p d o i) (below p.b)) (items_of record_of p.k (tail p d o i))
        ∙ ap (λ y. y + held_count (items_of record_of p.k (tail p d o i))) (sum-of-flat_map weight (chunk_items record_of p d o i) (below p.b))
        ∙ ap (λ y. y + held_count (items_of record_of p.k (tail p d o i)))
        (sum-below-same (λ j. held_count (chunk_items record_of p d o i j)) (λ j. length (chunk p d o (exchange_of o j) i)) p.b
        (λ j j_in. count-block p.c (chunk p d o (exchange_of o j) i)))
        ∙ ap (λ y. sum_by (λ j. length (chunk p d o (exchange_of o j) i)) (below p.b) + y) (count-block p.k (tail p d o i))

-- the items from an index of the order on
module _ (items : List Item) (order : List ℕ) (k : ℕ) (item : Item) (k_in : k < length order) (is : slice_get items (get_or order k 0) ≡ Some item) where
  held-drop : held_in items (drop k order) ≡ option_to_list (kept item) ++ held_in items (drop (k + 1) order)
  held-drop =
      ap (held_in items) (drop-cons order k 0 k_in)
      ∙ held-next items (get_or order k 0) item (drop (suc k) order) is
      ∙ ap (λ m. option_to_list (kept item) ++ held_in items (drop m order)) (sym (add-one k))

  pub entered : (queue : List Item) → (queue ++ option_to_list (kept item)) ++ held_in items (drop (k + 1) order) ≡ queue ++ held_in items (drop k order)
  entered queue =
      append_assoc queue (option_to_list (kept item)) (held_in items (drop (k + 1) order))
      ∙ ap (λ y. queue ++ y) (sym held-drop)

  -- there is room for an item that is to come
  one-kept : (c : Bool) → IsTrue c → length (option_to_list (cond c (Some item) None)) ≡ 1
  one-kept true sure = refl
  one-kept false sure = absurd (cc)

  pub room-for : (queue : List Item) (capacity : ℕ) → length (queue ++ held_in items (drop k order)) ≤ capacity → IsTrue (is_held item) → length queue < capacity
  room-for queue capacity room held =
      omega (
        arith,
        length-append queue (held_in items (drop k order)),
        ap length held-drop,
        length-append (option_to_list (kept item)) (held_in items (drop (k + 1) order)),
        one-kept (is_held item) held,
        room,
      )
