-- The text of items: its length, the bytes of each item, and how it fills a block.
use Rattle.std.proofs.Common.{◌≡◌, ◌≢◌, ℕ, zero, suc, ◌+◌, ◌-◌, ◌*◌, ◌/◌, ◌<◌, ◌≤◌, Bool, true, List, [], ◌∷◌, ◌++◌, length, take, drop, get_or, Some, refl, sym, ap, ◌∙◌, arith, add-one, append-nil, append_assoc, length-append, subst, inl, inr}
use Rattle.std.specs.Prelude.{All, replicate, slice_get}
use Rattle.std.specs.List.{list_all}
use Rattle.std.specs.Option.{option_map}
use Rattle.std.proofs.Math.Nat.{mul-div_cancel, mul-le-mul_right}
use Rattle.std.proofs.lemmas.Bool.{cases_lt}
use Rattle.std.proofs.lemmas.Bool.Decides.{nat_tests}
use Rattle.std.proofs.lemmas.List.{drop-drop, drop_at, length-replicate, length-take-le, take_all, take_at, take_more}
use Rattle.std.proofs.lemmas.List.Elements.{All-append, All-replicate}
use Rattle.std.proofs.lemmas.Slice.{take-put_mid}
use borrow.Rule.Slice.PartMut.{put_mid}
use Rattle.esa_params.specs.Sizes.{below}
use Rattle.esa_report.specs.declared.item.Item.{Item}
use Rattle.esa_report.specs.declared.item.Kind.{Kind}
use Rattle.esa_report.specs.declared.item.Kind.TheVariants.{Dummy, Real, Malformed}
use Rattle.esa_report.specs.Item.{IsItemLength, dummy_item, item_bytes, item_in, kind_held, zero_body}
use Rattle.esa_report.proofs.ItemLemmas.{item_in-item_bytes}
use Rattle.esa_report.proofs.ZeroLemmas.{is_zero-drop, is_zero-zero_body}
use Rattle.esa_vault.specs.Filled.{bytes_at, is_filled, suits, text_of}
use Rattle.esa_vault.specs.Placed.{IsHeld, IsSpelled}
use Rattle.esa_vault.proofs.FilledLemmas.{passed, passes_all, passes_more}

-- an item's bytes are as many as are said
pub length-item_bytes : (size : ℕ) (item : Item) → IsItemLength size → IsSpelled size item → length (item_bytes size item) ≡ size
length-item_bytes size item either spelled =
    let front : length (take (size - 1) item.body) ≡ size - 1 = length-take-le (size - 1) item.body (omega (arith, spelled.body)) in
    omega (arith, front)

-- a fact of all items is one of those behind the first
rest_all : (P : Item → Type 0) (item : Item) (items : List Item) → All P (item ∷ items) → All P items
rest_all P item items all = λ k d inside. all (suc k) d (omega arith)

pub length-text_of : (size : ℕ) (items : List Item) → IsItemLength size → All (IsSpelled size) items
    → length (text_of size items) ≡ length items * size
length-text_of size [] either all = omega arith
length-text_of size (item ∷ items) either all =
    let first = length-item_bytes size item either (all 0 item (omega arith)) in
    let rest = length-text_of size items either (rest_all (IsSpelled size) item items all) in
    let one_more : suc (length items) * size ≡ size + length items * size = omega arith in
    length-append (item_bytes size item) (text_of size items) ∙ omega (arith, first, rest, one_more)

-- the bytes of the item at a place
piece : (size place : ℕ) (items : List Item) (d : Item) → IsItemLength size → All (IsSpelled size) items → place < length items
    → take size (drop (place * size) (text_of size items)) ≡ item_bytes size (get_or items place d)
piece size place [] d either all inside = absurd (omega arith)
piece size zero (item ∷ items) d either all inside =
    let none : zero * size ≡ 0 = omega arith in
    rw none (take_at (item_bytes size item) (text_of size items) size (length-item_bytes size item either (all 0 item (omega arith))))
piece size (suc place) (item ∷ items) d either all inside =
    let next : suc place * size ≡ size + place * size = omega arith in
    ap (λ at. take size (drop at (item_bytes size item ++ text_of size items))) next
    ∙ ap (take size) (sym (drop-drop (place * size) size (item_bytes size item ++ text_of size items)))
    ∙ ap (λ rest. take size (drop (place * size) rest)) (drop_at (item_bytes size item) (text_of size items) size (length-item_bytes size item either (all 0 item (omega arith))))
    ∙ piece size place items d either (rest_all (IsSpelled size) item items all) (omega arith)

pub bytes_at-text_of : (size place : ℕ) (items : List Item) (d : Item) → IsItemLength size → All (IsSpelled size) items → place < length items
    → bytes_at size (text_of size items) place ≡ item_bytes size (get_or items place d)
bytes_at-text_of size place items d either all inside =
    let n : place * size + size - place * size ≡ size = omega arith in
    ap (λ m. take m (drop (place * size) (text_of size items))) n ∙ piece size place items d either all inside

get-at : (items : List Item) (place : ℕ) (d : Item) → place < length items → slice_get items place ≡ Some (get_or items place d)
get-at [] place d inside = absurd (omega arith)
get-at (item ∷ items) zero d inside = refl
get-at (item ∷ items) (suc place) d inside = get-at items place d (omega arith)

-- the item whose bytes stand at a place
found : (size place : ℕ) (items : List Item) (d : Item) → IsItemLength size → All (IsSpelled size) items → place < length items
    → item_in (bytes_at size (text_of size items) place) ≡ Some (get_or items place d)
found size place items d either all inside =
    let spelled = all place d inside in
    ap item_in (bytes_at-text_of size place items d either all inside)
    ∙ item_in-item_bytes size (get_or items place d) spelled.body (omega arith) spelled.zero spelled.well_formed

pub item-found : (size place : ℕ) (items : List Item) → IsItemLength size → All (IsSpelled size) items → place < length items
    → item_in (bytes_at size (text_of size items) place) ≡ slice_get items place
item-found size place items either all inside =
    found size place items dummy_item either all inside ∙ sym (get-at items place dummy_item inside)

passes_upto : (test : ℕ → Bool) (n k : ℕ) → k ≤ n → ((place : ℕ) → place < n → test place ≡ true) → list_all test (take k (below n)) ≡ true
passes_upto test n zero h each = refl
passes_upto test n (suc k) h each =
    rw (sym (add-one k)) (passes_more test n k (omega arith) (passes_upto test n k (omega arith) each) (each k (omega arith)))

-- a test that passes at each place
passes_each : (test : ℕ → Bool) (n : ℕ) → ((place : ℕ) → place < n → test place ≡ true) → list_all test (below n) ≡ true
passes_each test n each = passes_all test n n (omega arith) (passes_upto test n n (omega arith) each)

-- dummies are spelled
pub dummy_spelled : (size : ℕ) → IsSpelled size dummy_item
unfolding zero_body
dummy_spelled size = record {
  body = length-replicate {A = ℕ} 264 0;
  well_formed = is_zero-zero_body;
  zero = is_zero-drop (size - 1) zero_body is_zero-zero_body;
}

all_spelled : (size dummies : ℕ) (items : List Item) → All (IsSpelled size) items → All (IsSpelled size) (items ++ replicate dummies dummy_item)
all_spelled size dummies items all =
    All-append (IsSpelled size) items (replicate dummies dummy_item) all (All-replicate (IsSpelled size) dummies dummy_item (dummy_spelled size))

-- what stands at a place of items with dummies behind them
held-before : (dummies : ℕ) (items : List Item) (place : ℕ) (d : Item) → place < length items
    → get_or (items ++ replicate dummies dummy_item) place d ≡ get_or items place d
held-before dummies [] place d inside = absurd (omega arith)
held-before dummies (item ∷ items) zero d inside = refl
held-before dummies (item ∷ items) (suc place) d inside = held-before dummies items place d (omega arith)

dummy-behind : (dummies : ℕ) (items : List Item) (place : ℕ) → length items ≤ place
    → get_or (items ++ replicate dummies dummy_item) place dummy_item ≡ dummy_item
dummy-behind zero [] place behind = refl
dummy-behind (suc dummies) [] zero behind = refl
dummy-behind (suc dummies) [] (suc place) behind = dummy-behind dummies [] place (omega arith)
dummy-behind dummies (item ∷ items) zero behind = absurd (omega arith)
dummy-behind dummies (item ∷ items) (suc place) behind = dummy-behind dummies items place (omega arith)

suits-held : (count place : ℕ) (kind : Kind) → place < count → kind ≢ Dummy → suits count place (Some kind) ≡ true
suits-held count place Dummy inside held = absurd (held refl)
suits-held count place Real inside held = grind (arith, nat_tests)
suits-held count place Malformed inside held = grind (arith, nat_tests)

suits-dummy : (count place : ℕ) → count ≤ place → suits count place (Some Dummy) ≡ true
suits-dummy count place behind = grind (arith, nat_tests)

stands : (size dummies : ℕ) (items : List Item) (place : ℕ) → IsItemLength size → All (IsSpelled size) items → All IsHeld items
    → place < length (items ++ replicate dummies dummy_item)
    → suits (length items) place (kind_held (bytes_at size (text_of size (items ++ replicate dummies dummy_item)) place)) ≡ true
stands size dummies items place either all held inside =
    let whole = found size place (items ++ replicate dummies dummy_item) dummy_item either (all_spelled size dummies items all) inside in
    elim (cases_lt place (length items)) [
      | inl before ↦
          ap (λ item. suits (length items) place (option_map (λ (item : Item). item.kind) item)) (whole ∙ ap (λ item. Some item) (held-before dummies items place dummy_item before))
          ∙ suits-held (length items) place (get_or items place dummy_item).kind before (held place dummy_item before)
      | inr behind ↦
          ap (λ item. suits (length items) place (option_map (λ (item : Item). item.kind) item)) (whole ∙ ap (λ item. Some item) (dummy-behind dummies items place behind))
          ∙ suits-dummy (length items) place behind
    ]

pub text-fills : (size dummies : ℕ) (items : List Item) → IsItemLength size → All (IsSpelled size) items → All IsHeld items
    → is_filled size (length items) (text_of size (items ++ replicate dummies dummy_item)) ≡ true
text-fills size dummies items either all held =
    let whole = length-text_of size (items ++ replicate dummies dummy_item) either (all_spelled size dummies items all) in
    let some : zero < size = omega arith in
    let count : length (text_of size (items ++ replicate dummies dummy_item)) / size ≡ length (items ++ replicate dummies dummy_item) =
    ap (λ n. n / size) whole ∙ mul-div_cancel (length (items ++ replicate dummies dummy_item)) some in
    passes_each (λ place. suits (length items) place (kind_held (bytes_at size (text_of size (items ++ replicate dummies dummy_item)) place)))
    (length (text_of size (items ++ replicate dummies dummy_item)) / size)
    (λ place inside. stands size dummies items place either all held (subst (λ n. place < n) count inside))

-- each place of a block that is filled suits
pub filled-suits : (size count place : ℕ) (text : List ℕ) → is_filled size count text ≡ true → place < length text / size
    → suits count place (kind_held (bytes_at size text place)) ≡ true
filled-suits size count place text filled inside =
    passed (λ place. suits count place (kind_held (bytes_at size text place))) (length text / size) place inside filled

-- items are written one after another
text_of-append : (size : ℕ) (items more : List Item) → text_of size (items ++ more) ≡ text_of size items ++ text_of size more
text_of-append size [] more = refl
text_of-append size (item ∷ items) more =
    ap (λ rest. item_bytes size item ++ rest) (text_of-append size items more)
    ∙ sym (append_assoc (item_bytes size item) (text_of size items) (text_of size more))

text_of-more : (size place : ℕ) (items : List Item) → place < length items
    → text_of size (take (place + 1) items) ≡ text_of size (take place items) ++ item_bytes size (get_or items place dummy_item)
text_of-more size place items inside =
    ap (text_of size) (take_more items place dummy_item inside)
    ∙ text_of-append size (take place items) (get_or items place dummy_item ∷ [])
    ∙ ap (λ last. text_of size (take place items) ++ last) (append-nil (item_bytes size (get_or items place dummy_item)))

-- a place lies before the end
pub place-inside : (size place n : ℕ) → place < n → place * size + size ≤ n * size
place-inside size place n inside =
    let more : (place + 1) * size ≤ n * size = mul-le-mul_right size (omega arith) in omega arith

-- one item more was written behind those before it
pub written-more : (size place : ℕ) (items : List Item) (text part : List ℕ) → IsItemLength size → All (IsSpelled size) items → place < length items
    → length text ≡ length items * size → take (place * size) text ≡ text_of size (take place items)
    → part ≡ item_bytes size (get_or items place dummy_item)
    → take ((place + 1) * size) (put_mid (place * size) (place * size + size - place * size) text part) ≡ text_of size (take (place + 1) items)
written-more size place items text part either all inside whole before here =
    let room = place-inside size place (length items) inside in
    let one : length part ≡ size = ap length here ∙ length-item_bytes size (get_or items place dummy_item) either (all place dummy_item inside) in
    let next : (place + 1) * size ≡ place * size + length part = omega arith in
    take-put_mid (place * size) (place * size + size - place * size) text part ((place + 1) * size) next (omega arith)
    ∙ ap (λ front. front ++ part) before ∙ ap (λ last. text_of size (take place items) ++ last) here
    ∙ sym (text_of-more size place items inside)

-- all items were written
pub all-written : (size place : ℕ) (items : List Item) (text : List ℕ) → length items ≤ place → length text ≡ length items * size
    → take (place * size) text ≡ text_of size (take place items) → text ≡ text_of size items
all-written size place items text end whole written =
    let room : length text ≤ place * size = let all : length items * size ≤ place * size = mul-le-mul_right size end in omega arith in
    sym (take_all (place * size) text room) ∙ written ∙ ap (text_of size) (take_all place items end)

same-item : (items : List Item) (place : ℕ) (d e : Item) → place < length items → get_or items place d ≡ get_or items place e
same-item [] place d e inside = absurd (omega arith)
same-item (item ∷ items) zero d e inside = refl
same-item (item ∷ items) (suc place) d e inside = same-item items place d e (omega arith)

-- the bytes of the item at a place were written
pub written-here : (size n place : ℕ) (items : List Item) (d : Item) (part : List ℕ) → n ≡ size → place < length items
    → part ≡ item_bytes n (get_or items place d) → part ≡ item_bytes size (get_or items place dummy_item)
written-here size n place items d part same inside is =
    is ∙ ap (λ m. item_bytes m (get_or items place d)) same ∙ ap (item_bytes size) (same-item items place d dummy_item inside)
