-- The items of an opened text: as many are counted as the block says, bytes spell each, and they are those that were sealed.
use Rattle.std.proofs.Common.{◌≡◌, ◌≢◌, ℕ, zero, suc, ◌+◌, ◌-◌, ◌*◌, ◌/◌, ◌<◌, ◌≤◌, min, Bool, true, false, cond, List, length, map, All, Option, Some, None, refl, sym, ap, ◌∙◌, subst, arith, inl, inr, length-append}
use Rattle.std.specs.Prelude.{nat_lt, replicate, unwrap_or}
use Rattle.std.specs.Option.{option_map, option_map_or}
use Rattle.std.proofs.Math.Nat.{mul-div_cancel}
use Rattle.std.proofs.lemmas.Bool.{cases_lt, lt-ltb, le-ltb}
use Rattle.std.proofs.lemmas.Bool.Decides.{nat_tests}
use Rattle.std.proofs.lemmas.List.{length-replicate}
use Rattle.std.proofs.lemmas.List.Elements.{All-append, All-map, All-replicate, All-weaker}
use Rattle.std.proofs.lemmas.List.FromFn.{fill_by_all, length-map-range_with_len}
use Rattle.std.proofs.lemmas.List.Sums.{sum_by_push}
use Rattle.std.proofs.lemmas.Option.{unwrap_or-slice_get}
use Rattle.esa_compress.specs.Held.{held_count, is_held, is_kind_held}
use Rattle.esa_envelope.specs.declared.keys.Keys.{Keys}
use Rattle.esa_laws.proofs.FinishLaws.{All-below}
use Rattle.esa_laws.proofs.Ranges.{map-below-suc}
use Rattle.esa_laws.proofs.Tests.{bit}
use Rattle.esa_params.specs.Sizes.{Sizes, below}
use Rattle.esa_params.specs.Slots.{item_length}
use Rattle.esa_params.specs.declared.form.Form.{Form}
use Rattle.esa_params.specs.declared.form.Form.TheVariants.{One, Two}
use Rattle.esa_params.specs.declared.slot.Region.{Region}
use Rattle.esa_params.specs.declared.slot.Region.TheVariants.{Input, Mid, Tail, Output}
use Rattle.esa_params.specs.declared.slot.Slot.{Slot}
use Rattle.esa_report.specs.declared.item.Item.{Item}
use Rattle.esa_report.specs.declared.item.Kind.{Kind}
use Rattle.esa_report.specs.declared.item.Kind.TheVariants.{Dummy, Real, Malformed}
use Rattle.esa_report.specs.Item.{IsItemLength, dummy_item, item_in}
use Rattle.esa_stash.specs.Stash.{padded}
use Rattle.esa_vault.specs.Filled.{bytes_at, is_filled, suits, text_of}
use Rattle.esa_vault.specs.Placed.{IsSpelled}
use Rattle.esa_vault.specs.Seals.{is_text_of, opens, text_in}
use Rattle.esa_vault.proofs.SpelledLaws.{held-spelled}
use Rattle.esa_vault.proofs.TextLaws.{dummy_spelled, filled-suits, item-found, place-inside}
use Rattle.esa_press.specs.Records.{AreRecords, item_there}

-- an item has one of the two lengths
pub item_length_is : (form : Form) → IsItemLength (item_length form)
item_length_is One = inl refl
item_length_is Two = inr refl

-- the text that was opened is one of so many items
pub text_taken : (o : Option (List ℕ)) (before text : List ℕ) (test : List ℕ → Bool) → option_map_or test o false ≡ true → text ≡ unwrap_or o before
    → test text ≡ true
text_taken None before text test taken is = cc taken
text_taken (Some opened) before text test taken is = ap test is ∙ taken

pub filled_of : (p : Sizes) (region : Region) (count : ℕ) (text : List ℕ) → region ≢ Input → is_text_of p region count text ≡ true
    → is_filled (item_length p.form) count text ≡ true
filled_of p Input count text other is = absurd (other refl)
filled_of p Mid count text other is = is
filled_of p Tail count text other is = is
filled_of p Output count text other is = is

-- an item stands in front of the dummies exactly where it is none
held_kind : (count place : ℕ) (kind : Kind) → suits count place (Some kind) ≡ true → is_kind_held kind ≡ nat_lt place count
held_kind count place Dummy fits = grind (arith, nat_tests)
held_kind count place Real fits = sym fits
held_kind count place Malformed fits = sym fits

held_or : (count place : ℕ) (o : Option Item) → suits count place (option_map (λ (item : Item). item.kind) o) ≡ true
    → is_held (unwrap_or o dummy_item) ≡ nat_lt place count
held_or count place None fits = cc fits
held_or count place (Some item) fits = held_kind count place item.kind fits

spelled_or : (size : ℕ) (o : Option Item) → ((item : Item) → o ≡ Some item → IsSpelled size item) → IsSpelled size (unwrap_or o dummy_item)
spelled_or size None each = dummy_spelled size
spelled_or size (Some item) each = each item refl

-- an item counts once, where it is no dummy
abbrev pub weight : Item → ℕ
weight item = cond (is_held item) 1 0

-- where the first ones are no dummies and the rest are, so many are none
count_first : (f : ℕ → Item) (count n : ℕ) → ((x : ℕ) → x < n → is_held (f x) ≡ nat_lt x count) → held_count (map f (below n)) ≡ min count n
count_first f count zero each = omega arith
count_first f count (suc n) each =
    let before = count_first f count n (λ x x_in. each x (omega arith)) in
    let more : held_count (map f (below (suc n))) ≡ held_count (map f (below n)) + weight (f n) =
    ap held_count (map-below-suc f n) ∙ sum_by_push weight (map f (below n)) (f n) in
    elim (cases_lt n count) [
      | inl inside ↦
          let one : weight (f n) ≡ 1 = ap bit (each n (omega arith) ∙ lt-ltb n count inside) in
          omega (arith, more, before, one)
      | inr behind ↦
          let none : weight (f n) ≡ 0 = ap bit (each n (omega arith) ∙ le-ltb n count behind) in
          omega (arith, more, before, none)
    ]

-- a text of n items
module _ (size n : ℕ) (text : List ℕ) (either : IsItemLength size) (whole : n * size ≡ length text) where
  abbrev there : ℕ → Item
  there = item_there size text

  places : length text / size ≡ n
  places =
      let some : zero < size = omega arith in
      ap (λ (m : ℕ). m / size) (sym whole) ∙ mul-div_cancel n some

  pub all_counted : (count : ℕ) → count ≤ n → is_filled size count text ≡ true → held_count (map there (below n)) ≡ count
  all_counted count few filled =
      let least : min count n ≡ count = omega arith in
      count_first there count n
      (λ x x_in. held_or count x (item_in (bytes_at size text x)) (filled-suits size count x text filled (subst (λ (m : ℕ). x < m) (sym places) x_in)))
      ∙ least

  pub all_spelled : All (IsSpelled size) (map there (below n))
  all_spelled =
      All-map (IsSpelled size) there (below n)
      (All-weaker (λ (x : ℕ). x < n) (λ (x : ℕ). IsSpelled size (there x))
      (λ x x_in. spelled_or size (item_in (bytes_at size text x))
      (λ item is. held-spelled size x text item either (subst (λ (m : ℕ). x * size + size ≤ m) whole (place-inside size x n x_in)) is))
      (below n) (All-below n n (omega arith)))

-- records with dummies behind them are n items, and bytes can spell each
pub length_padded : (n : ℕ) (records : List Item) → length records ≤ n → length (padded n records) ≡ n
length_padded n records fit =
    omega (arith, length-append records (replicate (n - length records) dummy_item), length-replicate {A = Item} (n - length records) dummy_item)

pub padded_spelled : (size n : ℕ) (records : List Item) → All (IsSpelled size) records → All (IsSpelled size) (padded n records)
padded_spelled size n records all =
    All-append (IsSpelled size) records (replicate (n - length records) dummy_item) all
    (All-replicate (IsSpelled size) (n - length records) dummy_item (dummy_spelled size))

-- the items of the text of records are these records, with dummies behind them
pub all_given : (size n : ℕ) (records : List Item) (text : List ℕ) → IsItemLength size → AreRecords size n records → text ≡ text_of size (padded n records)
    → map (item_there size text) (below n) ≡ padded n records
all_given size n records text either stored is =
    let items = padded n records in
    let many : length items ≡ n = length_padded n records stored.fit in
    let spelled = padded_spelled size n records stored.spelled in
    ap (λ (t : List ℕ). map (item_there size t) (below n)) is
    ∙ sym (fill_by_all (item_there size (text_of size items)) items n dummy_item many
    (λ k k_in. sym (unwrap_or-slice_get items k dummy_item)
    ∙ ap (λ (o : Option Item). unwrap_or o dummy_item) (sym (item-found size k items either spelled (subst (λ (m : ℕ). k < m) (sym many) k_in)))))

-- what was opened for a slot, to so many items
module _ (p : Sizes) (form : Form) (text : List ℕ) (n : ℕ) (items : List Item) (same : form ≡ p.form) (whole : n * item_length p.form ≡ length text)
    (is : items ≡ map (item_there (item_length form) text) (below n))
  where
    there_are : items ≡ map (item_there (item_length p.form) text) (below n)
    there_are = is ∙ ap (λ (f : Form). map (item_there (item_length f) text) (below n)) same

    pub opened_counted : (keys : Keys) (slot : Slot) (attempt count : ℕ) (last bytes before : List ℕ) → slot.region ≢ Input → count ≤ n
        → opens p keys slot attempt count last ≡ true → last ≡ bytes → text ≡ unwrap_or (text_in p keys slot attempt bytes) before → held_count items ≡ count
    opened_counted keys slot attempt count last bytes before other few opens given opened =
        let taken = text_taken (text_in p keys slot attempt bytes) before text (is_text_of p slot.region count) (sym (ap (λ (b : List ℕ). option_map_or (is_text_of p slot.region count) (text_in p keys slot attempt b) false) given) ∙ opens) opened in
        ap held_count there_are
        ∙ all_counted (item_length p.form) n text (item_length_is p.form) whole count few (filled_of p slot.region count text other taken)

    pub opened_spelled : All (IsSpelled (item_length p.form)) items
    opened_spelled = subst (All (IsSpelled (item_length p.form))) (sym there_are) (all_spelled (item_length p.form) n text (item_length_is p.form) whole)

    pub opened_given : (records : List Item) → AreRecords (item_length p.form) (length items) records
        → text ≡ text_of (item_length p.form) (padded (length items) records) → items ≡ padded (length items) records
    opened_given records fit sealed =
        let many : length items ≡ n = ap length there_are ∙ length-map-range_with_len (item_there (item_length p.form) text) 0 n in
        there_are
        ∙ ap (λ (m : ℕ). map (item_there (item_length p.form) text) (below m)) (sym many)
        ∙ all_given (item_length p.form) (length items) records text (item_length_is p.form) fit sealed
