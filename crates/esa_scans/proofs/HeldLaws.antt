-- What the threshold sees of an item's bytes, and of items one after another.
use Rattle.std.proofs.Common.{◌≡◌, ℕ, suc, ◌+◌, ◌*◌, ◌<◌, ◌≤◌, Bool, true, false, cond, slice_index, List, [], ◌∷◌, ◌++◌, length, take, drop, Option, Some, None, refl, sym, ap, ◌∙◌, arith, inl, inr, append_assoc, append-nil, length-take, length-drop, length-append}
use Rattle.std.specs.List.{cons_option, concat}
use Rattle.std.specs.Option.{option_map}
use Rattle.std.specs.Prelude.{◌-◌, replicate, unwrap_or, if◌then◌else◌}
use Rattle.std.proofs.Math.Nat.{mul-le-mul_right}
use Rattle.std.proofs.lemmas.List.{take-append-drop, take_all, take_at, drop_at, drop-drop, length-map}
use Rattle.std.proofs.lemmas.List.FromFn.{map-range_with_len_more}
use Rattle.esa_params.specs.declared.form.Form.{Form}
use Rattle.esa_params.specs.declared.form.Form.TheVariants.{One, Two}
use Rattle.esa_params.specs.Form.{inner_length}
use Rattle.esa_params.specs.Sizes.{below}
use Rattle.esa_params.specs.Slots.{item_length}
use Rattle.esa_report.specs.declared.item.Item.{Item}
use Rattle.esa_report.specs.declared.item.Kind.{Kind}
use Rattle.esa_report.specs.declared.item.Kind.TheVariants.{Dummy, Real, Malformed}
use Rattle.esa_report.specs.Item.{IsItemLength, dummy_item, full_body, item_in, item_of, kind_in}
use Rattle.esa_report.specs.Zero.{is_zero}
use Rattle.esa_crowds.specs.Entries.{Entry, crowd_in, entries_from, entry_in, if_real, inner_in}
use Rattle.esa_crowds.specs.Kept.{sent_from}
use Rattle.esa_crowds.proofs.PlaceLaws.{length-range}
use Rattle.esa_vault.specs.Filled.{bytes_at}
use Rattle.esa_scans.specs.Held.{is_real, is_real_in, item_held, items_in}

-- an item's bytes have one of the two lengths
pub either : (form : Form) (n : ℕ) → n ≡ item_length form → IsItemLength n
either One n is = inl is
either Two n is = inr is

-- the kind that bytes hold is real where the item is
pub real_kind : (item : Option Item) → is_real_in (option_map (λ (item : Item). item.kind) item) ≡ is_real (unwrap_or item dummy_item).kind
real_kind None = refl
real_kind (Some item) = refl

-- the body of a real item
zero_or : (b : Bool) (item : Item) → is_real item.kind ≡ false → is_real (unwrap_or (cond b (Some item) None) dummy_item).kind ≡ true → ⊥
zero_or true item other real = cc (other, real)
zero_or false item other real = cc real

real_of : (kind : Option Kind) (body : List ℕ) → is_real (unwrap_or (item_of kind body) dummy_item).kind ≡ true
    → unwrap_or (item_of kind body) dummy_item ≡ record { kind = Real; body = body }
real_of None body real = cc real
real_of (Some Real) body real = refl
real_of (Some Dummy) body real = absurd (zero_or (is_zero body) (record { kind = Dummy; body = body }) refl real)
real_of (Some Malformed) body real = absurd (zero_or (is_zero body) (record { kind = Malformed; body = body }) refl real)

pub real_item : (bytes : List ℕ) → is_real (item_held bytes).kind ≡ true → item_held bytes ≡ record { kind = Real; body = full_body (drop 1 bytes) }
unfolding item_in
real_item bytes real = real_of (kind_in (slice_index bytes 0)) (full_body (drop 1 bytes)) real

-- zero bytes behind an outer plain text are no part of what is looked at
front_of : (more body : List ℕ) → 32 ≤ length body → crowd_in (body ++ more) ≡ crowd_in body
front_of more body long =
    ap (λ (b : List ℕ). take 32 (b ++ more)) (sym (take-append-drop 32 body))
    ∙ ap (take 32) (append_assoc (take 32 body) (drop 32 body) more)
    ∙ take_at (take 32 body) (drop 32 body ++ more) 32 (omega (arith, long, length-take {A = ℕ}))

pub inner_of : (form : Form) (more body : List ℕ) → length body ≡ 32 + inner_length form → inner_in form (body ++ more) ≡ drop 32 body
inner_of form more body whole =
    ap (λ (b : List ℕ). inner_in form (b ++ more)) (sym (take-append-drop 32 body))
    ∙ ap (inner_in form) (append_assoc (take 32 body) (drop 32 body) more)
    ∙ ap (take (inner_length form)) (drop_at (take 32 body) (drop 32 body ++ more) 32 (omega (arith, whole, length-take {A = ℕ})))
    ∙ take_at (drop 32 body) more (inner_length form) (omega (arith, whole, length-drop {A = ℕ}))

inner_alone : (form : Form) (body : List ℕ) → length body ≡ 32 + inner_length form → inner_in form body ≡ drop 32 body
inner_alone form body whole = take_all (inner_length form) (drop 32 body) (omega (arith, whole, length-drop {A = ℕ}))

entry_full : (form : Form) (key : List ℕ) (q : ℕ) (more body : List ℕ) → length body ≡ 32 + inner_length form
    → entry_in form key q (body ++ more) ≡ entry_in form key q body
entry_full form key q more body whole =
    let crowd = front_of more body (omega (arith, whole)) in
    let inner : inner_in form (body ++ more) ≡ inner_in form body = inner_of form more body whole ∙ sym (inner_alone form body whole) in
    cc (crowd, inner)

whole_of : (form : Form) (bytes : List ℕ) → length bytes ≡ item_length form → length (drop 1 bytes) ≡ 32 + inner_length form
whole_of form bytes whole = omega (arith, whole, length-drop {A = ℕ})

-- the entry of a real item is that of its bytes behind the first
pub looked : (form : Form) (key : List ℕ) (q : ℕ) (bytes : List ℕ) → length bytes ≡ item_length form → is_real (item_held bytes).kind ≡ true
    → entries_from form key q (item_held bytes ∷ []) ≡ entry_in form key q (drop 1 bytes) ∷ []
looked form key q bytes whole real =
    ap (λ (item : Item). entries_from form key q (item ∷ [])) (real_item bytes real)
    ∙ ap (λ (e : Entry). e ∷ []) (entry_full form key q (replicate (264 - length (drop 1 bytes)) 0) (drop 1 bytes) (whole_of form bytes whole))

-- what is sent of a real item at a position that is kept
pub sent_real : (form : Form) (kept : ℕ → Bool) (q : ℕ) (bytes : List ℕ) → length bytes ≡ item_length form → kept q ≡ true → is_real (item_held bytes).kind ≡ true
    → concat (sent_from form kept q (item_held bytes ∷ [])) ≡ drop 33 bytes
sent_real form kept q bytes whole is real =
    let more = replicate (264 - length (drop 1 bytes)) 0 in
    ap (λ (item : Item). concat (sent_from form kept q (item ∷ []))) (real_item bytes real)
    ∙ ap (λ b. concat (cons_option (if b then Some (inner_in form (drop 1 bytes ++ more)) else None) [])) is
    ∙ append-nil (inner_in form (drop 1 bytes ++ more))
    ∙ inner_of form more (drop 1 bytes) (whole_of form bytes whole)
    ∙ drop-drop 32 1 bytes

-- lists of items, one after the other
cons-append : {A : Type 0} (first : Option A) (xs ys : List A) → cons_option first (xs ++ ys) ≡ cons_option first xs ++ ys
cons-append None xs ys = refl
cons-append (Some x) xs ys = refl

pub entries-append : (form : Form) (key : List ℕ) (q : ℕ) (xs ys : List Item)
    → entries_from form key q (xs ++ ys) ≡ entries_from form key q xs ++ entries_from form key (q + length xs) ys
entries-append form key q [] ys = let same : q ≡ q + 0 = omega arith in ap (λ n. entries_from form key n ys) same
entries-append form key q (x ∷ xs) ys =
    let first : Option Entry = if_real x.kind (entry_in form key q x.body) in
    let same : suc q + length xs ≡ q + suc (length xs) = omega arith in
    ap (cons_option first) (entries-append form key (suc q) xs ys)
    ∙ cons-append first (entries_from form key (suc q) xs) (entries_from form key (suc q + length xs) ys)
    ∙ ap (λ n. cons_option first (entries_from form key (suc q) xs) ++ entries_from form key n ys) same

pub sent-append : (form : Form) (kept : ℕ → Bool) (q : ℕ) (xs ys : List Item)
    → sent_from form kept q (xs ++ ys) ≡ sent_from form kept q xs ++ sent_from form kept (q + length xs) ys
sent-append form kept q [] ys = let same : q ≡ q + 0 = omega arith in ap (λ n. sent_from form kept n ys) same
sent-append form kept q (x ∷ xs) ys =
    let first : Option (List ℕ) = if kept q then if_real x.kind (inner_in form x.body) else None in
    let same : suc q + length xs ≡ q + suc (length xs) = omega arith in
    ap (cons_option first) (sent-append form kept (suc q) xs ys)
    ∙ cons-append first (sent_from form kept (suc q) xs) (sent_from form kept (suc q + length xs) ys)
    ∙ ap (λ n. cons_option first (sent_from form kept (suc q) xs) ++ sent_from form kept n ys) same

pub concat-append : (xs ys : List (List ℕ)) → concat (xs ++ ys) ≡ concat xs ++ concat ys
concat-append [] ys = refl
concat-append (x ∷ xs) ys = ap (λ rest. x ++ rest) (concat-append xs ys) ∙ sym (append_assoc x (concat xs) (concat ys))

-- what is sent of the first items and then of the others
pub sent-joined : (form : Form) (kept : ℕ → Bool) (q : ℕ) (xs ys : List Item)
    → concat (sent_from form kept q (xs ++ ys)) ≡ concat (sent_from form kept q xs) ++ concat (sent_from form kept (q + length xs) ys)
sent-joined form kept q xs ys = ap concat (sent-append form kept q xs ys) ∙ concat-append (sent_from form kept q xs) (sent_from form kept (q + length xs) ys)

-- at most an inner envelope is sent of each item
few_more : (b : Bool) (kind : Kind) (inner : List ℕ) (rest : List (List ℕ)) (n each : ℕ) → length inner ≤ each → length (concat rest) ≤ n * each
    → length (concat (cons_option (cond b (if_real kind inner) None) rest)) ≤ suc n * each
few_more true Real inner rest n each one many =
    let both = length-append inner (concat rest) in
    let more : suc n * each ≡ each + n * each = omega arith in omega (arith, both, one, many, more)
few_more true Dummy inner rest n each one many = let more : suc n * each ≡ each + n * each = omega arith in omega (arith, many, more)
few_more true Malformed inner rest n each one many = let more : suc n * each ≡ each + n * each = omega arith in omega (arith, many, more)
few_more false kind inner rest n each one many = let more : suc n * each ≡ each + n * each = omega arith in omega (arith, many, more)

pub sent_few : (form : Form) (kept : ℕ → Bool) (q : ℕ) (items : List Item) → length (concat (sent_from form kept q items)) ≤ length items * inner_length form
sent_few form kept q [] = omega arith
sent_few form kept q (x ∷ xs) =
    few_more (kept q) x.kind (inner_in form x.body) (sent_from form kept (suc q) xs) (length xs) (inner_length form) (omega (arith, length-take {A = ℕ})) (sent_few form kept (suc q) xs)

-- the items of a text, one more
pub items-more : (size place : ℕ) (text : List ℕ) → items_in size (place + 1) text ≡ items_in size place text ++ item_held (bytes_at size text place) ∷ []
items-more size place text = map-range_with_len_more (λ place. item_held (bytes_at size text place)) 0 place place (omega arith)

pub length-items : (size count : ℕ) (text : List ℕ) → length (items_in size count text) ≡ count
length-items size count text = length-map (below count) (λ place. item_held (bytes_at size text place)) ∙ length-range 0 count

pub looked-more : (form f : Form) (key : List ℕ) (q n place size s : ℕ) (text : List ℕ) (old mid new : List Entry) → f ≡ form → n ≡ q + place → s ≡ size
    → mid ≡ old ++ entries_from form key q (items_in size place text) → new ≡ mid ++ entries_from f key n (item_held (bytes_at s text place) ∷ [])
    → new ≡ old ++ entries_from form key q (items_in size (place + 1) text)
looked-more form f key q n place size s text old mid new same at each before now =
    let at' : n ≡ q + length (items_in size place text) = at ∙ ap (λ k. q + k) (sym (length-items size place text)) in
    now
    ∙ (λ i. before i ++ entries_from (same i) key (at' i) (item_held (bytes_at (each i) text place) ∷ []))
    ∙ append_assoc old (entries_from form key q (items_in size place text)) _
    ∙ ap (λ more. old ++ more) (sym (entries-append form key q (items_in size place text) (item_held (bytes_at size text place) ∷ [])))
    ∙ ap (λ items. old ++ entries_from form key q items) (sym (items-more size place text))

pub sent-more : (form f : Form) (kept : ℕ → Bool) (q place size s : ℕ) (text : List ℕ) (old mid new : List ℕ) → f ≡ form → s ≡ size
    → mid ≡ old ++ concat (sent_from form kept q (items_in size place text)) → new ≡ mid ++ concat (sent_from f kept (q + place) (item_held (bytes_at s text place) ∷ []))
    → new ≡ old ++ concat (sent_from form kept q (items_in size (place + 1) text))
sent-more form f kept q place size s text old mid new same each before now =
    let at : q + place ≡ q + length (items_in size place text) = ap (λ k. q + k) (sym (length-items size place text)) in
    now
    ∙ (λ i. before i ++ concat (sent_from (same i) kept (at i) (item_held (bytes_at (each i) text place) ∷ [])))
    ∙ append_assoc old (concat (sent_from form kept q (items_in size place text))) _
    ∙ ap (λ more. old ++ more) (sym (sent-joined form kept q (items_in size place text) (item_held (bytes_at size text place) ∷ [])))
    ∙ ap (λ items. old ++ concat (sent_from form kept q items)) (sym (items-more size place text))

-- room for one inner envelope more
pub room_more : (form : Form) (kept : ℕ → Bool) (q place count size : ℕ) (text old mid : List ℕ) (room : ℕ) → place < count
    → mid ≡ old ++ concat (sent_from form kept q (items_in size place text)) → length old + count * inner_length form ≤ room
    → length mid + inner_length form ≤ room
room_more form kept q place count size text old mid room inside is fits =
    let few = sent_few form kept q (items_in size place text) in
    let many : length (items_in size place text) * inner_length form ≡ place * inner_length form = ap (λ n. n * inner_length form) (length-items size place text) in
    let long = ap length is ∙ length-append old (concat (sent_from form kept q (items_in size place text))) in
    let next : (place + 1) * inner_length form ≤ count * inner_length form = mul-le-mul_right (inner_length form) (omega arith) in
    let one : (place + 1) * inner_length form ≡ place * inner_length form + inner_length form = omega arith in
    omega (arith, few, many, long, next, one, fits)
