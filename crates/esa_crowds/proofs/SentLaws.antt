-- A second look at a list sends what is forwarded of it.
use Rattle.std.proofs.Common.{◌≡◌, ℕ, suc, ◌<◌, ◌≤◌, Bool, true, false, ◌&&◌, ◌||◌, cond, List, [], ◌∷◌, ◌++◌, map, refl, sym, ap, ◌∙◌, arith, append_assoc, Some, None}
use Rattle.std.specs.Prelude.{◌==◌, filter}
use Rattle.std.specs.List.{cons_option, list_any}
use Rattle.std.proofs.lemmas.Bool.Decides.{nat_tests}
use Rattle.std.proofs.lemmas.List.Folds.{list_any-append}
use Rattle.esa_hmac.specs.Hmac.{hmac}
use Rattle.esa_params.specs.declared.form.Form.{Form}
use Rattle.esa_report.specs.declared.item.Item.{Item}
use Rattle.esa_report.specs.declared.item.Kind.{Kind}
use Rattle.esa_report.specs.declared.item.Kind.TheVariants.{Dummy, Real, Malformed}
use Rattle.esa_crowds.specs.Entries.{Entry, entry_in, if_real, inner_in, entries_from, entries}
use Rattle.esa_crowds.specs.Kept.{is_kept, forwarded, sent_from}
use Rattle.esa_crowds.specs.Rows.{kept_at}
use Rattle.esa_crowds.proofs.OrderLaws.{AreRising, AreRising-entries}

-- at each position there is at most one entry, so the position is marked as its entry is kept
module _ (tag : List ℕ → List ℕ) (f : Entry → Bool) where
  abbrev pub at : ℕ → List Entry → Bool
  at position list = list_any (λ (e : Entry). e.position == position && f e) list

  not_at : (e : Entry) (position : ℕ) → (e.position == position) ≡ false → (list : List Entry) → at position list ≡ false → at position (e ∷ list) ≡ false
  not_at e position other list none = ap (λ b. (b && f e) || at position list) other ∙ none

  none_above : (low position : ℕ) (list : List Entry) → position < low → AreRising tag low list → at position list ≡ false
  none_above low position [] below up = refl
  none_above low position (e ∷ list) below up =
      let other : (e.position == position) ≡ false = let above : position < e.position = omega (arith, up.0) in grind (arith, nat_tests) in
      not_at e position other list (none_above (suc e.position) position list (omega (arith, up.0)) up.1.1)

  here : (e : Entry) (list : List Entry) → AreRising tag (suc e.position) list → at e.position (e ∷ list) ≡ f e
  here e list up =
      let same : (e.position == e.position) ≡ true = grind (arith, nat_tests) in
      ap (λ b. (b && f e) || at e.position list) same ∙ ap (λ b. f e || b) (none_above (suc e.position) e.position list (omega arith) up) ∙ or_false (f e)
    where
      or_false : (b : Bool) → b || false ≡ b
      or_false true = refl
      or_false false = refl

  abbrev pub AreUnder : ℕ → List Entry → Type 0
  AreUnder high [] = Unit {0}
  AreUnder high (e ∷ list) = (e.position < high) × AreUnder high list

  none_under : (position : ℕ) (list : List Entry) → AreUnder position list → at position list ≡ false
  none_under position [] under = refl
  none_under position (e ∷ list) under =
      let other : (e.position == position) ≡ false = let below : e.position < position = under.0 in grind (arith, nat_tests) in
      not_at e position other list (none_under position list under.1)

  AreUnder-more : (high higher : ℕ) (list : List Entry) → high ≤ higher → AreUnder high list → AreUnder higher list
  AreUnder-more high higher [] fits under = tt
  AreUnder-more high higher (e ∷ list) fits under = (omega (arith, under.0), AreUnder-more high higher list fits under.1)

  AreUnder-push : (high : ℕ) (list : List Entry) (e : Entry) → e.position < high → AreUnder high list → AreUnder high (list ++ e ∷ [])
  AreUnder-push high [] e below under = (below, tt)
  AreUnder-push high (x ∷ list) e below under = (under.0, AreUnder-push high list e below under.1)

  -- what stands at the position of an entry with others before and behind it
  found : (before list : List Entry) (e : Entry) → AreUnder e.position before → AreRising tag (suc e.position) list → at e.position (before ++ e ∷ list) ≡ f e
  found before list e under up =
      list_any-append (λ (x : Entry). x.position == e.position && f x) before (e ∷ list)
      ∙ (λ i. none_under e.position before under i || here e list up i)

module _ (form : Form) (key : List ℕ) (f : Entry → Bool) (all : List Entry) where
  abbrev inner_of : Entry → List ℕ
  inner_of e = e.inner

  by_test : (b : Bool) (e : Entry) (rest : List Entry) (sent : List (List ℕ)) → sent ≡ map inner_of (filter f rest)
      → cons_option (cond b (Some e.inner) None) sent ≡ map inner_of (cond b (e ∷ filter f rest) (filter f rest))
  by_test true e rest sent same = ap (λ list. e.inner ∷ list) same
  by_test false e rest sent same = same

  neither : (b : Bool) (sent : List (List ℕ)) → cons_option (cond b None None) sent ≡ sent
  neither true sent = refl
  neither false sent = refl

  pub sent_is : (position : ℕ) (items : List Item) (before : List Entry) → all ≡ before ++ entries_from form key position items → AreUnder (hmac key) f position before
      → sent_from form (λ q. at (hmac key) f q all) position items ≡ map inner_of (filter f (entries_from form key position items))
  sent_is position [] before split under = refl
  sent_is position (item ∷ items) before split under = by_kind item.kind split (λ front whole below. sent_is (suc position) items front whole below)
    where
      by_kind : (kind : Kind) → all ≡ before ++ cons_option (if_real kind (entry_in form key position item.body)) (entries_from form key (suc position) items)
          → ((front : List Entry) → all ≡ front ++ entries_from form key (suc position) items → AreUnder (hmac key) f (suc position) front
          → sent_from form (λ q. at (hmac key) f q all) (suc position) items ≡ map inner_of (filter f (entries_from form key (suc position) items)))
          → cons_option (cond (at (hmac key) f position all) (if_real kind (inner_in form item.body)) None) (sent_from form (λ q. at (hmac key) f q all) (suc position) items)
          ≡ map inner_of (filter f (cons_option (if_real kind (entry_in form key position item.body)) (entries_from form key (suc position) items)))
      by_kind Real whole later =
          let e = entry_in form key position item.body in
          let rest = entries_from form key (suc position) items in
          let kept : at (hmac key) f position all ≡ f e = ap (at (hmac key) f position) whole ∙ found (hmac key) f before rest e under (AreRising-entries form key (suc position) items) in
          let next = later (before ++ e ∷ []) (whole ∙ sym (append_assoc before (e ∷ []) rest)) (AreUnder-push (hmac key) f (suc position) before e (omega arith) (AreUnder-more (hmac key) f position (suc position) before (omega arith) under)) in
          ap (λ b. cons_option (cond b (Some e.inner) None) (sent_from form (λ q. at (hmac key) f q all) (suc position) items)) kept
          ∙ by_test (f e) e rest (sent_from form (λ q. at (hmac key) f q all) (suc position) items) next
      by_kind Dummy whole later = neither (at (hmac key) f position all) _ ∙ later before whole (AreUnder-more (hmac key) f position (suc position) before (omega arith) under)
      by_kind Malformed whole later = neither (at (hmac key) f position all) _ ∙ later before whole (AreUnder-more (hmac key) f position (suc position) before (omega arith) under)

-- a second look sends what is forwarded
pub sent-forwarded : (form : Form) (key : List ℕ) (dropped : List ℕ → ℕ) (t : ℕ) (items : List Item)
    → sent_from form (kept_at dropped t (entries form key items)) 0 items ≡ forwarded dropped t (entries form key items)
sent-forwarded form key dropped t items = sent_is form key (is_kept dropped t (entries form key items)) (entries form key items) 0 items [] refl tt
