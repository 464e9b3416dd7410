-- What is forwarded of an output is whole envelopes, no more than it has records.
use Rattle.std.proofs.Common.{◌≡◌, ℕ, suc, ◌+◌, ◌-◌, ◌*◌, ◌≤◌, cond, Bool, true, false, List, [], ◌∷◌, ◌++◌, length, drop, map, replicate, None, refl, sym, subst, arith}
use Rattle.std.specs.List.{concat, cons_option}
use Rattle.std.proofs.lemmas.List.{length-append, length-take, length-drop, length-replicate}
use Rattle.std.proofs.lemmas.List.Elements.{All-nil, All-cons}
use Rattle.esa_envelope.specs.declared.keys.Keys.{Keys}
use Rattle.esa_header.specs.Pieces.{HaveLength}
use Rattle.esa_header.proofs.PieceLaws.{length-concat}
use Rattle.esa_params.specs.declared.form.Form.{Form}
use Rattle.esa_params.specs.declared.form.Form.TheVariants.{One, Two}
use Rattle.esa_params.specs.Form.{inner_length}
use Rattle.esa_params.specs.Sizes.{Sizes, below, size}
use Rattle.esa_report.specs.declared.item.Item.{Item}
use Rattle.esa_report.specs.declared.item.Kind.{Kind}
use Rattle.esa_report.specs.declared.item.Kind.TheVariants.{Dummy, Real, Malformed}
use Rattle.esa_report.specs.Item.{full_body}
use Rattle.esa_crowds.specs.Entries.{if_real, inner_in}
use Rattle.esa_crowds.specs.Kept.{sent_from}
use Rattle.esa_scans.specs.Held.{is_real, item_held}
use Rattle.esa_scans.specs.Scans.{items_of, items_from}
use Rattle.esa_scans.proofs.HeldLaws.{real_item}
use Rattle.esa_scans.proofs.ScanLaws.{count-first}
use Rattle.esa_vault.specs.Filled.{bytes_at}

-- the body of a real item is full
abbrev IsFull : Item → Type 0
IsFull item = is_real item.kind ≡ true → 264 ≤ length item.body

abbrev AreFull : List Item → Type 0
AreFull [] = Unit {0}
AreFull (item ∷ items) = IsFull item × AreFull items

full_append : (xs ys : List Item) → AreFull xs → AreFull ys → AreFull (xs ++ ys)
full_append [] ys one two = two
full_append (x ∷ xs) ys one two = (one.0, full_append xs ys one.1 two)

full_long : (bytes : List ℕ) → 264 ≤ length (full_body bytes)
full_long bytes = omega (arith, length-append bytes (replicate (264 - length bytes) 0), length-replicate {A = ℕ} (264 - length bytes) 0)

held_full : (bytes : List ℕ) → IsFull (item_held bytes)
held_full bytes real = subst (λ (item : Item). 264 ≤ length item.body) (sym (real_item bytes real)) (full_long (drop 1 bytes))

map_full : (size : ℕ) (text : List ℕ) (places : List ℕ) → AreFull (map (λ place. item_held (bytes_at size text place)) places)
map_full size text [] = tt
map_full size text (place ∷ places) = (held_full (bytes_at size text place), map_full size text places)

given_full : (p : Sizes) (keys : Keys) (attempt j : ℕ) (given : List (List ℕ)) → AreFull (items_from p keys attempt j given)
given_full p keys attempt j [] = tt
given_full p keys attempt j (bytes ∷ given) =
    full_append (items_of p keys attempt j bytes) (items_from p keys attempt (suc j) given) (map_full _ _ (below (size p j))) (given_full p keys attempt (suc j) given)

inner_fits : (form : Form) → 32 + inner_length form ≤ 264
inner_fits One = omega arith
inner_fits Two = omega arith

inner_whole : (form : Form) (body : List ℕ) → 264 ≤ length body → length (inner_in form body) ≡ inner_length form
inner_whole form body long = omega (arith, inner_fits form, long, length-take (inner_length form) (drop 32 body), length-drop 32 body)

whole_more : (form : Form) (kept : Bool) (item : Item) (rest : List (List ℕ)) → IsFull item → HaveLength (inner_length form) rest
    → HaveLength (inner_length form) (cons_option (cond kept (if_real item.kind (inner_in form item.body)) None) rest)
whole_more form false item rest full whole = whole
whole_more form true item rest full whole =
    elim item.kind as (λ kind. (is_real kind ≡ true → 264 ≤ length item.body) → HaveLength (inner_length form) (cons_option (if_real kind (inner_in form item.body)) rest)) [
      | Real ↦ λ long. All-cons (λ bytes. length bytes ≡ inner_length form) (inner_in form item.body) rest (inner_whole form item.body (long refl)) whole
      | Dummy ↦ λ long. whole
      | Malformed ↦ λ long. whole
    ] full

sent_whole : (form : Form) (kept : ℕ → Bool) (q : ℕ) (items : List Item) → AreFull items → HaveLength (inner_length form) (sent_from form kept q items)
sent_whole form kept q [] full = All-nil (λ bytes. length bytes ≡ inner_length form)
sent_whole form kept q (item ∷ items) full = whole_more form (kept q) item (sent_from form kept (suc q) items) full.0 (sent_whole form kept (suc q) items full.1)

few_more : {A : Type 0} (kept : Bool) (kind : Kind) (a : A) (rest : List A) (n : ℕ) → length rest ≤ n → length (cons_option (cond kept (if_real kind a) None) rest) ≤ suc n
few_more false kind a rest n few = omega (arith, few)
few_more true Real a rest n few = omega (arith, few)
few_more true Dummy a rest n few = omega (arith, few)
few_more true Malformed a rest n few = omega (arith, few)

sent_few : (form : Form) (kept : ℕ → Bool) (q : ℕ) (items : List Item) → length (sent_from form kept q items) ≤ length items
sent_few form kept q [] = omega arith
sent_few form kept q (item ∷ items) = few_more (kept q) item.kind (inner_in form item.body) (sent_from form kept (suc q) items) (length items) (sent_few form kept (suc q) items)

module _ (p : Sizes) (keys : Keys) (attempt : ℕ) (kept : ℕ → Bool) (given : List (List ℕ)) where
  -- each envelope is whole
  pub forwarded_whole : HaveLength (inner_length p.form) (sent_from p.form kept 0 (items_from p keys attempt 0 given))
  forwarded_whole = sent_whole p.form kept 0 (items_from p keys attempt 0 given) (given_full p keys attempt 0 given)

  -- they aren't more than the records of the plan
  pub forwarded_few : length (sent_from p.form kept 0 (items_from p keys attempt 0 given)) ≤ p.n
  forwarded_few = omega (arith, sent_few p.form kept 0 (items_from p keys attempt 0 given), count-first p keys attempt given)

  -- so many bytes of them
  pub forwarded_length : length (concat (sent_from p.form kept 0 (items_from p keys attempt 0 given))) ≡ inner_length p.form * length (sent_from p.form kept 0 (items_from p keys attempt 0 given))
  forwarded_length = length-concat (inner_length p.form) (sent_from p.form kept 0 (items_from p keys attempt 0 given)) forwarded_whole

-- so many bytes are so many envelopes
pub same_number : (form : Form) (x y : ℕ) → inner_length form * x ≡ inner_length form * y → x ≡ y
same_number One x y same = omega (arith, same)
same_number Two x y same = omega (arith, same)
