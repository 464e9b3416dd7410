-- An item that bytes hold is one that they spell.
use Rattle.std.proofs.Common.{◌≡◌, ℕ, ◌+◌, ◌-◌, ◌*◌, ◌≤◌, List, length, take, drop, Option, Some, None, sym, ap, ◌∙◌, arith, length-append, length-drop, subst, inl, inr}
use Rattle.std.specs.Prelude.{replicate, slice_index, if◌then◌else◌}
use Rattle.std.proofs.lemmas.Bool.{cases_Bool}
use Rattle.std.proofs.lemmas.List.{length-replicate, length-take-le}
use Rattle.esa_report.specs.declared.item.Item.{Item}
use Rattle.esa_report.specs.declared.item.Kind.{Kind}
use Rattle.esa_report.specs.Item.{IsItemLength, full_body, is_body_of, item_in, item_of, kind_in}
use Rattle.esa_vault.specs.Filled.{bytes_at}
use Rattle.esa_vault.specs.Placed.{IsSpelled}
use Rattle.esa_vault.proofs.ItemLemmas.{is_zero-full}

length-full_body : (body : List ℕ) → length body ≤ 264 → length (full_body body) ≡ 264
length-full_body body small =
    omega (arith, length-append body (replicate (264 - length body) 0), length-replicate {A = ℕ} (264 - length body) 0)

-- the item of a kind and a body, filled up
abbrev of_kind : Kind → List ℕ → Item
of_kind kind body = record { kind = kind; body = full_body body }

same_item : (found item : Item) → Some found ≡ Some item → found ≡ item
same_item found item is = cc

of-spelled : (size : ℕ) (kind : Option Kind) (body : List ℕ) (item : Item) → length body ≡ size - 1 → size ≤ 265
    → item_of kind (full_body body) ≡ Some item → IsSpelled size item
of-spelled size None body item n small is = cc is
of-spelled size (Some kind) body item n small is =
    elim (cases_Bool (is_body_of kind (full_body body))) [
      | inl good ↦
          subst (IsSpelled size) (same_item (of_kind kind body) item (sym (ap (λ fits. if fits then Some (of_kind kind body) else None) good) ∙ is))
          (record { body = length-full_body body (omega arith); well_formed = good; zero = is_zero-full body (size - 1) n })
      | inr bad ↦ cc (sym (ap (λ fits. if fits then Some (of_kind kind body) else None) bad) ∙ is)
    ]

in-spelled : (size : ℕ) (bytes : List ℕ) (item : Item) → IsItemLength size → length bytes ≡ size → item_in bytes ≡ Some item → IsSpelled size item
unfolding item_in
in-spelled size bytes item either n is =
    of-spelled size (kind_in (slice_index bytes 0)) (drop 1 bytes) item (omega (arith, length-drop 1 bytes)) (omega arith) is

length-bytes_at : (size place : ℕ) (text : List ℕ) → place * size + size ≤ length text → length (bytes_at size text place) ≡ size
length-bytes_at size place text inside =
    let n : place * size + size - place * size ≡ size = omega arith in
    ap (λ m. length (take m (drop (place * size) text))) n
    ∙ length-take-le size (drop (place * size) text) (omega (arith, length-drop (place * size) text))

pub held-spelled : (size place : ℕ) (text : List ℕ) (item : Item) → IsItemLength size → place * size + size ≤ length text
    → item_in (bytes_at size text place) ≡ Some item → IsSpelled size item
held-spelled size place text item either inside is =
    in-spelled size (bytes_at size text place) item either (length-bytes_at size place text inside) is
