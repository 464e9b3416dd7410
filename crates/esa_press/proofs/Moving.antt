-- Items that are moved into a window.
use Rattle.std.proofs.Common.{◌≡◌, ℕ, ◌+◌, List, [], ◌∷◌, ◌++◌, length, All, Option, Some, None, refl, sym, ap, ◌∙◌, subst, length-append}
use Rattle.std.specs.List.{cons_option}
use Rattle.std.specs.List.Sorted.{IsPermutation}
use Rattle.std.specs.Prelude.{slice_get}
use Rattle.std.proofs.lemmas.Option.{cond_some, get_or_from_slice_get, option_and_then_some, slice_get_within}
use Rattle.std.proofs.lemmas.List.Elements.{All-append, All-cons, All-get_or, All-nil}
use Rattle.esa_compress.specs.Held.{held_count, held_in, is_held, kept, kept_at}
use Rattle.esa_compress.proofs.HeldLaws.{length_held}
use Rattle.esa_params.specs.Sizes.{below}
use Rattle.esa_report.specs.declared.item.Item.{Item}

module _ (P : Item → Type 0) where
  of_one : (item : Item) (items : List Item) → All P items → (k : ℕ) → kept_at items k ≡ Some item → P item
  of_one item items all k is =
      option_and_then_some kept (slice_get items k) item is
      (λ x found kept_is.
      let same = (cond_some (is_held x) x item kept_is).1 in
      subst P (get_or_from_slice_get items k x x found ∙ same) (All-get_or P items k x (slice_get_within items k x found) all))

  with_one : (o : Option Item) (items : List Item) → ((item : Item) → o ≡ Some item → P item) → All P items → All P (cons_option o items)
  with_one None items one all = all
  with_one (Some item) items one all = All-cons P item items (one item refl) all

  -- what is moved is of the items that come
  pub held_all : (items : List Item) (order : List ℕ) → All P items → All P (held_in items order)
  held_all items [] all = All-nil P
  held_all items (k ∷ order) all = with_one (kept_at items k) (held_in items order) (λ item is. of_one item items all k is) (held_all items order all)

  pub moved_all : (queue items : List Item) (order : List ℕ) (new : List Item) → new ≡ queue ++ held_in items order → All P queue → All P items → All P new
  moved_all queue items order new is waits comes =
      subst (All P) (sym is) (All-append P queue (held_in items order) waits (held_all items order comes))

pub moved_length : (queue items : List Item) (order : List ℕ) (new : List Item) → IsPermutation (below (length items)) order → new ≡ queue ++ held_in items order
    → length new ≡ length queue + held_count items
moved_length queue items order new each_once is =
    ap length is ∙ length-append queue (held_in items order) ∙ ap (λ (n : ℕ). length queue + n) (length_held items order each_once)
