-- The items of a block, in its text.
use Rattle.std.specs.Prelude.{ℕ, ◌+◌, ◌*◌, ◌/◌, nat_le, nat_lt, Bool, false, Option, Some, None, List, map, length, slice_range}
use Rattle.std.specs.List.{concat, list_all}
use Rattle.esa_params.specs.Sizes.{below}
use Rattle.esa_report.specs.declared.item.Item.{Item}
use Rattle.esa_report.specs.declared.item.Kind.{Kind}
use Rattle.esa_report.specs.declared.item.Kind.TheVariants.{Dummy, Real, Malformed}
use Rattle.esa_report.specs.Item.{item_bytes, kind_held}

-- the text of items: the bytes of each, so many of them, one item after another
abbrev pub text_of : ℕ → List Item → List ℕ
text_of size items = concat (map (item_bytes size) items)

-- the bytes of the item at a place
abbrev pub bytes_at : ℕ → List ℕ → ℕ → List ℕ
bytes_at size text place = slice_range text (place * size) (place * size + size)

-- what may stand at a place of a block, where dummies stand from the count on and no dummy before
abbrev pub suits : ℕ → ℕ → Option Kind → Bool
suits count place None = false
suits count place (Some Dummy) = nat_le count place
suits count place (Some Real) = nat_lt place count
suits count place (Some Malformed) = nat_lt place count

-- each item of the text is well formed, the first ones up to the count are no dummies, and the rest are
abbrev pub is_filled : ℕ → ℕ → List ℕ → Bool
is_filled size count text =
    list_all (λ place. suits count place (kind_held (bytes_at size text place))) (below (length text / size))
