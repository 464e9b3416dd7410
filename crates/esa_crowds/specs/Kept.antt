-- Which entries of a list are kept, by ranks and counts.
use Rattle.std.specs.Prelude.{ℕ, suc, [], ◌∷◌, if◌then◌else◌, None, ◌+◌, nat_le, Bool, ◌&&◌, List, map, filter, count_by, slice_index, bytes_eq}
use Rattle.std.specs.List.{cons_option}
use Rattle.std.specs.declared.cmp.Ordering.{Ordering}
use Rattle.std.specs.Ordering.{nat_cmp, is_lt, ordering_then}
use Rattle.std.specs.Cmp.Lexicographic.{slice_cmp}
use Rattle.esa_hmac.specs.Hmac.{hmac}
use Rattle.esa_params.specs.declared.form.Form.{Form}
use Rattle.esa_report.specs.declared.item.Item.{Item}
use Rattle.esa_crowds.specs.Entries.{Entry, entries, if_real, inner_in}

-- bytes are compared one by one
abbrev pub by_bytes : List ℕ → List ℕ → Ordering
by_bytes = slice_cmp nat_cmp

-- the order inside a crowd: by tag, then by inner envelope, then by position
abbrev pub by_key : Entry → Entry → Ordering
by_key one other =
    ordering_then (by_bytes one.tag other.tag) (ordering_then (by_bytes one.inner other.inner) (nat_cmp one.position other.position))

-- an entry is of the other's crowd, and comes before it there
abbrev pub precedes : Entry → Entry → Bool
precedes one other = bytes_eq one.crowd other.crowd && is_lt (by_key one other)

-- how many entries of its crowd come before it
abbrev pub rank : List Entry → Entry → ℕ
rank list entry = count_by (λ other. precedes other entry) list

-- how many entries a crowd has
abbrev pub members : List Entry → List ℕ → ℕ
members list crowd = count_by (λ (entry : Entry). bytes_eq entry.crowd crowd) list

-- the first entries of a crowd are dropped, as many as are said of it. The others are kept where at least t are left
abbrev pub is_kept : (List ℕ → ℕ) → ℕ → List Entry → Entry → Bool
is_kept dropped t list entry =
    nat_le (dropped entry.crowd) (rank list entry) && nat_le (dropped entry.crowd + t) (members list entry.crowd)

-- the inner envelopes of the kept entries, in order
abbrev pub forwarded : (List ℕ → ℕ) → ℕ → List Entry → List (List ℕ)
forwarded dropped t list = map (λ (entry : Entry). entry.inner) (filter (is_kept dropped t list) list)

-- how many of a crowd are dropped: what the table says for the first byte of the crowd's code under the key
abbrev pub drops_in : List ℕ → List ℕ → List ℕ → ℕ
drops_in key drops crowd = slice_index drops (slice_index (hmac key crowd) 0)

-- what is forwarded of a list of items
abbrev pub forward : Form → List ℕ → List ℕ → ℕ → List Item → List (List ℕ)
forward form key drops t items = forwarded (drops_in key drops) t (entries form key items)

-- what a second look at a list sends: the inner envelopes of the real items at some positions, in order
abbrev pub sent_from : Form → (ℕ → Bool) → ℕ → List Item → List (List ℕ)
sent_from form kept position [] = []
sent_from form kept position (item ∷ items) =
    cons_option (if kept position then if_real item.kind (inner_in form item.body) else None) (sent_from form kept (suc position) items)
