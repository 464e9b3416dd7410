-- What the rows of a database mean: share records give back a value together.
use Rattle.std.specs.Prelude.{Bool, ◌&&◌, ℕ, ◌-◌, nat_lt, bytes_eq, if◌then◌else◌, List, [], ◌∷◌, length, take, drop, map, flat_map, slice_index, Option, Some, None}
use Rattle.std.specs.List.{filter}
use Rattle.std.specs.Ordering.{is_lt, nat_cmp}
use Rattle.std.specs.Cmp.Lexicographic.{slice_cmp}
use Rattle.std.specs.FinMap as finite
use Rattle.esa_shares.specs.Polynomial.{recovered}
use Rattle.esa_shares.specs.Share.{is_share, mark_of}

-- the point of a share record, and its share
abbrev pub point_in : List ℕ → ℕ
point_in value = slice_index value 2

abbrev pub share_in : List ℕ → List ℕ
share_in value = drop 19 value

-- the group of a share record: how many shares it takes, the record's length, and the mark
abbrev pub group_of : List ℕ → List ℕ
group_of value = slice_index value 1 ∷ length value ∷ take 16 (drop 3 value)

-- how many shares it takes to open a group
abbrev pub needed : List ℕ → ℕ
needed group = slice_index group 0

abbrev pub belongs : List ℕ → List ℕ → Bool
belongs group value = is_share value && bytes_eq (group_of value) group

-- the share records of a group
abbrev pub members : List ℕ → List (List ℕ × ℕ) → List (List ℕ)
members group rows = filter (belongs group) (map (λ row. row.0) rows)

-- shares by their points
abbrev pub Shares : Type 0
Shares = finite.FinMap nat_cmp (List ℕ)

-- a share, or the one that there is already, if that is less
abbrev pub lesser : Option (List ℕ) → List ℕ → List ℕ
lesser None share = share
lesser (Some other) share = if is_lt (slice_cmp nat_cmp other share) then other else share

abbrev pub with_share : Shares → ℕ → List ℕ → Shares
with_share shares point share = finite.insert shares point (lesser (finite.get shares point) share)

-- of each point of share records the least share
abbrev pub least_shares : List (List ℕ) → Shares
least_shares [] = finite.empty
least_shares (value ∷ values) = with_share (least_shares values) (point_in value) (share_in value)

-- a value, where the mark is its own
abbrev pub marked : List ℕ → List ℕ → Option (List ℕ)
marked mark value = if bytes_eq (mark_of value) mark then Some value else None

-- what shares at points give back, where they are enough and the group's mark is the value's
abbrev pub opening : List ℕ → List (ℕ × List ℕ) → Option (List ℕ)
opening group shares =
    if nat_lt (length shares) (needed group) then None
    else marked (drop 2 group) (recovered (slice_index group 1 - 19) (map (λ share. share.0) shares) (flat_map (λ share. share.1) shares))

-- what a group is opened to: by the least shares of its least points, as many as it takes
abbrev pub opened : List ℕ → List (List ℕ × ℕ) → Option (List ℕ)
opened group rows = opening group (take (needed group) (finite.entries (least_shares (members group rows))))

-- a share record means what its group is opened to, and any other value itself
abbrev pub meaning : List (List ℕ × ℕ) → List ℕ → Option (List ℕ)
meaning rows value = if is_share value then opened (group_of value) rows else Some value
