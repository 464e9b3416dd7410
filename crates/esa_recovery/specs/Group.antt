-- What is kept of a group: the first record of each point, as they come.
use Rattle.std.specs.Prelude.{◌≡◌, ◌<◌, ◌≤◌, ◌*◌, ◌-◌, ◌==◌, ◌||◌, ◌++◌, Bool, ℕ, nat_eq, cond, List, [], ◌∷◌, length, take, map, flat_map, slice_index, Option, All}
use Rattle.std.specs.List.{IsDistinct, list_any}
use Rattle.esa_recovery.specs.declared.group.Group.{Group}
use Rattle.esa_recovery.specs.Meaning.{point_in, share_in, needed, opening}

abbrev pub is_seen : List ℕ → List ℕ → Bool
is_seen points value = list_any (λ point. nat_eq point (point_in value)) points

-- of each point that was not seen yet, the first record
abbrev pub firsts : List ℕ → List (List ℕ) → List (List ℕ)
firsts points [] = []
firsts points (value ∷ values) =
    cond (is_seen points value) (firsts points values) (value ∷ firsts (points ++ point_in value ∷ []) values)

-- the point and the share of a record
abbrev pub point_and_share : List ℕ → ℕ × List ℕ
point_and_share value = (point_in value, share_in value)

-- what records of a group give back
abbrev pub opening_of : List ℕ → List (List ℕ) → Option (List ℕ)
opening_of group values = opening group (map point_and_share values)

-- what the records of a group give back by the first of each point, as many as it takes
abbrev pub given_back : List ℕ → List (List ℕ) → Option (List ℕ)
given_back group values = opening_of group (take (needed group) (firsts [] values))

-- the points and the shares of records of a group that were taken: no more than it takes
pub record HasTaken (group : List ℕ) (taken : List (List ℕ)) (points shares : List ℕ) : Type 0 where
  pub points_are : points ≡ map point_in taken
  pub shares_are : shares ≡ flat_map share_in taken
  pub few : length taken ≤ needed group
  pub distinct : IsDistinct nat_eq points
  pub nonzero : All (λ x. 0 < x) points
  pub whole : length shares ≡ length points * (slice_index group 1 - 19)

-- a record is taken where its point is new and a share is wanted
abbrev pub taken_with : List ℕ → List (List ℕ) → List ℕ → List (List ℕ)
taken_with group taken value =
    cond (length taken == needed group || is_seen (map point_in taken) value) taken (taken ++ value ∷ [])

abbrev pub GroupHas : List ℕ → List (List ℕ) → Group → Type 0
GroupHas group taken kept = HasTaken group taken kept.points.items kept.shares.items
