-- The share records of a database, each with its group.
use Rattle.std.specs.Prelude.{◌≡◌, ◌<◌, Bool, true, ℕ, bytes_eq, List, [], map, length, slice_index_or}
use Rattle.std.specs.List.{filter}
use Rattle.esa_shares.specs.Share.{is_share}
use Rattle.esa_recovery.specs.declared.members.Member.{Member}
use Rattle.esa_recovery.specs.Meaning.{group_of, members}

-- the value of a row
abbrev pub value_at : List (List ℕ × ℕ) → ℕ → List ℕ
value_at rows row = (slice_index_or rows row ([], 0)).0

-- the row's value is a share record of the group
pub record IsMember (rows : List (List ℕ × ℕ)) (member : Member) : Type 0 where
  pub inside : member.row < length rows
  pub share : is_share (value_at rows member.row) ≡ true
  pub group : member.group ≡ group_of (value_at rows member.row)

-- the share records themselves
abbrev pub values_at : List (List ℕ × ℕ) → List Member → List (List ℕ)
values_at rows found = map (λ member. value_at rows member.row) found

abbrev pub is_of : List ℕ → Member → Bool
is_of group member = bytes_eq member.group group

-- the share records of each group, in the order of the rows
abbrev pub AreMembers : List (List ℕ × ℕ) → List Member → Type 0
AreMembers rows found = (group : List ℕ) → values_at rows (filter (is_of group) found) ≡ members group rows
