-- What is kept of the groups of a database.
use Rattle.std.specs.Prelude.{◌≡◌, ◌<◌, true, ℕ, List, map, length, slice_index, Option, Some}
use Rattle.std.specs.List.{slice_get}
use Rattle.std.specs.Option.{option_map}
use Rattle.esa_shares.specs.Share.{is_share}
use Rattle.esa_recovery.specs.declared.groups.Groups.{Groups}
use Rattle.esa_recovery.specs.Meaning.{group_of, opened}
use Rattle.esa_recovery.specs.Members.{value_at}

-- what each group gave back
abbrev pub given : Groups → List (Option (List ℕ))
given groups = map (option_map (λ value. value.items)) groups.values.items

-- the number at a share record's row is that of its group, with what the rows open it to
abbrev pub OpensAt : List (List ℕ × ℕ) → List (Option (List ℕ)) → List ℕ → ℕ → Type 0
OpensAt rows values numbers row = slice_get values (slice_index numbers row) ≡ Some (opened (group_of (value_at rows row)) rows)

pub record Opens (rows : List (List ℕ × ℕ)) (groups : Groups) : Type 0 where
  pub numbered : length groups.numbers.items ≡ length rows
  pub opens : (row : ℕ) → row < length rows → is_share (value_at rows row) ≡ true → OpensAt rows (given groups) groups.numbers.items row
