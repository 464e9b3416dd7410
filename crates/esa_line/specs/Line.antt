-- Lines of fields with tabs between them: a moment, a sender, and what follows.
use Rattle.std.specs.Prelude.{◌≡◌, ℕ, ◌+◌, ◌-◌, ◌≤◌, List, [], ◌∷◌, ◌++◌, length, take, drop, slice_range, count_by, Option}
use Rattle.std.specs.List.{before_first, after_first}
use Rattle.std.specs.Result.{result_err}
use Rattle.esa_line.specs.declared.refused.LineCause.{LineCause}
use Rattle.esa_line.specs.Front.{is_tab, front_in}
use Rattle.esa_line.specs.declared.head.Head.{Head}

-- how many tabs a line has
abbrev pub tabs : List ℕ → ℕ
tabs line = count_by is_tab line

-- the fields: up to the first tab, up to the second, and all behind the second
abbrev pub moment_of : List ℕ → List ℕ
moment_of line = before_first is_tab line

abbrev pub sender_of : List ℕ → List ℕ
sender_of line = before_first is_tab (after_first is_tab line)

abbrev pub rest_of : List ℕ → List ℕ
rest_of line = after_first is_tab (after_first is_tab line)

-- the moment and the sender, each with a tab behind it
abbrev pub head_of : List ℕ → List ℕ
head_of line = moment_of line ++ 9 ∷ (sender_of line ++ 9 ∷ [])

-- what is wrong with a line's head: the moment, or else the sender
abbrev pub head_cause : List ℕ → Option LineCause
head_cause line = result_err (front_in (moment_of line) (sender_of line))

-- where a line's head stands
pub record IsHead (line : List ℕ) (head : Head) : Type 0 where
  pub moment : take head.moment line ≡ moment_of line
  pub sender : slice_range line (head.moment + 1) (head.length - 1) ≡ sender_of line
  pub whole : take head.length line ≡ head_of line
  pub rest : drop head.length line ≡ rest_of line
  pub inside : (head.moment + 2 ≤ head.length) × (head.length ≤ length line)
