-- What a judgement adds to the differences that were found before.
use Rattle.std.specs.Prelude.{◌≡◌, ◌≤◌, ℕ, List}
use Rattle.std.specs.FinMap as map
use Rattle.esa_lists.specs.Files.{Files}

-- of so many differences before and after: one was added exactly where this doesn't hold, and none was taken away
pub record Judged (before after : ℕ) (Holds : Type 0) : Type 0 where
  pub kept : before ≤ after
  pub shown : after ≡ before → Holds
  pub true : Holds → after ≡ before

-- the files are the same, by each name
abbrev pub AreSame : Files → Files → Type 0
AreSame has wanted = (name : List ℕ) → map.get has name ≡ map.get wanted name
