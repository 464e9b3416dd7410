-- A file that is being written, page by page, in a cabinet that told these files before, or told nothing.
use Rattle.std.specs.Prelude.{◌≡◌, ◌⊎◌, ℕ, List, ◌++◌, Option, Some, None}
use Rattle.std.specs.FinMap as map
use Rattle.esa_lists.specs.Files.{Files}
use Rattle.esa_outside.specs.Told.{HoldsFront}

-- what the file holds and what still waits make up the text, and the other files are as before
abbrev pub IsUnderway : Option Files → List ℕ → List ℕ → List ℕ → Option Files → Type 0
IsUnderway None name text waiting now = now ≡ None
IsUnderway (Some files) name text waiting now = (held : List ℕ) × (now ≡ Some (map.insert files name held)) × (held ++ waiting ≡ text)

-- the file holds the text, and the other files are as before
abbrev pub IsWhole : Option Files → List ℕ → List ℕ → Option Files → Type 0
IsWhole None name text now = now ≡ None
IsWhole (Some files) name text now = now ≡ Some (map.insert files name text)

-- the file is as before or holds a front of the text, and the other files are as before
abbrev pub IsLeft : Option Files → List ℕ → List ℕ → Option Files → Type 0
IsLeft None name text now = now ≡ None
IsLeft (Some files) name text now = (now ≡ Some files) ⊎ HoldsFront files name text now
