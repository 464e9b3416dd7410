-- What calls do to the contents that a cabinet or a printer tells.
use Rattle.std.specs.Prelude.{◌≡◌, ℕ, ◌+◌, ◌<◌, ◌≤◌, List, [], ◌∷◌, ◌++◌, length, take, drop, Option, Some, None}
use Rattle.std.specs.FinMap as map
use Rattle.esa_lists.specs.Files.{Files}

-- a file is not there, or ends before this place
abbrev pub EndsBefore : Option (List ℕ) → ℕ → Type 0
EndsBefore None end = Unit {0}
EndsBefore (Some held) end = length held < end

-- the cabinet tells, and by what it tells the file is not there or ends before this place
abbrev pub Lacks : Option Files → List ℕ → ℕ → Type 0
Lacks None name end = ⊥
Lacks (Some files) name end = EndsBefore (map.get files name) end

-- the file is there, and has these bytes from this place on
abbrev pub IsPart : Option (List ℕ) → ℕ → List ℕ → Type 0
IsPart None at part = ⊥
IsPart (Some held) at part = (at + length part ≤ length held) × (part ≡ take (length part) (drop at held))

-- the told files are those from before, with a front of these bytes under the name
abbrev pub HoldsFront : Files → List ℕ → List ℕ → Option Files → Type 0
HoldsFront files name whole now = (n : ℕ) × (n ≤ length whole) × (now ≡ Some (map.insert files name (take n whole)))

-- the told bytes are those from before and a front of these
abbrev pub AddsFront : List ℕ → List ℕ → Option (List ℕ) → Type 0
AddsFront before whole now = (n : ℕ) × (n ≤ length whole) × (now ≡ Some (before ++ take n whole))

-- a text as it is printed, with its newline
abbrev pub line_of : List ℕ → List ℕ
line_of text = text ++ 10 ∷ []
