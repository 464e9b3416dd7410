-- A file that is being written, page by page, by what the cabinet was heard to take since then.
use Rattle.std.specs.Prelude.{◌≡◌, ◌⊎◌, ℕ, List, ◌∷◌, ◌++◌, map}
use Rattle.std.specs.List.{concat}
use Rattle.esa_outside.specs.Heard.{Event, started, added}

-- the file was started, and these pieces were added at its end
abbrev pub written : List ℕ → List (List ℕ) → List Event
written name pieces = started name ∷ map (added name) pieces

-- what was added and what still waits make up the text
abbrev pub IsWriting : List Event → List ℕ → List ℕ → List ℕ → List Event → Type 0
IsWriting before name text waiting now = (pieces : List (List ℕ)) × (now ≡ before ++ written name pieces) × (concat pieces ++ waiting ≡ text)

-- the text was added whole
abbrev pub HasWritten : List Event → List ℕ → List ℕ → List Event → Type 0
HasWritten before name text now = (pieces : List (List ℕ)) × (now ≡ before ++ written name pieces) × (concat pieces ≡ text)

-- a call failed: nothing was taken, or the file was started and a front of the text was added
abbrev pub HasBroken : List Event → List ℕ → List ℕ → List Event → Type 0
HasBroken before name text now =
    (now ≡ before) ⊎ ((pieces : List (List ℕ)) × (rest : List ℕ) × (now ≡ before ++ written name pieces) × (concat pieces ++ rest ≡ text))
