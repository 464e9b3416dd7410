-- What a cabinet gave of the files that a command read, each for its role.
use Rattle.std.specs.Prelude.{◌≡◌, ℕ, ◌+◌, ◌≤◌, List, [], ◌∷◌, ◌++◌, length, Option, Some}
use Rattle.std.specs.List.{concat}
use Rattle.esa_outside.specs.Heard.{Event, length_of, part_of}
use Rattle.esa_page.specs.Piecewise.{pieces_heard}
use Rattle.esa_refusal.specs.declared.source.Source.{Source}
use Rattle.esa_refusal.specs.Source.{place_of}
use Rattle.esa_command.specs.Step.{Reads}

-- All bytes of the file; pieces of it, one behind another from its start on, and how many bytes are behind them; its length
-- and such pieces, and then a call that failed; nothing.
pub data Gave : Type 0 where
  whole : List ℕ → Gave
  front : List (List ℕ) → ℕ → Gave
  begun : ℕ → List (List ℕ) → Gave
  nothing : Gave

-- for this role and of the file of this name
pub record Given : Type 0 where
  pub source : Source
  pub name : List ℕ
  pub gave : Gave

-- what is heard of a file, call by call
abbrev pub heard_of : List ℕ → Gave → List Event
heard_of name (whole bytes) = length_of name (length bytes) ∷ part_of name 0 bytes ∷ []
heard_of name (front pieces behind) = length_of name (length (concat pieces) + behind) ∷ pieces_heard name 0 pieces
heard_of name (begun n pieces) = length_of name n ∷ pieces_heard name 0 pieces
heard_of name nothing = []

abbrev pub all_heard : List Given → List Event
all_heard [] = []
all_heard (given ∷ rest) = heard_of given.name given.gave ++ all_heard rest

-- what is read of a file is what the cabinet gave of it
abbrev pub Agrees : Option (List ℕ) → Gave → Type 0
Agrees held (whole bytes) = held ≡ Some bytes
Agrees held (front pieces behind) = (rest : List ℕ) × (held ≡ Some (concat pieces ++ rest)) × (length rest ≡ behind)
Agrees held (begun n pieces) = Unit {0}
Agrees held nothing = Unit {0}

-- the same of each file, by its role and its name
abbrev pub AllAgree : Reads → List Given → Type 0
AllAgree read [] = Unit {0}
AllAgree read (given ∷ rest) = Agrees (read given.source given.name) given.gave × AllAgree read rest

-- Each role is read once, in the order of the roles: none before the first of these places, none at the last or after it.
abbrev pub AreInOrder : ℕ → ℕ → List Given → Type 0
AreInOrder first last [] = first ≤ last
AreInOrder first last (given ∷ rest) = (first ≤ place_of given.source) × AreInOrder (place_of given.source + 1) last rest
