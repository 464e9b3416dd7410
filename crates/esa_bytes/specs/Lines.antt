-- The lines of a text.
use Rattle.std.specs.Prelude.{◌≡◌, ◌≢◌, ℕ, ◌==◌, Bool, if◌then◌else◌, ◌⊎◌, List, [], ◌∷◌, ◌++◌, All}
use Rattle.std.specs.List.{onto_first}

abbrev pub is_newline : ℕ → Bool
is_newline byte = byte == 10

-- a newline byte ends a line, and any other byte belongs to the line that goes on: so a last line
-- without a newline is a line as well, and an empty text has none
abbrev pub text_lines : List ℕ → List (List ℕ)
text_lines [] = []
text_lines (byte ∷ rest) = if is_newline byte then [] ∷ text_lines rest else onto_first byte (text_lines rest)

-- a text's first line and what is behind it: no newline stands in the line, and one ends it, or the text does
pub record IsFirstLine (text line rest : List ℕ) : Type 0 where
  pub plain : All (λ byte. byte ≢ 10) line
  pub ends : (text ≡ line ++ 10 ∷ rest) ⊎ ((text ≡ line) × (rest ≡ []))
