-- Adding the envelope of a submission line.
use Rattle.std.specs.Prelude.{◌≡◌, ℕ, ◌+◌, nat_lt, if◌then◌else◌, List, [], ◌∷◌, ◌++◌, length, Option, Some, None, Result, Ok, Err}
use Rattle.esa_params.specs.declared.form.Form.{Form}
use Rattle.esa_params.specs.Form.{envelope_length}
use Rattle.esa_bytes.specs.Hexadecimal.{hex_in}
use Rattle.esa_line.specs.declared.refused.LineCause.{LineCause}
use Rattle.esa_line.specs.declared.refused.LineCause.TheVariants.{MissingField, BadHex as NoHex}
use Rattle.esa_line.specs.Line.{tabs, head_cause, rest_of}
use Rattle.esa_batcher.specs.declared.digits.NotAdded.{NotAdded}
use Rattle.esa_batcher.specs.declared.digits.NotAdded.TheVariants.{BadHex, OutOfMemory}
use Rattle.esa_batcher.specs.declared.refused.AddRefused.{AddRefused}
use Rattle.esa_batcher.specs.declared.refused.AddRefused.TheVariants.{Line, TooMany}

-- what adding a text in hexadecimal digits does to a list
abbrev pub AddsHex : ℕ → List ℕ → List (List ℕ) → List (List ℕ) → Result (Unit {0}) NotAdded → Type 0
AddsHex size text before now (Ok done) = (envelope : List ℕ) × (hex_in size text ≡ Some envelope) × (now ≡ before ++ envelope ∷ [])
AddsHex size text before now (Err BadHex) = (hex_in size text ≡ None) × (now ≡ before)
AddsHex size text before now (Err OutOfMemory) = now ≡ before

-- ---- a submission line: a moment, a tab, a sender, a tab, and an envelope in hexadecimal digits

abbrev pub unless_caused : Option LineCause → List ℕ → Result (List ℕ) LineCause
unless_caused None text = Ok text
unless_caused (Some cause) text = Err cause

-- the text behind the second tab, or the first cause for which the front is refused
abbrev pub text_in : List ℕ → Result (List ℕ) LineCause
text_in line = if nat_lt (tabs line) 2 then Err MissingField else unless_caused (head_cause line) (rest_of line)

abbrev pub hex_result : Option (List ℕ) → Result (List ℕ) LineCause
hex_result None = Err NoHex
hex_result (Some envelope) = Ok envelope

abbrev pub envelope_by : ℕ → Result (List ℕ) LineCause → Result (List ℕ) LineCause
envelope_by size (Ok text) = hex_result (hex_in size text)
envelope_by size (Err cause) = Err cause

-- the envelope of the form that a line carries, or the line's first cause
abbrev pub envelope_in : Form → List ℕ → Result (List ℕ) LineCause
envelope_in form line = envelope_by (envelope_length form) (text_in line)

-- ---- the envelopes of several lines

-- the form of the envelopes that are gathered, how many have room, and the list of them
pub record Gathered : Type 0 where
  pub form : Form
  pub room : ℕ
  pub list : List (List ℕ)

abbrev pub added_by : Gathered → ℕ → Result (List ℕ) LineCause → Result Gathered AddRefused
added_by gathered number (Ok envelope) = Ok (record gathered { list = gathered.list ++ envelope ∷ [] })
added_by gathered number (Err cause) = Err (Line (record { line = number; cause = cause }))

-- after the line of this number, unless as many are held as a batch has
abbrev pub added_in : Gathered → List ℕ → ℕ → Result Gathered AddRefused
added_in gathered line number =
    if nat_lt (length gathered.list) 262144 then added_by gathered number (envelope_in gathered.form line) else Err (TooMany (262144 + 1))

-- after an envelope, unless as many are held as a batch has
abbrev pub put_in : Gathered → List ℕ → Result Gathered AddRefused
put_in gathered envelope =
    if nat_lt (length gathered.list) 262144 then Ok (record gathered { list = gathered.list ++ envelope ∷ [] }) else Err (TooMany (262144 + 1))
