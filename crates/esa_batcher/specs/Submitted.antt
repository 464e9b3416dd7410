-- The envelopes of the lines of a file of submissions.
use Rattle.std.specs.Prelude.{ℕ, ◌+◌, nat_lt, if◌then◌else◌, List, [], ◌∷◌, ◌++◌, length, Result, Ok, Err}
use Rattle.esa_params.specs.declared.form.Form.{Form}
use Rattle.esa_bytes.specs.Lines.{text_lines}
use Rattle.esa_line.specs.declared.refused.LineCause.{LineCause}
use Rattle.esa_batcher.specs.declared.refused.AddRefused.{AddRefused}
use Rattle.esa_batcher.specs.declared.refused.AddRefused.TheVariants.{Line, TooMany}
use Rattle.esa_batcher.specs.Adding.{envelope_in}

-- envelopes, and those of later lines, if these are accepted
abbrev pub joined_to : List (List ℕ) → Result (List (List ℕ)) AddRefused → Result (List (List ℕ)) AddRefused
joined_to before (Ok later) = Ok (before ++ later)
joined_to before (Err refused) = Err refused

-- the envelope of the line of this number stands before those of the later ones
abbrev pub envelope_first : ℕ → Result (List ℕ) LineCause → Result (List (List ℕ)) AddRefused → Result (List (List ℕ)) AddRefused
envelope_first number (Ok envelope) later = joined_to (envelope ∷ []) later
envelope_first number (Err cause) later = Err (Line (record { line = number; cause = cause }))

-- the envelopes of the lines, of which the first has this number, or the first line that is refused
unfoldable pub lines_in : Form → ℕ → List (List ℕ) → Result (List (List ℕ)) AddRefused
lines_in form number [] = Ok []
lines_in form number (line ∷ lines) = envelope_first number (envelope_in form line) (lines_in form (number + 1) lines)

-- the envelopes of a file, unless it has more lines than a batch has records
abbrev pub submitted : Form → List ℕ → Result (List (List ℕ)) AddRefused
submitted form bytes =
    if nat_lt 262144 (length (text_lines bytes)) then Err (TooMany (length (text_lines bytes))) else lines_in form 1 (text_lines bytes)
