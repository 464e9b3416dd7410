-- The lines of submissions that lines of reports become.
use Rattle.std.specs.Prelude.{ℕ, ◌+◌, ◌%◌, ◌^◌, nat_lt, if◌then◌else◌, List, [], ◌∷◌, ◌++◌, length, Option, Some, None, option_map, Result, Ok, Err, unwrap_or}
use Rattle.std.specs.Option.{option_or}
use Rattle.hex.specs.Hex.{encode_lower}
use Rattle.esa_bytes.specs.Lines.{text_lines}
use Rattle.esa_params.specs.declared.form.Form.{Form}
use Rattle.esa_envelope.specs.declared.keys.Keys.{Keys}
use Rattle.esa_line.specs.declared.refused.LineRefused.{LineRefused}
use Rattle.esa_encoder.specs.declared.submission.EncodeRefused.{EncodeRefused}
use Rattle.esa_encoder.specs.declared.submission.EncodeRefused.TheVariants.{Line, TooMany}
use Rattle.esa_line.specs.Line.{head_of}
use Rattle.esa_encoder.specs.Report.{crowd_of, value_of, report_cause, Shape, itself}
use Rattle.esa_encoder.specs.Sealed.{sealed_twice}

-- the nonce of a line, by the number before the first nonce
abbrev pub nonce_of : ℕ → ℕ → ℕ
nonce_of base number = (base + number) % 2 ^ 64

-- what is sent in place of the line's value
abbrev pub sent_of : Shape → ℕ → List ℕ → Option (List ℕ)
sent_of shape nonce line = shape (value_of line) nonce

-- the envelope of a line of reports
abbrev pub envelope_of : Shape → Form → (outer inner : Keys) → ℕ → List ℕ → List ℕ
envelope_of shape form outer inner nonce line = sealed_twice form outer inner nonce (crowd_of line) (unwrap_or (sent_of shape nonce line) [])

-- its line of submissions: moment and sender as they are, and the envelope in digits of lower case
abbrev pub submission_of : Shape → Form → (outer inner : Keys) → ℕ → List ℕ → List ℕ
submission_of shape form outer inner nonce line = head_of line ++ encode_lower (envelope_of shape form outer inner nonce line)

-- the lines of submissions, each with its newline; the first line of reports has this number
unfoldable pub submissions : Shape → Form → (outer inner : Keys) → (base number : ℕ) → List (List ℕ) → List ℕ
submissions shape form outer inner base number [] = []
submissions shape form outer inner base number (line ∷ lines) =
    (submission_of shape form outer inner (nonce_of base number) line ++ 10 ∷ []) ++ submissions shape form outer inner base (number + 1) lines

-- why the line of this number is refused
abbrev pub line_refused : Shape → Form → (number nonce : ℕ) → List ℕ → Option LineRefused
line_refused shape form number nonce line =
    option_map (λ cause. record { line = number; cause = cause }) (report_cause form (sent_of shape nonce line) line)

-- the first refused line; the first line has this number
unfoldable pub first_refused : Shape → Form → (base number : ℕ) → List (List ℕ) → Option LineRefused
first_refused shape form base number [] = None
first_refused shape form base number (line ∷ lines) =
    option_or (line_refused shape form number (nonce_of base number) line) (first_refused shape form base (number + 1) lines)

abbrev pub unless_refused : Option LineRefused → List ℕ → Result (List ℕ) EncodeRefused
unless_refused None bytes = Ok bytes
unless_refused (Some refused) bytes = Err (Line refused)

-- At most 262,144 lines are encoded. They are counted before any is looked at.
abbrev pub encoded_lines : Shape → Form → (outer inner : Keys) → ℕ → List (List ℕ) → Result (List ℕ) EncodeRefused
encoded_lines shape form outer inner base lines =
    if nat_lt 262144 (length lines) then Err (TooMany (length lines))
    else unless_refused (first_refused shape form base 1 lines) (submissions shape form outer inner base 1 lines)

-- what a file of reports is encoded as by a shape of the values, or why it is refused
abbrev pub encoded_by : Shape → Form → (outer inner : Keys) → ℕ → List ℕ → Result (List ℕ) EncodeRefused
encoded_by shape form outer inner base reports = encoded_lines shape form outer inner base (text_lines reports)

-- the same with each value sent as it is
abbrev pub encoded : Form → (outer inner : Keys) → ℕ → List ℕ → Result (List ℕ) EncodeRefused
encoded form outer inner base reports = encoded_by itself form outer inner base reports
