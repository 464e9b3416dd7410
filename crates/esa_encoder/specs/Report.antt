-- Lines of reports: behind moment and sender a crowd, a tab, and the value, which may hold tabs.
use Rattle.std.specs.Prelude.{◌≡◌, ℕ, ◌+◌, ◌<◌, ◌≤◌, nat_lt, if◌then◌else◌, List, length, drop, slice_range, Option, Some, None}
use Rattle.std.specs.List.{before_first, after_first}
use Rattle.std.specs.Option.{option_or}
use Rattle.esa_params.specs.declared.form.Form.{Form}
use Rattle.esa_params.specs.Form.{report_length}
use Rattle.esa_line.specs.declared.refused.LineCause.{LineCause}
use Rattle.esa_line.specs.declared.refused.LineCause.TheVariants.{MissingField, TooLong}
use Rattle.esa_encoder.specs.declared.report.ReportLine.{ReportLine}
use Rattle.esa_line.specs.Front.{is_tab}
use Rattle.esa_line.specs.Line.{tabs, rest_of, head_cause, IsHead}

abbrev pub crowd_of : List ℕ → List ℕ
crowd_of line = before_first is_tab (rest_of line)

abbrev pub value_of : List ℕ → List ℕ
value_of line = after_first is_tab (rest_of line)

-- a value that a report of the form has no room for, beside the two bytes of its length
abbrev pub value_cause : Form → List ℕ → Option LineCause
value_cause form value = if nat_lt (report_length form) (2 + length value) then Some TooLong else None

-- What is sent in place of a value, by the nonce of its line: a list of bytes, or none where it has none for it.
abbrev pub Shape : Type 0
Shape = List ℕ → ℕ → Option (List ℕ)

-- the value itself is sent
abbrev pub itself : Shape
itself value nonce = Some value

-- a value that has nothing to be sent, or more than a report of the form has room for
abbrev pub sent_cause : Form → Option (List ℕ) → Option LineCause
sent_cause form None = Some TooLong
sent_cause form (Some sent) = value_cause form sent

-- what is wrong with a line beside what is sent: a missing field, the moment, or the sender
abbrev pub fields_cause : List ℕ → Option LineCause
fields_cause line = if nat_lt (tabs line) 3 then Some MissingField else head_cause line

-- the first cause for which a line of reports of a form is refused, where this is sent in place of its value
abbrev pub report_cause : Form → Option (List ℕ) → List ℕ → Option LineCause
report_cause form sent line = option_or (fields_cause line) (sent_cause form sent)

-- where the fields of a line stand
pub record IsReportLine (line : List ℕ) (fields : ReportLine) : Type 0 where
  pub head : IsHead line fields.head
  pub crowd : slice_range line fields.head.length fields.crowd_end ≡ crowd_of line
  pub value : drop (fields.crowd_end + 1) line ≡ value_of line
  pub inside : (fields.head.length ≤ fields.crowd_end) × (fields.crowd_end < length line)
