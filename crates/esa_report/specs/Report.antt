-- Reports: a value's length in two bytes, the value, and zero bytes.
use Rattle.std.specs.Prelude.{◌≡◌, ℕ, ◌+◌, ◌-◌, ◌≤◌, nat_le, ◌&&◌, ◌⊎◌, if◌then◌else◌, List, ◌++◌, length, drop, replicate, slice_range, Option, Some, None}
use Rattle.std.specs.Int.{w16, to_be_bytes}
use Rattle.esa_bytes.specs.Field.{u16_in}
use Rattle.esa_report.specs.Zero.{is_zero}

-- the two lengths of a report
abbrev pub IsReportLength : ℕ → Type 0
IsReportLength size = (size ≡ 64) ⊎ (size ≡ 192)

-- the report of a value, of so many bytes
unfoldable pub report_of : ℕ → List ℕ → List ℕ
report_of size value = to_be_bytes w16 (length value) ++ (value ++ replicate (size - (2 + length value)) 0)

-- the report is the spelling of the value
pub record IsReport (report value : List ℕ) : Type 0 where
  pub fits : 2 + length value ≤ length report
  pub spelled : report ≡ report_of (length report) value

-- the value that a report spells
unfoldable pub value_in : List ℕ → Option (List ℕ)
value_in report =
    let end = 2 + u16_in report 0 in
    if nat_le end (length report) && is_zero (drop end report) then Some (slice_range report 2 end) else None
