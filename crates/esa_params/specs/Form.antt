-- The lengths of the two forms of a record, in bytes.
use Rattle.std.specs.Prelude.{ℕ, ◌+◌}
use Rattle.esa_params.specs.declared.form.Form.{Form}
use Rattle.esa_params.specs.declared.form.Form.TheVariants.{One, Two}

-- a report: a value's length in two bytes, the value, and zero bytes
abbrev pub report_length : Form → ℕ
report_length One = 64
report_length Two = 192

-- an inner envelope: a sealed report
abbrev pub inner_length : Form → ℕ
inner_length form = report_length form + 40

-- an outer plain text: a crowd id and an inner envelope
abbrev pub body_length : Form → ℕ
body_length form = 32 + inner_length form

-- an outer envelope: a sealed outer plain text
abbrev pub envelope_length : Form → ℕ
envelope_length form = body_length form + 40
