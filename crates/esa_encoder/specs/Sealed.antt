-- What a report becomes: sealed for the analyser, and that, with its crowd's id, for the shuffler.
use Rattle.std.specs.Prelude.{ℕ, List, ◌++◌}
use Rattle.sha2.specs.Sha256.{sha256}
use Rattle.esa_params.specs.declared.form.Form.{Form}
use Rattle.esa_params.specs.Form.{report_length}
use Rattle.esa_envelope.specs.declared.keys.Keys.{Keys}
use Rattle.esa_envelope.specs.declared.label.Label.TheVariants.{Inner, Outer}
use Rattle.esa_envelope.specs.Envelope.{sealed_as}
use Rattle.esa_report.specs.Report.{report_of}

-- what the shuffler opens: the crowd's id, and the report that only the analyser opens
abbrev pub outer_text : Form → Keys → ℕ → (crowd value : List ℕ) → List ℕ
outer_text form inner nonce crowd value = sha256 crowd ++ sealed_as inner Inner nonce (report_of (report_length form) value)

-- the outer envelope; both envelopes have the same nonce, under keys of their own
abbrev pub sealed_twice : Form → (outer inner : Keys) → ℕ → (crowd value : List ℕ) → List ℕ
sealed_twice form outer inner nonce crowd value = sealed_as outer Outer nonce (outer_text form inner nonce crowd value)
