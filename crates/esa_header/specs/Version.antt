-- The versions of the files.
use Rattle.std.specs.Prelude.{◌≡◌, ℕ, ◌<◌, ◌^◌, ◌==◌, if◌then◌else◌, Option, Some, None}
use Rattle.esa_params.specs.declared.form.Form.{Form}
use Rattle.esa_params.specs.declared.form.Form.TheVariants.{One, Two}

-- the version byte of the files of a form
abbrev pub version_byte : Form → ℕ
version_byte One = 1
version_byte Two = 2

-- the form that the files of a version carry
abbrev pub form_in : ℕ → Option Form
form_in version = if version == 1 then Some One else if version == 2 then Some Two else None

-- a key epoch that files of the form can carry: version 1 has none, and stands for epoch 0
abbrev pub IsEpochOf : Form → ℕ → Type 0
IsEpochOf One epoch = epoch ≡ 0
IsEpochOf Two epoch = epoch < 2 ^ 32
