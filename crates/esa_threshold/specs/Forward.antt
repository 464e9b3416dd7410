-- The forward file.
use Rattle.std.specs.Prelude.{◌≡◌, ℕ, ◌≤◌, nat_lt, if◌then◌else◌, List, ◌++◌, length, drop, Result, Ok, Err}
use Rattle.std.specs.List.{concat}
use Rattle.esa_params.specs.declared.form.Form.{Form}
use Rattle.esa_params.specs.Form.{inner_length}
use Rattle.esa_header.specs.Version.{IsEpochOf}
use Rattle.esa_header.specs.Pieces.{HaveLength}
use Rattle.esa_header.specs.declared.header.FileKind.TheVariants.{Forward}
use Rattle.esa_header.specs.declared.header.Header.{Header}
use Rattle.esa_header.specs.declared.header.HeaderRefused.{HeaderRefused}
use Rattle.esa_header.specs.Header.{header_length, header_bytes, header_in}
use Rattle.esa_threshold.specs.declared.envelopes.Forwarded.{Forwarded}
use Rattle.esa_threshold.specs.declared.refused.ForwardRefused.{ForwardRefused}
use Rattle.esa_threshold.specs.declared.refused.ForwardRefused.TheVariants.{TooMany}
use Rattle.esa_threshold.specs.Refusal.{refusal_of}

-- the header of a forward file of so many envelopes
abbrev pub forward_front : Form → ℕ → ℕ → List ℕ
forward_front form epoch count = header_bytes Forward (record { form = form; epoch = epoch; count = count })

-- the forward file of a list of inner envelopes
abbrev pub forward_bytes : Form → ℕ → List (List ℕ) → List ℕ
forward_bytes form epoch envelopes = forward_front form epoch (length envelopes) ++ concat envelopes

-- inner envelopes of the form, no more than a batch has, under an epoch that the form can have
pub record CanForward (form : Form) (epoch : ℕ) (envelopes : List (List ℕ)) : Type 0 where
  pub lengths : HaveLength (inner_length form) envelopes
  pub number : length envelopes ≤ 262144
  pub epoch_fits : IsEpochOf form epoch

-- a list of envelopes as it is read
abbrev pub forwarded_as : Form → ℕ → List (List ℕ) → Forwarded
forwarded_as form epoch envelopes = record { form = form; epoch = epoch; envelopes = concat envelopes }

-- the bytes are the forward file of what was read
abbrev pub IsForwardFile : Forwarded → List ℕ → Type 0
IsForwardFile forwarded bytes = (envelopes : List (List ℕ)) × (CanForward forwarded.form forwarded.epoch envelopes)
    × (forwarded ≡ forwarded_as forwarded.form forwarded.epoch envelopes)
    × (bytes ≡ forward_bytes forwarded.form forwarded.epoch envelopes)

-- the last test: not more envelopes than a batch has
abbrev pub tested_number : Result Header HeaderRefused → Result Header ForwardRefused
tested_number (Err refused) = Err (refusal_of refused)
tested_number (Ok header) = if nat_lt 262144 header.count then Err (TooMany header.count) else Ok header

abbrev pub forward_header_in : List ℕ → Result Header ForwardRefused
forward_header_in bytes = tested_number (header_in Forward bytes (length bytes))

abbrev pub behind_header : List ℕ → Result Header ForwardRefused → Result Forwarded ForwardRefused
behind_header bytes (Err refused) = Err refused
behind_header bytes (Ok header) = Ok (record { form = header.form; epoch = header.epoch; envelopes = drop (header_length header.form) bytes })

-- what a forward file says, or the first test that it fails
abbrev pub forward_in : List ℕ → Result Forwarded ForwardRefused
forward_in bytes = behind_header bytes (forward_header_in bytes)
