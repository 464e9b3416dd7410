-- The header of a file of sealed records.
use Rattle.std.specs.Prelude.{◌≡◌, ℕ, ◌+◌, ◌*◌, ◌<◌, ◌^◌, ◌==◌, nat_lt, nat_eq, if◌then◌else◌, List, [], ◌∷◌, ◌++◌, length, take, slice_index, codes, Option, Some, None, Result, Ok, Err}
use Rattle.std.specs.List.{starts_with}
use Rattle.std.specs.Int.{w16, w32, to_be_bytes}
use Rattle.esa_bytes.specs.Field.{u16_in, u32_in}
use Rattle.esa_params.specs.declared.form.Form.{Form}
use Rattle.esa_params.specs.declared.form.Form.TheVariants.{One, Two}
use Rattle.esa_params.specs.Form.{inner_length, envelope_length}
use Rattle.esa_header.specs.Version.{version_byte, form_in, IsEpochOf}
use Rattle.esa_header.specs.declared.header.FileKind.{FileKind}
use Rattle.esa_header.specs.declared.header.FileKind.TheVariants.{Batch, Forward}
use Rattle.esa_header.specs.declared.header.Header.{Header}
use Rattle.esa_header.specs.declared.header.HeaderRefused.{HeaderRefused}
use Rattle.esa_header.specs.declared.header.HeaderRefused.TheVariants.{Cut, BadMagic, BadVersion, BadSize, Trailing}

-- the bytes with which a file begins
abbrev pub magic : FileKind → List ℕ
magic Batch = codes "ESAB"
magic Forward = codes "ESAF"

-- a batch has outer envelopes, and what is forwarded are inner ones
abbrev pub record_length : FileKind → Form → ℕ
record_length Batch form = envelope_length form
record_length Forward form = inner_length form

-- version 2 has four bytes more, for the epoch
abbrev pub header_length : Form → ℕ
header_length One = 11
header_length Two = 15

abbrev pub epoch_bytes : Form → ℕ → List ℕ
epoch_bytes One epoch = []
epoch_bytes Two epoch = to_be_bytes w32 epoch

-- the magic, the version, the number of records and the length of a record
abbrev pub front_bytes : FileKind → Header → List ℕ
front_bytes kind header =
    magic kind ++ (version_byte header.form ∷ (to_be_bytes w32 header.count ++ to_be_bytes w16 (record_length kind header.form)))

abbrev pub header_bytes : FileKind → Header → List ℕ
header_bytes kind header = front_bytes kind header ++ epoch_bytes header.form header.epoch

-- the length of a file: its header and its records
abbrev pub file_length : FileKind → Header → ℕ
file_length kind header = header_length header.form + record_length kind header.form * header.count

abbrev pub epoch_in : Form → List ℕ → ℕ
epoch_in One front = 0
epoch_in Two front = u32_in front 11

abbrev pub header_at : Form → List ℕ → Header
header_at form front = record { form = form; epoch = epoch_in form front; count = u32_in front 5 }

abbrev pub cut : ℕ → ℕ → HeaderRefused
cut want have = Cut (record { want = want; have = have })

abbrev pub version_result : Option Form → Result Form HeaderRefused
version_result None = Err BadVersion
version_result (Some form) = Ok form

-- the first tests: 11 bytes are there, then the magic, then the version
abbrev pub form_by_front : FileKind → List ℕ → ℕ → Result Form HeaderRefused
form_by_front kind front have =
    if nat_lt have 11 then Err (cut 11 have)
    else if starts_with nat_eq front (magic kind) then version_result (form_in (slice_index front 4)) else Err BadMagic

-- the last tests: the records end where the file does
abbrev pub header_by_length : FileKind → Header → ℕ → Result Header HeaderRefused
header_by_length kind header have =
    if nat_lt have (file_length kind header) then Err (cut (file_length kind header) have)
    else if nat_lt (file_length kind header) have then Err Trailing else Ok header

-- the tests between: the header is there, and the length of a record is that of the form
abbrev pub header_by_form : FileKind → List ℕ → ℕ → Result Form HeaderRefused → Result Header HeaderRefused
header_by_form kind front have (Err refused) = Err refused
header_by_form kind front have (Ok form) =
    if nat_lt have (header_length form) then Err (cut (header_length form) have)
    else if u16_in front 9 == record_length kind form then header_by_length kind (header_at form front) have else Err BadSize

-- the header of a file of `have` bytes with this front, or the first test that the file fails
abbrev pub header_in : FileKind → List ℕ → ℕ → Result Header HeaderRefused
header_in kind front have = header_by_form kind front have (form_by_front kind front have)

-- the bytes are a file of this header: they begin with it, and are as long as it says
pub record IsFileOf (kind : FileKind) (header : Header) (bytes : List ℕ) : Type 0 where
  pub count : header.count < 2 ^ 32
  pub epoch : IsEpochOf header.form header.epoch
  pub front : take (header_length header.form) bytes ≡ header_bytes kind header
  pub size : length bytes ≡ file_length kind header
