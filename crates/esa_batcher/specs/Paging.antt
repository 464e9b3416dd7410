-- A batch file that is read piece by piece, from its start to its end.
use Rattle.std.specs.Prelude.{◌≡◌, ℕ, ◌+◌, ◌-◌, ◌*◌, ◌≤◌, List, ◌++◌, length, take, drop, min, Option, Some, Result, Ok, Err}
use Rattle.std.specs.List.{concat}
use Rattle.std.specs.FinMap as map
use Rattle.esa_lists.specs.Files.{Files}
use Rattle.esa_outside.specs.Heard.{Event}
use Rattle.esa_page.specs.Piecewise.{pieces_heard}
use Rattle.esa_header.specs.declared.header.FileKind.TheVariants as kind
use Rattle.esa_header.specs.declared.header.Header.{Header}
use Rattle.esa_header.specs.declared.header.HeaderRefused.{HeaderRefused}
use Rattle.esa_header.specs.Header.{header_length, header_in}
use Rattle.esa_header.specs.Pieces.{pieces}
use Rattle.esa_batcher.specs.declared.scan.Scanned.{Scanned}
use Rattle.esa_batcher.specs.declared.scan.ScanRefused.{ScanRefused}
use Rattle.esa_batcher.specs.declared.scan.ScanRefused.TheVariants.{Failed, TooLarge, Grammar}
use Rattle.esa_batcher.specs.Refusal.{refusal_of}
use Rattle.esa_batcher.specs.Rising.{fall_at}
use Rattle.esa_batcher.specs.Scanning.{scan_in}

-- These bytes were heard from a place on, in pieces one behind another; a cabinet that tells the file tells the same.
pub record IsHeard (name : List ℕ) (told : Option Files) (at : ℕ) (before now : List Event) (bytes : List ℕ) : Type 0 where
  pub pieces : List (List ℕ)
  pub are : concat pieces ≡ bytes
  pub heard : now ≡ before ++ pieces_heard name at pieces
  pub tells : (files : Files) (file : List ℕ) → told ≡ Some files → map.get files name ≡ Some file → bytes ≡ take (length bytes) (drop at file)

-- a piece is read, or nothing is heard
abbrev pub PieceHeard : {T E : Type 0} → List ℕ → Option Files → ℕ → List Event → List Event → List ℕ → Result T E → Type 0
PieceHeard name told at before now piece (Ok done) = IsHeard name told at before now piece
PieceHeard name told at before now piece (Err why) = now ≡ before

-- Of so many records from the place `first` on the first bytes were kept, and the others are read; of them all the buffer
-- keeps the last record.
pub record PartScanned (name : List ℕ) (told : Option Files) (at : ℕ) (before now : List Event) (size first number : ℕ) (kept buffer : List ℕ) (fall : Option ℕ) : Type 0 where
  pub bytes : List ℕ
  pub read : IsHeard name told at before now bytes
  pub long : length kept + length bytes ≡ number * size
  pub order : fall ≡ fall_at first (pieces size number (kept ++ bytes))
  pub keeps : take size buffer ≡ drop ((number - 1) * size) (kept ++ bytes)

abbrev pub PartHeard : {E : Type 0} → List ℕ → Option Files → ℕ → List Event → List Event → (size first number : ℕ) → (kept buffer : List ℕ) → Result (Option ℕ) E → Type 0
PartHeard name told at before now size first number kept buffer (Ok fall) = PartScanned name told at before now size first number kept buffer fall
PartHeard name told at before now size first number kept buffer (Err why) = now ≡ before

-- Of all records the first bytes were kept. Whatever is behind those that were read, it is the first fall of them all.
pub record RecordsScanned (name : List ℕ) (told : Option Files) (at : ℕ) (before now : List Event) (size count : ℕ) (kept : List ℕ) (fall : Option ℕ) : Type 0 where
  pub bytes : List ℕ
  pub read : IsHeard name told at before now bytes
  pub within : length kept + length bytes ≤ count * size
  pub order : (rest : List ℕ) → length ((kept ++ bytes) ++ rest) ≡ count * size → fall ≡ fall_at 0 (pieces size count ((kept ++ bytes) ++ rest))

abbrev pub RecordsHeard : {E : Type 0} → List ℕ → Option Files → ℕ → List Event → List Event → (size count : ℕ) → List ℕ → Result (Option ℕ) E → Type 0
RecordsHeard name told at before now size count kept (Ok fall) = RecordsScanned name told at before now size count kept fall
RecordsHeard name told at before now size count kept (Err why) = (bytes : List ℕ) × IsHeard name told at before now bytes

-- The records up to the place `first` are read, and of the one there the buffer keeps `kept` bytes. What is behind decides,
-- where those before it rise.
pub record HasPassed (name : List ℕ) (told : Option Files) (start : ℕ) (before now : List Event) (size count : ℕ) (front : List ℕ) (first at kept : ℕ) (buffer : List ℕ) : Type 0 where
  pub bytes : List ℕ
  pub read : IsHeard name told start before now bytes
  pub place : at ≡ start + length bytes
  pub reached : first * size + kept ≡ length front + length bytes
  pub within : length front + length bytes ≤ count * size
  pub keeps : take kept buffer ≡ drop (first * size) (front ++ bytes)
  pub order : (rest : List ℕ) → length ((front ++ bytes) ++ rest) ≡ count * size
      → fall_at 0 (pieces size count ((front ++ bytes) ++ rest)) ≡ fall_at first (drop first (pieces size count ((front ++ bytes) ++ rest)))

-- The first bytes of a file of this length are read, up to 15, and its header is in them or refused by them.
pub record HeaderFront (name : List ℕ) (told : Option Files) (have : ℕ) (before now : List Event) (read : Result Header HeaderRefused) : Type 0 where
  pub front : List ℕ
  pub heard : IsHeard name told 0 before now front
  pub long : length front ≡ min 15 have
  pub is : header_in kind.Batch front have ≡ read

-- the header is answered, and what was read behind it is kept in the buffer
abbrev pub HeaderHeard : List ℕ → Option Files → ℕ → List Event → List Event → List ℕ → Result Header ScanRefused → Type 0
HeaderHeard name told have before now buffer (Ok header) =
    (scanned : HeaderFront name told have before now (Ok header))
    × (take (min 15 have - header_length header.form) buffer ≡ drop (header_length header.form) scanned.front)
HeaderHeard name told have before now buffer (Err Failed) = now ≡ before
HeaderHeard name told have before now buffer (Err (TooLarge n)) = ⊥
HeaderHeard name told have before now buffer (Err (Grammar refused)) = (why : HeaderRefused) × HeaderFront name told have before now (Err why) × (refused ≡ refusal_of why)

-- What was read of a file of this length decides: whatever is behind it, the answer is that of the whole file.
pub record FileScanned (m : ℕ) (name : List ℕ) (told : Option Files) (have : ℕ) (before now : List Event) (result : Result Scanned ScanRefused) : Type 0 where
  pub front : List ℕ
  pub heard : IsHeard name told 0 before now front
  pub within : length front ≤ have
  pub answers : (rest : List ℕ) → length front + length rest ≡ have → scan_in m (front ++ rest) ≡ result

abbrev pub FileHeard : ℕ → List ℕ → Option Files → ℕ → List Event → List Event → Result Scanned ScanRefused → Type 0
FileHeard m name told have before now (Ok scanned) = FileScanned m name told have before now (Ok scanned)
FileHeard m name told have before now (Err Failed) = (bytes : List ℕ) × IsHeard name told 0 before now bytes
FileHeard m name told have before now (Err (TooLarge n)) = ⊥
FileHeard m name told have before now (Err (Grammar refused)) = FileScanned m name told have before now (Err (Grammar refused))
