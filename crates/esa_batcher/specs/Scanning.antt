-- Checking a batch file without keeping it.
use Rattle.std.specs.Prelude.{◌≡◌, ◌⊎◌, ℕ, ◌+◌, ◌≤◌, nat_lt, if◌then◌else◌, List, ◌∷◌, ◌++◌, length, Option, Some, Result, Ok, Err}
use Rattle.std.specs.List.{concat}
use Rattle.std.specs.FinMap as map
use Rattle.esa_lists.specs.Files.{Files}
use Rattle.esa_outside.specs.Cause.{Rose}
use Rattle.esa_outside.specs.Heard.{Event, length_of}
use Rattle.esa_page.specs.Piecewise.{pieces_heard}
use Rattle.esa_batcher.specs.declared.refused.BatchRefused.{BatchRefused}
use Rattle.esa_batcher.specs.declared.scan.Scanned.{Scanned}
use Rattle.esa_batcher.specs.declared.scan.ScanRefused.{ScanRefused}
use Rattle.esa_batcher.specs.declared.scan.ScanRefused.TheVariants.{Failed, TooLarge, Grammar}
use Rattle.esa_batcher.specs.Batched.{Batched}
use Rattle.esa_batcher.specs.Reading.{batch_in}

abbrev pub scanned_as : Result Batched BatchRefused → Result Scanned ScanRefused
scanned_as (Ok batch) = Ok (record { form = batch.form; epoch = batch.epoch; count = length batch.list })
scanned_as (Err refused) = Err (Grammar refused)

-- as the file is read whole, once its length is within the limit
abbrev pub scan_in : ℕ → List ℕ → Result Scanned ScanRefused
scan_in m bytes = if nat_lt 134217728 (length bytes) then Err (TooLarge (length bytes)) else scanned_as (batch_in m bytes)

-- The file begins with these pieces, and so many bytes are behind them.
abbrev pub BeginsWith : List (List ℕ) → ℕ → Option (List ℕ) → Type 0
BeginsWith pieces behind held = (rest : List ℕ) × (held ≡ Some (concat pieces ++ rest)) × (length rest ≡ behind)

-- What a scan heard of a file: its length, and pieces from its start on, one behind another. It answers for every file that
-- begins with these pieces and has this length, and a cabinet that tells its files holds such a file.
pub record IsScanned (m : ℕ) (name : List ℕ) (told : Option Files) (before now : List Event) (result : Result Scanned ScanRefused) : Type 0 where
  pub pieces : List (List ℕ)
  pub behind : ℕ
  pub heard : now ≡ before ++ length_of name (length (concat pieces) + behind) ∷ pieces_heard name 0 pieces
  pub tells : (files : Files) → told ≡ Some files → BeginsWith pieces behind (map.get files name)
  pub answers : (rest : List ℕ) → length rest ≡ behind → scan_in m (concat pieces ++ rest) ≡ result

-- a call failed: nothing was heard, or a length and such pieces
abbrev pub HasBegun : List ℕ → List Event → List Event → Type 0
HasBegun name before now =
    (now ≡ before) ⊎ ((n : ℕ) × (pieces : List (List ℕ)) × (now ≡ before ++ length_of name n ∷ pieces_heard name 0 pieces))

abbrev pub ScanHeard : ℕ → List ℕ → Option Files → List Event → List Event → Result Scanned ScanRefused → Type 0
ScanHeard m name told before now (Ok scanned) = IsScanned m name told before now (Ok scanned)
ScanHeard m name told before now (Err Failed) = HasBegun name before now
ScanHeard m name told before now (Err (TooLarge n)) = IsScanned m name told before now (Err (TooLarge n))
ScanHeard m name told before now (Err (Grammar refused)) = IsScanned m name told before now (Err (Grammar refused))

-- by the count of faults: it fails only where the count rose, or what it needs is missing; another answer leaves the count
abbrev pub ScanCounted : {T : Type 0} → ℕ → ℕ → Type 0 → Result T ScanRefused → Type 0
ScanCounted before now missing (Ok value) = now ≡ before
ScanCounted before now missing (Err Failed) = (before ≤ now) × (Rose before now ⊎ missing)
ScanCounted before now missing (Err (TooLarge n)) = now ≡ before
ScanCounted before now missing (Err (Grammar refused)) = now ≡ before
