-- A cabinet in memory, and its list of files.
use Rattle.std.specs.Prelude.{◌≡◌, ◌≢◌, ℕ, ◌<◌, List, [], ◌∷◌, length, refl}
use Rattle.std.specs.Coded.{Coded, code_by, coded×, coded_list, coded_ℕ}
use Rattle.std.specs.List.{AllWithin, HoldsAt}
use Rattle.std.specs.String.{string_bytes}
use Rattle.std.specs.declared.string.String.{String}
use Rattle.std.specs.declared.vec.Vec.{Vec}
use Rattle.std.specs.FinMap as map
use Rattle.esa_lists.specs.Files.{Files}
use Rattle.esa_outside.specs.Calls.{Calls, calls_code}
use Rattle.esa_outside.specs.Heard.{Event, heard_code}

-- what the files hold, the calls that were made, and what those that didn't fail gave or took
pub record CabinetInMemory : Type 0 where
  pub files : Files
  pub calls : Calls
  pub heard : List Event

abbrev pub cabinet_code : Coded CabinetInMemory
cabinet_code = code_by (Files × (Calls × List Event)) (coded× (map.code (coded_list coded_ℕ) (coded_list coded_ℕ)) (coded× calls_code heard_code)) (λ c. (c.files, (c.calls, c.heard))) (λ p. record { files = p.0; calls = p.1.0; heard = p.1.1 }) (λ _. refl)

-- what a list of named files holds. Of two files of one name the first counts
unfoldable pub files_of : {Y Z : Type 0} → List (String Y × Vec ℕ Z) → Files
files_of [] = map.empty
files_of (file ∷ files) = map.insert (files_of files) (string_bytes file.0) file.1.items

-- the file at this place is the first of this name
pub record IsFirstOf {Y Z : Type 0} (name : List ℕ) (files : List (String Y × Vec ℕ Z)) (place : ℕ) : Type 0 where
  pub within : place < length files
  pub named : HoldsAt (λ file. string_bytes file.0 ≡ name) files place
  pub first : AllWithin (λ file. string_bytes file.0 ≢ name) files 0 place

-- the bytes that were printed, the calls that were made, and what those that didn't fail printed
pub record PrinterInMemory : Type 0 where
  pub printed : List ℕ
  pub calls : Calls
  pub heard : List Event

abbrev pub printer_code : Coded PrinterInMemory
printer_code = code_by (List ℕ × (Calls × List Event)) (coded× (coded_list coded_ℕ) (coded× calls_code heard_code)) (λ p. (p.printed, (p.calls, p.heard))) (λ p. record { printed = p.0; calls = p.1.0; heard = p.1.1 }) (λ _. refl)
