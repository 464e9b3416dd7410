-- The records that a file of a cabinet holds.
use Rattle.std.specs.Prelude.{ℕ, ◌+◌, ◌*◌, List, [], ◌∷◌, drop, refl, Option, Some, None}
use Rattle.std.specs.Option.{option_map}
use Rattle.std.specs.Coded.{Coded, code_by, coded×, coded_list, coded_ℕ, coded_option}
use Rattle.std.specs.FinMap as map
use Rattle.esa_lists.specs.Files.{Files}
use Rattle.esa_outside.specs.Heard.{Event, part_of}
use Rattle.esa_header.specs.Pieces.{pieces}

-- the files that are told, the name of one of them, where its records start, their length and their number, and the
-- borrow of the cabinet through which they are read
pub record FileGround : Type 0 where
  pub files : Option Files
  pub name : List ℕ
  pub start : ℕ
  pub size : ℕ
  pub count : ℕ
  pub reference : ℕ

abbrev pub ground_code : Coded FileGround
ground_code = code_by (Option Files × (List ℕ × (ℕ × (ℕ × (ℕ × ℕ)))))
    (coded× (coded_option (map.code (coded_list coded_ℕ) (coded_list coded_ℕ))) (coded× (coded_list coded_ℕ) (coded× coded_ℕ (coded× coded_ℕ (coded× coded_ℕ coded_ℕ)))))
    (λ g. (g.files, (g.name, (g.start, (g.size, (g.count, g.reference))))))
    (λ p. record { files = p.0; name = p.1.0; start = p.1.1.0; size = p.1.1.1.0; count = p.1.1.1.1.0; reference = p.1.1.1.1.1 })
    (λ _. refl)

-- the records, where the files are told and the file is there
abbrev pub records_of : Option Files → List ℕ → ℕ → ℕ → ℕ → Option (List (List ℕ))
records_of None name start size count = None
records_of (Some files) name start size count = option_map (λ bytes. pieces size count (drop start bytes)) (map.get files name)

-- what is heard where these bytes are read from a record on: that part of the file, and nothing where no bytes are asked for
abbrev pub part_heard : FileGround → ℕ → List ℕ → List Event
part_heard file first [] = []
part_heard file first (byte ∷ bytes) = part_of file.name (file.start + first * file.size) (byte ∷ bytes) ∷ []
