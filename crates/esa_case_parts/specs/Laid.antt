-- What files hold once others are put among them.
use Rattle.std.specs.Prelude.{List, [], ◌∷◌}
use Rattle.std.specs.String.{string_bytes}
use Rattle.std.specs.FinMap as map
use Rattle.esa_lists.specs.Files.{Files}
use Rattle.esa_case_file.specs.declared.File.{File}

-- the files with these put among them one after another, each in the place of what its name held
abbrev pub laid : Files → List File → Files
laid held [] = held
laid held (file ∷ files) = laid (map.insert held (string_bytes file.name) file.bytes.items) files
