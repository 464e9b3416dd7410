-- A floor whose history has a front that is not of the run.
use Rattle.std.specs.Prelude.{ℕ, drop}
use Rattle.esa_floor.specs.Parts.{Parts}

-- without the first entries of its history
abbrev pub behind : {V : Type 0} → ℕ → Parts V → Parts V
behind count f = record f { history = drop count f.history }
