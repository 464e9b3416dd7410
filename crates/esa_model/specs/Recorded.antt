-- A list of accesses with room for more.
use Rattle.std.specs.Prelude.{ℕ, ◌++◌, List, []}
use Rattle.esa_params.specs.declared.slot.Access.{Access}

pub record Recorded : Type 0 where
  pub room : ℕ
  pub accesses : List Access

abbrev pub nothing_recorded : ℕ → Recorded
nothing_recorded room = record { room = room; accesses = [] }

-- what is recorded with these accesses behind it
abbrev pub with_accesses : Recorded → List Access → Recorded
with_accesses recorded more = record recorded { accesses = recorded.accesses ++ more }
