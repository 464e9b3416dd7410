-- The calls of a cabinet or a printer in memory.
use Rattle.std.specs.Prelude.{ℕ, ◌+◌, ◌-◌, ◌^◌, min, List, Contains, refl}
use Rattle.std.specs.Coded.{Coded, code_by, coded×, coded_list, coded_ℕ}

-- the numbers of the calls that are to fail, how many calls were made, how many of them failed by their
-- own fault, and how many growths found no memory
pub record Calls : Type 0 where
  pub fails : List ℕ
  pub made : ℕ
  pub faults : ℕ
  pub starved : ℕ

-- one more, up to the last value of a u64
abbrev pub up : ℕ → ℕ
up n = min (n + 1) (2 ^ 64 - 1)

-- the number of the next call is listed
abbrev pub IsListed : Calls → Type 0
IsListed calls = Contains calls.fails (up calls.made)

-- after one more call, and after one more fault
abbrev pub called : Calls → Calls
called calls = record calls { made = up calls.made }

abbrev pub faulted : Calls → Calls
faulted calls = record calls { faults = up calls.faults }

-- after a growth that found no memory, which is a fault too
abbrev pub starved : Calls → Calls
starved calls = record calls { faults = up calls.faults; starved = up calls.starved }

abbrev pub calls_code : Coded Calls
calls_code = code_by (List ℕ × (ℕ × (ℕ × ℕ))) (coded× (coded_list coded_ℕ) (coded× coded_ℕ (coded× coded_ℕ coded_ℕ))) (λ c. (c.fails, (c.made, (c.faults, c.starved)))) (λ p. record { fails = p.0; made = p.1.0; faults = p.1.1.0; starved = p.1.1.1 }) (λ _. refl)
