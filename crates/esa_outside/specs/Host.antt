-- What is known of the files of the machine, or of its standard output.
use Rattle.std.specs.Prelude.{ℕ, List, refl}
use Rattle.std.specs.Coded.{Coded, code_by, coded×, coded_ℕ}
use Rattle.esa_outside.specs.Heard.{Event, heard_code}

-- how many calls failed, and what the others gave or took
pub record Account : Type 0 where
  pub faults : ℕ
  pub heard : List Event

abbrev pub account_code : Coded Account
account_code = code_by (ℕ × List Event) (coded× coded_ℕ heard_code) (λ a. (a.faults, a.heard)) (λ p. record { faults = p.0; heard = p.1 }) (λ _. refl)
