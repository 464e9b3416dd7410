-- What becomes of what is forwarded.
use Rattle.std.specs.Prelude.{◌≡◌}
use Rattle.esa_params.specs.Sizes.{Sizes}
use Rattle.esa_running.specs.declared.outlet.Outlet.{Outlet}
use Rattle.esa_running.specs.declared.outlet.Outlet.TheVariants as outlet
use Rattle.esa_running.specs.declared.purpose.Purpose.{Purpose}
use Rattle.esa_running.specs.declared.purpose.Purpose.TheVariants.{Count, HandOn}

-- what the batch is shuffled for
abbrev pub purpose_of : Outlet → Purpose
purpose_of (outlet.Count analysis) = Count
purpose_of outlet.HandOn = HandOn

-- there is room for all records of the plan
abbrev pub HasRoom : Sizes → Outlet → Type 0
HasRoom p (outlet.Count analysis) = (analysis.form ≡ p.form) × (analysis.room ≡ p.n)
HasRoom p outlet.HandOn = Unit {0}
