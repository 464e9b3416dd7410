-- Items as a block has them.
use Rattle.std.specs.Prelude.{◌≡◌, ◌≢◌, ℕ, ◌-◌, true, length, drop}
use Rattle.esa_report.specs.declared.item.Item.{Item}
use Rattle.esa_report.specs.declared.item.Kind.TheVariants.{Dummy}
use Rattle.esa_report.specs.Item.{is_well_formed}
use Rattle.esa_report.specs.Zero.{is_zero}

-- an item that so many bytes spell: it is well formed, and its body is zero behind them
pub record IsSpelled (size : ℕ) (item : Item) : Type 0 where
  pub body : length item.body ≡ 264
  pub well_formed : is_well_formed item ≡ true
  pub zero : is_zero (drop (size - 1) item.body) ≡ true

-- the item isn't a dummy
abbrev pub IsHeld : Item → Type 0
IsHeld item = item.kind ≢ Dummy
