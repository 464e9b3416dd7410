-- Why a device was not laid.
use Rattle.std.specs.Prelude.{◌≡◌, ℕ, ◌≤◌, Result, Ok, Err}
use Rattle.esa_outside.specs.Cause.{Rose}
use Rattle.esa_device.specs.declared.device.LayRefused.{LayRefused}
use Rattle.esa_device.specs.declared.device.LayRefused.TheVariants.{Failed, OutOfMemory}

-- by the count of faults: it failed only where the count rose; another answer leaves the count
abbrev pub Counted : {T : Type 0} → ℕ → ℕ → Result T LayRefused → Type 0
Counted before now (Ok done) = now ≡ before
Counted before now (Err Failed) = (before ≤ now) × Rose before now
Counted before now (Err OutOfMemory) = now ≡ before
