-- What a device counts of its calls.
use Rattle.std.specs.Prelude.{ℕ, Some}
use Rattle.esa_params.specs.declared.slot.Op.{Op}
use Rattle.esa_outside.specs.Calls.{up}
use Rattle.esa_device.specs.declared.counts.Counts.{Counts}

-- after one more read or write
abbrev pub called : Counts → Op → ℕ → Counts
called counts op slot = record counts { calls = up counts.calls; last_call = Some (op, slot) }

-- after one more fault
abbrev pub faulted : Counts → Counts
faulted counts = record counts { faults = up counts.faults }
