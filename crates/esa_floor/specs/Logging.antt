-- What a turn adds to the log of the recorder: its access, if it makes one, with the bytes that it gave or took.
use Rattle.std.specs.Prelude.{ℕ, List, [], ◌∷◌, Option, Some, None}
use Rattle.esa_device.specs.Logs.{Carried}
use Rattle.esa_envelope.specs.declared.keys.Keys.{Keys}
use Rattle.esa_params.specs.Sizes.{Sizes}
use Rattle.esa_params.specs.Slots.{access_of, at}
use Rattle.esa_params.specs.declared.slot.Op.TheVariants.{Read as Reads, Write as Writes}
use Rattle.esa_params.specs.declared.slot.Region.TheVariants.{Input}
use Rattle.esa_report.specs.declared.item.Item.{Item}
use Rattle.esa_spec.specs.Traces.{chunk_slot}
use Rattle.esa_spec.specs.declared.event.Event.{Event}
use Rattle.esa_spec.specs.declared.event.Event.TheVariants.{Claim, Read, Exchange, Write, Done, Idle}
use Rattle.esa_floor.specs.Private.{sealed_chunk}
use Rattle.esa_floor.specs.declared.turn.Stop.{Stop}
use Rattle.esa_floor.specs.declared.turn.Stop.TheVariants.{StashOverflow, Tampered, DeviceFault}

-- the bytes of an access, by the stop that there is after it: none moved where the device failed
abbrev pub moved_unless : Option Stop → List ℕ → Option (List ℕ)
moved_unless None bytes = Some bytes
moved_unless (Some (DeviceFault number)) bytes = None
moved_unless (Some (Tampered number)) bytes = Some bytes
moved_unless (Some (StashOverflow j)) bytes = Some bytes

-- the read of the block of bucket j, which gave these bytes
abbrev pub read_of : Sizes → ℕ → ℕ → Option Stop → List ℕ → Carried
read_of p a j s given = record { access = access_of p a Reads (at Input j); bytes = moved_unless s given }

-- the write of the chunk of bucket j for the target i, which took its seal for that slot and the attempt
abbrev pub write_of : Sizes → Keys → ℕ → ℕ → ℕ → Option Stop → List Item → Carried
write_of p run a j i s chunks = record { access = access_of p a Writes (chunk_slot p j i); bytes = moved_unless s (sealed_chunk p run j a chunks i) }

-- what a turn with this event adds, by what its read gave, or by the chunks of its worker
abbrev pub noted_of : Sizes → Keys → ℕ → Event → Option Stop → List ℕ → List Item → List Carried
noted_of p run a (Claim j) s given chunks = []
noted_of p run a (Read j) s given chunks = read_of p a j s given ∷ []
noted_of p run a (Exchange j) s given chunks = []
noted_of p run a (Write j i) s given chunks = write_of p run a j i s chunks ∷ []
noted_of p run a Done s given chunks = []
noted_of p run a Idle s given chunks = []
