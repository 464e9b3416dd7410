-- The bits that flip as a case says.
use Rattle.esa_case_file.specs.declared.Flip.{Flip}
use Rattle.esa_device.specs.declared.memory.Flip.{Flip as DeviceFlip}

-- the flip of a device that a case's flip asks for
abbrev pub flip_of : Flip → DeviceFlip
flip_of flip = record { access = flip.access; byte = flip.byte; mask = flip.mask }
