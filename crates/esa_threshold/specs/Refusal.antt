-- The refusals that a forward file shares with every file of records.
use Rattle.esa_header.specs.declared.header.HeaderRefused.{HeaderRefused}
use Rattle.esa_header.specs.declared.header.HeaderRefused.TheVariants as header
use Rattle.esa_threshold.specs.declared.refused.ForwardRefused.{ForwardRefused}
use Rattle.esa_threshold.specs.declared.refused.ForwardRefused.TheVariants as forward

abbrev pub refusal_of : HeaderRefused → ForwardRefused
refusal_of (header.Cut cut) = forward.Cut cut
refusal_of header.BadMagic = forward.BadMagic
refusal_of header.BadVersion = forward.BadVersion
refusal_of header.BadSize = forward.BadSize
refusal_of header.Trailing = forward.Trailing
