-- The refusals that a batch file shares with every file of records.
use Rattle.esa_header.specs.declared.header.HeaderRefused.{HeaderRefused}
use Rattle.esa_header.specs.declared.header.HeaderRefused.TheVariants as header
use Rattle.esa_batcher.specs.declared.refused.BatchRefused.{BatchRefused}
use Rattle.esa_batcher.specs.declared.refused.BatchRefused.TheVariants as batch

abbrev pub refusal_of : HeaderRefused → BatchRefused
refusal_of (header.Cut cut) = batch.Cut cut
refusal_of header.BadMagic = batch.BadMagic
refusal_of header.BadVersion = batch.BadVersion
refusal_of header.BadSize = batch.BadSize
refusal_of header.Trailing = batch.Trailing
