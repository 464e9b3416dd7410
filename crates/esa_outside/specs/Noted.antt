-- What is heard of a call.
use Rattle.esa_outside.specs.Heard.{Event, length_of, part_of, started, added, printed}
use Rattle.esa_outside.specs.declared.heard.Note.{Note}
use Rattle.esa_outside.specs.declared.heard.Note.TheVariants as note

abbrev pub event_of : Note → Event
event_of (note.LengthOf name n) = length_of name.now n
event_of (note.PartOf name at bytes) = part_of name.now at bytes.now
event_of (note.Started name) = started name.now
event_of (note.Added name bytes) = added name.now bytes.now
event_of (note.Printed text) = printed text.now
