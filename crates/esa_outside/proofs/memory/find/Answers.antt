-- The first file of the name is what the map has of it.
use Rattle.std.proofs.Common.{Some, sym, ap, ◌∙◌}
use Rattle.esa_outside.proofs.FilesOf.{get-files_of-first, get-files_of-none}
use Rattle.esa_outside.proofs.memory.find.Goals as goal

pub returns-in-Some : goal.returns-in-Some
returns-in-Some c =
    ap Some c.deref.ensures.value
    ∙ sym (get-files_of-first c.args.name.now c.args.files.now c.in-Some.place c.index-files-place.result c.in-Some.ensures.found)

pub returns-in-None : goal.returns-in-None
returns-in-None c = sym (get-files_of-none c.args.name.now c.args.files.now c.in-None.ensures.none)
