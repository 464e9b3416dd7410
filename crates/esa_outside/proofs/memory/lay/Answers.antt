-- A file is put in its place, or behind the others.
use Rattle.std.proofs.Common.{ℕ, String, Vec, Global, ap, ◌∙◌, subst}
use Rattle.std.specs.String.{string_bytes}
use Rattle.std.specs.FinMap as map
use Rattle.esa_outside.specs.Memory.{files_of, IsFirstOf}
use Rattle.esa_outside.proofs.FilesOf.{files_of-set, files_of-push}
use Rattle.esa_outside.proofs.memory.lay.Goals as goal

pub returns-in-Some-clause-ok : goal.returns-in-Some-clause-ok
returns-in-Some-clause-ok c =
    let first = subst (λ files. IsFirstOf c.args.name.now files c.in-Some.place) c.deref.ensures.value c.in-Some.ensures.found in
    files_of-set c.args.name.now c.args.files.now.items c.in-Some.place c.replace.new.file first
    (c.replace.ensures.name ∙ ap (λ (file : String Global × Vec ℕ Global). string_bytes file.0) c.index_mut.ensures.value ∙ first.named c.index_mut.result.now)
    ∙ ap (map.insert (files_of c.args.files.now.items) c.args.name.now) c.replace.ensures.bytes

pub returns-in_ok-push-in-None-clause-ok : goal.returns-in_ok-push-in-None-clause-ok
returns-in_ok-push-in-None-clause-ok c =
    let none = rw c.deref.ensures.value at c.in-None.ensures.none in
    ap files_of c.in_ok-push-in-None.ensures.items
    ∙ files_of-push c.args.name.now c.args.files.now.items (c.in_ok-name-in-None.name, c.args.bytes) none c.in_ok-name-in-None.ensures.ok
