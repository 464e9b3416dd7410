-- Bytes are added to the first file of the name.
use Rattle.std.proofs.Common.{◌≡◌, ℕ, ◌++◌, String, Vec, Global, Some, refl, sym, ap, ◌∙◌, subst}
use Rattle.std.specs.String.{string_bytes}
use Rattle.std.specs.FinMap as map
use Rattle.esa_outside.specs.Memory.{files_of, IsFirstOf}
use Rattle.esa_outside.proofs.FilesOf.{files_of-set, files_of-kept, get-files_of-first, get-files_of-none}
use Rattle.esa_outside.proofs.memory.extend.Goals as goal

pub returns-in-Ok-clause-added : goal.returns-in-Ok-clause-added
returns-in-Ok-clause-added c = λ held there.
    let first = subst (λ files. IsFirstOf c.args.name.now files c.in-Some.place) c.deref.ensures.value c.in-Some.ensures.found in
    let named = c.grow.ensures.name ∙ ap (λ (file : String Global × Vec ℕ Global). string_bytes file.0) c.index_mut.ensures.value ∙ first.named c.index_mut.result.now in
    let at : Some c.index_mut.result.now.1.items ≡ Some held =
    ap (λ (file : String Global × Vec ℕ Global). Some file.1.items) c.index_mut.ensures.value
    ∙ sym (get-files_of-first c.args.name.now c.args.files.now.items c.in-Some.place c.index_mut.result.now first) ∙ there in
    let was : c.index_mut.result.now.1.items ≡ held = cc in
    files_of-set c.args.name.now c.args.files.now.items c.in-Some.place c.grow.new.file first named
    ∙ ap (map.insert (files_of c.args.files.now.items) c.args.name.now) (c.in-Ok.ensures.ok ∙ ap (λ held. held ++ c.args.bytes.now) was)

pub returns-in-Ok-clause-absent : goal.returns-in-Ok-clause-absent
returns-in-Ok-clause-absent c =
    let first = subst (λ files. IsFirstOf c.args.name.now files c.in-Some.place) c.deref.ensures.value c.in-Some.ensures.found in
    let there = get-files_of-first c.args.name.now c.args.files.now.items c.in-Some.place c.index_mut.result.now first in
    (λ ended. cc, λ absent. cc (there, absent))

pub returns-in-Err-clause-absent : goal.returns-in-Err-clause-absent
returns-in-Err-clause-absent c =
    let first = subst (λ files. IsFirstOf c.args.name.now files c.in-Some.place) c.deref.ensures.value c.in-Some.ensures.found in
    let there = get-files_of-first c.args.name.now c.args.files.now.items c.in-Some.place c.index_mut.result.now first in
    (λ ended. cc, λ absent. cc (there, absent))

pub returns-in-Err-clause-err : goal.returns-in-Err-clause-err
returns-in-Err-clause-err c =
    let first = subst (λ files. IsFirstOf c.args.name.now files c.in-Some.place) c.deref.ensures.value c.in-Some.ensures.found in
    files_of-kept c.args.name.now c.args.files.now.items c.in-Some.place c.index_mut.result.now c.grow.new.file first
    (c.grow.ensures.name ∙ ap (λ (file : String Global × Vec ℕ Global). string_bytes file.0) c.index_mut.ensures.value ∙ first.named c.index_mut.result.now)
    (c.in-Err.ensures.err ∙ ap (λ (file : String Global × Vec ℕ Global). file.1.items) c.index_mut.ensures.value)

pub returns-in-None-clause-absent : goal.returns-in-None-clause-absent
returns-in-None-clause-absent c =
    let none = rw c.deref.ensures.value at c.in-None.ensures.none in
    (λ ended. get-files_of-none c.args.name.now c.args.files.now.items none, λ absent. refl)
