-- A new cabinet holds no files.
use Rattle.std.proofs.Common.{◌∙◌, ap}
use Rattle.esa_outside.specs.Memory.{files_of}
use Rattle.esa_case_parts.specs.Laid.{laid}
use Rattle.esa_case_parts.proofs.outside.cabinet_after.Goals as goal

pub returns : goal.returns
unfolding files_of
returns c =
    c.in_ok-put_all-2.ensures.files
    ∙ ap (λ held. laid held c.deref-2.result.now)
    (c.in_ok-put_all.ensures.files
    ∙ ap (λ held. laid held c.deref.result.now) (c.make-cabinet.ensures.files ∙ ap files_of c.new.ensures.items)
    ∙ ap (laid _) c.deref.ensures.value)
    ∙ ap (laid _) c.deref-2.ensures.value
