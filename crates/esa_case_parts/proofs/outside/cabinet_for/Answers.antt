-- A new cabinet holds no files.
use Rattle.std.proofs.Common.{◌∙◌, ap}
use Rattle.esa_outside.specs.Memory.{files_of}
use Rattle.esa_case_parts.specs.Laid.{laid}
use Rattle.esa_case_parts.proofs.outside.cabinet_for.Goals as goal

pub returns-clause-files : goal.returns-clause-files
unfolding files_of
returns-clause-files c =
    c.in_ok-put_all.ensures.files
    ∙ ap (λ held. laid held c.deref-2.result.now) (c.make-cabinet.ensures.files ∙ ap files_of c.new.ensures.items)
    ∙ ap (laid _) c.deref-2.ensures.value
