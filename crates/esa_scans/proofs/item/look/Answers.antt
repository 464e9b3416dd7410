use Rattle.std.proofs.Common.{[], ◌∷◌, ◌++◌, sym, ap, ◌∙◌}
use Rattle.std.proofs.lemmas.List.{take_rest}
use Rattle.esa_crowds.specs.Entries.{entry_in}
use Rattle.esa_scans.proofs.HeldLaws.{looked}
use Rattle.esa_scans.proofs.item.look.Goals as goal

pub returns-then-holds_real-clause-entries : goal.returns-then-holds_real-clause-entries
returns-then-holds_real-clause-entries c = λ key stands.
    c.add.ensures.entry key stands
    ∙ ap (λ body. c.args.table.now.entries ++ entry_in c.args.table.now.form key c.args.table.now.next body ∷ []) (take_rest c.args.bytes.now 1)
    ∙ ap (λ more. c.args.table.now.entries ++ more)
    (sym (looked c.args.table.now.form key c.args.table.now.next c.args.bytes.now c.requires.item (sym c.holds_real.ensures ∙ c.if-holds_real.true)))
