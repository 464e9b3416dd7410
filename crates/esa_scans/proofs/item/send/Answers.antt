use Rattle.std.proofs.Common.{◌++◌, sym, ap, ◌∙◌}
use Rattle.std.proofs.lemmas.List.{take_rest}
use Rattle.esa_scans.specs.Held.{is_marked}
use Rattle.esa_scans.specs.Joined.{Joined}
use Rattle.esa_scans.proofs.HeldLaws.{sent_real}
use Rattle.esa_scans.proofs.item.send.Goals as goal

pub returns-then-holds_real-clause-bytes : goal.returns-then-holds_real-clause-bytes
returns-then-holds_real-clause-bytes c =
    ap (λ (sent : Joined). sent.bytes) c.put.ensures
    ∙ ap (λ more. c.args.sent.now.bytes ++ more)
    (take_rest c.args.bytes.now 33
    ∙ sym (sent_real c.args.table.now.form (is_marked c.args.table.now.kept) c.args.position c.args.bytes.now c.requires.item
    (sym c.is_kept.ensures ∙ c.if-is_kept.true) (sym c.holds_real.ensures ∙ c.if-holds_real.true)))
