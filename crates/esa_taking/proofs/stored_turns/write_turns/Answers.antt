use Rattle.std.proofs.Common.{[], ap, subst, ◌∙◌}
use Rattle.std.specs.Prelude.{OnOk, OnErr, flat_map}
use Rattle.std.proofs.lemmas.Result.{err_from_is_err_and}
use Rattle.esa_page.specs.Underway.{IsWhole, IsLeft}
use Rattle.esa_page.specs.Writing.{HasWritten, HasBroken}
use Rattle.esa_page.proofs.HeardLaws.{HasBroken-longer}
use Rattle.esa_page.proofs.UnderwayLaws.{IsLeft-longer}
use Rattle.esa_spec.specs.Files.{turns_bytes}
use Rattle.esa_spec.specs.Histories.{lists}
use Rattle.esa_taking.specs.StoredTurns.{entry_line}
use Rattle.esa_taking.proofs.TurnsLaws.{history_lines}
use Rattle.esa_taking.proofs.stored_turns.write_turns.Goals as goal

pub returns-in_err-page-clause-left : goal.returns-in_err-page-clause-left
returns-in_err-page-clause-left g c =
    let p = err_from_is_err_and c.from_residual.result c.from_residual.ensures.1 in
    rw p.1 (IsLeft-longer (g.K.Cabinet.told c.args.cabinet.now) c.args.name.now [] (turns_bytes (lists c.args.owner c.args.history.now)) (g.K.Cabinet.told c.start.new.cabinet) c.in_err-page.ensures.failed)

pub returns-in_err-page-clause-heard_broken : goal.returns-in_err-page-clause-heard_broken
returns-in_err-page-clause-heard_broken g c =
    let p = err_from_is_err_and c.from_residual.result c.from_residual.ensures.1 in
    rw p.1 (HasBroken-longer (g.K.Cabinet.heard c.args.cabinet.now) c.args.name.now [] (turns_bytes (lists c.args.owner c.args.history.now)) (g.K.Cabinet.heard c.start.new.cabinet) c.in_err-page.ensures.heard_broken)

pub returns-in_err-put_entries-clause-left : goal.returns-in_err-put_entries-clause-left
returns-in_err-put_entries-clause-left g c =
    let p = err_from_is_err_and c.from_residual-in_err-put_entries.result c.from_residual-in_err-put_entries.ensures.1 in
    let before = g.K.Cabinet.told c.args.cabinet.now in
    let text = ap (flat_map (entry_line c.args.owner)) c.inner_entries.ensures ∙ history_lines c.args.owner c.args.history.now c.requires in
    rw p.1 (subst (λ text. IsLeft before c.args.name.now text (g.K.Cabinet.told c.put_entries.new.cabinet)) text (c.in_err-put_entries.ensures.failed before [] c.in_ok-page.ensures.started))

pub returns-in_err-put_entries-clause-heard_broken : goal.returns-in_err-put_entries-clause-heard_broken
returns-in_err-put_entries-clause-heard_broken g c =
    let p = err_from_is_err_and c.from_residual-in_err-put_entries.result c.from_residual-in_err-put_entries.ensures.1 in
    let before = g.K.Cabinet.heard c.args.cabinet.now in
    let text = ap (flat_map (entry_line c.args.owner)) c.inner_entries.ensures ∙ history_lines c.args.owner c.args.history.now c.requires in
    rw p.1 (subst (λ text. HasBroken before c.args.name.now text (g.K.Cabinet.heard c.put_entries.new.cabinet)) text (c.in_err-put_entries.ensures.heard_broken before [] c.in_ok-page.ensures.heard))

pub returns-clause-whole : goal.returns-clause-whole
returns-clause-whole g c =
    let before = g.K.Cabinet.told c.args.cabinet.now in
    let text = ap (flat_map (entry_line c.args.owner)) c.inner_entries.ensures ∙ history_lines c.args.owner c.args.history.now c.requires in
    subst (λ text. OnOk c.finish.result (IsWhole before c.args.name.now text (g.K.Cabinet.told c.finish.new.cabinet))) text
    (c.finish.ensures.whole before _ (c.in_ok-put_entries.ensures.added before [] c.in_ok-page.ensures.started))

pub returns-clause-left : goal.returns-clause-left
returns-clause-left g c =
    let before = g.K.Cabinet.told c.args.cabinet.now in
    let text = ap (flat_map (entry_line c.args.owner)) c.inner_entries.ensures ∙ history_lines c.args.owner c.args.history.now c.requires in
    subst (λ text. OnErr c.finish.result (IsLeft before c.args.name.now text (g.K.Cabinet.told c.finish.new.cabinet))) text
    (c.finish.ensures.failed before _ (c.in_ok-put_entries.ensures.added before [] c.in_ok-page.ensures.started))

pub returns-clause-heard : goal.returns-clause-heard
returns-clause-heard g c =
    let before = g.K.Cabinet.heard c.args.cabinet.now in
    let text = ap (flat_map (entry_line c.args.owner)) c.inner_entries.ensures ∙ history_lines c.args.owner c.args.history.now c.requires in
    subst (λ text. OnOk c.finish.result (HasWritten before c.args.name.now text (g.K.Cabinet.heard c.finish.new.cabinet))) text
    (c.finish.ensures.heard before _ (c.in_ok-put_entries.ensures.heard before [] c.in_ok-page.ensures.heard))

pub returns-clause-heard_broken : goal.returns-clause-heard_broken
returns-clause-heard_broken g c =
    let before = g.K.Cabinet.heard c.args.cabinet.now in
    let text = ap (flat_map (entry_line c.args.owner)) c.inner_entries.ensures ∙ history_lines c.args.owner c.args.history.now c.requires in
    subst (λ text. OnErr c.finish.result (HasBroken before c.args.name.now text (g.K.Cabinet.heard c.finish.new.cabinet))) text
    (c.finish.ensures.heard_broken before _ (c.in_ok-put_entries.ensures.heard before [] c.in_ok-page.ensures.heard))
