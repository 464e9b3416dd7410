use Rattle.std.proofs.Common.{◌≡◌, ◌-◌, ℕ, List, length, drop, sym, ap, ◌∙◌, arith, length-take}
use Rattle.std.proofs.lemmas.List.{length-replicate}
use Rattle.esa_report.specs.declared.item.Item.{Item}
use Rattle.esa_report.specs.declared.item.Kind.TheVariants.{Real}
use Rattle.esa_report.specs.Item.{is_well_formed}
use Rattle.esa_report.specs.Zero.{is_zero}
use Rattle.esa_report.proofs.ZeroLemmas.{is_zero-zero_body}
use Rattle.esa_vault.specs.Items.{item_from}
use Rattle.esa_vault.proofs.ItemLemmas.{full_body-over, is_zero-full, is_zero-rest}
use Rattle.esa_vault.proofs.item.item_of.Goals as goal

-- a real item with a body
abbrev real : List ℕ → Item
real body = record { kind = Real; body = body }

pub returns-then-not-unseal_with-clause-well_formed : goal.returns-then-not-unseal_with-clause-well_formed
returns-then-not-unseal_with-clause-well_formed c = ap is_well_formed c.malformed.ensures ∙ is_zero-zero_body

pub returns-then-not-unseal_with-clause-padded : goal.returns-then-not-unseal_with-clause-padded
returns-then-not-unseal_with-clause-padded c =
    ap (λ (item : Item). is_zero (drop (length c.args.envelope.now - 40) item.body)) c.malformed.ensures
    ∙ is_zero-rest (length c.args.envelope.now - 40)

pub returns-clause-value : goal.returns-clause-value
returns-clause-value c =
    let size : length c.unseal_with.new.out ≡ length c.args.envelope.now - 40 = omega (arith, length-take {A = ℕ}, length-replicate {A = ℕ}) in
    ap real (full_body-over c.unseal_with.new.out (length c.args.envelope.now - 40) size)
    ∙ sym (ap item_from c.if-not-unseal_with.ensures.value)

pub returns-clause-padded : goal.returns-clause-padded
returns-clause-padded c =
    let size : length c.unseal_with.new.out ≡ length c.args.envelope.now - 40 = omega (arith, length-take {A = ℕ}, length-replicate {A = ℕ}) in
    ap (λ body. is_zero (drop (length c.args.envelope.now - 40) body)) (full_body-over c.unseal_with.new.out (length c.args.envelope.now - 40) size)
    ∙ is_zero-full c.unseal_with.new.out (length c.args.envelope.now - 40) size
