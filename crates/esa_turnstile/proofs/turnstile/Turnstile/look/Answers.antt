use Rattle.std.proofs.Common.{rules, Some, ◌∷◌, sym, ap, ◌∙◌, subst}
use Rattle.atomic_table.specs.Table.{rest}
use Rattle.esa_turnstile.specs.Views.{ticket}
use Rattle.esa_turnstile.specs.Steps.{IsFound}
use Rattle.esa_turnstile.proofs.Looks.{looks, same-value}
use Rattle.esa_turnstile.specs.Marks.{marked}
use Rattle.esa_turnstile.proofs.turnstile.Turnstile.look.Goals as goal

pub load-serving-requires : goal.load-serving-requires
load-serving-requires g c = (search rules, search rules, looks _ _ _ _ _ _ _ _ c.args.seat.now.me c.requires.waits.0)

pub exchange-value-requires : goal.exchange-value-requires
exchange-value-requires g c =
    let got = c.load-serving.ensures.2.0 (c.if-serving-ticket.false ∙ sym (ap ticket c.requires.waits.0)) in
    let has = ap (λ m. m.1) got.1 in
    (search rules, (Some got.0, has ∙ (λ i. (0, Some got.0) ∷ sym (ap rest has) i)))

pub returns-clause-found : goal.returns-clause-found
returns-clause-found g c =
    let got = c.load-serving.ensures.2.0 (c.if-serving-ticket.false ∙ sym (ap ticket c.requires.waits.0)) in
    let has = ap (λ m. m.1) got.1 in
    let same = same-value _ _ _ got.0 c.unwrap.result _ has c.exchange-value.ensures.2 c.unwrap.ensures in
    subst (IsFound g.T.Logged.log g.T.Logged.origin g.T.Logged.IsSound (marked g.T.Logged.mark g.T.Logged.trail) c.args.self.now.table.shared.key c.args.seat.now.me.0) same (got.2 _ c.requires.table.1)
