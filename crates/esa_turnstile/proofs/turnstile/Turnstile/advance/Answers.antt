use Rattle.std.proofs.Common.{rules, ◌∷◌, [], ◌++◌, length, Some, ap, sym, ◌∙◌, subst}
use Rattle.atomic_table.specs.Table.{rest}
use Rattle.esa_turnstile.specs.Views.{is_inside, latest, first_number}
use Rattle.esa_turnstile.proofs.Advances.{advances}
use Rattle.esa_turnstile.specs.Marks.{IsBelow, marked}
use Rattle.esa_turnstile.proofs.turnstile.Turnstile.advance.Goals as goal

pub fetch_add-requires : goal.fetch_add-requires
fetch_add-requires g c =
    let e = c.exchange-before.ensures.3 in let x = c.args.value in let old = c.args.seat.now.me.0 in let new = c.exchange-before.new.seat.me.0 in
    let view = ap (λ m. m.0) e in (
      search rules,
      search rules,
      advances _ _ _ _ _ _ _ c.exchange-before.new.seat.me x
          (ap (λ v. is_inside v.stage) view ∙ c.requires.inside.0)
          (ap (λ m. m.1) e ∙ ap (λ s. (0, Some x) ∷ rest s) c.requires.inside.1)
          (ap (λ v. length v.members) view ∙ c.requires.single)
          (c.requires.added ∙ ap (λ v. (latest v).entries ++ first_number v.members ∷ []) (sym view))
          c.requires.sound
          c.requires.origin
          (subst (λ v. IsBelow (latest v).mark (marked g.T.Logged.mark g.T.Logged.trail x)) (sym view) c.requires.mark),
    )
