use Rattle.std.proofs.Common.{rules, [], ap, ◌∙◌}
use Rattle.esa_turnstile.specs.Views.{rest_of}
use Rattle.esa_turnstile.proofs.Dealing.{deals, rest-is}
use Rattle.esa_turnstile.specs.Marks.{marked}
use Rattle.esa_turnstile.proofs.turnstile.Turnstile.deal.Goals as goal

pub split_seat-seat-requires : goal.split_seat-seat-requires
split_seat-seat-requires g c = (search rules, search rules, deals _ _ _ _ _ _ c.args.number c.args.seat.now.me.0 c.requires.more (ap (λ m. m.0) c.requires.from))

pub returns-clause-rest : goal.returns-clause-rest
returns-clause-rest g c =
    c.split_seat-seat.ensures.2 ∙ (ap (λ m. (rest_of m.0, m.1)) c.requires.from
    ∙ ap (λ v. (v, [])) (rest-is g.T.Logged.log g.T.Logged.origin g.T.Logged.IsSound (marked g.T.Logged.mark g.T.Logged.trail) c.args.self.now.table.shared.key c.args.number c.requires.more))
