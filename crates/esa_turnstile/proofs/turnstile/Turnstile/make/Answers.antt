use Rattle.std.proofs.Common.{Some, [], ◌∷◌, ◌++◌, ap, ◌∙◌}
use Rattle.esa_turnstile.proofs.Closing.{new-for}
use Rattle.esa_turnstile.proofs.Dealing.{starts-with}
use Rattle.esa_turnstile.proofs.turnstile.Turnstile.make.Goals as goal

pub new-requires : goal.new-requires
new-requires g c =
    starts-with _ _ _ _ _ c.args.value _ c.of.ensures (c.push_reserved.ensures.items ∙ ap (λ xs. xs ++ Some c.args.value ∷ []) c.in-Ok-with_capacity.ensures.items) c.requires.empty c.requires.sound c.requires.supply

pub returns-in-Ok-new-clause-dealt : goal.returns-in-Ok-new-clause-dealt
returns-in-Ok-new-clause-dealt g c = λ k d lt.
    let h = c.deal_all.ensures.dealt k d lt in
    let key = c.in-Ok-new.ensures.ok.5 in
    (h.0, new-for _ _ _ _ _ (ap (λ a. a.tickets) key) (ap (λ a. g.T.Logged.mark a.opened.value) key ∙ ap g.T.Logged.mark c.of.ensures) h.1)
