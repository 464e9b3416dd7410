use Rattle.std.proofs.Common.{sym, ap, ◌∙◌}
use Rattle.std.specs.Option.{option_and_then}
use Rattle.esa_report.specs.Report.{value_in}
use Rattle.esa_analyser.proofs.KeyLaws.{turns-found}
use Rattle.esa_analyser.proofs.key.open.Goals as goal

pub returns-clause-value : goal.returns-clause-value
returns-clause-value g c =
    let is = turns-found g.row.P c.unseal_with.new.out c.turn.new.key c.value_of.result c.requires.size c.unseal_with.auto.out c.if-is_none.ensures c.value_of.ensures.found c.turn.ensures in
    sym (ap (option_and_then value_in) c.if-not-unseal_with.ensures.value ∙ is.value)

pub returns-clause-key : goal.returns-clause-key
returns-clause-key g c =
    (turns-found g.row.P c.unseal_with.new.out c.turn.new.key c.value_of.result c.requires.size c.unseal_with.auto.out c.if-is_none.ensures c.value_of.ensures.found c.turn.ensures).is_key
