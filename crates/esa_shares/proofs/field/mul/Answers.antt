use Rattle.std.proofs.Common.{◌∙◌, sym, ap}
use Rattle.std.specs.Int.RustNames.{bit_xor}
use Rattle.esa_shares.specs.Field.{times}
use Rattle.esa_shares.proofs.FieldLaws.{times_comm, times_assoc, sum_times, one_times}
use Rattle.esa_shares.proofs.field.mul.Goals as goal

pub returns-clause-commutes : goal.returns-clause-commutes
returns-clause-commutes c = c.multiply.ensures ∙ times_comm c.args.a c.args.b

pub returns-clause-associates : goal.returns-clause-associates
returns-clause-associates c = λ z. ap (λ p. times p z) c.multiply.ensures ∙ times_assoc c.args.a c.args.b z

pub returns-clause-distributes : goal.returns-clause-distributes
returns-clause-distributes c = λ z. sum_times c.args.a z c.args.b ∙ ap (λ p. bit_xor p (times z c.args.b)) (sym c.multiply.ensures)

pub returns-clause-one : goal.returns-clause-one
returns-clause-one c = λ is. c.multiply.ensures ∙ ap (times c.args.a) is ∙ one_times c.args.a c.ranges.a.fits
