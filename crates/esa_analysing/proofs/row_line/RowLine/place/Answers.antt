use Rattle.std.proofs.Common.{length, take, replicate, refl, ap, ◌∙◌}
use Rattle.esa_bytes.specs.Decimal.{decimal_of}
use Rattle.esa_analysing.proofs.Placing.{placed_parts}
use Rattle.esa_analysing.proofs.row_line.RowLine.place.Goals as goal

pub returns-clause-text : goal.returns-clause-text
returns-clause-text c =
    let pad = c.saturating_sub.result in
    let count = c.put_decimal-length.result in
    placed_parts c.args.self.now c.add.new.self c.add-2.new.self (take pad (replicate 10 32)) (take count c.put_decimal-length.new.out) c.args.number count pad c.add.ensures c.add-2.ensures refl c.saturating_sub.ensures
    (c.put_decimal-length.ensures.number ∙ ap (λ n. length (decimal_of n)) c.from.ensures)
    (c.put_decimal-length.ensures.digits ∙ ap decimal_of c.from.ensures)
