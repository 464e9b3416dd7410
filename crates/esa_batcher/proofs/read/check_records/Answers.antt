use Rattle.std.proofs.Common.{sym, ap, ◌∙◌}
use Rattle.esa_header.specs.Pieces.{pieces}
use Rattle.esa_header.proofs.PieceLaws.{length-pieces}
use Rattle.esa_params.specs.Form.{envelope_length}
use Rattle.esa_batcher.specs.Rising.{fall_at}
use Rattle.esa_batcher.proofs.BatchLaws.{order_by_number}
use Rattle.esa_batcher.proofs.read.check_records.Goals as goal

pub returns-in-None : goal.returns-in-None
returns-in-None c =
    let size = envelope_length c.args.form in
    c.check_number.ensures
    ∙ order_by_number c.args.m c.args.count (pieces size c.args.count c.args.records.now) (length-pieces size c.args.count c.args.records.now)
    (sym (sym c.in-None.is ∙ c.first_fall.ensures ∙ ap (λ n. fall_at 0 (pieces n c.args.count c.args.records.now)) c.envelope.ensures))
