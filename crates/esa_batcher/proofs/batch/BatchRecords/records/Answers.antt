use Rattle.std.proofs.Common.{◌≡◌, ◌+◌, ◌-◌, ◌*◌, length, take, drop, ap, ◌∙◌, arith}
use Rattle.esa_params.specs.Form.{envelope_length}
use Rattle.esa_batcher.proofs.Held.{held-inside, held-part}
use Rattle.esa_batcher.proofs.batch.BatchRecords.records.Goals as goal

pub slice_bounds-copy_from_slice-end : goal.slice_bounds-copy_from_slice-end
slice_bounds-copy_from_slice-end c =
    let fits = held-inside c.self.inside c.args.self.now c.self.view_is c.self.invariant c.envelope.result (c.envelope.ensures ∙ ap envelope_length c.form.ensures) c.args.first (length c.args.out.now) c.requires.whole in
    omega (arith, fits, ap length c.bytes.ensures)

pub returns-clause-records : goal.returns-clause-records
returns-clause-records c = λ records n told part within.
    let whole : (c.args.first * c.envelope.result + length c.args.out.now) - c.args.first * c.envelope.result ≡ length c.args.out.now = omega arith in
    c.copy_from_slice.ensures.after ∙ (λ i. take (whole i) (drop (c.args.first * c.envelope.result) (c.bytes.ensures i)))
    ∙ held-part c.self.inside c.args.self.now c.self.view_is c.self.invariant c.envelope.result (c.envelope.ensures ∙ ap envelope_length c.form.ensures) c.args.first n (length c.args.out.now) records told part within
