use Rattle.std.proofs.Common.{drop, refl, ap, ◌∙◌}
use Rattle.esa_batcher.proofs.BatchLaws.{held}
use Rattle.esa_batcher.proofs.read.tested_batch.Goals as goal

pub invariant_of-result : goal.invariant_of-result
invariant_of-result c =
    let bytes = c.args.bytes.now in
    held c.args.m bytes c.split_at.result.1.now c.in_ok-header.header c.in_ok-envelopes.envelopes _
    (c.in_ok-header.ensures.spelled refl) (c.split_at.ensures.back ∙ ap (λ n. drop n bytes) c.length.ensures) c.in_ok-check_records.ensures c.in_ok-envelopes.ensures.form c.in_ok-envelopes.ensures.list
