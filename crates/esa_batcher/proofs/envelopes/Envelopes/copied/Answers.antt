use Rattle.std.proofs.Common.{◌≡◌, ◌*◌, ◌/◌, length, sym, ap, ◌∙◌, arith}
use Rattle.std.specs.Simd.{first_chunks}
use Rattle.esa_header.specs.Pieces.{pieces}
use Rattle.esa_params.specs.Form.{envelope_length}
use Rattle.esa_batcher.proofs.Parts.{pieces-chunks}
use Rattle.esa_batcher.proofs.envelopes.Envelopes.copied.Goals as goal

pub returns-in_ok-from_slice-in-One-clause-list : goal.returns-in_ok-from_slice-in-One-clause-list
returns-in_ok-from_slice-in-One-clause-list c = λ count whole.
    let bytes = c.args.bytes.now in
    let long : length bytes ≡ 176 * count = whole ∙ ap (λ form. envelope_length form * count) c.in-One.is in
    let number : length bytes / 176 ≡ count = omega arith in
    c.in_ok-from_slice-in-One.ensures.items ∙ c.as_chunks.ensures.front ∙ ap (λ n. first_chunks 176 n bytes) number ∙ pieces-chunks 176 count bytes
    ∙ ap (λ form. pieces (envelope_length form) count bytes) (sym c.in-One.is)

pub returns-in_ok-from_slice-in-Two-clause-list : goal.returns-in_ok-from_slice-in-Two-clause-list
returns-in_ok-from_slice-in-Two-clause-list c = λ count whole.
    let bytes = c.args.bytes.now in
    let long : length bytes ≡ 304 * count = whole ∙ ap (λ form. envelope_length form * count) c.in-Two.is in
    let number : length bytes / 304 ≡ count = omega arith in
    c.in_ok-from_slice-in-Two.ensures.items ∙ c.as_chunks-in-Two.ensures.front ∙ ap (λ n. first_chunks 304 n bytes) number ∙ pieces-chunks 304 count bytes
    ∙ ap (λ form. pieces (envelope_length form) count bytes) (sym c.in-Two.is)
