use Rattle.std.proofs.Common.{◌+◌, ◌*◌, ◌<◌, ◌≤◌, arith, ap, ◌∙◌, length, get_or, unwrap_or}
use Rattle.std.specs.Result.{result_ok}
use Rattle.hex.specs.Hex.{hex_digit_value}
use Rattle.hex.proofs.HexLemmas.{IsOk-decode_sized}
use Rattle.hex.proofs.Pairs.{decode_start, decode_step, decode_err, decode_done, decode_sized-pairs}
use Rattle.esa_bytes.proofs.HexadecimalLemmas.{pair_read, pair_refused}
use Rattle.esa_bytes.proofs.hexadecimal.hex_into.Goals as goal

pub loop-place-init : goal.loop-place-init
loop-place-init c = decode_start c.args.text.now c.args.out.now

pub returns-then-byte-ge-NONE-clause-value : goal.returns-then-byte-ge-NONE-clause-value
returns-then-byte-ge-NONE-clause-value c =
    let text = c.args.text.now in
    let place = c.loop-place.place in
    let high = get_or text (2 * place) 0 in
    let low = get_or text (2 * place + 1) 0 in
    let large : 256 ≤ unwrap_or (hex_digit_value high) 256 * 16 + unwrap_or (hex_digit_value low) 256 =
    rw (← c.digit_value.ensures, ← c.digit_value-in-loop-place.ensures) c.if-byte-ge-NONE.true in
    let refused = pair_refused high low (2 * place) large in
    ap result_ok (decode_sized-pairs _ _ c.if-text-ne0.false c.if-text-out.false
    ∙ decode_err text c.loop-place.out place refused.0 (omega arith) refused.1 c.loop-place.invariant)

pub loop-place-preserved : goal.loop-place-preserved
loop-place-preserved c =
    let text = c.args.text.now in
    let place = c.loop-place.place in
    let high = get_or text (2 * place) 0 in
    let low = get_or text (2 * place + 1) 0 in
    let fits : unwrap_or (hex_digit_value high) 256 * 16 + unwrap_or (hex_digit_value low) 256 < 256 =
    rw (← c.digit_value.ensures, ← c.digit_value-in-loop-place.ensures) c.if-byte-ge-NONE.false in
    rw (c.digit_value.ensures, c.digit_value-in-loop-place.ensures)
    (decode_step text c.loop-place.out place _ (omega arith) (omega arith) (pair_read high low (2 * place) fits) c.loop-place.invariant)

pub returns-clause-value : goal.returns-clause-value
returns-clause-value c =
    ap result_ok (decode_sized-pairs _ _ c.if-text-ne0.false c.if-text-out.false
    ∙ decode_done c.args.text.now c.loop-place.out c.loop-place.place (omega arith) (omega arith) c.loop-place.invariant)

pub returns-clause-accepted : goal.returns-clause-accepted
returns-clause-accepted c =
    let digits = IsOk-decode_sized c.args.text.now (length c.args.out.now) in
    let decoded = decode_sized-pairs _ _ c.if-text-ne0.false c.if-text-out.false
    ∙ decode_done c.args.text.now c.loop-place.out c.loop-place.place (omega arith) (omega arith) c.loop-place.invariant in (
      λ yes. digits.0 (rw decoded yes),
      λ fits. cc,
    )
