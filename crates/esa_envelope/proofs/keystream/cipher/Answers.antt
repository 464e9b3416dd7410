use Rattle.std.proofs.Common.{◌≡◌, ℕ, ◌+◌, ◌*◌, ◌/◌, ◌≤◌, length, drop, bit_xor, get_or, ap, ◌∙◌, arith, length-take, length-drop}
use Rattle.std.specs.Prelude.{slice_range}
use Rattle.std.specs.Int.{w32, to_le_bytes}
use Rattle.std.proofs.lemmas.List.{take_rest}
use Rattle.esa_envelope.proofs.KeystreamLemmas.{ciphered-last, ciphered-more_word, ciphered-word, next_word-at}
use Rattle.esa_envelope.proofs.keystream.cipher.Goals as goal

pub loop-word-preserved : goal.loop-word-preserved
loop-word-preserved c =
    let part = slice_range c.args.from.now (4 * c.loop-word.word) (4 * c.loop-word.word + 4) in
    let next = next_word-at c.args.key.now c.args.nonce c.loop-word.word c.next_word.result
    c.loop-word.words c.next_word.new.self (omega arith) c.loop-word.invariant.place c.next_word.ensures in
    let count : length part ≡ 4 = omega (arith, length-take {A = ℕ}, length-drop {A = ℕ}) in
    let size : length c.mask_word.new.into ≡ 4 = omega (arith, length-take {A = ℕ}, length-drop {A = ℕ}) in
    let here = ciphered-word c.args.key.now c.args.nonce c.loop-word.word part c.mask_word.new.into
    (omega arith) (omega arith)
    (λ k h. c.mask_word.ensures k h ∙ ap (λ word. bit_xor (get_or part k 0) (get_or (to_le_bytes w32 word) k 0)) next.0) in
    record {
      done = ciphered-more_word c.args.key.now c.args.nonce c.loop-word.word c.args.from.now c.loop-word.into
          c.mask_word.new.into (omega arith) (omega arith) size c.loop-word.invariant.done here;
      place = next.1;
    }

pub returns : goal.returns
returns c =
    let end : c.loop-word.word ≡ length c.args.from.now / 4 = omega arith in
    let rest = drop (4 * (length c.args.from.now / 4)) c.args.from.now in
    let count : length rest ≤ 4 = omega (arith, length-drop {A = ℕ}) in
    let next = next_word-at c.args.key.now c.args.nonce (length c.args.from.now / 4) c.next_word-2.result
    c.loop-word.words c.next_word-2.new.self (omega arith) (rw end at c.loop-word.invariant.place) c.next_word-2.ensures in
    let size : length c.mask_word-2.new.into ≡ length rest = omega (arith, length-take {A = ℕ}, length-drop {A = ℕ}) in
    let here = ciphered-word c.args.key.now c.args.nonce (length c.args.from.now / 4) rest c.mask_word-2.new.into
    size count
    (λ k h. (rw take_rest at (c.mask_word-2.ensures k h)) ∙ ap (λ word. bit_xor (get_or rest k 0) (get_or (to_le_bytes w32 word) k 0)) next.0) in
    ciphered-last c.args.key.now c.args.nonce (length c.args.from.now / 4) c.args.from.now c.loop-word.into
    c.mask_word-2.new.into (omega arith) (rw end at c.loop-word.invariant.done) here
