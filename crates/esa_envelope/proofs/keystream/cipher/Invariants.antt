use Rattle.std.proofs.Common.{◌≡◌, ◌*◌, take}
use Rattle.rand_chacha.specs.ChaCha.{key_of}
use Rattle.esa_envelope.specs.Keystream.{ciphered}
use Rattle.esa_envelope.proofs.keystream.cipher.Given as goal

-- the words before this one are ciphered, and the generator stands at this one
abbrev pub invariant-loop-word : goal.invariant-loop-word
invariant-loop-word l = record {
  done : take (4 * l.word) l.into ≡ ciphered l.key l.nonce 0 (take (4 * l.word) l.from);
  place : l.words ≡ record { key = key_of l.key; stream = l.nonce; word_pos = l.word };
}
