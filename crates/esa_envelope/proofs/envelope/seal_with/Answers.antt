use Rattle.std.proofs.Common.{◌+◌, length, take, refl, ap, ◌∙◌, arith}
use Rattle.esa_envelope.specs.declared.keys.Keys.{Keys}
use Rattle.esa_envelope.specs.Keystream.{ciphered}
use Rattle.esa_envelope.proofs.EnvelopeLemmas.{sealed_as-written}
use Rattle.esa_envelope.proofs.envelope.seal_with.Goals as goal

pub returns : goal.returns
returns c =
    sealed_as-written c.args.prepared.now c.args.label c.args.nonce c.args.plain.now c.put_u64.new.out c.cipher.new.into
    c.copy_from_slice.new.self 8 (8 + length c.args.plain.now) refl (omega arith)
    (ap (λ out. take 8 out) c.put_u64.ensures.written)
    (c.cipher.ensures ∙ ap (λ (keys : Keys). ciphered keys.enc c.args.nonce 0 c.args.plain.now) c.prepared.view_is)
    (c.copy_from_slice.ensures.after ∙ c.tag-tag.ensures)
