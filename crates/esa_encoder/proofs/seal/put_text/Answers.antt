use Rattle.std.proofs.Common.{◌≡◌, ◌∙◌, ◌++◌, length, take, drop, sym, ap, arith}
use Rattle.std.proofs.lemmas.List.{length-take-le, take_at}
use Rattle.std.proofs.lemmas.Grind.{common_steps}
use Rattle.sha2.specs.Sha256.{sha256}
use Rattle.esa_envelope.proofs.KeystreamLemmas.{put_mid-last}
use Rattle.esa_encoder.proofs.seal.put_text.Goals as goal

pub slice_bounds-copy_from_slice-end-2 : goal.slice_bounds-copy_from_slice-end-2
slice_bounds-copy_from_slice-end-2 c = sym (length-take-le 32 c.args.out.now (omega arith))

pub copy_from_slice-requires : goal.copy_from_slice-requires
copy_from_slice-requires c =
    let front : length (take 32 c.args.out.now) ≡ 32 = length-take-le 32 c.args.out.now (omega arith) in
    grind (arith, common_steps)

pub returns : goal.returns
returns c =
    let id = c.copy_from_slice.new.self in
    let rest = drop 32 c.args.out.now in
    let sealed = c.seal_value.new.out in
    let size : length id ≡ 32 = c.copy_from_slice.ensures.len ∙ length-take-le 32 c.args.out.now (omega arith) in
    put_mid-last 32 (id ++ rest) sealed
    ∙ ap (λ front. front ++ sealed) (take_at id rest 32 size ∙ c.copy_from_slice.ensures.after ∙ c.crowd_of.ensures)
    ∙ ap (λ text. sha256 c.args.crowd.now ++ text) c.seal_value.ensures
