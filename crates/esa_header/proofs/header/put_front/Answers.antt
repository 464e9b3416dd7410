use Rattle.std.proofs.Common.{◌∙◌, arith, ◌<◌, length, drop}
use Rattle.std.proofs.lemmas.List.{length-drop}
use Rattle.esa_header.proofs.WriteLaws.{take-front}
use Rattle.esa_header.proofs.header.put_front.Goals as goal

pub returns-clause-written : goal.returns-clause-written
returns-clause-written c =
    let more : 0 < length (drop 4 c.args.out.now) = omega (arith, length-drop 4 c.args.out.now) in
    take-front c.args.kind c.args.header.now c.copy_from_slice.new.self (drop 4 c.args.out.now) c.put_u32.new.out c.put_u16.new.out c.version_of.result c.record.result (c.copy_from_slice.ensures.after ∙ c.magic.ensures) more c.version_of.ensures c.record.ensures c.put_u32.ensures.written c.put_u16.ensures.written
