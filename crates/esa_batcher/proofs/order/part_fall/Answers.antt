use Rattle.std.proofs.Common.{◌*◌, ◌≤◌, length, refl, arith}
use Rattle.esa_batcher.proofs.PagingLaws.{part_scanned}
use Rattle.esa_batcher.proofs.order.part_fall.Goals as goal

pub returns-clause-part : goal.returns-clause-part
returns-clause-part g c =
    let part = c.args.part.now in
    let end = part.number * part.size in
    let read = c.read_piece.new.buffer in
    let room : end ≤ length read = omega (arith, c.requires.room, c.read_piece.ensures.length) in
    part_scanned c.args.name.now (g.K.Cabinet.told c.args.cabinet.now) c.args.at (g.K.Cabinet.heard c.args.cabinet.now) (g.K.Cabinet.heard c.read_piece.new.cabinet)
    part.size part.first part.number part.kept end c.args.buffer.now read c.keep.new.buffer c.requires.some c.requires.kept refl room
    c.in_ok-read_piece.ensures.piece c.read_piece.ensures.front c.first_fall-fall.result
    c.first_fall-fall.ensures c.keep.ensures.kept
