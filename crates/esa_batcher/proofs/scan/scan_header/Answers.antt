use Rattle.std.proofs.Common.{◌≡◌, ◌-◌, List, ℕ, length, take, drop, sym, ap, ◌∙◌, arith}
use Rattle.std.specs.Prelude.{min, slice_range}
use Rattle.std.proofs.lemmas.List.{length-take-le}
use Rattle.std.proofs.lemmas.Slice.{between_is, between_from_start}
use Rattle.esa_header.specs.declared.header.FileKind.TheVariants.{Batch}
use Rattle.esa_header.specs.Header.{header_in}
use Rattle.esa_batcher.proofs.scan.scan_header.Goals as goal

pub returns-clause-header : goal.returns-clause-header
returns-clause-header g c =
    let read = c.read_piece.new.buffer in
    let end = c.min-end.result in
    let is : end ≡ min 15 c.args.have = omega (arith, c.min-end.ensures) in
    let front = between_from_start read end in
    let start = c.length.result in (
      record {
        front = slice_range read 0 end;
        heard = c.in_ok-read_piece.ensures.piece;
        long = ap length front ∙ length-take-le end read (omega (arith, is, c.read_piece.ensures.length, c.requires.room)) ∙ is;
        is = ap (λ (bytes : List ℕ). header_in Batch bytes c.args.have) front ∙ sym c.in_ok-header.ensures.first_refusal;
      },
      (λ i. take (sym is i - sym c.length.ensures i) c.keep.new.buffer) ∙ c.keep.ensures.kept ∙ between_is read start end ∙ (λ i. drop (c.length.ensures i) (sym front i)),
    )
