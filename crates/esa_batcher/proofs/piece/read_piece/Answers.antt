use Rattle.std.proofs.Common.{◌≡◌, ◌-◌, List, ℕ, length, sym, subst, ◌∙◌, arith}
use Rattle.std.proofs.lemmas.List.Edits.{length-between}
use Rattle.std.proofs.lemmas.Slice.{between-put_mid}
use Rattle.esa_batcher.specs.Paging.{IsHeard}
use Rattle.esa_batcher.proofs.PagingLaws.{heard-one}
use Rattle.esa_batcher.proofs.piece.read_piece.Goals as goal

pub returns-clause-piece : goal.returns-clause-piece
returns-clause-piece g c =
    let long : length c.read_at.new.out ≡ c.args.to - c.args.from = c.read_at.auto.out ∙ length-between c.args.buffer.now c.args.from c.args.to c.requires.room in
    let is = between-put_mid c.args.from (c.args.to - c.args.from) c.args.buffer.now c.read_at.new.out c.args.to (omega (arith, c.requires.ordered, c.requires.room)) long in
    subst (λ (piece : List ℕ). IsHeard c.args.name.now (g.K.Cabinet.told c.args.cabinet.now) c.args.at (g.K.Cabinet.heard c.args.cabinet.now) (g.K.Cabinet.heard c.read_at.new.self) piece) (sym is)
    (heard-one c.args.name.now (g.K.Cabinet.told c.args.cabinet.now) c.args.at (g.K.Cabinet.heard c.args.cabinet.now) (g.K.Cabinet.heard c.read_at.new.self) c.read_at.new.out c.in_ok-read_at.ensures.heard c.in_ok-read_at.ensures.bytes)
