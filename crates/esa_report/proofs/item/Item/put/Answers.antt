use Rattle.std.proofs.Common.{◌∷◌, length, ap, ◌∙◌, arith}
use Rattle.esa_report.specs.Item.{item_in, kind_byte}
use Rattle.esa_report.proofs.ItemLemmas.{item_in-item_bytes, put_behind}
use Rattle.esa_report.proofs.item.Item.put.Goals as goal

pub returns-clause-written : goal.returns-clause-written
returns-clause-written c =
    put_behind c.args.out.now c.copy_from_slice.new.self c.byte.result (omega arith)
    ∙ ap (λ byte. byte ∷ c.copy_from_slice.new.self) c.byte.ensures
    ∙ ap (λ body. kind_byte c.args.self.now.kind ∷ body) c.copy_from_slice.ensures.after

pub returns-clause-reads_back : goal.returns-clause-reads_back
returns-clause-reads_back c =
    λ good.
    ap (λ bytes. item_in bytes) (returns-clause-written c)
    ∙ item_in-item_bytes (length c.args.out.now) c.args.self.now (omega arith) (omega arith) c.requires.zero good
