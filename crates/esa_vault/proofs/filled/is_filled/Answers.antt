use Rattle.std.proofs.Common.{◌/◌, length, arith, sym}
use Rattle.esa_report.specs.Item.{kind_held}
use Rattle.esa_vault.specs.Filled.{bytes_at, suits}
use Rattle.esa_vault.proofs.FilledLemmas.{passes_all, passes_more, passes_not}
use Rattle.esa_vault.proofs.filled.is_filled.Goals as goal

pub loop-place-preserved : goal.loop-place-preserved
loop-place-preserved c =
    passes_more (λ place. suits c.args.count place (kind_held (bytes_at c.args.size c.args.text.now place)))
    (length c.args.text.now / c.args.size) c.loop-place.place (omega arith) c.loop-place.invariant cc

pub returns-then-not-suits : goal.returns-then-not-suits
returns-then-not-suits c =
    sym (passes_not (λ place. suits c.args.count place (kind_held (bytes_at c.args.size c.args.text.now place)))
    (length c.args.text.now / c.args.size) c.loop-place.place (omega arith) cc)

pub returns : goal.returns
returns c =
    sym (passes_all (λ place. suits c.args.count place (kind_held (bytes_at c.args.size c.args.text.now place)))
    (length c.args.text.now / c.args.size) c.loop-place.place (omega arith) c.loop-place.invariant)
