use Rattle.std.proofs.Common.{Option, arith, subst, ◌∙◌}
use Rattle.esa_lists.specs.Files.{Files}
use Rattle.esa_batcher.specs.Paging.{FileHeard}
use Rattle.esa_batcher.proofs.ScanLaws.{have_of, file_told, file_heard, large_heard}
use Rattle.esa_batcher.proofs.scan.scan_batch.Goals as goal

pub returns-then-have-gt-MOST_RECORD_BYTES-clause-heard : goal.returns-then-have-gt-MOST_RECORD_BYTES-clause-heard
returns-then-have-gt-MOST_RECORD_BYTES-clause-heard g c =
    large_heard c.args.m c.args.name.now (g.K.Cabinet.told c.args.cabinet.now) c.in_ok-have.have (g.K.Cabinet.heard c.args.cabinet.now) (g.K.Cabinet.heard c.length.new.self) c.in_ok-have.ensures.heard (omega (arith, c.if-have-gt-MOST_RECORD_BYTES.true)) c.in_ok-have.ensures.length

pub returns-clause-scanned : goal.returns-clause-scanned
returns-clause-scanned g c = λ files bytes told there.
    file_told c.args.m c.args.name.now (g.K.Cabinet.told c.length.new.self) c.in_ok-have.have (g.K.Cabinet.heard c.length.new.self) (g.K.Cabinet.heard c.scan_file.new.cabinet) c.scan_file.result c.scan_file.ensures.file
    files bytes (c.length.ensures.told ∙ told) there (have_of _ bytes c.in_ok-have.have there (c.in_ok-have.ensures.length files told))

pub returns-clause-heard : goal.returns-clause-heard
returns-clause-heard g c =
    let told = g.K.Cabinet.told c.args.cabinet.now in
    let middle = g.K.Cabinet.heard c.length.new.self in
    let now = g.K.Cabinet.heard c.scan_file.new.cabinet in
    let file = subst (λ (t : Option Files). FileHeard c.args.m c.args.name.now t c.in_ok-have.have middle now c.scan_file.result) c.length.ensures.told c.scan_file.ensures.file in
    file_heard c.args.m c.args.name.now told c.in_ok-have.have (g.K.Cabinet.heard c.args.cabinet.now) middle c.in_ok-have.ensures.heard now c.scan_file.result file c.in_ok-have.ensures.length
