use Rattle.esa_page.specs.Writing.{IsWriting}
use Rattle.esa_page.proofs.HeardLaws.{IsWriting-more}
use Rattle.esa_page.proofs.page.Page.put.Goals as goal
use Rattle.esa_page.proofs.page.Page.put.Goals.{then-len-bytes+in_ok-send, else-len-bytes}

pub returns-clause-heard : goal.returns-clause-heard
returns-clause-heard g c = λ before text writing.
    let now : IsWriting before c.args.name.now text c.if-len-bytes.self (g.K.Cabinet.heard c.if-len-bytes.cabinet) = elim c.if-len-bytes.branch [
      | then-len-bytes+in_ok-send w ↦ rw (w.self-is, w.cabinet-is) (w.in_ok-send.ensures.heard before text writing)
      | else-len-bytes w ↦ rw (w.self-is, w.cabinet-is) writing
    ] in
    rw c.add.ensures (IsWriting-more before c.args.name.now text c.if-len-bytes.self c.args.bytes.now (g.K.Cabinet.heard c.if-len-bytes.cabinet) now)
