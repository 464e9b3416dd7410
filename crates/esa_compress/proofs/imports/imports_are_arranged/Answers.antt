use Rattle.esa_compress.proofs.HeldLaws.{held-arranged}
use Rattle.esa_compress.proofs.ImportLaws.{order-fits, parts-counted}
use Rattle.esa_compress.proofs.imports.imports_are_arranged.Goals as goal

pub returns-clause-items : goal.returns-clause-items
returns-clause-items c = held-arranged

pub returns-clause-count : goal.returns-clause-count
returns-clause-count c = parts-counted

pub returns-clause-each_once : goal.returns-clause-each_once
returns-clause-each_once c = λ p d h drawn all fits record_of held i i_in. order-fits p d h drawn all fits record_of held i i_in
