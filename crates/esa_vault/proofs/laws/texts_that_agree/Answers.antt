use Rattle.esa_vault.proofs.NotedLaws.{took-agreed}
use Rattle.esa_vault.proofs.laws.texts_that_agree.Goals as goal

pub returns : goal.returns
returns c = took-agreed
