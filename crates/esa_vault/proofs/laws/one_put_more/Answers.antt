use Rattle.esa_vault.proofs.StoredLaws.{put-others, put-stored}
use Rattle.esa_vault.proofs.laws.one_put_more.Goals as goal

pub returns-clause-stored : goal.returns-clause-stored
returns-clause-stored c = put-stored

pub returns-clause-others : goal.returns-clause-others
returns-clause-others c = put-others
