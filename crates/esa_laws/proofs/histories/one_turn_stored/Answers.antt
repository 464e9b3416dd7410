use Rattle.esa_laws.proofs.HistoryLaws.{begun-worker, latest-worker, lists-worker}
use Rattle.esa_laws.proofs.histories.one_turn_stored.Goals as goal

pub returns-clause-begun : goal.returns-clause-begun
returns-clause-begun c = begun-worker

pub returns-clause-lists : goal.returns-clause-lists
returns-clause-lists c = lists-worker

pub returns-clause-latest : goal.returns-clause-latest
returns-clause-latest c = latest-worker
