use Rattle.esa_laws.proofs.HistoryLaws.{begun-owner, latest-owner, lists-first, lists-owner}
use Rattle.esa_laws.proofs.histories.one_owner_entry_stored.Goals as goal

pub returns-clause-begun : goal.returns-clause-begun
returns-clause-begun c = begun-owner

pub returns-clause-lists : goal.returns-clause-lists
returns-clause-lists c = lists-owner

pub returns-clause-first : goal.returns-clause-first
returns-clause-first c = lists-first

pub returns-clause-latest : goal.returns-clause-latest
returns-clause-latest c = latest-owner
