use Rattle.esa_recovery.proofs.TakingLaws.{Taking}
use Rattle.esa_recovery.proofs.groups.opened.Given as goal

abbrev pub invariant-loop-member : goal.invariant-loop-member
invariant-loop-member l = Taking l.db.database.rows l.run l.key l.member-index l.group
