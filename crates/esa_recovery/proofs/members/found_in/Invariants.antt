use Rattle.esa_recovery.proofs.MemberLaws.{HasFound}
use Rattle.esa_recovery.proofs.members.found_in.Given as goal

abbrev pub invariant-loop-row : goal.invariant-loop-row
invariant-loop-row l = HasFound l.db.database.rows l.row l.found.items
