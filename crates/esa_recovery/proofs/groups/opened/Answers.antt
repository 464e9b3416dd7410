use Rattle.std.proofs.Common.{◌≡◌, subst, arith, option_map}
use Rattle.std.specs.Prelude.{IfOk}
use Rattle.esa_recovery.proofs.TakingLaws.{taking-none, taking-more, taking-all, run-key}
use Rattle.esa_recovery.proofs.groups.opened.Goals as goal

pub loop-member-init : goal.loop-member-init
loop-member-init c = taking-none c.args.db.now.database.rows c.args.run.now c.args.key.now c.clear.new.self (c.clear.ensures c.args.key.now)

pub loop-member-preserved : goal.loop-member-preserved
loop-member-preserved c =
    taking-more c.args.db.now.database.rows c.args.run.now c.args.key.now c.requires.named c.requires.one c.loop-member.member-index _ c.value.result.now c.loop-member-test.true c.value.ensures.value
    c.loop-member.group c.take.new.self c.in_ok-take.ensures c.loop-member.invariant

pub open-requires-clause-some : goal.open-requires-clause-some
open-requires-clause-some c = (run-key c.args.db.now.database.rows c.args.run.now c.args.key.now c.requires.some c.requires.named c.requires.one).0

pub open-requires-clause-long : goal.open-requires-clause-long
open-requires-clause-long c = (run-key c.args.db.now.database.rows c.args.run.now c.args.key.now c.requires.some c.requires.named c.requires.one).1

pub open-requires-clause-kept : goal.open-requires-clause-kept
open-requires-clause-kept c = (c.loop-member.invariant.0, c.loop-member.invariant.1)

pub returns : goal.returns
returns c =
    let rows = c.args.db.now.database.rows in
    let taken = c.loop-member.invariant in
    subst (λ want. IfOk c.open.result (λ value. option_map (λ bytes. bytes.items) value ≡ want))
    (taking-all rows c.args.run.now c.args.key.now c.loop-member.member-index c.loop-member.group (omega (arith, c.loop-member-test.false)) taken)
    (c.open.ensures taken.0 taken.1)
