use Rattle.std.proofs.Common.{arith}
use Rattle.esa_recovery.proofs.NumberLaws.{numbered-more, numbered-all}
use Rattle.esa_recovery.proofs.groups.number_rows.Goals as goal

pub loop-member-preserved : goal.loop-member-preserved
loop-member-preserved c =
    numbered-more c.args.run.now c.args.number c.args.numbers.now c.loop-member.numbers c.requires (omega (arith, c.loop-member.auto.numbers)) c.loop-member.member-index _ c.loop-member-test.true c.loop-member.invariant

pub returns : goal.returns
returns c = numbered-all c.args.run.now c.loop-member.member-index c.args.number c.args.numbers.now c.loop-member.numbers (omega (arith, c.loop-member-test.false)) c.loop-member.invariant
