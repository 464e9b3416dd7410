use Rattle.esa_header.proofs.WriteLaws.{take-header, take-short_header}
use Rattle.esa_header.proofs.header.put_header.Goals as goal

pub returns-in-One-clause-written : goal.returns-in-One-clause-written
returns-in-One-clause-written c = take-short_header c.args.kind c.args.header.now c.put_front.new.out c.put_front.ensures.written c.in-One.is

pub returns-in-Two-clause-written : goal.returns-in-Two-clause-written
returns-in-Two-clause-written c = take-header c.args.kind c.args.header.now c.put_front.new.out c.put_u32.new.out c.put_front.ensures.written c.in-Two.is c.put_u32.ensures.written
