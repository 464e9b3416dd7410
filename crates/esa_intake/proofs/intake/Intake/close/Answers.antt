use Rattle.std.proofs.Common.{take}
use Rattle.esa_intake.proofs.Closing.{all_back, keeps_each, keeps_form, keeps_order}
use Rattle.esa_intake.proofs.intake.Intake.close.Goals as goal

pub drain-requires-clause-taker : goal.drain-requires-clause-taker
drain-requires-clause-taker g c =
    let back = c.give_back.ensures.taker in
    (back.0, all_back c.args.taker c.give_back.new.taker c.args.senders.items c.requires.all back.1 c.give_back.ensures.closed)

pub returns-clause-each : goal.returns-clause-each
returns-clause-each g c =
    keeps_each c.args.taker c.give_back.new.taker c.args.senders.items (take c.drain.result c.drain.new.rest) c.give_back.ensures.taker.2 c.give_back.ensures.closed c.drain.ensures.rest

pub returns-clause-order : goal.returns-clause-order
returns-clause-order g c =
    keeps_order c.args.taker c.give_back.new.taker c.args.senders.items (take c.drain.result c.drain.new.rest) c.give_back.ensures.taker.2 c.give_back.ensures.closed c.drain.ensures.rest

pub returns-clause-form : goal.returns-clause-form
returns-clause-form g c =
    keeps_form c.args.self.form c.args.taker c.give_back.new.taker (take c.drain.result c.drain.new.rest) c.give_back.ensures.taker.2 c.give_back.ensures.taker.0.5 c.drain.ensures.rest
