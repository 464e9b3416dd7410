use Rattle.esa_page.proofs.HeardLaws.{HasWritten-writing}
use Rattle.esa_page.proofs.page.Page.finish.Goals as goal

pub returns-in_ok-send-clause-heard : goal.returns-in_ok-send-clause-heard
returns-in_ok-send-clause-heard g c = λ before text writing.
    HasWritten-writing before c.args.name.now text c.send.new.self (g.K.Cabinet.heard c.send.new.cabinet) c.in_ok-send.ensures.empty (c.in_ok-send.ensures.heard before text writing)
