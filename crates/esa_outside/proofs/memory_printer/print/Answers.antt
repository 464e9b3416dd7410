-- Where the newline found no memory, the text was printed.
use Rattle.std.proofs.Common.{[], ◌∷◌, ◌∙◌}
use Rattle.esa_outside.proofs.Fronts.{AddsFront-front}
use Rattle.esa_outside.proofs.memory_printer.print.Goals as goal

pub returns-in-Err-push-clause-err : goal.returns-in-Err-push-clause-err
returns-in-Err-push-clause-err c = AddsFront-front c.args.printed.now.items c.args.text.now (10 ∷ []) _ (c.in-Err-push.ensures.items ∙ c.in-Ok.ensures.items)
