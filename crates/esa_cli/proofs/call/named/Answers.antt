use Rattle.std.proofs.Common.{◌≡◌, ◌≢◌, ℕ, List, Option, Some, None, refl, sym}
use Rattle.std.specs.Prelude.{IfSome, IsNone}
use Rattle.esa_job.specs.declared.command.Command.{Command}
use Rattle.esa_job.specs.Word.{command_word}
use Rattle.esa_cli.specs.Call.{command_named}
use Rattle.esa_cli.proofs.Commands.{named_by_word, named_by_none}
use Rattle.esa_cli.proofs.call.named.Goals as goal

by_answer : (word : List ℕ) (answer : Option Command) → IfSome answer (λ command. word ≡ command_word command) → (IsNone answer → (command : Command) → word ≢ command_word command) → answer ≡ command_named word
by_answer word None named other = sym (named_by_none word (other refl))
by_answer word (Some command) named other = sym (named_by_word word command named)

pub returns : goal.returns
returns c = by_answer c.args.word.now c.command_of.result c.command_of.ensures.named c.command_of.ensures.other
