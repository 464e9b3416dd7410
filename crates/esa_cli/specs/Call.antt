-- What the words of a command line ask for.
use Rattle.std.specs.Prelude.{ℕ, List, [], ◌∷◌, map, Option, None, bytes_eq, option_map}
use Rattle.std.specs.Map.{lookup}
use Rattle.esa_job.specs.declared.command.Command.{Command}
use Rattle.esa_job.specs.declared.command.Command.TheVariants.{Gen, Encode, Batch, Intake, Shuffle, Run, Relay, Analyse, Histogram, Upgrade, Recover, Plan, Audit}
use Rattle.esa_job.specs.Word.{command_word}

abbrev pub commands : List Command
commands = Gen ∷ Encode ∷ Batch ∷ Intake ∷ Shuffle ∷ Run ∷ Relay ∷ Analyse ∷ Histogram ∷ Upgrade ∷ Recover ∷ Plan ∷ Audit ∷ []

-- the command that a word names
unfoldable pub command_named : List ℕ → Option Command
command_named word = lookup (bytes_eq word) (map (λ command. (command_word command, command)) commands)

-- two words: that of a command, and the name of its job file
abbrev pub call_of : List (List ℕ) → Option (Command × List ℕ)
call_of (word ∷ name ∷ []) = option_map (λ command. (command, name)) (command_named word)
call_of words = None
