-- The command that a word names, by the words of all commands.
use Rattle.std.proofs.Common.{◌≡◌, ◌≢◌, ℕ, false, List, [], ◌∷◌, map, Some, None, refl, ap, ◌∙◌}
use Rattle.std.proofs.lemmas.Bool.{false_from_ne_true}
use Rattle.std.proofs.lemmas.Slice.Eq.{bytes_eq-Decides}
use Rattle.std.specs.Prelude.{bytes_eq}
use Rattle.std.specs.Map.{lookup}
use Rattle.esa_job.specs.declared.command.Command.{Command}
use Rattle.esa_job.specs.declared.command.Command.TheVariants.{Gen, Encode, Batch, Intake, Shuffle, Run, Relay, Analyse, Histogram, Upgrade, Recover, Plan, Audit}
use Rattle.esa_job.specs.Word.{command_word}
use Rattle.esa_cli.specs.Call.{commands, command_named}

named_self : (command : Command) → command_named (command_word command) ≡ Some command
unfolding command_named
named_self Gen = refl
named_self Encode = refl
named_self Batch = refl
named_self Intake = refl
named_self Shuffle = refl
named_self Run = refl
named_self Relay = refl
named_self Analyse = refl
named_self Histogram = refl
named_self Upgrade = refl
named_self Recover = refl
named_self Plan = refl
named_self Audit = refl

pub named_by_word : (word : List ℕ) (command : Command) → word ≡ command_word command → command_named word ≡ Some command
named_by_word word command is = ap command_named is ∙ named_self command

named_in_none : (word : List ℕ) (list : List Command) → ((command : Command) → word ≢ command_word command) → lookup (bytes_eq word) (map (λ command. (command_word command, command)) list) ≡ None
named_in_none word [] none = refl
named_in_none word (command ∷ list) none =
    let differs : bytes_eq word (command_word command) ≡ false = false_from_ne_true _ (λ same. none command ((bytes_eq-Decides word (command_word command)).0 same)) in
    rw differs (named_in_none word list none)

pub named_by_none : (word : List ℕ) → ((command : Command) → word ≢ command_word command) → command_named word ≡ None
unfolding command_named
named_by_none word none = named_in_none word commands none
