-- The words that name the commands and the keys.
use Rattle.std.specs.Prelude.{ℕ, List, codes}
use Rattle.esa_job.specs.declared.command.Command.{Command}
use Rattle.esa_job.specs.declared.command.Command.TheVariants as command
use Rattle.esa_job.specs.declared.keys.KeyField.{KeyField}
use Rattle.esa_job.specs.declared.keys.KeyField.TheVariants as key

abbrev pub command_word : Command → List ℕ
command_word command.Gen = codes "gen"
command_word command.Encode = codes "encode"
command_word command.Batch = codes "batch"
command_word command.Intake = codes "intake"
command_word command.Shuffle = codes "shuffle"
command_word command.Run = codes "run"
command_word command.Relay = codes "relay"
command_word command.Analyse = codes "analyse"
command_word command.Histogram = codes "histogram"
command_word command.Upgrade = codes "upgrade"
command_word command.Recover = codes "recover"
command_word command.Plan = codes "plan"
command_word command.Audit = codes "audit"

abbrev pub key_word : KeyField → List ℕ
key_word key.Keys = codes "keys"
key_word key.Outer = codes "outer"
key_word key.Inner = codes "inner"
key_word key.Drop = codes "drop"
key_word key.Run = codes "run"
key_word key.Share = codes "share"
key_word key.Second = codes "second"
