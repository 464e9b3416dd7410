-- The files that a command reads and writes, by their roles.
use Rattle.std.specs.Prelude.{ℕ, ◌+◌, Bool, ◌==◌}
use Rattle.esa_outside.specs.declared.Role.{Role}
use Rattle.esa_outside.specs.declared.Role.TheVariants as role
use Rattle.esa_job.specs.declared.command.Command.{Command}
use Rattle.esa_job.specs.declared.command.Command.TheVariants as command
use Rattle.esa_refusal.specs.declared.source.Source.{Source}
use Rattle.esa_refusal.specs.declared.source.Sink.{Sink}
use Rattle.esa_refusal.specs.declared.source.Sink.TheVariants as sink
use Rattle.esa_refusal.specs.declared.source.Source.TheVariants.{Job, Keys, Drops, Turns, Input, Coins, Inputs}

-- the role of a file
abbrev pub role_of : Source → Role
role_of Job = role.Job
role_of Keys = role.Keys
role_of Drops = role.Drops
role_of Turns = role.Turns
role_of Input = role.Input
role_of Coins = role.Coins
role_of (Inputs place) = role.Input

-- the place among these files: each of several inputs has one of its own, behind all others
abbrev pub place_of : Source → ℕ
place_of Job = 0
place_of Keys = 1
place_of Drops = 2
place_of Turns = 3
place_of Input = 4
place_of Coins = 5
place_of (Inputs place) = 6 + place

abbrev pub is_same_source : Source → Source → Bool
is_same_source one other = place_of one == place_of other

-- the most bytes of an input file: submission lines take most, and a trace less than records
abbrev pub input_limit : Command → ℕ
input_limit command.Batch = 268435456
input_limit command.Intake = 268435456
input_limit command.Audit = 67108864
input_limit _ = 134217728

-- the most bytes of a file that a command reads
abbrev pub limit_of : Command → Source → ℕ
limit_of command Job = 65536
limit_of command Keys = 65536
limit_of command Drops = 65536
limit_of command Turns = 16777216
limit_of command Input = input_limit command
limit_of command Coins = 16777216
limit_of command (Inputs place) = input_limit command

-- the role of a file that is written
abbrev pub role_of_sink : Sink → Role
role_of_sink sink.Output = role.Output
role_of_sink sink.Trace = role.Trace
role_of_sink sink.TurnsOut = role.TurnsOut
