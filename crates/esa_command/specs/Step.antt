-- Taking in the input of a command, as steps over the files that are there.
use Rattle.std.specs.Prelude.{ℕ, List, length, Option, Some, None, Result, Ok, Err, nat_lt, if◌then◌else◌}
use Rattle.std.specs.FinMap as map
use Rattle.esa_lists.specs.Files.{Files}
use Rattle.esa_job.specs.declared.command.Command.{Command}
use Rattle.esa_refusal.specs.declared.refusal.Refusal.{Refusal}
use Rattle.esa_refusal.specs.declared.refusal.Refusal.TheVariants.{Large}
use Rattle.esa_refusal.specs.declared.source.Source.{Source}
use Rattle.esa_refusal.specs.Source.{role_of, limit_of, is_same_source}

-- A step is accepted with a value, is refused, or its file isn't there.
pub data Step (A : Type 0) : Type 0 where
  accepted : A → Step A
  refused : Refusal → Step A
  missing : Source → Step A

-- a step, and the steps after it where it is accepted
infixl 10 ◌>>=◌
abbrev pub ◌>>=◌ : {A B : Type 0} → Step A → (A → Step B) → Step B
(accepted value) >>= next = next value
(refused refusal) >>= next = refused refusal
(missing source) >>= next = missing source

-- a step that reads no file
abbrev pub step_of : {A : Type 0} → Result A Refusal → Step A
step_of (Ok value) = accepted value
step_of (Err refusal) = refused refusal

-- what is read of a file, by its role and its name
abbrev pub Reads : Type 0
Reads = Source → List ℕ → Option (List ℕ)

-- from the files of a cabinet
abbrev pub reads_of : Files → Reads
reads_of files source name = map.get files name

-- all but what is read for one role
abbrev pub without : Source → Reads → Reads
without gone read source name = if is_same_source gone source then None else read source name

-- a file that is to have no more bytes than this
abbrev pub within : ℕ → Source → Option (List ℕ) → Step (List ℕ)
within limit source None = missing source
within limit source (Some bytes) = if nat_lt limit (length bytes) then refused (Large (role_of source)) else accepted bytes

-- the step that reads a file
abbrev pub file : Command → Source → List ℕ → Reads → Step (List ℕ)
file command source name read = within (limit_of command source) source (read source name)
