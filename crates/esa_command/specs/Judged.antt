-- What taking in the input answers, by the steps that define the input, over what the cabinet gave in this call.
use Rattle.std.specs.Prelude.{◌≡◌, ◌⊎◌, ℕ, ◌≤◌, ◌<◌, List, ◌++◌, Option, Some, Result, Ok, Err}
use Rattle.esa_lists.specs.Files.{Files}
use Rattle.esa_outside.specs.Cause.{Rose}
use Rattle.esa_refusal.specs.declared.source.Source.{Source}
use Rattle.esa_refusal.specs.declared.stop.Stop.{Stop}
use Rattle.esa_refusal.specs.declared.stop.Stop.TheVariants.{Refused, Unread, OutOfMemory}
use Rattle.esa_refusal.specs.Refusal.{IsOfInput}
use Rattle.esa_refusal.specs.Source.{place_of}
use Rattle.esa_command.specs.Given.{Given, all_heard, AllAgree, AreInOrder}
use Rattle.esa_command.specs.Stand.{Stand}
use Rattle.esa_command.specs.Step.{Step, accepted, refused, missing, Reads, reads_of, without}

-- the cabinet tells its files, and by them this one isn't there
abbrev pub IsMissing : {A : Type 0} → Option Files → (Reads → Step A) → Source → Type 0
IsMissing told steps source = (files : Files) × (told ≡ Some files) × (steps (reads_of files) ≡ missing source)

-- By what was read: it is refused so by the steps, and for what is wrong with a file. A file isn't read only where the
-- steps before it are accepted, and where the count rose or the cabinet tells that it isn't there.
abbrev pub StopsBy : {A : Type 0} → (Reads → Step A) → (first last : ℕ) → (before now : Stand Files) → Stop → Reads → Type 0
StopsBy steps first last before now (Refused refusal) read = (steps read ≡ refused refusal) × (now.faults ≡ before.faults) × IsOfInput refusal
StopsBy steps first last before now (Unread source) read =
    (first ≤ place_of source) × (place_of source < last) × (steps (without source read) ≡ missing source)
    × (Rose before.faults now.faults ⊎ IsMissing before.told steps source)
StopsBy steps first last before now OutOfMemory read = now.faults ≡ before.faults

-- What is accepted is so by the steps, and else it stops by them.
abbrev pub AnswersBy : {X A : Type 0} → (X → A) → (Reads → Step A) → (first last : ℕ) → (before now : Stand Files) → Result X Stop → Reads → Type 0
AnswersBy view steps first last before now (Ok value) read = (steps read ≡ accepted (view value)) × (now.faults ≡ before.faults)
AnswersBy view steps first last before now (Err stop) read = StopsBy steps first last before now stop read

-- What the cabinet gave is all that was heard of it, each role once and in order; where the cabinet tells its files, it gave
-- what it tells; and whatever else the files hold, the answer is that of the steps over what it gave.
pub record Judged {X A : Type 0} (first last : ℕ) (view : X → A) (steps : Reads → Step A) (before now : Stand Files) (result : Result X Stop) : Type 0 where
  pub given : List Given
  pub heard : now.heard ≡ before.heard ++ all_heard given
  pub once : AreInOrder first last given
  pub tells : (files : Files) → before.told ≡ Some files → AllAgree (reads_of files) given
  pub answers : (read : Reads) → AllAgree read given → AnswersBy view steps first last before now result read
  pub told : now.told ≡ before.told
