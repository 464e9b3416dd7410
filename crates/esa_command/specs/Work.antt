-- What a command has to write and to print once its input is accepted.
use Rattle.std.specs.Prelude.{ℕ, List}
use Rattle.esa_refusal.specs.declared.source.Sink.{Sink}
use Rattle.esa_refusal.specs.declared.status.Status.{Status}

-- a file to write
pub record Write : Type 0 where
  pub sink : Sink
  pub name : List ℕ
  pub bytes : List ℕ

-- the status that it ends with, the files to write, in order, and then the lines to print, without their newlines
pub record Work : Type 0 where
  pub ended : Status
  pub writes : List Write
  pub prints : List (List ℕ)
