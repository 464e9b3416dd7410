-- The streams of the generator that lists are drawn from.
use Rattle.std.specs.Prelude.{ℕ, ◌+◌, ◌*◌, ◌^◌}

-- what is drawn from a stream
pub data Purpose : Type 0 where
  -- the targets of a bucket, one after another
  ForTargets : Purpose
  -- the order of a target
  ForOrder : Purpose
  -- the entries and separators of a bucket
  ForSeparators : Purpose

-- the number of the stream for a purpose, in an attempt, of a bucket or target
abbrev pub stream_number : Purpose → ℕ → ℕ → ℕ
stream_number ForTargets attempt bucket = attempt * 2 ^ 32 + bucket
stream_number ForOrder attempt target = attempt * 2 ^ 32 + 2 ^ 16 + target
stream_number ForSeparators attempt bucket = attempt * 2 ^ 32 + bucket + 2 ^ 17
