-- The table of a job's fields: one row for each.
use Rattle.std.specs.Prelude.{ℕ, Bool, true, false, ◌==◌, List, [], ◌∷◌, codes, Option, Some, None, if◌then◌else◌}
use Rattle.std.specs.List.{list_any}
use Rattle.esa_params.specs.declared.field.ParamField.{ParamField}
use Rattle.esa_params.specs.declared.field.ParamField.TheVariants as param
use Rattle.esa_job.specs.declared.command.Command.{Command}
use Rattle.esa_job.specs.declared.command.Command.TheVariants.{Gen, Encode, Batch, Intake, Shuffle, Run, Relay, Analyse, Histogram, Upgrade, Recover, Plan, Audit}
use Rattle.esa_job.specs.declared.field.JobField.{JobField}
use Rattle.esa_job.specs.declared.field.JobField.TheVariants.{Job, Keys, Input, Inputs, Output, Trace, Turns, TurnsOut, Drops, Coins, Seed, Draw, Records, Crowds, Number, NonceBase, Form, Epoch, Shares, B, C, S, K, W, Q, Workers, Attempts, M, T, Mode}
use Rattle.esa_job.specs.declared.field.Kind.{Kind}
use Rattle.esa_job.specs.declared.field.Kind.TheVariants as kind
use Rattle.esa_job.specs.declared.field.Need.{Need}
use Rattle.esa_job.specs.declared.field.Need.TheVariants.{Unused, Optional, Needed}
use Rattle.esa_job.specs.declared.table.Limits.{Limits}

-- a row of the table
pub record Row : Type 0 where
  -- the field's name
  pub word : List ℕ
  -- the type of its value
  pub kind : Kind
  -- the commands for which it has to be there
  pub needed : List Command
  -- the commands for which it may be there; the others ignore it
  pub optional : List Command
  -- the limits of a number that has limits of its own; those of a shuffle's parameters are looked at together
  pub limits : Option Limits

-- a row of a field that has no limits of its own
abbrev pub plain : List ℕ → Kind → List Command → List Command → Row
plain word of_kind needed optional = record { word = word; kind = of_kind; needed = needed; optional = optional; limits = None }

-- a row of a number from a least to a greatest one
abbrev pub limited : List ℕ → List Command → List Command → ParamField → ℕ → ℕ → Row
limited word needed optional name least greatest = record {
  word = word;
  kind = kind.Number;
  needed = needed;
  optional = optional;
  limits = Some (record { param = name; least = least; greatest = greatest });
}

-- the commands that shuffle, or tell what a shuffle does
abbrev pub shuffles : List Command
shuffles = Shuffle ∷ Run ∷ Relay ∷ Plan ∷ Audit ∷ []

abbrev pub row_of : JobField → Row
-- the job itself is no field of its object
row_of Job = plain (codes "job") kind.Number [] []
row_of Keys = plain (codes "keys") kind.Name (Encode ∷ Shuffle ∷ Run ∷ Relay ∷ Analyse ∷ []) []
row_of Input = plain (codes "input") kind.Name (Encode ∷ Batch ∷ Shuffle ∷ Run ∷ Relay ∷ Analyse ∷ Histogram ∷ Upgrade ∷ Recover ∷ Audit ∷ []) []
row_of Inputs = plain (codes "inputs") kind.Names (Intake ∷ []) []
row_of Output = plain (codes "output") kind.Name (Gen ∷ Encode ∷ Batch ∷ Intake ∷ Shuffle ∷ Run ∷ Relay ∷ Analyse ∷ Upgrade ∷ Recover ∷ []) []
row_of Trace = plain (codes "trace") kind.Name [] (Shuffle ∷ Run ∷ Relay ∷ Plan ∷ [])
row_of Turns = plain (codes "turns") kind.Name [] shuffles
row_of TurnsOut = plain (codes "turns_out") kind.Name [] (Shuffle ∷ Run ∷ Relay ∷ [])
row_of Drops = plain (codes "drops") kind.Name [] (Shuffle ∷ Run ∷ [])
-- of the coins and the seed one has to be there, which is a rule of its own
row_of Coins = plain (codes "coins") kind.Name [] shuffles
row_of Seed = plain (codes "seed") kind.Seed [] shuffles
row_of Draw = plain (codes "draw") kind.Draw [] shuffles
row_of Records = limited (codes "records") (Gen ∷ Plan ∷ Audit ∷ []) [] param.Records 1 262144
row_of Crowds = limited (codes "crowds") (Gen ∷ []) [] param.Crowds 1 65536
row_of Number = plain (codes "number") kind.Number (Gen ∷ []) []
row_of NonceBase = plain (codes "nonce_base") kind.Number (Encode ∷ Relay ∷ []) []
row_of Form = limited (codes "form") [] (Encode ∷ Batch ∷ Intake ∷ Plan ∷ Audit ∷ []) param.Form 1 2
row_of Epoch = limited (codes "epoch") [] (Encode ∷ Batch ∷ Intake ∷ []) param.Epoch 0 4294967295
row_of Shares = limited (codes "shares") [] (Encode ∷ []) param.Shares 2 16
row_of B = plain (codes "b") kind.Number shuffles []
row_of C = plain (codes "c") kind.Number shuffles []
row_of S = plain (codes "s") kind.Number shuffles []
row_of K = plain (codes "k") kind.Number shuffles []
row_of W = plain (codes "w") kind.Number shuffles []
row_of Q = plain (codes "q") kind.Number shuffles []
row_of Workers = plain (codes "workers") kind.Number shuffles []
row_of Attempts = plain (codes "attempts") kind.Number shuffles []
row_of M = limited (codes "m") (Batch ∷ Intake ∷ Shuffle ∷ Run ∷ Relay ∷ []) [] param.M 1 262144
row_of T = limited (codes "t") (Shuffle ∷ Run ∷ []) [] param.T 1 262144
row_of Mode = plain (codes "mode") kind.Mode (Intake ∷ shuffles) []

-- the order in which the fields are looked at
unfoldable pub fields : List JobField
fields = Keys ∷ Input ∷ Inputs ∷ Output ∷ Trace ∷ Turns ∷ TurnsOut ∷ Drops ∷ Coins ∷ Seed ∷ Draw ∷ Records ∷ Crowds ∷ Number ∷ NonceBase ∷ Form ∷ Epoch ∷ Shares ∷ B ∷ C ∷ S ∷ K ∷ W ∷ Q ∷ Workers ∷ Attempts ∷ M ∷ T ∷ Mode ∷ []

-- the order in which the numbers with limits of their own are looked at, after the parameters of a shuffle
unfoldable pub limited_fields : List JobField
limited_fields = M ∷ T ∷ Records ∷ Crowds ∷ Form ∷ Epoch ∷ Shares ∷ []

-- ---- what a row says

abbrev pub field_word : JobField → List ℕ
field_word field = (row_of field).word

abbrev pub kind_of : JobField → Kind
kind_of field = (row_of field).kind

abbrev pub limits_of : JobField → Option Limits
limits_of field = (row_of field).limits

-- the command's place among the commands
abbrev pub place_of : Command → ℕ
place_of Gen = 0
place_of Encode = 1
place_of Batch = 2
place_of Intake = 3
place_of Shuffle = 4
place_of Run = 5
place_of Relay = 6
place_of Analyse = 7
place_of Histogram = 8
place_of Upgrade = 9
place_of Recover = 10
place_of Plan = 11
place_of Audit = 12

abbrev pub is_among : List Command → Command → Bool
is_among commands command = list_any (λ named. place_of named == place_of command) commands

-- what a command makes of a field
abbrev pub need_of : JobField → Command → Need
need_of field command =
    if is_among (row_of field).needed command then Needed
    else if is_among (row_of field).optional command then Optional
    else Unused

-- plans are for handed-in turns alone
abbrev pub only_plans : Command → Bool
only_plans Plan = true
only_plans Audit = true
only_plans _ = false
