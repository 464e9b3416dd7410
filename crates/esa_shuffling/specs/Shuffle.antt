-- What a shuffle takes in beside its records: its sizes, the turns that are handed in, and its coins.
use Rattle.std.specs.Prelude.{ℕ, List, [], Option, Some, None, unwrap_or, replicate}
use Rattle.esa_params.specs.Limits.{numbers_of}
use Rattle.esa_params.specs.Numbers.{Numbers}
use Rattle.esa_params.specs.Sizes.{Sizes, sizes_of}
use Rattle.esa_params.specs.declared.draw.Draw.TheVariants.{Single}
use Rattle.esa_spec.specs.Draws.{Draw, drawn}
use Rattle.esa_coins.specs.Seeded.{Seeds, seeded_targets, seeded_order}
use Rattle.esa_coins.specs.Table.{Table, tables_in, targets_at, order_at}
use Rattle.esa_model.specs.Turns.{turns_of}
use Rattle.esa_job.specs.declared.command.Command.{Command}
use Rattle.esa_job.specs.declared.field.JobField.TheVariants as field
use Rattle.esa_job.specs.Refusal.{params_of}
use Rattle.esa_job.specs.Request.{Request, name_at, seed_at, draw_at}
use Rattle.esa_refusal.specs.declared.refusal.Refusal.TheVariants as refusal
use Rattle.esa_refusal.specs.declared.source.Source.TheVariants as source
use Rattle.esa_refusal.specs.Stop.{turns_refusal}
use Rattle.esa_command.specs.Asked.{number_of, form_asked}
use Rattle.esa_command.specs.Step.{Step, ◌>>=◌, accepted, Reads, file}
use Rattle.esa_command.specs.Taking.{read_step}

-- ---- what a job asks for

-- the parameters of its shuffle
abbrev pub numbers_asked : Request → Numbers
numbers_asked job = numbers_of (params_of job)

-- the sizes of its shuffle, where it says how many records there are, and of which form
abbrev pub sizes_asked : Request → Sizes
sizes_asked job = sizes_of (numbers_asked job) (number_of job field.Records) (form_asked job)

-- its seed for a shuffle of these sizes, which is there where coins aren't, and how targets are drawn from it: each by
-- itself, where the job doesn't say
abbrev pub seeds_asked : Sizes → Request → Seeds
seeds_asked p job = record { seed = unwrap_or (seed_at job) (replicate 32 0); draw = unwrap_or (draw_at job) Single; plan = p }

-- what its seed draws in each attempt
abbrev pub seeded_draws : Seeds → ℕ → Draw
seeded_draws seeds = drawn (seeded_targets seeds) (seeded_order seeds)

-- what its coins file says for each attempt
abbrev pub table_draws : Sizes → List Table → ℕ → Draw
table_draws p tables = drawn (targets_at p tables) (order_at tables)

-- ---- the steps

-- a file that is read where the job names it
abbrev pub where_named : {A : Type 0} → Option (List ℕ) → (List ℕ → Step A) → A → Step A
where_named None step otherwise = accepted otherwise
where_named (Some name) step otherwise = step name

-- the lists of turns of a job: none where it names no file
abbrev pub read_turns : Command → Request → Reads → List ℕ → Step (List (List ℕ))
read_turns command job read name =
    file command source.Turns name read >>= λ bytes. read_step turns_refusal (turns_of (numbers_asked job).workers (numbers_asked job).attempts bytes)

unfoldable pub turns_file : Command → Request → Reads → Step (List (List ℕ))
turns_file command job read = where_named (name_at job field.Turns) (read_turns command job read) []

-- what is drawn for a shuffle of these sizes: by the coins file where the job names one, and else from its seed
abbrev pub read_coins : Command → Sizes → Reads → List ℕ → Step (ℕ → Draw)
read_coins command p read name =
    file command source.Coins name read >>= λ bytes. read_step refusal.Coins (tables_in p bytes) >>= λ tables. accepted (table_draws p tables)

unfoldable pub coins_file : Command → Sizes → Request → Reads → Step (ℕ → Draw)
coins_file command p job read = where_named (name_at job field.Coins) (read_coins command p read) (seeded_draws (seeds_asked p job))
