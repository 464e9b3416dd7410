-- What plan takes in, writes and prints.
use Rattle.std.specs.Prelude.{ℕ, Bool, List, [], ◌∷◌, ◌++◌, length, codes, Option, Some, None}
use Rattle.esa_params.specs.Sizes.{Sizes}
use Rattle.esa_params.specs.declared.slot.Access.{Access}
use Rattle.esa_spec.specs.Draws.{Draw}
use Rattle.esa_spec.specs.Files.{trace_bytes}
use Rattle.esa_spec.specs.Traces.{trace}
use Rattle.esa_spec.specs.declared.event.Verdict.{Verdict}
use Rattle.esa_model.specs.Forecast.{made, verdicts}
use Rattle.esa_job.specs.declared.command.Command.TheVariants.{Plan}
use Rattle.esa_job.specs.declared.field.JobField.TheVariants as field
use Rattle.esa_job.specs.Request.{Request, name_at}
use Rattle.esa_refusal.specs.declared.source.Sink.TheVariants.{Trace}
use Rattle.esa_refusal.specs.declared.status.Status.TheVariants as status
use Rattle.esa_refusal.specs.Failures.{verdict_texts}
use Rattle.esa_refusal.specs.Refusal.{numbered}
use Rattle.esa_command.specs.Step.{Step, ◌>>=◌, accepted, Reads}
use Rattle.esa_command.specs.Taking.{job_file}
use Rattle.esa_command.specs.Work.{Work, Write}
use Rattle.esa_shuffling.specs.Shuffle.{sizes_asked, turns_file, coins_file}

-- the line that tells how many accesses are made
abbrev pub accesses_text : ℕ → List ℕ
accesses_text accesses = numbered (codes "accesses ") accesses

-- a trace is written where the job names a file for it
abbrev pub trace_writes : Option (List ℕ) → List Access → List Write
trace_writes None accesses = []
trace_writes (Some name) accesses = record { sink = Trace; name = name; bytes = trace_bytes accesses } ∷ []

-- a line for each attempt and one for the number of accesses
abbrev pub forecast_texts : List Verdict → List Access → List (List ℕ)
forecast_texts verdicts accesses = verdict_texts 0 verdicts ++ accesses_text (length accesses) ∷ []

-- the trace is written, and these lines are printed
abbrev pub forecast_work : Option (List ℕ) → List Verdict → List Access → Work
forecast_work name verdicts accesses = record {
  ended = status.Ok;
  writes = trace_writes name accesses;
  prints = forecast_texts verdicts accesses;
}

-- what a shuffle of these sizes does, by the lists of turns that are handed in, once each is completed
abbrev pub plan_work : Option (List ℕ) → Sizes → List (List ℕ) → (ℕ → Draw) → Work
plan_work name p turns draws = forecast_work name (verdicts p draws 0 (made p draws turns)) (trace p draws (made p draws turns))

abbrev pub plan_drawn : Request → List (List ℕ) → (ℕ → Draw) → Step Work
plan_drawn job turns draws = accepted (plan_work (name_at job field.Trace) (sizes_asked job) turns draws)

-- with the job and its turns: the coins
abbrev pub plan_turned : Request → Reads → List (List ℕ) → Step Work
plan_turned job read turns = coins_file Plan (sizes_asked job) job read >>= plan_drawn job turns

-- with the job: its turns
abbrev pub plan_asked : Reads → Request → Step Work
plan_asked read job = turns_file Plan job read >>= plan_turned job read

-- plan: the job, its turns and its coins
unfoldable pub plan_steps : Bool → List ℕ → Reads → Step Work
plan_steps crew_allowed name read = job_file Plan crew_allowed name read >>= plan_asked read
