-- What gen takes in, writes and prints.
use Rattle.std.specs.Prelude.{ℕ, zero, suc, ◌+◌, ◌*◌, ◌/◌, ◌%◌, ◌^◌, Bool, List, [], ◌∷◌, ◌++◌, codes, decimal}
use Rattle.esa_job.specs.declared.command.Command.TheVariants.{Gen}
use Rattle.esa_job.specs.declared.field.JobField.TheVariants as field
use Rattle.esa_job.specs.Request.{Request}
use Rattle.esa_refusal.specs.declared.source.Sink.TheVariants.{Output}
use Rattle.esa_refusal.specs.declared.status.Status.TheVariants as status
use Rattle.esa_refusal.specs.Refusal.{numbered}
use Rattle.esa_command.specs.Asked.{number_of}
use Rattle.esa_command.specs.Step.{Step, ◌>>=◌, accepted, Reads}
use Rattle.esa_command.specs.Taking.{name_of, job_file}
use Rattle.esa_command.specs.Work.{Work}

-- the states of the generator: that before the first report is given
abbrev pub next_state : ℕ → ℕ
next_state state = (state * 6364136223846793005 + 1442695040888963407) % 2 ^ 64

unfoldable pub state_at : ℕ → ℕ → ℕ
state_at start zero = start
state_at start (suc number) = next_state (state_at start number)

-- the report of a number and a state: a moment, and a sender, a crowd and a value out of a few
abbrev pub report_line : (crowds number state : ℕ) → List ℕ
report_line crowds number state =
    decimal (1700000000 + number)
    ++ (numbered (codes "\ts") (state / 2 ^ 33 % 1000)
    ++ (numbered (codes "\tc") (state / 2 ^ 40 % crowds)
    ++ (numbered (codes "\tv") (state / 2 ^ 48 % 7)
    ++ codes "\n")))

-- the reports of the numbers from 1 on, so many of them
unfoldable pub generated : (start crowds : ℕ) → ℕ → List ℕ
generated start crowds zero = []
generated start crowds (suc number) = generated start crowds number ++ report_line crowds (suc number) (state_at start (suc number))

-- the line that tells how many they are
abbrev pub generated_text : ℕ → List ℕ
generated_text records = numbered (codes "generated ") records

-- the reports are written, and their number is printed
abbrev pub generate_work : List ℕ → (start crowds records : ℕ) → Work
generate_work output start crowds records = record {
  ended = status.Ok;
  writes = record { sink = Output; name = output; bytes = generated start crowds records } ∷ [];
  prints = generated_text records ∷ [];
}

-- what a job asks for
abbrev pub generate_asked : Request → Work
generate_asked job = generate_work (name_of job field.Output) (number_of job field.Number) (number_of job field.Crowds) (number_of job field.Records)

-- gen: the job alone
abbrev pub generate_steps : Bool → List ℕ → Reads → Step Work
generate_steps crew_allowed name read = job_file Gen crew_allowed name read >>= λ job. accepted (generate_asked job)
