-- What histogram takes in and prints.
use Rattle.std.specs.Prelude.{ℕ, Bool, List, [], ◌∷◌, ◌++◌, map}
use Rattle.esa_job.specs.declared.command.Command.TheVariants.{Histogram}
use Rattle.esa_job.specs.Request.{Request}
use Rattle.esa_analyser.specs.Database.{Database}
use Rattle.esa_analysing.specs.RowText.{row_text, unopened_text}
use Rattle.esa_analyser.specs.Stored.{Stored}
use Rattle.esa_refusal.specs.declared.status.Status.TheVariants as status
use Rattle.esa_command.specs.Step.{Step, ◌>>=◌, accepted, Reads}
use Rattle.esa_command.specs.Work.{Work}
use Rattle.esa_analysing.specs.Database.{database_input}

-- a line for each row, and one for the envelopes that gave no value
abbrev pub histogram_texts : Database → List (List ℕ)
histogram_texts database = map row_text database.rows ++ unopened_text database.unopened ∷ []

-- nothing is written, and the database is printed for people
abbrev pub histogram_work : Request × Stored → Work
histogram_work input = record { ended = status.Ok; writes = []; prints = histogram_texts input.1.database }

-- histogram: the job and its database file
abbrev pub histogram_steps : Bool → List ℕ → Reads → Step Work
histogram_steps crew_allowed name read = database_input Histogram crew_allowed name read >>= λ input. accepted (histogram_work input)
