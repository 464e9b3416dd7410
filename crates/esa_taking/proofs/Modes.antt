-- A job that is accepted asks for a crew only where it may.
use Rattle.std.proofs.Common.{◌≡◌, Bool, true, false, cond, ℕ, List, Option, Some, None, Result, Ok, Err, refl, sym, ap, ◌∙◌}
use Rattle.std.specs.Prelude.{◌||◌, not, option_map}
use Rattle.std.specs.Option.{option_or, option_map_or}
use Rattle.esa_job.specs.Refusal.{runs_crew, crew_refusal, first_bad, first_clash, first_limit_past, field_refusal, refusal_of, unless, read_job, job_of}
use Rattle.esa_job.specs.Request.{Request, is_there, mode_at}
use Rattle.esa_job.specs.Seen.{request_of}
use Rattle.esa_job.specs.Table.{only_plans}
use Rattle.esa_job.specs.Values.{is_crew}
use Rattle.esa_job.specs.declared.command.Command.{Command}
use Rattle.esa_job.specs.declared.field.JobField.TheVariants.{Turns, Mode}
use Rattle.esa_job.specs.declared.job.Job.{Job}
use Rattle.esa_job.specs.declared.job.JobRefused.{JobRefused}
use Rattle.esa_job.specs.declared.job.JobRefused.TheVariants as refused_job
use Rattle.esa_job.specs.declared.value.Mode.TheVariants as mode
use Rattle.esa_lists.specs.Files.{Files}
use Rattle.esa_refusal.specs.Stop.{job_refusal}
use Rattle.esa_refusal.specs.declared.source.Source.TheVariants as source
use Rattle.esa_command.specs.Judged.{Judged}
use Rattle.esa_command.specs.Stand.{Stand}
use Rattle.esa_command.specs.Step.{Step, ◌>>=◌, accepted, refused, missing, file}
use Rattle.esa_command.specs.Taking.{read_step, job_file}
use Rattle.esa_command.proofs.Agreeing.{reads_by, agree_by}

-- ---- the job

-- the tests of a job that asks for a crew, by what each finds
by_tests : (crews runs there plans : Bool) → cond (not runs) None (cond there (Some Turns) (cond (plans || not crews) (Some Mode) None)) ≡ None → runs ≡ true → crews ≡ true
by_tests true runs there plans none asks = refl
by_tests false false there plans none asks = cc
by_tests false true true plans none asks = cc
by_tests false true false true none asks = cc
by_tests false true false false none asks = cc

-- neither is there, where the first of two isn't
none_first : {X : Type 0} (one two : Option X) → option_or one two ≡ None → one ≡ None
none_first None two none = refl
none_first (Some x) two none = cc

none_second : {X : Type 0} (one two : Option X) → option_or one two ≡ None → two ≡ None
none_second None two none = none
none_second (Some x) two none = cc

none_mapped : {X Y : Type 0} (f : X → Y) (one : Option X) → option_map f one ≡ None → one ≡ None
none_mapped f None none = refl
none_mapped f (Some x) none = cc

module _ (command : Command) (crews : Bool) (name : List ℕ) (job : Request) where
  by_field : field_refusal crews name job ≡ None → runs_crew job ≡ true → crews ≡ true
  by_field none =
      by_tests crews (runs_crew job) (is_there job Turns) (only_plans job.command)
      (none_second (first_bad job) (crew_refusal crews job) (none_first (option_or (first_bad job) (crew_refusal crews job)) (first_clash job name) none))

  by_refusal : (stated : Request) (refusal : Option JobRefused) → refusal_of crews name stated ≡ refusal → unless refusal stated ≡ Ok job → refusal_of crews name job ≡ None
  by_refusal stated None none is = let same : stated ≡ job = cc in ap (refusal_of crews name) (sym same) ∙ none
  by_refusal stated (Some refusal) none is = cc

  by_request : (stated : Option Request) → read_job command crews name stated ≡ Ok job → refusal_of crews name job ≡ None
  by_request None is = cc
  by_request (Some stated) is = by_refusal stated (refusal_of crews name stated) refl is

  allowed : (text : List ℕ) → job_of command crews name text ≡ Ok job → runs_crew job ≡ true → crews ≡ true
  allowed text is =
      let none = by_request _ is in
      by_field (none_mapped refused_job.Field (field_refusal crews name job) (none_first (option_map refused_job.Field (field_refusal crews name job)) (option_map refused_job.Params (first_limit_past job)) none))

  by_reading : (text : List ℕ) (read : Result Request JobRefused) → job_of command crews name text ≡ read → read_step job_refusal read ≡ accepted job → runs_crew job ≡ true → crews ≡ true
  by_reading text (Ok own) is accepts = let same : own ≡ job = cc in allowed text (is ∙ ap Ok same)
  by_reading text (Err why) is accepts = cc

  by_text : (text : Step (List ℕ)) → (text >>= λ text. read_step job_refusal (job_of command crews name text)) ≡ accepted job → runs_crew job ≡ true → crews ≡ true
  by_text (accepted text) accepts = by_reading text (job_of command crews name text) refl accepts
  by_text (refused refusal) accepts = cc
  by_text (missing at) accepts = cc

-- ---- the job that was taken in

pub taken_allowed : (command : Command) (crews : Bool) (name : List ℕ) (before now : Stand Files) (job : Job) → Judged 0 1 request_of (job_file command crews name) before now (Ok job)
    → runs_crew (request_of job) ≡ true → crews ≡ true
unfolding job_file
taken_allowed command crews name before now job judged =
    let read = reads_by judged.given in
    by_text command crews name (request_of job) (file command source.Job name read) ((judged.answers read (agree_by 0 1 judged.given judged.once)).0)

-- ---- the mode

pub runs : (job : Request) → mode_at job ≡ Some mode.Crew → runs_crew job ≡ true
runs job is = ap (λ stated. option_map_or is_crew stated false) is

pub runs_not : (job : Request) → mode_at job ≡ Some mode.Turns → runs_crew job ≡ false
runs_not job is = ap (λ stated. option_map_or is_crew stated false) is

pub not_allowed : (runs crews : Bool) → (runs ≡ true → crews ≡ true) → crews ≡ false → runs ≡ false
not_allowed false crews allowed none = refl
not_allowed true crews allowed none = let is : true ≡ false = sym (allowed refl) ∙ none in cc
