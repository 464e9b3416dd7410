-- The first thing that a job is refused for.
use Rattle.std.specs.Prelude.{◌≡◌, ℕ, Bool, true, false, ◌&&◌, ◌||◌, not, List, [], ◌∷◌, find, bytes_eq, Option, Some, None, is_none, option_map, option_and_then, unwrap_or, Result, Ok, Err, if◌then◌else◌}
use Rattle.std.specs.List.{list_any}
use Rattle.std.specs.Option.{option_or, option_map_or}
use Rattle.serde_json.specs.Data.{Data}
use Rattle.esa_json.specs.Object.{object_of}
use Rattle.esa_params.specs.Limits.{is_from, first_past}
use Rattle.esa_params.specs.declared.params as params
use Rattle.esa_params.specs.declared.field.ParamField.{ParamField}
use Rattle.esa_job.specs.declared.command.Command.{Command}
use Rattle.esa_job.specs.declared.field.JobField.{JobField}
use Rattle.esa_job.specs.declared.field.JobField.TheVariants.{Job, Keys, Input, Output, Trace, Turns, TurnsOut, Drops, Coins, Seed, Draw, B, C, S, K, W, Q, Workers, Attempts, Mode}
use Rattle.esa_job.specs.declared.job.JobRefused.{JobRefused}
use Rattle.esa_job.specs.declared.job.JobRefused.TheVariants as refused
use Rattle.esa_job.specs.Request.{Request, is_used, is_needed, value_at, is_there, name_at, number_at, draw_at, mode_at, inputs_at}
use Rattle.esa_job.specs.Table.{fields, limited_fields, kind_of, limits_of, need_of, only_plans}
use Rattle.esa_job.specs.declared.table.Limits.{Limits}
use Rattle.esa_job.specs.Values.{accepts, name_in, is_separators, is_crew}

-- ---- the first bad field

-- the field is there, with a value of another type
abbrev pub is_ill_typed : Request → JobField → Bool
is_ill_typed job field = option_map_or (λ value. not (accepts (kind_of field) value)) (value_at job field) false

-- the command needs the field, and it isn't there
abbrev pub is_missing : Request → JobField → Bool
is_missing job field = is_needed (need_of field job.command) && not (is_there job field)

-- there are neither coins nor a seed, for a command that uses them
abbrev pub lacks_coins : Request → Bool
lacks_coins job = is_used (need_of Coins job.command) && not (is_there job Coins) && not (is_there job Seed)

abbrev pub draws_separators : Request → Bool
draws_separators job = option_map_or is_separators (draw_at job) false

-- Of the coins and the seed exactly one has to be there: the coins are bad where there are neither, the seed where
-- there are both. Separators are drawn from a seed alone.
abbrev pub breaks_rule : Request → JobField → Bool
breaks_rule job Coins = lacks_coins job
breaks_rule job Seed = is_there job Seed && is_there job Coins
breaks_rule job Draw = draws_separators job && not (is_there job Seed)
breaks_rule job _ = false

abbrev pub is_bad : Request → JobField → Bool
is_bad job field = is_missing job field || is_ill_typed job field || breaks_rule job field

-- the first bad field in the order of the table
unfoldable pub first_bad : Request → Option JobField
first_bad job = find (is_bad job) fields

-- ---- workers

abbrev pub runs_crew : Request → Bool
runs_crew job = option_map_or is_crew (mode_at job) false

-- workers take no handed-in turns, run only where they may, and are not planned for
abbrev pub crew_refusal : Bool → Request → Option JobField
crew_refusal crew_allowed job =
    if not (runs_crew job) then None
    else if is_there job Turns then Some Turns
    else if only_plans job.command || not crew_allowed then Some Mode
    else None

-- ---- names of files to write

-- the value is this name
abbrev pub is_name_of : List ℕ → Data → Bool
is_name_of name value = option_map_or (bytes_eq name) (name_in value) false

-- the field has this name
abbrev pub is_named : Request → List ℕ → JobField → Bool
is_named job name field = option_map_or (bytes_eq name) (name_at job field) false

-- one of the fields has this name
abbrev pub has_name : Request → List JobField → List ℕ → Bool
has_name job fields name = list_any (is_named job name) fields

-- the fields that name a file to read, beside the inputs
abbrev pub read_fields : List JobField
read_fields = Keys ∷ Input ∷ Turns ∷ Drops ∷ Coins ∷ []

-- the name is that of the job file, of a file to read, or of one of these fields
abbrev pub is_taken : Request → List ℕ → List JobField → List ℕ → Bool
is_taken job job_name earlier name =
    bytes_eq name job_name || has_name job read_fields name || list_any (bytes_eq name) (inputs_at job) || has_name job earlier name

abbrev pub clashes : Request → List ℕ → JobField → List JobField → Bool
clashes job job_name field earlier = option_map_or (is_taken job job_name earlier) (name_at job field) false

-- the first file to write whose name is taken, also by those before it
unfoldable pub first_clash : Request → List ℕ → Option JobField
first_clash job job_name =
    if clashes job job_name Output [] then Some Output
    else if clashes job job_name Trace (Output ∷ []) then Some Trace
    else if clashes job job_name TurnsOut (Output ∷ Trace ∷ []) then Some TurnsOut
    else None

-- ---- limits

abbrev pub number_or_zero : Request → JobField → ℕ
number_or_zero job field = unwrap_or (number_at job field) 0

abbrev pub params_of : Request → params.Params.Params
params_of job = record {
  b = number_or_zero job B;
  c = number_or_zero job C;
  s = number_or_zero job S;
  k = number_or_zero job K;
  w = number_or_zero job W;
  q = number_or_zero job Q;
  workers = number_or_zero job Workers;
  attempts = number_or_zero job Attempts;
}

-- the first parameter past its limits, for a command that uses them
abbrev pub first_param_past : Request → Option ParamField
first_param_past job = if is_used (need_of B job.command) then first_past (params_of job) else None

-- the number is there, and isn't within these limits
abbrev pub is_outside : Option ℕ → Limits → Bool
is_outside number limits = option_map_or (λ n. not (is_from n limits.least limits.greatest)) number false

-- the number is there, and isn't within the limits of its row
abbrev pub is_past : Request → JobField → Bool
is_past job field = option_map_or (is_outside (number_at job field)) (limits_of field) false

-- what a number that is past the limits of its row is refused as
abbrev pub param_of : JobField → Option ParamField
param_of field = option_map (λ limits. limits.param) (limits_of field)

-- the first of the other numbers that is past its limits
abbrev pub first_past_field : Request → Option JobField
first_past_field job = find (is_past job) limited_fields

unfoldable pub first_other_past : Request → Option ParamField
first_other_past job = option_and_then param_of (first_past_field job)

abbrev pub first_limit_past : Request → Option ParamField
first_limit_past job = option_or (first_param_past job) (first_other_past job)

-- ---- all together, in order

abbrev pub field_refusal : Bool → List ℕ → Request → Option JobField
field_refusal crew_allowed job_name job =
    option_or (option_or (first_bad job) (crew_refusal crew_allowed job)) (first_clash job job_name)

abbrev pub refusal_of : Bool → List ℕ → Request → Option JobRefused
refusal_of crew_allowed job_name job =
    option_or (option_map refused.Field (field_refusal crew_allowed job_name job)) (option_map refused.Params (first_limit_past job))

-- no field is bad, and each number keeps its limits
abbrev pub is_acceptable : Request → Bool
is_acceptable job = is_none (first_bad job) && is_none (first_limit_past job)

abbrev pub IsAcceptable : Request → Type 0
IsAcceptable job = is_acceptable job ≡ true

-- the value, unless it is refused
abbrev pub unless : {A E : Type 0} → Option E → A → Result A E
unless None value = Ok value
unless (Some refusal) value = Err refusal

-- the job that the bytes of a job file of this name state, or what it is refused for first
abbrev pub read_job : Command → Bool → List ℕ → Option Request → Result Request JobRefused
read_job command crew_allowed job_name None = Err (refused.Field Job)
read_job command crew_allowed job_name (Some job) = unless (refusal_of crew_allowed job_name job) job

abbrev pub job_of : Command → Bool → List ℕ → List ℕ → Result Request JobRefused
job_of command crew_allowed job_name bytes =
    read_job command crew_allowed job_name (option_map (λ object. record { command = command; object = object }) (object_of bytes))
