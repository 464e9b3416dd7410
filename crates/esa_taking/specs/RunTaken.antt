-- What run and shuffle have taken in.
use Rattle.std.specs.Prelude.{◌≡◌, Bool, true, false, IsSome}
use Rattle.esa_coins.specs.AnyCoins.{any_plan}
use Rattle.esa_job.specs.declared.keys.KeyField.{KeyField}
use Rattle.esa_job.specs.Keys.{needs_key, key_of}
use Rattle.esa_job.specs.Refusal.{runs_crew}
use Rattle.esa_job.specs.Seen.{request_of}
use Rattle.esa_model.specs.Turns.{AreWorkers}
use Rattle.esa_params.specs.Sizes.{ArePlanned}
use Rattle.esa_shuffling.specs.Drawn.{draws_of}
use Rattle.esa_taking.specs.declared.input.RunInput.{RunInput}
use Rattle.esa_taking.specs.Run.{Asked, Shuffles}
use Rattle.esa_taking.specs.Wanted.{sizes_in}

-- what is asked for with it
abbrev pub run_taken : RunInput → Asked
run_taken input = record {
  job = request_of input.job;
  keys = input.keys;
  drops = input.drops;
  turns = input.turns;
  batch = input.batch;
  draws = draws_of input.coins;
}

-- it is what a command needs that shuffles a batch: its keys, a plan of the batch, and turns and coins for that plan
pub record IsTaken (input : RunInput) : Type 0 where
  pub shuffles : Shuffles (request_of input.job).command
  pub keys : (key : KeyField) → needs_key (request_of input.job).command false key ≡ true → IsSome (key_of input.keys key)
  pub plan : input.plan ≡ sizes_in (run_taken input)
  pub limits : ArePlanned (sizes_in (run_taken input))
  pub turns : AreWorkers (sizes_in (run_taken input)).workers input.turns
  pub coins : any_plan input.coins ≡ sizes_in (run_taken input)

-- it asks for a crew only where a job may
abbrev pub MayRun : (crews : Bool) → RunInput → Type 0
MayRun crews input = runs_crew (request_of input.job) ≡ true → crews ≡ true
