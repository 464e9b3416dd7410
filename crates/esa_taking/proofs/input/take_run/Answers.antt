use Rattle.std.proofs.Common.{◌≡◌, ◌∙◌, Ok, Err, true, false, refl, sym, subst, arith}
use Rattle.std.specs.Prelude.{IsSome}
use Rattle.std.proofs.lemmas.Result.{err_from_is_err_and}
use Rattle.esa_job.specs.Keys.{needs_key, key_of}
use Rattle.esa_job.specs.Seen.{request_of}
use Rattle.esa_job.specs.declared.command.Command.{Command}
use Rattle.esa_job.specs.declared.keys.KeyField.{KeyField}
use Rattle.esa_params.specs.Sizes.{ArePlanned}
use Rattle.esa_job.specs.declared.field.JobField.TheVariants as field
use Rattle.esa_command.specs.Judged.{Judged}
use Rattle.esa_command.specs.Stand.{stand}
use Rattle.esa_command.specs.Taking.{name_of, job_file, keys_file}
use Rattle.esa_command.proofs.Composition.{judged_stop, judged_made}
use Rattle.esa_shuffling.specs.Drawn.{draws_of}
use Rattle.esa_shuffling.specs.Shuffle.{turns_file, coins_file}
use Rattle.esa_taking.specs.declared.input.RunInput.{RunInput}
use Rattle.esa_taking.specs.Run.{Shuffles, IsInside, sizes_with, drops_file, batch_file, run_steps, run_asked, run_keyed, run_dropped, run_turned, run_batched, run_drawn}
use Rattle.esa_taking.specs.RunTaken.{run_taken}
use Rattle.esa_taking.proofs.Modes.{taken_allowed}
use Rattle.esa_taking.proofs.Needed.{needs}
use Rattle.esa_taking.proofs.Stages.{behind_job, behind_keys, behind_drops, behind_turns, behind_batch}
use Rattle.esa_taking.proofs.input.take_run.Goals as goal

pub returns-in_err-job-clause-judged : goal.returns-in_err-job-clause-judged
unfolding run_steps
returns-in_err-job-clause-judged g c =
    let p = err_from_is_err_and c.from_residual.result c.from_residual.ensures.1 in
    let stands = stand g.K.Cabinet.told g.K.Cabinet.faults g.K.Cabinet.heard in
    rw (p.1, p.2) (judged_stop 0 0 1 6 request_of run_taken (job_file c.args.command c.args.crew_allowed c.args.name.now) (run_asked c.args.command) (stands c.args.cabinet.now) (stands c.take_job.new.cabinet) c.in_err-job.field-0.0 (omega arith) c.in_err-job.ensures.judged)

pub returns-in_err-keys-clause-judged : goal.returns-in_err-keys-clause-judged
returns-in_err-keys-clause-judged g c =
    let p = err_from_is_err_and c.from_residual-in_err-keys.result c.from_residual-in_err-keys.ensures.1 in
    let stands = stand g.K.Cabinet.told g.K.Cabinet.faults g.K.Cabinet.heard in
    rw (p.1, p.2) (behind_job c.args.command c.args.crew_allowed c.args.name.now (stands c.args.cabinet.now) (stands c.take_job.new.cabinet) c.in_ok-job.job c.in_ok-job.ensures.judged
    (stands c.take_keys.new.cabinet) (Err c.in_err-keys.field-0.0)
    (judged_stop 1 1 2 6 (λ ring. ring) run_taken (keys_file c.args.command false (request_of c.in_ok-job.job)) (run_keyed c.args.command (request_of c.in_ok-job.job)) (stands c.take_job.new.cabinet) (stands c.take_keys.new.cabinet) c.in_err-keys.field-0.0 (omega arith) c.in_err-keys.ensures.judged))

pub returns-in_err-drops-clause-judged : goal.returns-in_err-drops-clause-judged
returns-in_err-drops-clause-judged g c =
    let p = err_from_is_err_and c.from_residual-in_err-drops.result c.from_residual-in_err-drops.ensures.1 in
    let stands = stand g.K.Cabinet.told g.K.Cabinet.faults g.K.Cabinet.heard in
    rw (p.1, p.2) (behind_keys c.args.command c.args.crew_allowed c.args.name.now (stands c.args.cabinet.now) (stands c.take_job.new.cabinet) c.in_ok-job.job c.in_ok-job.ensures.judged (stands c.take_keys.new.cabinet) c.in_ok-keys.keys c.in_ok-keys.ensures.judged
    (stands c.take_drops.new.cabinet) (Err c.in_err-drops.field-0.0)
    (judged_stop 2 2 3 6 (λ drops. drops) run_taken (drops_file c.args.command (request_of c.in_ok-job.job)) (run_dropped c.args.command (request_of c.in_ok-job.job) c.in_ok-keys.keys) (stands c.take_keys.new.cabinet) (stands c.take_drops.new.cabinet) c.in_err-drops.field-0.0 (omega arith) c.in_err-drops.ensures))

pub returns-in_err-turns-clause-judged : goal.returns-in_err-turns-clause-judged
returns-in_err-turns-clause-judged g c =
    let p = err_from_is_err_and c.from_residual-in_err-turns.result c.from_residual-in_err-turns.ensures.1 in
    let stands = stand g.K.Cabinet.told g.K.Cabinet.faults g.K.Cabinet.heard in
    rw (p.1, p.2) (behind_drops c.args.command c.args.crew_allowed c.args.name.now (stands c.args.cabinet.now) (stands c.take_job.new.cabinet) c.in_ok-job.job c.in_ok-job.ensures.judged (stands c.take_keys.new.cabinet) c.in_ok-keys.keys c.in_ok-keys.ensures.judged (stands c.take_drops.new.cabinet) c.in_ok-drops.drops c.in_ok-drops.ensures
    (stands c.take_turns.new.cabinet) (Err c.in_err-turns.field-0.0)
    (judged_stop 3 3 4 6 (λ turns. turns) run_taken (turns_file c.args.command (request_of c.in_ok-job.job)) (run_turned c.args.command (request_of c.in_ok-job.job) c.in_ok-keys.keys c.in_ok-drops.drops) (stands c.take_drops.new.cabinet) (stands c.take_turns.new.cabinet) c.in_err-turns.field-0.0 (omega arith) c.in_err-turns.ensures.judged))

pub returns-in_err-batch-clause-judged : goal.returns-in_err-batch-clause-judged
returns-in_err-batch-clause-judged g c =
    let p = err_from_is_err_and c.from_residual-in_err-batch.result c.from_residual-in_err-batch.ensures.1 in
    let stands = stand g.K.Cabinet.told g.K.Cabinet.faults g.K.Cabinet.heard in
    rw (p.1, p.2) (behind_turns c.args.command c.args.crew_allowed c.args.name.now (stands c.args.cabinet.now) (stands c.take_job.new.cabinet) c.in_ok-job.job c.in_ok-job.ensures.judged (stands c.take_keys.new.cabinet) c.in_ok-keys.keys c.in_ok-keys.ensures.judged (stands c.take_drops.new.cabinet) c.in_ok-drops.drops c.in_ok-drops.ensures (stands c.take_turns.new.cabinet) c.in_ok-turns.turns c.in_ok-turns.ensures.judged
    (stands c.take_batch.new.cabinet) (Err c.in_err-batch.field-0.0)
    (judged_stop 4 4 5 6 (λ batch. batch) run_taken (batch_file c.args.command (request_of c.in_ok-job.job)) (run_batched c.args.command (request_of c.in_ok-job.job) c.in_ok-keys.keys c.in_ok-drops.drops c.in_ok-turns.turns) (stands c.take_turns.new.cabinet) (stands c.take_batch.new.cabinet) c.in_err-batch.field-0.0 (omega arith) c.in_err-batch.ensures.judged))

pub returns-in_err-coins-clause-judged : goal.returns-in_err-coins-clause-judged
returns-in_err-coins-clause-judged g c =
    let p = err_from_is_err_and c.from_residual-in_err-coins.result c.from_residual-in_err-coins.ensures.1 in
    let stands = stand g.K.Cabinet.told g.K.Cabinet.faults g.K.Cabinet.heard in
    let drawn = run_drawn (request_of c.in_ok-job.job) c.in_ok-keys.keys c.in_ok-drops.drops c.in_ok-turns.turns c.in_ok-batch.batch in
    let judged = subst (λ p. Judged 5 6 draws_of (coins_file c.args.command p (request_of c.in_ok-job.job)) (stands c.take_batch.new.cabinet) (stands c.take_coins.new.cabinet) (Err c.in_err-coins.field-0.0)) c.plan_with-plan.ensures.sizes c.in_err-coins.ensures.judged in
    rw (p.1, p.2) (behind_batch c.args.command c.args.crew_allowed c.args.name.now (stands c.args.cabinet.now) (stands c.take_job.new.cabinet) c.in_ok-job.job c.in_ok-job.ensures.judged (stands c.take_keys.new.cabinet) c.in_ok-keys.keys c.in_ok-keys.ensures.judged (stands c.take_drops.new.cabinet) c.in_ok-drops.drops c.in_ok-drops.ensures (stands c.take_turns.new.cabinet) c.in_ok-turns.turns c.in_ok-turns.ensures.judged (stands c.take_batch.new.cabinet) c.in_ok-batch.batch c.in_ok-batch.ensures.judged
    (stands c.take_coins.new.cabinet) (Err c.in_err-coins.field-0.0)
    (judged_stop 5 5 6 6 draws_of run_taken (coins_file c.args.command (sizes_with (request_of c.in_ok-job.job) c.in_ok-batch.batch) (request_of c.in_ok-job.job)) (λ _. drawn) (stands c.take_batch.new.cabinet) (stands c.take_coins.new.cabinet) c.in_err-coins.field-0.0 (omega arith) judged))

pub returns-clause-judged : goal.returns-clause-judged
returns-clause-judged g c =
    let stands = stand g.K.Cabinet.told g.K.Cabinet.faults g.K.Cabinet.heard in
    let drawn = run_drawn (request_of c.in_ok-job.job) c.in_ok-keys.keys c.in_ok-drops.drops c.in_ok-turns.turns c.in_ok-batch.batch in
    let judged = subst (λ p. Judged 5 6 draws_of (coins_file c.args.command p (request_of c.in_ok-job.job)) (stands c.take_batch.new.cabinet) (stands c.take_coins.new.cabinet) (Ok c.in_ok-coins.coins)) c.plan_with-plan.ensures.sizes c.in_ok-coins.ensures.judged in
    let input : RunInput = record {
      job = c.in_ok-job.job;
      keys = c.in_ok-keys.keys;
      drops = c.in_ok-drops.drops;
      turns = c.in_ok-turns.turns;
      batch = c.in_ok-batch.batch;
      coins = c.in_ok-coins.coins;
      plan = c.plan_with-plan.result;
    } in
    behind_batch c.args.command c.args.crew_allowed c.args.name.now (stands c.args.cabinet.now) (stands c.take_job.new.cabinet) c.in_ok-job.job c.in_ok-job.ensures.judged (stands c.take_keys.new.cabinet) c.in_ok-keys.keys c.in_ok-keys.ensures.judged (stands c.take_drops.new.cabinet) c.in_ok-drops.drops c.in_ok-drops.ensures (stands c.take_turns.new.cabinet) c.in_ok-turns.turns c.in_ok-turns.ensures.judged (stands c.take_batch.new.cabinet) c.in_ok-batch.batch c.in_ok-batch.ensures.judged
    (stands c.take_coins.new.cabinet) (Ok input)
    (judged_made 5 6 draws_of run_taken (coins_file c.args.command (sizes_with (request_of c.in_ok-job.job) c.in_ok-batch.batch) (request_of c.in_ok-job.job)) drawn c.in_ok-coins.coins (stands c.take_batch.new.cabinet) (stands c.take_coins.new.cabinet) judged input refl)

pub returns-clause-inside : goal.returns-clause-inside
returns-clause-inside g c =
    let batched : g.K.Cabinet.told c.take_batch.new.cabinet ≡ g.K.Cabinet.told c.take_turns.new.cabinet = c.in_ok-batch.ensures.judged.told in
    let drawn : g.K.Cabinet.told c.take_coins.new.cabinet ≡ g.K.Cabinet.told c.take_batch.new.cabinet = c.in_ok-coins.ensures.judged.told in
    subst (λ told. IsInside told (name_of (request_of c.in_ok-job.job) field.Input) c.in_ok-batch.batch) (sym (drawn ∙ batched)) c.in_ok-batch.ensures.inside

pub take_keys-requires : goal.take_keys-requires
take_keys-requires g c = needs field.Keys (request_of c.in_ok-job.job).command c.args.command c.in_ok-job.ensures.command c.requires refl refl

pub take_turns-requires : goal.take_turns-requires
take_turns-requires g c = needs field.B (request_of c.in_ok-job.job).command c.args.command c.in_ok-job.ensures.command c.requires refl refl

pub take_batch-requires-clause-input : goal.take_batch-requires-clause-input
take_batch-requires-clause-input g c = needs field.Input (request_of c.in_ok-job.job).command c.args.command c.in_ok-job.ensures.command c.requires refl refl

pub take_batch-requires-clause-least : goal.take_batch-requires-clause-least
take_batch-requires-clause-least g c = needs field.M (request_of c.in_ok-job.job).command c.args.command c.in_ok-job.ensures.command c.requires refl refl

pub plan_with-plan-requires-clause-parameters : goal.plan_with-plan-requires-clause-parameters
plan_with-plan-requires-clause-parameters g c = needs field.B (request_of c.in_ok-job.job).command c.args.command c.in_ok-job.ensures.command c.requires refl refl

pub returns-clause-taken : goal.returns-clause-taken
returns-clause-taken g c = record {
  shuffles = subst Shuffles (sym c.in_ok-job.ensures.command) c.requires;
  keys = subst (λ (command : Command). (key : KeyField) → needs_key command false key ≡ true → IsSome (key_of c.in_ok-keys.keys key)) (sym c.in_ok-job.ensures.command) c.in_ok-keys.ensures.needed;
  plan = c.plan_with-plan.ensures.sizes;
  limits = subst ArePlanned c.plan_with-plan.ensures.sizes c.plan_with-plan.ensures.limits;
  turns = c.in_ok-turns.ensures.workers;
  coins = c.in_ok-coins.ensures.plan ∙ c.plan_with-plan.ensures.sizes;
}

pub returns-clause-mode : goal.returns-clause-mode
returns-clause-mode g c =
    let stands = stand g.K.Cabinet.told g.K.Cabinet.faults g.K.Cabinet.heard in
    taken_allowed c.args.command c.args.crew_allowed c.args.name.now (stands c.args.cabinet.now) (stands c.take_job.new.cabinet) c.in_ok-job.job c.in_ok-job.ensures.judged
