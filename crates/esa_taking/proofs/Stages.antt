-- The steps that take in the input of a shuffle: where some are accepted, what the later ones answer is the answer of all.
use Rattle.std.proofs.Common.{Bool, false, List, ℕ, Result, Ok, arith}
use Rattle.esa_batcher.specs.declared.scan.Scanned.{Scanned}
use Rattle.esa_job.specs.Keys.{Ring}
use Rattle.esa_job.specs.Seen.{request_of}
use Rattle.esa_job.specs.declared.command.Command.{Command}
use Rattle.esa_job.specs.declared.job.Job.{Job}
use Rattle.esa_refusal.specs.declared.stop.Stop.{Stop}
use Rattle.esa_command.specs.Judged.{Judged}
use Rattle.esa_command.specs.Stand.{Stand}
use Rattle.esa_command.specs.Taking.{job_file, keys_file}
use Rattle.esa_command.proofs.Composition.{judged_then}
use Rattle.esa_lists.specs.Files.{Files}
use Rattle.esa_shuffling.specs.Shuffle.{turns_file}
use Rattle.esa_taking.specs.declared.input.RunInput.{RunInput}
use Rattle.esa_taking.specs.Run.{drops_file, batch_file, run_steps, run_asked, run_keyed, run_dropped, run_turned, run_batched}
use Rattle.esa_taking.specs.RunTaken.{run_taken}

module _ (command : Command) (crew : Bool) (name : List ℕ) (zero one : Stand Files) (own : Job) (j : Judged 0 1 request_of (job_file command crew name) zero one (Ok own)) where
  pub behind_job : (now : Stand Files) (result : Result RunInput Stop) → Judged 1 6 run_taken (λ read. run_asked command read (request_of own)) one now result → Judged 0 6 run_taken (run_steps command crew name) zero now result
  unfolding run_steps
  behind_job now result = judged_then 0 1 1 6 request_of run_taken (job_file command crew name) (run_asked command) own zero one now (omega arith) j result

  module _ (two : Stand Files) (keys : Ring) (k : Judged 1 2 (λ (ring : Ring). ring) (keys_file command false (request_of own)) one two (Ok keys)) where
    pub behind_keys : (now : Stand Files) (result : Result RunInput Stop) → Judged 2 6 run_taken (λ read. run_keyed command (request_of own) read keys) two now result → Judged 0 6 run_taken (run_steps command crew name) zero now result
    behind_keys now result then = behind_job now result (judged_then 1 2 2 6 (λ (ring : Ring). ring) run_taken (keys_file command false (request_of own)) (run_keyed command (request_of own)) keys one two now (omega arith) k result then)

    module _ (three : Stand Files) (drops : List ℕ) (d : Judged 2 3 (λ (drops : List ℕ). drops) (drops_file command (request_of own)) two three (Ok drops)) where
      pub behind_drops : (now : Stand Files) (result : Result RunInput Stop) → Judged 3 6 run_taken (λ read. run_dropped command (request_of own) keys read drops) three now result
          → Judged 0 6 run_taken (run_steps command crew name) zero now result
      behind_drops now result then =
          behind_keys now result (judged_then 2 3 3 6 (λ (drops : List ℕ). drops) run_taken (drops_file command (request_of own)) (run_dropped command (request_of own) keys) drops two three now (omega arith) d result then)

      module _ (four : Stand Files) (turns : List (List ℕ)) (t : Judged 3 4 (λ (turns : List (List ℕ)). turns) (turns_file command (request_of own)) three four (Ok turns)) where
        pub behind_turns : (now : Stand Files) (result : Result RunInput Stop) → Judged 4 6 run_taken (λ read. run_turned command (request_of own) keys drops read turns) four now result
            → Judged 0 6 run_taken (run_steps command crew name) zero now result
        behind_turns now result then =
            behind_drops now result
            (judged_then 3 4 4 6 (λ (turns : List (List ℕ)). turns) run_taken (turns_file command (request_of own)) (run_turned command (request_of own) keys drops) turns three four now (omega arith) t result then)

        module _ (five : Stand Files) (batch : Scanned) (b : Judged 4 5 (λ (batch : Scanned). batch) (batch_file command (request_of own)) four five (Ok batch)) where
          pub behind_batch : (now : Stand Files) (result : Result RunInput Stop) → Judged 5 6 run_taken (λ read. run_batched command (request_of own) keys drops turns read batch) five now result
              → Judged 0 6 run_taken (run_steps command crew name) zero now result
          behind_batch now result then =
              behind_turns now result
              (judged_then 4 5 5 6 (λ (batch : Scanned). batch) run_taken (batch_file command (request_of own)) (run_batched command (request_of own) keys drops turns) batch four five now (omega arith) b result then)
