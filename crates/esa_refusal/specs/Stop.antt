-- Why a command stops, by what a reader answers.
use Rattle.esa_job.specs.declared.job.JobRefused.{JobRefused}
use Rattle.esa_job.specs.declared.job.JobRefused.TheVariants as job
use Rattle.esa_job.specs.declared.keys.KeysRefused.{KeysRefused}
use Rattle.esa_job.specs.declared.keys.KeysRefused.TheVariants as keys
use Rattle.esa_encoder.specs.declared.submission.EncodeRefused.{EncodeRefused}
use Rattle.esa_encoder.specs.declared.submission.EncodeRefused.TheVariants as encoder
use Rattle.esa_batcher.specs.declared.refused.AddRefused.{AddRefused}
use Rattle.esa_batcher.specs.declared.refused.AddRefused.TheVariants as add
use Rattle.esa_batcher.specs.declared.refused.BatchRefused.{BatchRefused}
use Rattle.esa_batcher.specs.declared.refused.BatchRefused.TheVariants as batch
use Rattle.esa_coins.specs.declared.refused.CoinsRefused.{CoinsRefused}
use Rattle.esa_coins.specs.declared.refused.CoinsRefused.TheVariants as coins
use Rattle.esa_model.specs.declared.turns.TurnsRefused.{TurnsRefused}
use Rattle.esa_model.specs.declared.turns.TurnsRefused.TheVariants as model
use Rattle.esa_threshold.specs.declared.refused.ForwardRefused.{ForwardRefused}
use Rattle.esa_threshold.specs.declared.refused.ForwardRefused.TheVariants as forward
use Rattle.esa_analyser.specs.declared.refused.DbRefused.{DbRefused}
use Rattle.esa_analyser.specs.declared.refused.DbRefused.TheVariants as database
use Rattle.esa_refusal.specs.declared.refusal.Refusal.TheVariants as refusal
use Rattle.esa_refusal.specs.declared.stop.Stop.{Stop}
use Rattle.esa_refusal.specs.declared.stop.Stop.TheVariants.{Refused, OutOfMemory}
use Rattle.esa_job.specs.declared.field.JobField.TheVariants as field
use Rattle.esa_job.specs.declared.keys.KeyField.TheVariants as key
use Rattle.esa_refusal.specs.declared.refusal.Refusal.{Refusal}

-- What a file is refused for, where that has several words. Of a file's bytes alone none of the readers' definitions
-- says that memory is wanted, so the last case of each only fills the table.
abbrev pub job_refusal : JobRefused → Refusal
job_refusal (job.Field field) = refusal.Job field
job_refusal (job.Params field) = refusal.Params field
job_refusal job.OutOfMemory = refusal.Job field.Job

abbrev pub keys_refusal : KeysRefused → Refusal
keys_refusal (keys.Field field) = refusal.Keys field
keys_refusal keys.OutOfMemory = refusal.Keys key.Keys

abbrev pub encode_refusal : EncodeRefused → Refusal
encode_refusal (encoder.Line why) = refusal.Line why
encode_refusal (encoder.TooMany n) = refusal.Lines n
encode_refusal encoder.OutOfMemory = refusal.Lines 0

abbrev pub add_refusal : AddRefused → Refusal
add_refusal (add.Line why) = refusal.Line why
add_refusal (add.TooMany n) = refusal.Lines n
add_refusal add.OutOfMemory = refusal.Lines 0

abbrev pub turns_refusal : TurnsRefused → Refusal
turns_refusal (model.Line line) = refusal.Turns line
turns_refusal model.OutOfMemory = refusal.Turns 0

abbrev pub stop_of_job : JobRefused → Stop
stop_of_job job.OutOfMemory = OutOfMemory
stop_of_job refused = Refused (job_refusal refused)

abbrev pub stop_of_keys : KeysRefused → Stop
stop_of_keys keys.OutOfMemory = OutOfMemory
stop_of_keys refused = Refused (keys_refusal refused)

abbrev pub stop_of_forward : ForwardRefused → Stop
stop_of_forward forward.OutOfMemory = OutOfMemory
stop_of_forward refused = Refused (refusal.Forward refused)

abbrev pub stop_of_database : DbRefused → Stop
stop_of_database database.OutOfMemory = OutOfMemory
stop_of_database refused = Refused (refusal.Database refused)

abbrev pub stop_of_encode : EncodeRefused → Stop
stop_of_encode encoder.OutOfMemory = OutOfMemory
stop_of_encode refused = Refused (encode_refusal refused)

abbrev pub stop_of_add : AddRefused → Stop
stop_of_add add.OutOfMemory = OutOfMemory
stop_of_add refused = Refused (add_refusal refused)

abbrev pub stop_of_batch : BatchRefused → Stop
stop_of_batch batch.OutOfMemory = OutOfMemory
stop_of_batch refused = Refused (refusal.Batch refused)

abbrev pub stop_of_turns : TurnsRefused → Stop
stop_of_turns model.OutOfMemory = OutOfMemory
stop_of_turns refused = Refused (turns_refusal refused)

abbrev pub stop_of_coins : CoinsRefused → Stop
stop_of_coins coins.OutOfMemory = OutOfMemory
stop_of_coins refused = Refused (refusal.Coins refused)
