-- A reader that refuses a file stops the command for want of memory, or for what is wrong with the file.
use Rattle.std.proofs.Common.{◌≡◌, ◌⊎◌, inl, inr, refl}
use Rattle.esa_job.specs.declared.job.JobRefused.{JobRefused}
use Rattle.esa_job.specs.declared.job.JobRefused.TheVariants as job
use Rattle.esa_job.specs.declared.keys.KeysRefused.{KeysRefused}
use Rattle.esa_job.specs.declared.keys.KeysRefused.TheVariants as keys
use Rattle.esa_encoder.specs.declared.submission.EncodeRefused.{EncodeRefused}
use Rattle.esa_encoder.specs.declared.submission.EncodeRefused.TheVariants as encoder
use Rattle.esa_batcher.specs.declared.refused.AddRefused.{AddRefused}
use Rattle.esa_batcher.specs.declared.refused.AddRefused.TheVariants as add
use Rattle.esa_batcher.specs.declared.refused.BatchRefused.{BatchRefused}
use Rattle.esa_batcher.specs.declared.refused.BatchRefused.TheVariants as batch
use Rattle.esa_coins.specs.declared.refused.CoinsRefused.{CoinsRefused}
use Rattle.esa_coins.specs.declared.refused.CoinsRefused.TheVariants as coins
use Rattle.esa_model.specs.declared.turns.TurnsRefused.{TurnsRefused}
use Rattle.esa_model.specs.declared.turns.TurnsRefused.TheVariants as model
use Rattle.esa_threshold.specs.declared.refused.ForwardRefused.{ForwardRefused}
use Rattle.esa_threshold.specs.declared.refused.ForwardRefused.TheVariants as forward
use Rattle.esa_analyser.specs.declared.refused.DbRefused.{DbRefused}
use Rattle.esa_analyser.specs.declared.refused.DbRefused.TheVariants as database
use Rattle.esa_refusal.specs.declared.refusal.Refusal.{Refusal}
use Rattle.esa_refusal.specs.declared.refusal.Refusal.TheVariants as refusal
use Rattle.esa_refusal.specs.declared.stop.Stop.{Stop}
use Rattle.esa_refusal.specs.declared.stop.Stop.TheVariants.{Refused, OutOfMemory}
use Rattle.esa_refusal.specs.Refusal.{IsOfInput}
use Rattle.esa_refusal.specs.Stop.{stop_of_job, stop_of_keys, stop_of_forward, stop_of_database, stop_of_encode, stop_of_add, stop_of_batch, stop_of_turns, stop_of_coins, job_refusal, keys_refusal, encode_refusal, add_refusal, turns_refusal}

-- what it stops for
abbrev pub Stopping : Stop → Refusal → Type 0
Stopping stop why = (stop ≡ OutOfMemory) ⊎ ((stop ≡ Refused why) × IsOfInput why)

pub job_stops : (error : JobRefused) → Stopping (stop_of_job error) (job_refusal error)
job_stops (job.Field field) = inr (refl, tt)
job_stops (job.Params field) = inr (refl, tt)
job_stops job.OutOfMemory = inl refl

pub keys_stops : (error : KeysRefused) → Stopping (stop_of_keys error) (keys_refusal error)
keys_stops (keys.Field field) = inr (refl, tt)
keys_stops keys.OutOfMemory = inl refl

pub forward_stops : (error : ForwardRefused) → Stopping (stop_of_forward error) (refusal.Forward error)
forward_stops (forward.Cut cut) = inr (refl, tt)
forward_stops forward.BadMagic = inr (refl, tt)
forward_stops forward.BadVersion = inr (refl, tt)
forward_stops forward.BadSize = inr (refl, tt)
forward_stops forward.Trailing = inr (refl, tt)
forward_stops (forward.TooMany n) = inr (refl, tt)
forward_stops forward.OutOfMemory = inl refl

pub database_stops : (error : DbRefused) → Stopping (stop_of_database error) (refusal.Database error)
database_stops (database.Cut cut) = inr (refl, tt)
database_stops database.BadMagic = inr (refl, tt)
database_stops database.BadVersion = inr (refl, tt)
database_stops (database.BadLength row) = inr (refl, tt)
database_stops (database.Unsorted row) = inr (refl, tt)
database_stops (database.ZeroCount row) = inr (refl, tt)
database_stops database.Trailing = inr (refl, tt)
database_stops database.OutOfMemory = inl refl

pub encode_stops : (error : EncodeRefused) → Stopping (stop_of_encode error) (encode_refusal error)
encode_stops (encoder.Line why) = inr (refl, tt)
encode_stops (encoder.TooMany n) = inr (refl, tt)
encode_stops encoder.OutOfMemory = inl refl

pub add_stops : (error : AddRefused) → Stopping (stop_of_add error) (add_refusal error)
add_stops (add.Line why) = inr (refl, tt)
add_stops (add.TooMany n) = inr (refl, tt)
add_stops add.OutOfMemory = inl refl

pub batch_stops : (error : BatchRefused) → Stopping (stop_of_batch error) (refusal.Batch error)
batch_stops batch.BadMagic = inr (refl, tt)
batch_stops batch.BadVersion = inr (refl, tt)
batch_stops batch.BadSize = inr (refl, tt)
batch_stops (batch.Cut cut) = inr (refl, tt)
batch_stops batch.Trailing = inr (refl, tt)
batch_stops (batch.Unsorted place) = inr (refl, tt)
batch_stops (batch.TooFew n m) = inr (refl, tt)
batch_stops (batch.TooMany n) = inr (refl, tt)
batch_stops batch.OutOfMemory = inl refl

pub turns_stops : (error : TurnsRefused) → Stopping (stop_of_turns error) (turns_refusal error)
turns_stops (model.Line line) = inr (refl, tt)
turns_stops model.OutOfMemory = inl refl

pub coins_stops : (error : CoinsRefused) → Stopping (stop_of_coins error) (refusal.Coins error)
coins_stops coins.Shape = inr (refl, tt)
coins_stops (coins.Targets attempt) = inr (refl, tt)
coins_stops (coins.Target attempt place) = inr (refl, tt)
coins_stops (coins.Order attempt bucket) = inr (refl, tt)
coins_stops coins.OutOfMemory = inl refl
