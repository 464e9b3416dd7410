-- How a command stops for what batching was refused.
use Rattle.std.proofs.Common.{◌≡◌, ◌⊎◌, inl, inr, Result, refl, ap}
use Rattle.esa_batcher.specs.Batched.{Batched}
use Rattle.esa_refusal.specs.declared.refusal.Refusal.{Refusal}
use Rattle.esa_refusal.specs.declared.refusal.Refusal.TheVariants as refusal
use Rattle.esa_refusal.specs.declared.stop.Stop.{Stop}
use Rattle.esa_refusal.specs.declared.stop.Stop.TheVariants.{Refused, Unread, OutOfMemory}
use Rattle.esa_refusal.proofs.Stops.{Stopping}
use Rattle.esa_command.specs.Step.{step_of, refused}
use Rattle.esa_shuffling.specs.Batch.{StopsBatching}

pub batching_stops : (made : Result Batched Refusal) (stop : Stop) → StopsBatching made stop → (why : Refusal) × Stopping stop why × ((stop ≡ OutOfMemory) ⊎ (step_of made ≡ refused why))
batching_stops made (Refused why) stops = (why, inr (refl, stops.1), inr (ap step_of stops.0))
batching_stops made (Unread source) stops = absurd stops
batching_stops made OutOfMemory stops = (refusal.Lines 0, inl refl, inl refl)
