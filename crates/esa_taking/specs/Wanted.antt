-- What is asked for, in the words of a shuffle.
use Rattle.std.specs.Prelude.{ℕ, ◌≤◌, List, [], length, if◌then◌else◌, unwrap_or}
use Rattle.esa_envelope.specs.declared.keys.Keys.{Keys}
use Rattle.esa_envelope.specs.declared.label.Label.TheVariants.{Block, Inner, Outer}
use Rattle.esa_envelope.specs.Keys.{keys_from, record_keys}
use Rattle.esa_job.specs.Refusal.{runs_crew}
use Rattle.esa_model.specs.Forecast.{made}
use Rattle.esa_params.specs.Sizes.{Sizes}
use Rattle.esa_spec.specs.Histories.{lists}
use Rattle.esa_taking.specs.Run.{Asked, sizes_with}

abbrev pub sizes_in : Asked → Sizes
sizes_in asked = sizes_with asked.job asked.batch

-- The turns of each attempt of a shuffle with this history. A crew takes its turns as it comes to them: they are those that
-- were stored. Otherwise they are those that are handed in, completed.
abbrev pub turns_by : Asked → (history : List ℕ) → List (List ℕ)
turns_by asked history = if runs_crew asked.job then lists (sizes_in asked).workers history else made (sizes_in asked) asked.draws asked.turns

-- there are turns of no more attempts than are planned
abbrev pub HasFewAttempts : Asked → (history : List ℕ) → Type 0
HasFewAttempts asked history = length (turns_by asked history) ≤ (sizes_in asked).attempts

-- the keys of the blocks, of the outer and of the inner envelopes, by the batch's form and epoch
abbrev pub block_keys : Asked → Keys
block_keys asked = keys_from (unwrap_or asked.keys.run []) Block

abbrev pub outer_keys : Asked → Keys
outer_keys asked = record_keys asked.batch.form asked.batch.epoch (unwrap_or asked.keys.outer []) Outer

abbrev pub inner_keys : Asked → Keys
inner_keys asked = record_keys asked.batch.form asked.batch.epoch (unwrap_or asked.keys.inner []) Inner

-- the key that decides which records are dropped
abbrev pub drop_key : Asked → List ℕ
drop_key asked = unwrap_or asked.keys.drop_key []
