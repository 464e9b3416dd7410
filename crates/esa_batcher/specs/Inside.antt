-- What a `Batch` stands for.
use Rattle.esa_batcher.specs.declared.batch.Batch.TheInside.{Inside}
use Rattle.esa_batcher.specs.Batched.{Batched, IsBatch}
use Rattle.esa_batcher.specs.Envelopes.{list_of, form_of}

abbrev pub batched_in : Inside → Batched
batched_in a = record { form = form_of a.envelopes; epoch = a.epoch; list = list_of a.envelopes }

-- they are a batch
abbrev pub IsBatched : Inside → Type 0
IsBatched a = IsBatch (batched_in a)
