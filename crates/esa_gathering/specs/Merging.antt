-- What is left of the batches of several texts, as they are merged.
use Rattle.std.specs.Prelude.{◌≡◌, ℕ, ◌≤◌, ◌<◌, List, [], length, flat_map, drop, slice_index_or, None}
use Rattle.std.specs.List.Sorted.{IsPermutation}
use Rattle.esa_params.specs.declared.form.Form.{Form}
use Rattle.esa_batcher.specs.Finishing.{envelopes_of}
use Rattle.esa_gathering.specs.declared.merging.TextBatch.{TextBatch}
use Rattle.esa_gathering.specs.Together.{first_refused}

-- the next envelope to be merged
abbrev pub next_of : TextBatch → List ℕ
next_of text = slice_index_or text.batch.list text.merged []

-- the envelopes that aren't merged yet
abbrev pub left_of : TextBatch → List (List ℕ)
left_of text = drop text.merged text.batch.list

-- those of several, one after another
abbrev pub all_left : List TextBatch → List (List ℕ)
all_left texts = flat_map left_of texts

-- an envelope isn't merged yet, and there are no more than a batch has
abbrev pub HasNext : TextBatch → Type 0
HasNext text = (text.merged < length text.batch.list) × (length text.batch.list ≤ 262144)

abbrev pub HasNextAt : List TextBatch → ℕ → Type 0
HasNextAt texts place = (place < length texts) × ((d : TextBatch) → HasNext (slice_index_or texts place d))

-- None of the lines is refused, and all their envelopes of the form are left, in whatever order.
pub record IsOfText (form : Form) (lines : List (List ℕ)) (text : TextBatch) : Type 0 where
  pub form_is : text.batch.form ≡ form
  pub accepted : first_refused form 1 lines ≡ None
  pub same : IsPermutation (left_of text) (envelopes_of form lines)
