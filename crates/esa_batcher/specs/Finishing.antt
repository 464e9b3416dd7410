-- The batch of envelopes, and of submission lines.
use Rattle.std.specs.Prelude.{ℕ, List, filter_map}
use Rattle.std.specs.Result.{result_ok}
use Rattle.esa_lists.specs.Ordered.{ordered}
use Rattle.esa_params.specs.declared.form.Form.{Form}
use Rattle.esa_params.specs.declared.form.Form.TheVariants.{One, Two}
use Rattle.esa_batcher.specs.Adding.{envelope_in}
use Rattle.esa_batcher.specs.Batched.{Batched}
use Rattle.esa_batcher.specs.Rising.{by_bytes}

-- form One has no epoch
abbrev pub epoch_of : Form → ℕ → ℕ
epoch_of One epoch = 0
epoch_of Two epoch = epoch

-- the one rising list of the envelopes, each as often as it occurs
abbrev pub batch_of : Form → ℕ → List (List ℕ) → Batched
batch_of form epoch envelopes = record { form = form; epoch = epoch_of form epoch; list = ordered by_bytes envelopes }

-- the envelopes of the lines that carry one
abbrev pub envelopes_of : Form → List (List ℕ) → List (List ℕ)
envelopes_of form lines = filter_map (λ line. result_ok (envelope_in form line)) lines
