-- What threads gather of the texts that they take in.
use Rattle.std.specs.Prelude.{◌≡◌, ℕ, List, None}
use Rattle.std.specs.List.Sorted.{IsPermutation}
use Rattle.esa_params.specs.declared.form.Form.{Form}
use Rattle.esa_batcher.specs.Adding.{Gathered}
use Rattle.esa_batcher.specs.Finishing.{envelopes_of}
use Rattle.esa_gathering.specs.Together.{all_lines, first_file_refused}

-- No line of the texts is refused, and their envelopes are gathered, in whatever order.
pub record HasAll (form : Form) (texts : List (List ℕ)) (gathered : Gathered) : Type 0 where
  pub form_is : gathered.form ≡ form
  pub accepted : first_file_refused form 1 texts ≡ None
  pub same : IsPermutation gathered.list (envelopes_of form (all_lines texts))
