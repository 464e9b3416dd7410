-- A batch, and its file.
use Rattle.std.specs.Prelude.{◌≡◌, ℕ, ◌≤◌, Bool, true, false, List, ◌++◌, length, refl}
use Rattle.std.specs.Coded.{Coded, code_by, coded×, coded_list, coded_bool, coded_ℕ}
use Rattle.std.specs.List.{concat}
use Rattle.std.specs.List.Sorted.{IsSorted}
use Rattle.esa_params.specs.declared.form.Form.{Form}
use Rattle.esa_params.specs.declared.form.Form.TheVariants.{One, Two}
use Rattle.esa_params.specs.Form.{envelope_length}
use Rattle.esa_header.specs.Version.{IsEpochOf}
use Rattle.esa_header.specs.Pieces.{HaveLength}
use Rattle.esa_header.specs.declared.header.FileKind.TheVariants as kind
use Rattle.esa_header.specs.Header.{header_bytes}
use Rattle.esa_batcher.specs.Rising.{by_bytes}

-- the form and key epoch of outer envelopes, and the list of them
pub record Batched : Type 0 where
  pub form : Form
  pub epoch : ℕ
  pub list : List (List ℕ)

abbrev pub is_two : Form → Bool
is_two One = false
is_two Two = true

abbrev pub form_by : Bool → Form
form_by true = Two
form_by false = One

pub form_again : (form : Form) → form_by (is_two form) ≡ form
form_again One = refl
form_again Two = refl

abbrev pub batched_code : Coded Batched
batched_code = code_by (Bool × (ℕ × List (List ℕ))) (coded× coded_bool (coded× coded_ℕ (coded_list (coded_list coded_ℕ))))
    (λ b. (is_two b.form, (b.epoch, b.list))) (λ p. record { form = form_by p.0; epoch = p.1.0; list = p.1.1 })
    (λ b i. record { form = form_again b.form i; epoch = b.epoch; list = b.list })

-- the header of the file of so many envelopes
abbrev pub batch_front : Form → ℕ → ℕ → List ℕ
batch_front form epoch count = header_bytes kind.Batch (record { form = form; epoch = epoch; count = count })

-- the file of a batch: its header and its envelopes, one after another
abbrev pub batch_bytes : Batched → List ℕ
batch_bytes batch = batch_front batch.form batch.epoch (length batch.list) ++ concat batch.list

-- outer envelopes of the form in rising order, no more than a batch has, under an epoch that the form can have
pub record IsBatch (batch : Batched) : Type 0 where
  pub lengths : HaveLength (envelope_length batch.form) batch.list
  pub number : length batch.list ≤ 262144
  pub epoch : IsEpochOf batch.form batch.epoch
  pub rising : IsSorted by_bytes batch.list
