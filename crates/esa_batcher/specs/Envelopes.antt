-- The envelopes that are kept.
use Rattle.std.specs.Prelude.{ℕ, List, vec_capacity}
use Rattle.esa_params.specs.declared.form.Form.{Form}
use Rattle.esa_params.specs.declared.form.Form.TheVariants as form
use Rattle.esa_batcher.specs.declared.envelopes.Envelopes.{Envelopes}
use Rattle.esa_batcher.specs.declared.envelopes.Envelopes.TheVariants.{One, Two}

abbrev pub list_of : Envelopes → List (List ℕ)
list_of (One list) = list.items
list_of (Two list) = list.items

abbrev pub form_of : Envelopes → Form
form_of (One list) = form.One
form_of (Two list) = form.Two

abbrev pub capacity_of : Envelopes → ℕ
capacity_of (One list) = vec_capacity list
capacity_of (Two list) = vec_capacity list
