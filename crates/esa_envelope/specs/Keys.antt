-- Keys that come from a master key.
use Rattle.std.specs.Prelude.{ℕ, List, ◌++◌, codes}
use Rattle.std.specs.Int.{w32, to_be_bytes}
use Rattle.esa_hmac.specs.Hmac.{hmac}
use Rattle.esa_params.specs.declared.form.Form.{Form}
use Rattle.esa_params.specs.declared.form.Form.TheVariants.{One, Two}
use Rattle.esa_envelope.specs.declared.keys.Keys.{Keys}
use Rattle.esa_envelope.specs.declared.label.Label.{Label}
use Rattle.esa_envelope.specs.Label.{label_text}

-- the keys of a master for a label
abbrev pub keys_from : List ℕ → Label → Keys
keys_from master label = record {
  enc = hmac master (codes "enc:" ++ label_text label);
  mac = hmac master (codes "mac:" ++ label_text label);
}

-- the master of an epoch
abbrev pub master_of_epoch : List ℕ → ℕ → List ℕ
master_of_epoch master epoch = hmac master (codes "epoch:" ++ to_be_bytes w32 epoch)

-- the master of a form and an epoch: in form One the master itself, whatever the epoch
abbrev pub master_of : Form → ℕ → List ℕ → List ℕ
master_of One epoch master = master
master_of Two epoch master = master_of_epoch master epoch

-- the keys of the records of a form and an epoch, for a label
abbrev pub record_keys : Form → ℕ → List ℕ → Label → Keys
record_keys form epoch master label = keys_from (master_of form epoch master) label
