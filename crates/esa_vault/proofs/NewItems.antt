-- The item of an envelope can stand in a block.
use Rattle.std.proofs.Common.{◌≡◌, ℕ, ◌-◌, ◌≤◌, List, Option, Some, None, length, refl, sym, ap, ◌∙◌, arith, inl, inr}
use Rattle.std.specs.Prelude.{replicate, slice_range, if◌then◌else◌}
use Rattle.std.proofs.lemmas.Bool.{cases_Bool}
use Rattle.std.proofs.lemmas.List.{length-append, length-replicate, length-take, length-drop}
use Rattle.esa_envelope.specs.declared.keys.Keys.{Keys}
use Rattle.esa_envelope.specs.declared.label.Label.{Label}
use Rattle.esa_envelope.specs.declared.label.Label.TheVariants.{Outer}
use Rattle.esa_envelope.specs.Envelope.{has_tag, nonce_in, opened}
use Rattle.esa_envelope.specs.Keystream.{ciphered}
use Rattle.esa_envelope.proofs.KeystreamLemmas.{length-ciphered}
use Rattle.esa_params.specs.Form.{envelope_length}
use Rattle.esa_params.specs.Slots.{item_length}
use Rattle.esa_params.specs.declared.form.Form.{Form}
use Rattle.esa_params.specs.declared.form.Form.TheVariants.{One, Two}
use Rattle.esa_report.specs.Item.{zero_body}
use Rattle.esa_report.proofs.ZeroLemmas.{is_zero-zero_body}
use Rattle.esa_vault.specs.Items.{item_from, item_of}
use Rattle.esa_vault.specs.Placed.{IsHeld, IsSpelled}
use Rattle.esa_vault.proofs.ItemLemmas.{is_zero-full, is_zero-rest}

-- it is never a dummy
held-from : (text : Option (List ℕ)) → IsHeld (item_from text)
held-from None same = cc same
held-from (Some text) same = cc same

pub held-item_of : (outer : Keys) (envelope : List ℕ) → IsHeld (item_of outer envelope)
held-item_of outer envelope = held-from (opened outer Outer envelope)

-- an opened text is 40 bytes shorter than its envelope
opened-length : (keys : Keys) (label : Label) (envelope text : List ℕ) → 40 ≤ length envelope → opened keys label envelope ≡ Some text → length text ≡ length envelope - 40
unfolding opened
opened-length keys label envelope text long is = elim (cases_Bool (has_tag keys label envelope)) [
  | inl has ↦
      let one : (if has_tag keys label envelope then Some (ciphered keys.enc (nonce_in envelope) 0 (slice_range envelope 8 (length envelope - 32))) else None)
      ≡ Some (ciphered keys.enc (nonce_in envelope) 0 (slice_range envelope 8 (length envelope - 32))) = rw has refl in
      let same : ciphered keys.enc (nonce_in envelope) 0 (slice_range envelope 8 (length envelope - 32)) ≡ text = cc (one, is) in
      ap length (sym same) ∙ length-ciphered keys.enc (nonce_in envelope) 0 (slice_range envelope 8 (length envelope - 32)) ∙ omega (arith, length-take {A = ℕ}, length-drop {A = ℕ})
  | inr lacks ↦
      let none : (if has_tag keys label envelope then Some (ciphered keys.enc (nonce_in envelope) 0 (slice_range envelope 8 (length envelope - 32))) else None) ≡ None = rw lacks refl in
      cc (none, is)
]

spelled-from : (size : ℕ) (text : Option (List ℕ)) → size ≤ 265 → ((opens : List ℕ) → text ≡ Some opens → length opens ≡ size - 1) → IsSpelled size (item_from text)
unfolding zero_body
spelled-from size None small long = record {
  body = length-replicate {A = ℕ} 264 0;
  well_formed = is_zero-zero_body;
  zero = is_zero-rest (size - 1);
}
spelled-from size (Some text) small long =
    let own = long text refl in
    record {
      body = length-append text (replicate (264 - length text) 0) ∙ omega (arith, own, length-replicate {A = ℕ} (264 - length text) 0);
      well_formed = refl;
      zero = is_zero-full text (size - 1) own;
    }

pub spelled-item_of : (outer : Keys) (form : Form) (envelope : List ℕ) → length envelope ≡ envelope_length form → IsSpelled (item_length form) (item_of outer envelope)
spelled-item_of outer One envelope is =
    spelled-from 137 (opened outer Outer envelope) (omega arith) (λ text opens. opened-length outer Outer envelope text (omega (arith, is)) opens ∙ omega (arith, is))
spelled-item_of outer Two envelope is =
    spelled-from 265 (opened outer Outer envelope) (omega arith) (λ text opens. opened-length outer Outer envelope text (omega (arith, is)) opens ∙ omega (arith, is))
