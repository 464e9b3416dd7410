-- The records that a `Batch` gives.
use Rattle.std.proofs.Common.{◌≡◌, ℕ, ◌+◌, ◌*◌, ◌≤◌, List, length, take, drop, Some, sym, ap, ◌∙◌, subst}
use Rattle.std.specs.List.{concat}
use Rattle.esa_params.specs.Form.{envelope_length}
use Rattle.esa_header.specs.Pieces.{HaveLength}
use Rattle.esa_batcher.specs.declared.batch.Batch.TheInside.{Inside}
use Rattle.esa_batcher.specs.Batched.{Batched}
use Rattle.esa_batcher.specs.Envelopes.{list_of, form_of}
use Rattle.esa_batcher.specs.Inside.{batched_in, IsBatched}
use Rattle.esa_batcher.proofs.Parts.{joined-part, joined-inside}

module _ (a : Inside) (seen : Batched) (is : batched_in a ≡ seen) (held : IsBatched a) (size : ℕ) (size_is : size ≡ envelope_length (form_of a.envelopes)) where
  lengths : HaveLength size (list_of a.envelopes)
  lengths = subst (λ n. HaveLength n (list_of a.envelopes)) (sym size_is) held.lengths

  seen_size : envelope_length seen.form ≡ size
  seen_size = ap (λ b. envelope_length b.form) (sym is) ∙ sym size_is

  seen_list : seen.list ≡ list_of a.envelopes
  seen_list = ap (λ b. b.list) (sym is)

  -- what is asked for lies inside
  pub held-inside : (first out : ℕ) → (n : ℕ) × (out ≡ n * envelope_length seen.form) × (first + n ≤ length seen.list) → first * size + out ≤ length (concat (list_of a.envelopes))
  held-inside first out asked =
      joined-inside size (list_of a.envelopes) lengths first asked.0 out (asked.1 ∙ ap (λ m. asked.0 * m) seen_size) (subst (λ list. first + asked.0 ≤ length list) seen_list asked.2)

  -- and is what is told
  pub held-part : (first n out : ℕ) (records : List (List ℕ)) → Some seen.list ≡ Some records → out ≡ n * envelope_length seen.form → first + n ≤ length seen.list
      → take out (drop (first * size) (concat (list_of a.envelopes))) ≡ concat (take n (drop first records))
  held-part first n out records told part within =
      let told_is : seen.list ≡ records = cc in
      joined-part size (list_of a.envelopes) lengths first n out (part ∙ ap (λ m. n * m) seen_size) (subst (λ list. first + n ≤ length list) seen_list within)
      ∙ ap (λ list. concat (take n (drop first list))) (sym seen_list ∙ told_is)
