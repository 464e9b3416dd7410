-- The batch of what was gathered.
use Rattle.std.proofs.Common.{◌≡◌, ℕ, ◌<◌, ◌≤◌, ◌^◌, List, length, sym, refl, ap, subst, ◌∙◌}
use Rattle.std.specs.Cmp.Lexicographic.{nat_list_cmp_total}
use Rattle.std.specs.List.Sorted.{IsSorted, IsPermutation}
use Rattle.std.proofs.lemmas.List.Sorted.{All-permutation, length_permutation}
use Rattle.esa_lists.specs.Ordered.{ordered}
use Rattle.esa_lists.proofs.FilesLaws.{names_apart}
use Rattle.esa_lists.proofs.OrderedLaws.{IsPermutation-ordered, IsSorted-ordered, ordered-permutation}
use Rattle.esa_params.specs.declared.form.Form.{Form}
use Rattle.esa_params.specs.declared.form.Form.TheVariants.{One, Two}
use Rattle.esa_params.specs.Form.{envelope_length}
use Rattle.esa_header.specs.Version.{IsEpochOf}
use Rattle.esa_header.specs.Pieces.{HaveLength}
use Rattle.esa_batcher.specs.declared.batcher.Batcher.TheInside.{Inside}
use Rattle.esa_batcher.specs.declared.envelopes.Envelopes.{Envelopes}
use Rattle.esa_batcher.specs.Adding.{Gathered}
use Rattle.esa_batcher.specs.Batched.{IsBatch}
use Rattle.esa_batcher.specs.Envelopes.{list_of, form_of}
use Rattle.esa_batcher.specs.Finishing.{epoch_of, batch_of}
use Rattle.esa_batcher.specs.Gathering.{gathered_in, IsGathered}
use Rattle.esa_batcher.specs.Inside.{batched_in}
use Rattle.esa_batcher.specs.Rising.{by_bytes}

epoch_fits : (form : Form) (epoch : ℕ) → epoch < 2 ^ 32 → IsEpochOf form (epoch_of form epoch)
epoch_fits One epoch fits = refl
epoch_fits Two epoch fits = fits

module _ (a : Inside) (seen : Gathered) (is : gathered_in a ≡ seen) (held : IsGathered a) (b : Envelopes) (form_is : form_of b ≡ form_of a.envelopes) (list_is : list_of b ≡ ordered by_bytes (list_of a.envelopes)) where
  number : length (list_of b) ≤ 262144
  number = subst (λ n. n ≤ 262144) (sym (ap length list_is ∙ length_permutation _ _ (IsPermutation-ordered by_bytes (list_of a.envelopes)))) held.number

  lengths : HaveLength (envelope_length (form_of b)) (list_of b)
  lengths =
      subst (λ form. HaveLength (envelope_length form) (list_of b)) (sym form_is)
      (subst (λ list. HaveLength (envelope_length (form_of a.envelopes)) list) (sym list_is)
      (All-permutation (λ piece. length piece ≡ envelope_length (form_of a.envelopes)) _ _ (IsPermutation-ordered by_bytes (list_of a.envelopes)) held.lengths))

  -- is a batch
  pub sorted_batch : (given epoch : ℕ) → epoch ≡ epoch_of (form_of b) given → given < 2 ^ 32 → IsBatch (batched_in (record { envelopes = b; epoch = epoch }))
  sorted_batch given epoch epoch_is fits = record {
    lengths = lengths;
    number = number;
    epoch = subst (λ e. IsEpochOf (form_of b) e) (sym epoch_is) (epoch_fits (form_of b) given fits);
    rising = subst (λ list. IsSorted by_bytes list) (sym list_is) (IsSorted-ordered nat_list_cmp_total (list_of a.envelopes));
  }

  -- that of the envelopes, in any order
  pub sorted_others : (given epoch : ℕ) (others : List (List ℕ)) → epoch ≡ epoch_of (form_of b) given → IsPermutation seen.list others
      → batched_in (record { envelopes = b; epoch = epoch }) ≡ batch_of seen.form given others
  sorted_others given epoch others epoch_is moved =
      let form : form_of b ≡ seen.form = form_is ∙ ap (λ s. s.form) is in
      let list : list_of b ≡ ordered by_bytes others = list_is ∙ ap (λ s. ordered by_bytes s.list) is ∙ ordered-permutation nat_list_cmp_total names_apart seen.list others moved in
      let same : epoch ≡ epoch_of seen.form given = epoch_is ∙ ap (λ f. epoch_of f given) form in
      λ i. record { form = form i; epoch = same i; list = list i }
