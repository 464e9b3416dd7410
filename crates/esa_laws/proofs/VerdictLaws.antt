-- Whether an attempt fails with the turn that is made.
use Rattle.std.proofs.Common.{◌≡◌, ℕ, Bool, true, false, cond, List, [], ◌∷◌, ◌++◌, length, refl, ◌∙◌, ap, append-nil}
use Rattle.std.specs.Prelude.{Some, None, is_some, slice_index, option_to_list, ◌||◌, ◌==◌, ◌*◌}
use Rattle.std.specs.Option.{option_or}
use Rattle.std.proofs.lemmas.List.{get_or_push}
use Rattle.esa_params.specs.Sizes.{Sizes}
use Rattle.esa_laws.proofs.LineLaws.{failing-push}
use Rattle.esa_laws.proofs.TurnLaws.{order-push}
use Rattle.esa_spec.specs.Draws.{Draw}
use Rattle.esa_spec.specs.Lines.{overflows}
use Rattle.esa_spec.specs.Turns.{exchanged, next, order, writes}
use Rattle.esa_spec.specs.Verdicts.{failing, settled, is_finished, verdict}
use Rattle.esa_spec.specs.declared.event.Verdict.TheVariants.{StashOverflow}

module _ (p : Sizes) (d : Draw) (h : List ℕ) (w : ℕ) where
  -- a turn that exchanges nothing
  pub failing-same : exchanged (next p.b h w) ≡ None → failing p d (order p.b (h ++ w ∷ [])) ≡ failing p d (order p.b h)
  failing-same none = ap (failing p d) (order-push p.b h w ∙ ap (λ y. order p.b h ++ option_to_list y) none ∙ append-nil (order p.b h))

  module _ (j : ℕ) (ok : failing p d (order p.b h) ≡ None) (now : exchanged (next p.b h w) ≡ Some j) where
    order-now : order p.b (h ++ w ∷ []) ≡ order p.b h ++ j ∷ []
    order-now = order-push p.b h w ∙ ap (λ y. order p.b h ++ option_to_list y) now

    pub failing-by : (c : Bool) → overflows p d (order p.b h ++ j ∷ []) (length (order p.b h)) ≡ c
        → failing p d (order p.b (h ++ w ∷ [])) ≡ cond c (Some (length (order p.b h))) None
    failing-by c e =
        ap (failing p d) order-now ∙ failing-push p d (order p.b h) j
        ∙ ap (λ y. option_or y (cond (overflows p d (order p.b h ++ j ∷ []) (length (order p.b h))) (Some (length (order p.b h))) None)) ok
        ∙ ap (λ y. cond y (Some (length (order p.b h))) None) e

    -- it fits
    pub failing-none : overflows p d (order p.b h ++ j ∷ []) (length (order p.b h)) ≡ false → failing p d (order p.b (h ++ w ∷ [])) ≡ None
    failing-none e = failing-by false e

    -- it overflows
    module _ (over : overflows p d (order p.b h ++ j ∷ []) (length (order p.b h)) ≡ true) where
      pub finished-now : is_finished p d (h ++ w ∷ []) ≡ true
      finished-now = ap (λ y. is_some y || (writes p.b (h ++ w ∷ []) == p.b * p.b)) (failing-by true over)

      pub verdict-now : verdict p d (h ++ w ∷ []) ≡ StashOverflow j
      verdict-now =
          ap (settled p d (order p.b (h ++ w ∷ []))) (failing-by true over)
          ∙ ap (λ o. StashOverflow (slice_index o (length (order p.b h)))) order-now
          ∙ ap StashOverflow (get_or_push (order p.b h) j 0 (length (order p.b h)) refl)
