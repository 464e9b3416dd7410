-- Entries of a finite map, and a key below all of them.
use Rattle.std.proofs.Common.{◌≡◌, true, cond, ◌&&◌, List, [], ◌∷◌, length, Some, None, Less, Equal, Greater, refl, sym, ap, ◌∙◌, arith}
use Rattle.std.specs.declared.cmp.Ordering.{Ordering}
use Rattle.std.specs.Ordering.{is_eq, is_lt}
use Rattle.std.specs.FinMap as finite
use Rattle.std.specs.FinMap.Entries.{put, by_order, below_all}
use Rattle.std.proofs.lemmas.Bool.{and_parts}

no_length : {X : Type 0} (xs : List X) → length xs ≡ 0 → xs ≡ []
no_length [] none = refl
no_length (x ∷ xs) none = absurd (omega arith)

pub less-than : (r : Ordering) → is_lt r ≡ true → r ≡ Less
less-than Less h = refl
less-than Equal h = cc
less-than Greater h = cc

module _ {K X : Type 0} (R : K → K → Ordering) where
  pub entries-none : finite.entries (finite.empty {X = X} {R = R}) ≡ []
  entries-none = no_length _ (sym (finite.len-entries (finite.empty {X = X} {R = R})) ∙ finite.len-empty R X)

  -- a key below all is below all that there are once a greater one is put among them
  pub below-put : (low key : K) (value : X) (entries : List (K × X)) → is_lt (R low key) ≡ true → below_all R low entries ≡ true → below_all R low (put R key value entries) ≡ true
  below-put low key value [] less below = ap (λ b. b && true) less
  below-put low key value (entry ∷ entries) less below =
      let parts = and_parts (is_lt (R low entry.0)) (below_all R low entries) below in
      elim (R key entry.0) as (λ r. below_all R low (by_order r ((key, value) ∷ entry ∷ entries) ((entry.0, value) ∷ entries) (entry ∷ put R key value entries)) ≡ true) [
        | Less ↦ ap (λ b. b && below_all R low (entry ∷ entries)) less ∙ below
        | Equal ↦ below
        | Greater ↦ (λ i. parts.0 i && below-put low key value entries less parts.1 i)
      ]

  pub put-front : (key : K) (value : X) (entries : List (K × X)) → below_all R key entries ≡ true → put R key value entries ≡ (key, value) ∷ entries
  put-front key value [] below = refl
  put-front key value (entry ∷ entries) below =
      ap (λ r. by_order r ((key, value) ∷ entry ∷ entries) ((entry.0, value) ∷ entries) (entry ∷ put R key value entries))
      (less-than (R key entry.0) (and_parts (is_lt (R key entry.0)) (below_all R key entries) below).0)

  pub find-front : (key : K) (entries : List (K × X)) → below_all R key entries ≡ true → finite.find R key entries ≡ None
  find-front key [] below = refl
  find-front key (entry ∷ entries) below =
      let parts = and_parts (is_lt (R key entry.0)) (below_all R key entries) below in
      ap (λ r. cond (is_eq r) (Some entry.1) (finite.find R key entries)) (less-than (R key entry.0) parts.0) ∙ find-front key entries parts.1
