-- What is taken of a group, record by record, is its first records.
use Rattle.std.proofs.Common.{◌≡◌, ℕ, ◌≤◌, true, false, cond, ◌||◌, ◌==◌, List, [], ◌∷◌, ◌++◌, map, length, take, refl, sym, ap, ◌∙◌, append_assoc, append-nil, take_all}
use Rattle.std.proofs.lemmas.Bool.{eqb-true}
use Rattle.std.proofs.lemmas.List.{map-append, take_at}
use Rattle.esa_recovery.specs.Meaning.{point_in, needed}
use Rattle.esa_recovery.specs.Group.{is_seen, firsts, taken_with}

-- the records that a group is opened by: those taken, and those that are still to come
abbrev pub chosen : List ℕ → List (List ℕ) → List (List ℕ) → List (List ℕ)
chosen group taken values = take (needed group) (taken ++ firsts (map point_in taken) values)

full_stays : (group : List ℕ) (taken some others : List (List ℕ)) → length taken ≡ needed group → take (needed group) (taken ++ some) ≡ take (needed group) (taken ++ others)
full_stays group taken some others full = take_at taken some (needed group) full ∙ sym (take_at taken others (needed group) full)

-- a record taken, or passed over
pub chosen-more : (group : List ℕ) (taken : List (List ℕ)) (value : List ℕ) (values : List (List ℕ)) → chosen group (taken_with group taken value) values ≡ chosen group taken (value ∷ values)
chosen-more group taken value values =
    elim (length taken == needed group) as (λ b. (length taken == needed group) ≡ b → chosen group (cond (b || is_seen (map point_in taken) value) taken (taken ++ value ∷ [])) values ≡ chosen group taken (value ∷ values)) [
      | true ↦ λ full. full_stays group taken (firsts (map point_in taken) values) (firsts (map point_in taken) (value ∷ values)) (eqb-true (length taken) (needed group) full)
      | false ↦ λ _. elim (is_seen (map point_in taken) value) as (λ b. chosen group (cond b taken (taken ++ value ∷ [])) values
          ≡ take (needed group) (taken ++ cond b (firsts (map point_in taken) values) (value ∷ firsts (map point_in taken ++ point_in value ∷ []) values))) [
            | true ↦ refl
            | false ↦ ap (λ ps. take (needed group) ((taken ++ value ∷ []) ++ firsts ps values)) (map-append point_in taken (value ∷ []))
                ∙ ap (take (needed group)) (append_assoc taken (value ∷ []) (firsts (map point_in taken ++ point_in value ∷ []) values))
          ]
    ] refl

-- at the end what was taken is what was chosen
pub chosen-all : (group : List ℕ) (taken : List (List ℕ)) → length taken ≤ needed group → chosen group taken [] ≡ taken
chosen-all group taken few = ap (take (needed group)) (append-nil taken) ∙ take_all (needed group) taken few
