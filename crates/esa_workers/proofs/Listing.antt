-- Histories that go on with entries of workers, and the turns of a worker among the latest.
use Rattle.std.proofs.Common.{◌≡◌, ℕ, ◌+◌, ◌≤◌, List, [], ◌∷◌, ◌++◌, sym, ap, ◌∙◌, subst, arith, inl, inr, append-nil, append_assoc}
use Rattle.std.proofs.lemmas.Bool.{cases_eq}
use Rattle.esa_laws.proofs.FinishLaws.{turns_of-append}
use Rattle.esa_laws.proofs.HistoryLaws.{begun-owner, begun-worker, latest-owner, latest-worker, lists-worker}
use Rattle.esa_laws.proofs.RoundLaws.{by_pushes}
use Rattle.esa_laws.proofs.TurnLaws.{turns_of-push}
use Rattle.esa_spec.specs.Histories.{begun, latest, lists}
use Rattle.esa_spec.specs.Turns.{turns_of}

-- the owner's entries of two lists together
pub begun_append : (owner : ℕ) (xs ys : List ℕ) → begun owner (xs ++ ys) ≡ begun owner xs + begun owner ys
begun_append owner xs ys = turns_of-append owner xs ys

-- entries of workers go on with the latest turns
pub latest_on : (owner : ℕ) (xs more : List ℕ) → begun owner more ≡ 0 → latest owner (xs ++ more) ≡ latest owner xs ++ more
latest_on owner xs = by_pushes (λ (more : List ℕ). begun owner more ≡ 0 → latest owner (xs ++ more) ≡ latest owner xs ++ more)
    (λ none. ap (latest owner) (append-nil xs) ∙ sym (append-nil (latest owner xs)))
    (λ more y before none. elim (cases_eq y owner) [
      | inl same ↦ let one = begun-owner owner more in
          let zero : begun owner (more ++ owner ∷ []) ≡ 0 = subst (λ (z : ℕ). begun owner (more ++ z ∷ []) ≡ 0) same none in
          absurd (omega (arith, one, zero))
      | inr other ↦
          ap (latest owner) (sym (append_assoc xs more (y ∷ [])))
          ∙ latest-worker owner (xs ++ more) y other
          ∙ ap (λ (l : List ℕ). l ++ y ∷ []) (before (sym (begun-worker owner more y other) ∙ none))
          ∙ append_assoc (latest owner xs) more (y ∷ [])
    ])

-- the turns of a worker in the latest list are among all, and behind an entry of the owner among those behind
pub latest_few : (owner v : ℕ) (xs more : List ℕ) → 1 ≤ begun owner more → turns_of v (latest owner (xs ++ more)) ≤ turns_of v more
latest_few owner v xs = by_pushes (λ (more : List ℕ). 1 ≤ begun owner more → turns_of v (latest owner (xs ++ more)) ≤ turns_of v more)
    (λ some. absurd (omega (arith, some)))
    (λ more y before some. elim (cases_eq y owner) [
      | inl same ↦
          let none : latest owner (xs ++ (more ++ y ∷ [])) ≡ [] =
          ap (λ (z : ℕ). latest owner (xs ++ (more ++ z ∷ []))) same ∙ ap (latest owner) (sym (append_assoc xs more (owner ∷ []))) ∙ latest-owner owner (xs ++ more) in
          subst (λ (l : List ℕ). turns_of v l ≤ turns_of v (more ++ y ∷ [])) (sym none) (omega arith)
      | inr other ↦
          let is : latest owner (xs ++ (more ++ y ∷ [])) ≡ latest owner (xs ++ more) ++ y ∷ [] =
          ap (latest owner) (sym (append_assoc xs more (y ∷ []))) ∙ latest-worker owner (xs ++ more) y other in
          let few = before (subst (λ (k : ℕ). 1 ≤ k) (begun-worker owner more y other) some) in
          subst (λ (l : List ℕ). turns_of v l ≤ turns_of v (more ++ y ∷ [])) (sym is)
          (let left = turns_of-push v (latest owner (xs ++ more)) y in let right = turns_of-push v more y in omega (arith, few, left, right))
    ])

pub latest_sub : (owner v : ℕ) (h : List ℕ) → turns_of v (latest owner h) ≤ turns_of v h
latest_sub owner v = by_pushes (λ (h : List ℕ). turns_of v (latest owner h) ≤ turns_of v h)
    (omega arith)
    (λ h y before. elim (cases_eq y owner) [
      | inl same ↦
          let none : latest owner (h ++ y ∷ []) ≡ [] = ap (λ (z : ℕ). latest owner (h ++ z ∷ [])) same ∙ latest-owner owner h in
          subst (λ (l : List ℕ). turns_of v l ≤ turns_of v (h ++ y ∷ [])) (sym none) (omega arith)
      | inr other ↦
          subst (λ (l : List ℕ). turns_of v l ≤ turns_of v (h ++ y ∷ [])) (sym (latest-worker owner h y other))
          (let left = turns_of-push v (latest owner h) y in let right = turns_of-push v h y in omega (arith, before, left, right))
    ])

-- entries of workers leave the lists of the attempts before
pub lists_on : (owner : ℕ) (xs more : List ℕ) → begun owner more ≡ 0 → lists owner (xs ++ more) ≡ lists owner xs
lists_on owner xs = by_pushes (λ (more : List ℕ). begun owner more ≡ 0 → lists owner (xs ++ more) ≡ lists owner xs)
    (λ none. ap (lists owner) (append-nil xs))
    (λ more y before none. elim (cases_eq y owner) [
      | inl same ↦ let one = begun-owner owner more in
          let zero : begun owner (more ++ owner ∷ []) ≡ 0 = subst (λ (z : ℕ). begun owner (more ++ z ∷ []) ≡ 0) same none in
          absurd (omega (arith, one, zero))
      | inr other ↦
          ap (lists owner) (sym (append_assoc xs more (y ∷ [])))
          ∙ lists-worker owner (xs ++ more) y other ∙ before (sym (begun-worker owner more y other) ∙ none)
    ])
