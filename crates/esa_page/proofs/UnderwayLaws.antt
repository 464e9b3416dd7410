-- A file that is being written: what an append does to it, and what a failed call leaves.
use Rattle.std.proofs.Common.{◌≡◌, ◌⊎◌, inl, inr, ℕ, List, [], ◌++◌, length, take, Option, Some, None, Result, refl, sym, ap, subst, ◌∙◌, arith, append-nil, append_assoc}
use Rattle.std.specs.FinMap as map
use Rattle.std.proofs.lemmas.List.{take-append-le, length-append}
use Rattle.std.proofs.lemmas.Result.{on_err_weaker}
use Rattle.esa_lists.specs.Files.{Files}
use Rattle.esa_lists.proofs.FilesLaws.{get-insert-same, insert-insert}
use Rattle.esa_outside.specs.Cause.{HasCause}
use Rattle.esa_outside.specs.Told.{Lacks, HoldsFront, EndsBefore}
use Rattle.esa_page.specs.Underway.{IsUnderway, IsWhole, IsLeft}

-- what was added to a file that holds `held`
abbrev pub Adds : Option Files → List ℕ → List ℕ → Option Files → Type 0
Adds old name bytes new = (files : Files) (held : List ℕ) → old ≡ Some files → map.get files name ≡ Some held → new ≡ Some (map.insert files name (held ++ bytes))

-- what a failed call left of that
abbrev pub Leaves : Option Files → List ℕ → List ℕ → Option Files → Type 0
Leaves old name bytes new = (files : Files) (held : List ℕ) → old ≡ Some files → map.get files name ≡ Some held → HoldsFront files name (held ++ bytes) new

pub IsUnderway-sent : (before : Option Files) (name text waiting bytes : List ℕ) (old new : Option Files) → bytes ≡ waiting → IsUnderway before name text waiting old → Adds old name bytes new → (old ≡ None → new ≡ None) → IsUnderway before name text [] new
IsUnderway-sent None name text waiting bytes old new is under adds silent = silent under
IsUnderway-sent (Some files) name text waiting bytes old new is under adds silent =
    let held = under.0 in
    let whole : held ++ bytes ≡ text = ap (λ ys. held ++ ys) is ∙ under.2 in (
      text,
      adds (map.insert files name held) held under.1 (get-insert-same files name held)
          ∙ ap Some (insert-insert files name held (held ++ bytes))
          ∙ ap (λ ys. Some (map.insert files name ys)) whole,
      append-nil text,
    )

pub IsLeft-sent : (before : Option Files) (name text waiting bytes : List ℕ) (old new : Option Files) → bytes ≡ waiting → IsUnderway before name text waiting old → Leaves old name bytes new → (old ≡ None → new ≡ None) → IsLeft before name text new
IsLeft-sent None name text waiting bytes old new is under leaves silent = silent under
IsLeft-sent (Some files) name text waiting bytes old new is under leaves silent =
    let held = under.0 in
    let whole : held ++ bytes ≡ text = ap (λ ys. held ++ ys) is ∙ under.2 in
    let front = leaves (map.insert files name held) held under.1 (get-insert-same files name held) in
    inr (
      front.0,
      omega (arith, front.1, ap length whole),
      front.2
          ∙ ap Some (insert-insert files name held (take front.0 (held ++ bytes)))
          ∙ ap (λ ys. Some (map.insert files name (take front.0 ys))) whole,
    )

-- the file is there
pub not_lacking : (before : Option Files) (name text waiting : List ℕ) (old : Option Files) → IsUnderway before name text waiting old → Lacks old name 0 → ⊥
not_lacking None name text waiting old under lacks = subst (λ told. Lacks told name 0) under lacks
not_lacking (Some files) name text waiting old under lacks =
    let held = under.0 in
    let ends : EndsBefore (map.get (map.insert files name held) name) 0 = subst (λ told. Lacks told name 0) under.1 lacks in
    let short : EndsBefore (Some held) 0 = subst (λ file. EndsBefore file 0) (get-insert-same files name held) ends in
    omega arith

-- a call fails only where the count rose, since the file is there
pub HasCause-underway : {T E : Type 0} (before : Option Files) (name text waiting : List ℕ) (old : Option Files) (count now : ℕ) (result : Result T E) → IsUnderway before name text waiting old → HasCause count now (Lacks old name 0) result → HasCause count now ⊥ result
HasCause-underway before name text waiting old count now result under cause = record {
  later = cause.later;
  kept = cause.kept;
  failed = on_err_weaker result (λ why. elim why [ inl rose ↦ inl rose | inr lacks ↦ inr (not_lacking before name text waiting old under lacks) ]) cause.failed;
}

-- what is a front of a text is a front of a longer one
pub IsLeft-longer : (before : Option Files) (name text more : List ℕ) (now : Option Files) → IsLeft before name text now → IsLeft before name (text ++ more) now
IsLeft-longer None name text more now left = left
IsLeft-longer (Some files) name text more now left = elim left as (λ _. (now ≡ Some files) ⊎ HoldsFront files name (text ++ more) now) [
  | inl same ↦ inl same
  | inr front ↦ inr (front.0, omega (arith, front.1, length-append text more), front.2 ∙ ap (λ ys. Some (map.insert files name ys)) (sym (take-append-le front.0 text more front.1)))
]

-- more bytes wait
pub IsUnderway-more : (before : Option Files) (name text waiting more : List ℕ) (now : Option Files) → IsUnderway before name text waiting now → IsUnderway before name (text ++ more) (waiting ++ more) now
IsUnderway-more None name text waiting more now under = under
IsUnderway-more (Some files) name text waiting more now under =
    (under.0, under.1, sym (append_assoc under.0 waiting more) ∙ ap (λ ys. ys ++ more) under.2)

-- where nothing waits, the file is whole
pub IsWhole-underway : (before : Option Files) (name text waiting : List ℕ) (now : Option Files) → waiting ≡ [] → IsUnderway before name text waiting now → IsWhole before name text now
IsWhole-underway None name text waiting now none under = under
IsWhole-underway (Some files) name text waiting now none under =
    under.1 ∙ ap (λ ys. Some (map.insert files name ys)) (sym (append-nil under.0) ∙ ap (λ ys. under.0 ++ ys) (sym none) ∙ under.2)

-- an empty file was started
pub IsUnderway-started : (before : Option Files) (name : List ℕ) (now : Option Files) → ((files : Files) → before ≡ Some files → now ≡ Some (map.insert files name [])) → (before ≡ None → now ≡ None) → IsUnderway before name [] [] now
IsUnderway-started None name now started silent = silent refl
IsUnderway-started (Some files) name now started silent = ([], started files refl, refl)

pub IsLeft-started : (before : Option Files) (name : List ℕ) (now : Option Files) → ((files : Files) → before ≡ Some files → (now ≡ Some files) ⊎ (now ≡ Some (map.insert files name []))) → (before ≡ None → now ≡ None) → IsLeft before name [] now
IsLeft-started None name now failed silent = silent refl
IsLeft-started (Some files) name now failed silent = elim (failed files refl) as (λ _. (now ≡ Some files) ⊎ HoldsFront files name [] now) [
  | inl same ↦ inl same
  | inr empty ↦ inr (0, omega arith, empty)
]
