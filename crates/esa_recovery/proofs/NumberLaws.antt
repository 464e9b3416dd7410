-- A number that is written at the rows of records.
use Rattle.std.proofs.Common.{◌≡◌, ℕ, ◌+◌, ◌<◌, ◌≤◌, true, false, ◌||◌, ◌==◌, List, length, take, get_or, set, if◌then◌else◌, slice_index, refl, sym, ap, ◌∙◌, arith, get_or-set_same, get_or-set_other, take_all}
use Rattle.std.specs.Prelude.{All}
use Rattle.std.specs.List.{list_any}
use Rattle.std.proofs.Math.Bool.{or-false, or-true}
use Rattle.std.proofs.lemmas.Bool.{eqb-true, eqb-false}
use Rattle.std.proofs.lemmas.List.Folds.{list_any_more}
use Rattle.esa_recovery.specs.declared.members.Member.{Member}

-- the number at the rows of the first so many records
abbrev pub Numbered : List Member → ℕ → ℕ → List ℕ → List ℕ → Type 0
Numbered run i number old new =
    (row : ℕ) → slice_index new row ≡ (if list_any (λ (member : Member). member.row == row) (take i run) then number else slice_index old row)

pub numbered-more : (run : List Member) (number : ℕ) (old new : List ℕ) → All (λ (member : Member). member.row < length old) run → length new ≡ length old
    → (i : ℕ) (e : Member) → i < length run → Numbered run i number old new → Numbered run (i + 1) number old (set new (get_or run i e).row number)
numbered-more run number old new fits long i e inside before = λ row.
    let at_row = (get_or run i e).row in
    let any = list_any (λ (m : Member). m.row == row) (take i run) in
    let more : list_any (λ (m : Member). m.row == row) (take (i + 1) run) ≡ (any || (at_row == row)) = list_any_more (λ (m : Member). m.row == row) run i e inside in
    elim (at_row == row) as (λ b. (at_row == row) ≡ b → slice_index (set new at_row number) row
    ≡ (if list_any (λ (m : Member). m.row == row) (take (i + 1) run) then number else slice_index old row)) [
      | true ↦ λ same.
          ap (slice_index (set new at_row number)) (sym (eqb-true at_row row same)) ∙ get_or-set_same new at_row number 0 (omega (arith, fits i e inside, long))
          ∙ sym (ap (λ b. if b then number else slice_index old row) (more ∙ ap (λ b. any || b) same ∙ or-true any))
      | false ↦ λ apart.
          get_or-set_other new at_row row number 0 (λ at. eqb-false at_row row apart (sym at))
          ∙ before row ∙ sym (ap (λ b. if b then number else slice_index old row) (more ∙ ap (λ b. any || b) apart ∙ or-false any))
    ] refl

pub numbered-all : (run : List Member) (i number : ℕ) (old new : List ℕ) → length run ≤ i → Numbered run i number old new
    → (row : ℕ) → slice_index new row ≡ (if list_any (λ (member : Member). member.row == row) run then number else slice_index old row)
numbered-all run i number old new end before = λ row.
    before row ∙ ap (λ all. if list_any (λ (member : Member). member.row == row) all then number else slice_index old row) (take_all i run end)
