-- The generator's states and reports, one further.
use Rattle.std.proofs.Common.{◌≡◌, ℕ, zero, suc, ◌+◌, ◌-◌, ◌≤◌, List, [], ◌++◌, Option, refl, sym, ap, ◌∙◌, subst, arith, add-one, append-nil, append_assoc}
use Rattle.esa_lists.specs.Files.{Files}
use Rattle.esa_page.specs.Underway.{IsLeft}
use Rattle.esa_outside.specs.Heard.{Event}
use Rattle.esa_page.specs.Writing.{HasBroken}
use Rattle.esa_page.proofs.HeardLaws.{HasBroken-longer}
use Rattle.esa_page.proofs.UnderwayLaws.{IsLeft-longer}
use Rattle.esa_encoding.specs.Generate.{next_state, state_at, report_line, generated}

pub state_first : (start : ℕ) → state_at start 0 ≡ start
unfolding state_at
state_first start = refl

pub state_next : (start number : ℕ) → state_at start (number + 1) ≡ next_state (state_at start number)
unfolding state_at
state_next start number = rw add-one refl

pub generated_none : (start crowds : ℕ) → generated start crowds 0 ≡ []
unfolding generated
generated_none start crowds = refl

pub generated_next : (start crowds number : ℕ) → generated start crowds (number + 1) ≡ generated start crowds number ++ report_line crowds (number + 1) (state_at start (number + 1))
unfolding generated
generated_next start crowds number = rw add-one refl

longer : (start crowds number more : ℕ) → (rest : List ℕ) × (generated start crowds (number + more) ≡ generated start crowds number ++ rest)
longer start crowds number zero = ([], ap (generated start crowds) (omega arith) ∙ sym (append-nil (generated start crowds number)))
longer start crowds number (suc more) =
    let so_far = longer start crowds number more in
    let next = report_line crowds (number + more + 1) (state_at start (number + more + 1)) in
    let count : number + suc more ≡ number + more + 1 = omega arith in (
      so_far.0 ++ next,
      ap (generated start crowds) count ∙ generated_next start crowds (number + more) ∙ ap (λ front. front ++ next) so_far.1
          ∙ append_assoc (generated start crowds number) so_far.0 next,
    )

-- a front of the first reports is a front of all
pub left_all : (start crowds number records : ℕ) (before : Option Files) (name : List ℕ) (now : Option Files) → number ≤ records → IsLeft before name (generated start crowds number) now → IsLeft before name (generated start crowds records) now
left_all start crowds number records before name now few left =
    let all = longer start crowds number (records - number) in
    let count : number + (records - number) ≡ records = omega arith in
    subst (λ text. IsLeft before name text now) (sym all.1 ∙ ap (generated start crowds) count) (IsLeft-longer before name (generated start crowds number) all.0 now left)

-- the same by what was heard
pub broken_all : (start crowds number records : ℕ) (before : List Event) (name : List ℕ) (now : List Event) → number ≤ records → HasBroken before name (generated start crowds number) now → HasBroken before name (generated start crowds records) now
broken_all start crowds number records before name now few broken =
    let all = longer start crowds number (records - number) in
    let count : number + (records - number) ≡ records = omega arith in
    subst (λ text. HasBroken before name text now) (sym all.1 ∙ ap (generated start crowds) count) (HasBroken-longer before name (generated start crowds number) all.0 now broken)
