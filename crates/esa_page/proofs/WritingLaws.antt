-- A file that is put together from parts, and what a call that wrote it says of the cabinet.
use Rattle.std.proofs.Common.{ℕ, List, [], ◌++◌, Option, Some, None, Result, Ok, Err, sym, ap, subst, ◌∙◌, append_assoc, append-nil}
use Rattle.std.specs.Prelude.{◌≡◌, ◌⊎◌, OnOk, OnErr}
use Rattle.std.specs.FinMap as map
use Rattle.std.proofs.lemmas.Result.{on_ok_weaker, on_err_weaker}
use Rattle.esa_lists.specs.Files.{Files}
use Rattle.esa_outside.specs.Told.{HoldsFront}
use Rattle.esa_page.specs.Underway.{IsUnderway, IsWhole, IsLeft}
use Rattle.esa_page.proofs.UnderwayLaws.{IsLeft-longer}

pub underway_none : (before : Option Files) (name text page : List ℕ) (now : Option Files) → IsUnderway before name text page now → IsUnderway before name (text ++ []) page now
underway_none before name text page now under = subst (λ ys. IsUnderway before name ys page now) (sym (append-nil text)) under

-- what is put behind what was done
pub underway_more : (before : Option Files) (name text done more page : List ℕ) (now : Option Files) → IsUnderway before name ((text ++ done) ++ more) page now → IsUnderway before name (text ++ (done ++ more)) page now
underway_more before name text done more page now under = subst (λ ys. IsUnderway before name ys page now) (append_assoc text done more) under

-- all is done
pub underway_all : (before : Option Files) (name text done rest whole page : List ℕ) (now : Option Files) → whole ≡ done ++ rest → rest ≡ [] → IsUnderway before name (text ++ done) page now → IsUnderway before name (text ++ whole) page now
underway_all before name text done rest whole page now parts none under =
    let all : done ≡ whole = sym (append-nil done) ∙ ap (λ ys. done ++ ys) (sym none) ∙ sym parts in
    subst (λ ys. IsUnderway before name (text ++ ys) page now) all under

-- a front of what was done is a front of the whole
pub left_whole : (before : Option Files) (name text done rest whole : List ℕ) (now : Option Files) → whole ≡ done ++ rest → IsLeft before name (text ++ done) now → IsLeft before name (text ++ whole) now
left_whole before name text done rest whole now parts left =
    subst (λ ys. IsLeft before name ys now) (append_assoc text done rest ∙ ap (λ ys. text ++ ys) (sym parts)) (IsLeft-longer before name (text ++ done) rest now left)

-- in the words of what a cabinet tells
pub OnOk-whole : {T E : Type 0} (result : Result T E) (before : Option Files) (name text : List ℕ) (now : Option Files) → OnOk result (IsWhole before name text now) → (files : Files) → before ≡ Some files → OnOk result (now ≡ Some (map.insert files name text))
OnOk-whole result before name text now whole files told = on_ok_weaker result (λ is. subst (λ b. IsWhole b name text now) told is) whole

pub OnErr-left : {T E : Type 0} (result : Result T E) (before : Option Files) (name text : List ℕ) (now : Option Files) → OnErr result (IsLeft before name text now) → (files : Files) → before ≡ Some files → OnErr result ((now ≡ Some files) ⊎ HoldsFront files name text now)
OnErr-left result before name text now left files told = on_err_weaker result (λ is. subst (λ b. IsLeft b name text now) told is) left

pub silent-still : {T E : Type 0} (result : Result T E) (before : Option Files) (name text : List ℕ) (now : Option Files) → OnOk result (IsWhole before name text now) → OnErr result (IsLeft before name text now) → before ≡ None → now ≡ None
silent-still (Ok _) before name text now whole left none = subst (λ b. IsWhole b name text now) none whole
silent-still (Err _) before name text now whole left none = subst (λ b. IsLeft b name text now) none left
