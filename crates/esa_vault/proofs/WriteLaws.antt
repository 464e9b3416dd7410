-- The latest write of a list of accesses.
use Rattle.std.proofs.Common.{◌≡◌, ℕ, suc, subst, true, Bool, ◌&&◌, ◌==◌, List, [], ◌∷◌, ◌++◌, Some, refl, sym, ap, ◌∙◌, arith, inl, inr}
use Rattle.std.specs.Prelude.{Contains, find, reverse, is_some, if◌then◌else◌}
use Rattle.std.proofs.lemmas.Bool.{cases_Bool}
use Rattle.std.proofs.lemmas.Bool.Decides.{nat_tests}
use Rattle.std.proofs.lemmas.List.{reverse-append}
use Rattle.std.proofs.lemmas.List.Elements.{Contains-push_cases}
use Rattle.esa_params.specs.Slots.{slot_number, is_writing, writes_number}
use Rattle.esa_params.specs.Sizes.{Sizes}
use Rattle.esa_params.specs.declared.slot.Access.{Access}
use Rattle.esa_params.specs.declared.slot.Op.{Op}
use Rattle.esa_params.specs.declared.slot.Op.TheVariants.{Read, Write}
use Rattle.esa_vault.specs.Latest.{latest_write}

-- the first that passes, with others behind
find-append : {X : Type 0} (test : X → Bool) (xs ys : List X) → find test (xs ++ ys) ≡ (if is_some (find test xs) then find test xs else find test ys)
find-append test [] ys = refl
find-append test (x ∷ xs) ys = elim (cases_Bool (test x)) [
  | inl passes ↦ rw passes refl
  | inr fails ↦ rw fails (find-append test xs ys)
]

pub latest-append : (p : Sizes) (number : ℕ) (accesses more : List Access) → latest_write p number (accesses ++ more)
    ≡ (if is_some (latest_write p number more) then latest_write p number more else latest_write p number accesses)
latest-append p number accesses more =
    ap (find (writes_number p number)) (reverse-append accesses more) ∙ find-append (writes_number p number) (reverse more) (reverse accesses)

-- what is found passes
find-passes : {X : Type 0} (test : X → Bool) (xs : List X) (found : X) → find test xs ≡ Some found → test found ≡ true
find-passes test [] found is = cc is
find-passes test (x ∷ xs) found is = elim (cases_Bool (test x)) [
  | inl passes ↦
      let one : find test (x ∷ xs) ≡ Some x = rw passes refl in
      let same : x ≡ found = cc (one, is) in ap test (sym same) ∙ passes
  | inr fails ↦
      let rest : find test (x ∷ xs) ≡ find test xs = rw fails refl in
      find-passes test xs found (sym rest ∙ is)
]

writes-slot : (op : Op) (at : Bool) → (is_writing op && at) ≡ true → op ≡ Write
writes-slot Read at is = cc is
writes-slot Write at is = refl

at-slot : (op : Op) (at : Bool) → (is_writing op && at) ≡ true → at ≡ true
at-slot Read at is = cc is
at-slot Write at is = is

pub latest-writes : (p : Sizes) (number : ℕ) (accesses : List Access) (access : Access) → latest_write p number accesses ≡ Some access → access.op ≡ Write
latest-writes p number accesses access is =
    writes-slot access.op (slot_number p access == number) (find-passes (writes_number p number) (reverse accesses) access is)

pub latest-names : (p : Sizes) (number : ℕ) (accesses : List Access) (access : Access) → latest_write p number accesses ≡ Some access → slot_number p access ≡ number
latest-names p number accesses access is =
    let same = at-slot access.op (slot_number p access == number) (find-passes (writes_number p number) (reverse accesses) access is) in
    grind (arith, nat_tests)

further : {X : Type 0} (y : X) (ys : List X) (x : X) → Contains ys x → Contains (y ∷ ys) x
further y ys x there = (suc there.0, omega (arith, there.1), there.2)

contains-found : {X : Type 0} (test : X → Bool) (xs : List X) (found : X) → find test xs ≡ Some found → Contains xs found
contains-found test [] found is = cc is
contains-found test (x ∷ xs) found is = elim (cases_Bool (test x)) [
  | inl passes ↦
      let one : find test (x ∷ xs) ≡ Some x = rw passes refl in
      (0, omega arith, cc (one, is))
  | inr fails ↦
      let rest : find test (x ∷ xs) ≡ find test xs = rw fails refl in
      further x xs found (contains-found test xs found (sym rest ∙ is))
]

contains-reverse : {X : Type 0} (xs : List X) (x : X) → Contains (reverse xs) x → Contains xs x
contains-reverse [] x there = there
contains-reverse (y ∷ ys) x there =
    let last : Contains (reverse ys ++ y ∷ []) x = subst (λ (zs : List _). Contains zs x) (reverse-append (y ∷ []) ys) there in
    elim (Contains-push_cases (reverse ys) y x last) [
      | inl before ↦ further y ys x (contains-reverse ys x before)
      | inr same ↦ (0, omega arith, same)
    ]

pub latest-stands : (p : Sizes) (number : ℕ) (accesses : List Access) (access : Access) → latest_write p number accesses ≡ Some access → Contains accesses access
latest-stands p number accesses access is = contains-reverse accesses access (contains-found (writes_number p number) (reverse accesses) access is)
