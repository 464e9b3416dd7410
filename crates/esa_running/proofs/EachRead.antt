-- The latest write of a slot, and what is so of each read of a list of accesses.
use Rattle.std.proofs.Common.{◌≡◌, ◌≢◌, ℕ, zero, suc, ◌+◌, ◌≤◌, ◌<◌, ⊎_elim, Bool, true, false, cond, List, [], ◌∷◌, ◌++◌, All, map, Some, refl, sym, ap, ◌∙◌, subst, arith, append-nil, append_assoc}
use Rattle.std.specs.List.{count_by, filter_map, cons_option}
use Rattle.std.specs.Prelude.{Option, None}
use Rattle.std.proofs.lemmas.Bool.{cases_eq, cases_lt}
use Rattle.std.proofs.lemmas.List.Elements.{All-cons, All-head, All-nil, All-tail}
use Rattle.std.proofs.lemmas.List.Sums.{sum_by-cons, sum_by-append}
use Rattle.esa_laws.proofs.Ranges.{map-below-suc}
use Rattle.esa_laws.proofs.Tests.{bit}
use Rattle.esa_params.specs.Sizes.{Sizes, below}
use Rattle.esa_params.specs.Slots.{writes_number}
use Rattle.esa_params.specs.declared.slot.Access.{Access}
use Rattle.esa_params.specs.declared.slot.Op.TheVariants.{Read as Reads}
use Rattle.esa_spec.specs.Fronts.{Begins}
use Rattle.esa_vault.specs.Latest.{latest_write}
use Rattle.esa_vault.proofs.LatestLaws.{latest-push}

-- ---- lists

pub all-front : {X : Type 0} (P : X → Type 0) (front whole : List X) → Begins front whole → All P whole → All P front
all-front P [] whole begins all = All-nil P
all-front P (x ∷ front) whole begins all =
    let long : All P (x ∷ (front ++ begins.0)) = subst (All P) begins.1 all in
    All-cons P x front (All-head P x (front ++ begins.0) long) (all-front P front (front ++ begins.0) (begins.0, refl) (All-tail P x (front ++ begins.0) long))

all-option : {X : Type 0} (P : X → Type 0) (o : Option X) (xs : List X) → ((x : X) → o ≡ Some x → P x) → All P xs → All P (cons_option o xs)
all-option P None xs here rest = rest
all-option P (Some x) xs here rest = All-cons P x xs (here x refl) rest

pub all-filter_map : {X Y : Type 0} (P : X → Type 0) (h : Y → Option X) (ys : List Y) → All (λ y. (x : X) → h y ≡ Some x → P x) ys → All P (filter_map h ys)
all-filter_map P h [] all = All-nil P
all-filter_map {X} P h (y ∷ ys) all =
    all-option P (h y) (filter_map h ys) (All-head (λ y. (x : X) → h y ≡ Some x → P x) y ys all)
    (all-filter_map P h ys (All-tail (λ y. (x : X) → h y ≡ Some x → P x) y ys all))

pub all-where : {X : Type 0} (P : X → Type 0) (c : Bool) (xs : List X) → All P xs → All P (cond c xs [])
all-where P true xs all = all
all-where P false xs all = All-nil P

-- ---- the latest write of a slot

is-zero : (c : Bool) → bit c ≡ 0 → c ≡ false
is-zero true e = absurd (omega (arith, e))
is-zero false e = refl

is-one : (c : Bool) → 1 ≤ bit c → c ≡ true
is-one true e = refl
is-one false e = absurd (omega (arith, e))

-- how many of the accesses write the slot of this number
abbrev pub writes_to : Sizes → ℕ → List Access → ℕ
writes_to p number accesses = count_by (writes_number p number) accesses

module _ (p : Sizes) (number : ℕ) where
  pub writes-cons : (x : Access) (xs : List Access) → writes_to p number (x ∷ xs) ≡ bit (writes_number p number x) + writes_to p number xs
  writes-cons x xs = sum_by-cons (λ y. bit (writes_number p number y)) x xs

  pub writes-append : (xs ys : List Access) → writes_to p number (xs ++ ys) ≡ writes_to p number xs + writes_to p number ys
  writes-append xs ys = sum_by-append (λ y. bit (writes_number p number y)) xs ys

  latest-none : (before xs : List Access) → writes_to p number xs ≡ 0 → latest_write p number (before ++ xs) ≡ latest_write p number before
  latest-none before [] none = ap (latest_write p number) (append-nil before)
  latest-none before (x ∷ xs) none =
      let parts = writes-cons x xs in
      ap (latest_write p number) (sym (append_assoc before (x ∷ []) xs))
      ∙ latest-none (before ++ x ∷ []) xs (omega (arith, parts, none))
      ∙ latest-push p number before x
      ∙ ap (λ y. cond y (Some x) (latest_write p number before)) (is-zero (writes_number p number x) (omega (arith, parts, none)))

  module _ (Such : Access → Type 0) where
    pub record Found (accesses : List Access) : Type 0 where
      pub write : Access
      pub latest : latest_write p number accesses ≡ Some write
      pub such : Such write

    -- where one of the last accesses writes the slot, the latest write is one of them
    pub latest-of : (before xs : List Access) → All Such xs → 1 ≤ writes_to p number xs → Found (before ++ xs)
    latest-of before [] all some = absurd (omega (arith, some))
    latest-of before (x ∷ xs) all some =
        let parts = writes-cons x xs in
        ⊎_elim
        (λ (none : writes_to p number xs ≡ 0). record {
          write = x;
          latest = ap (latest_write p number) (sym (append_assoc before (x ∷ []) xs))
              ∙ latest-none (before ++ x ∷ []) xs none
              ∙ latest-push p number before x
              ∙ ap (λ y. cond y (Some x) (latest_write p number before)) (is-one (writes_number p number x) (omega (arith, parts, none, some)));
          such = All-head Such x xs all;
        })
        (λ (more : writes_to p number xs ≢ 0).
        subst Found (append_assoc before (x ∷ []) xs) (latest-of (before ++ x ∷ []) xs (All-tail Such x xs all) (omega (arith, more))))
        (cases_eq (writes_to p number xs) 0)

  -- one of these accesses is there
  pub writes-map : (f : ℕ → Access) (n i : ℕ) → i < n → writes_number p number (f i) ≡ true → 1 ≤ writes_to p number (map f (below n))
  writes-map f zero i inside writes = absurd (omega (arith, inside))
  writes-map f (suc n) i inside writes =
      let parts = ap (writes_to p number) (map-below-suc f n) ∙ writes-append (map f (below n)) (f n ∷ []) in
      let last = writes-cons (f n) [] in
      ⊎_elim
      (λ (less : i < n). let early = writes-map f n i less writes in omega (arith, parts, early))
      (λ (past : n ≤ i).
      let is : i ≡ n = omega (arith, past, inside) in
      let here : bit (writes_number p number (f n)) ≡ 1 = ap (λ k. bit (writes_number p number (f k))) (sym is) ∙ ap bit writes in
      omega (arith, parts, last, here))
      (cases_lt i n)

-- ---- each read

-- what is so of each read among accesses, by the accesses before it
module _ (Fact : List Access → Access → Type 0) where
  abbrev pub EachRead : (before accesses : List Access) → Type 0
  EachRead before [] = Unit {0}
  EachRead before (x ∷ xs) = (x.op ≡ Reads → Fact before x) × EachRead (before ++ x ∷ []) xs

  pub each-append : (before xs ys : List Access) → EachRead before xs → EachRead (before ++ xs) ys → EachRead before (xs ++ ys)
  each-append before [] ys first second = subst (λ (b : List Access). EachRead b ys) (append-nil before) second
  each-append before (x ∷ xs) ys first second = (
    first.0,
    each-append (before ++ x ∷ []) xs ys first.1 (subst (λ (b : List Access). EachRead b ys) (sym (append_assoc before (x ∷ []) xs)) second),
  )

  pub each-at : (before xs : List Access) (x : Access) (more : List Access) → EachRead before (xs ++ x ∷ more) → x.op ≡ Reads → Fact (before ++ xs) x
  each-at before [] x more each reads = subst (λ (b : List Access). Fact b x) (sym (append-nil before)) (each.0 reads)
  each-at before (y ∷ xs) x more each reads =
      subst (λ (b : List Access). Fact b x) (append_assoc before (y ∷ []) xs) (each-at (before ++ y ∷ []) xs x more each.1 reads)
