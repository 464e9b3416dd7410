-- Among sorted entries the rank of one is its place in its crowd.
use Rattle.std.proofs.Common.{◌≡◌, ◌≢◌, ℕ, zero, suc, ◌+◌, ◌-◌, ◌<◌, ◌≤◌, Bool, true, false, ◌&&◌, ◌||◌, cond, List, [], ◌∷◌, ◌++◌, length, drop, refl, sym, ap, subst, ◌∙◌, arith}
use Rattle.std.specs.Prelude.{◌==◌, nat_le, count_by, bytes_eq}
use Rattle.std.specs.List.{list_any}
use Rattle.std.specs.List.Sorted.{IsPermutation}
use Rattle.std.specs.declared.cmp.Ordering.{Ordering}
use Rattle.std.specs.declared.cmp.Ordering.TheVariants.{Less, Equal, Greater}
use Rattle.std.specs.Ordering.{is_lt, is_eq, ordering_then, ordering_reverse}
use Rattle.std.specs.Cmp.{IsTotalOrder}
use Rattle.std.proofs.lemmas.Cmp.{tied_itself, alike_right, nat_cmp_total, nat_list_cmp_total, on_total, then_total}
use Rattle.std.proofs.lemmas.Bool.Decides.{nat_tests}
use Rattle.std.proofs.lemmas.List.Sums.{sum_by-cons, sum_by_push, sum_by-append}
use Rattle.std.proofs.lemmas.List.Sorted.{sum_by-IsPermutation, list_any-IsPermutation}
use Rattle.esa_lists.proofs.FilesLaws.{names_apart}
use Rattle.esa_analyser.proofs.KeyRuns.{bytes_tie}
use Rattle.esa_crowds.specs.Entries.{Entry}
use Rattle.esa_crowds.specs.Kept.{by_bytes, by_key, precedes, rank, members, is_kept}
use Rattle.esa_crowds.specs.Rows.{by_crowd, stands_at, kept_among, kept_at}

-- ---- the orders

pub keys_total : IsTotalOrder by_key
keys_total = then_total (on_total (λ (e : Entry). e.tag) nat_list_cmp_total) (then_total (on_total (λ (e : Entry). e.inner) nat_list_cmp_total) (on_total (λ (e : Entry). e.position) nat_cmp_total))

pub crowds_total : IsTotalOrder by_crowd
crowds_total = then_total (on_total (λ (e : Entry). e.crowd) nat_list_cmp_total) keys_total

count-cons : {X : Type 0} (p : X → Bool) (x : X) (xs : List X) → count_by p (x ∷ xs) ≡ cond (p x) 1 0 + count_by p xs
count-cons p x xs = sum_by-cons (λ y. cond (p y) 1 0) x xs

-- ---- entries one after another

-- the entry comes before each
abbrev pub IsLess : Entry → List Entry → Type 0
IsLess x [] = Unit {0}
IsLess x (y ∷ ys) = (by_crowd x y ≡ Less) × IsLess x ys

-- each comes before those behind it
abbrev pub AreStrict : List Entry → Type 0
AreStrict [] = Unit {0}
AreStrict (x ∷ xs) = IsLess x xs × AreStrict xs

-- each comes before the entry
abbrev pub AreLess : List Entry → Entry → Type 0
AreLess [] e = Unit {0}
AreLess (o ∷ os) e = (by_crowd o e ≡ Less) × AreLess os e

-- each of the first comes before each of the others
abbrev pub AreAbove : List Entry → List Entry → Type 0
AreAbove before [] = Unit {0}
AreAbove before (e ∷ es) = AreLess before e × AreAbove before es

-- each is of the crowd
abbrev pub AreOf : List ℕ → List Entry → Type 0
AreOf c [] = Unit {0}
AreOf c (o ∷ os) = (o.crowd ≡ c) × AreOf c os

-- none is of the crowd
abbrev pub NoneOf : List ℕ → List Entry → Type 0
NoneOf c [] = Unit {0}
NoneOf c (o ∷ os) = (bytes_eq o.crowd c ≡ false) × NoneOf c os

-- none of the first is of the crowd of one of the others
abbrev pub AreApart : List Entry → List Entry → Type 0
AreApart done [] = Unit {0}
AreApart done (y ∷ ys) = NoneOf y.crowd done × AreApart done ys

-- each crowd comes behind this one
abbrev pub AreMore : List ℕ → List Entry → Type 0
AreMore c [] = Unit {0}
AreMore c (y ∷ ys) = (by_bytes c y.crowd ≡ Less) × AreMore c ys

AreLess-push : (os : List Entry) (o e : Entry) → AreLess os e → by_crowd o e ≡ Less → AreLess (os ++ o ∷ []) e
AreLess-push [] o e less last = (last, tt)
AreLess-push (x ∷ os) o e less last = (less.0, AreLess-push os o e less.1 last)

AreAbove-push : (before : List Entry) (o : Entry) (es : List Entry) → AreAbove before es → IsLess o es → AreAbove (before ++ o ∷ []) es
AreAbove-push before o [] above less = tt
AreAbove-push before o (e ∷ es) above less = (AreLess-push before o e above.0 less.0, AreAbove-push before o es above.1 less.1)

pub AreAbove-none : (es : List Entry) → AreAbove [] es
AreAbove-none [] = tt
AreAbove-none (e ∷ es) = (tt, AreAbove-none es)

AreOf-push : (c : List ℕ) (os : List Entry) (e : Entry) → AreOf c os → e.crowd ≡ c → AreOf c (os ++ e ∷ [])
AreOf-push c [] e all is = (is, tt)
AreOf-push c (o ∷ os) e all is = (all.0, AreOf-push c os e all.1 is)

NoneOf-append : (c : List ℕ) (os ys : List Entry) → NoneOf c os → NoneOf c ys → NoneOf c (os ++ ys)
NoneOf-append c [] ys none more = more
NoneOf-append c (o ∷ os) ys none more = (none.0, NoneOf-append c os ys none.1 more)

pub AreStrict-left : (xs ys : List Entry) → AreStrict (xs ++ ys) → AreStrict xs
AreStrict-left [] ys strict = tt
AreStrict-left (x ∷ xs) ys strict = (front xs strict.0, AreStrict-left xs ys strict.1)
  where
    front : (zs : List Entry) → IsLess x (zs ++ ys) → IsLess x zs
    front [] less = tt
    front (z ∷ zs) less = (less.0, front zs less.1)

pub AreStrict-right : (xs ys : List Entry) → AreStrict (xs ++ ys) → AreStrict ys
AreStrict-right [] ys strict = strict
AreStrict-right (x ∷ xs) ys strict = AreStrict-right xs ys strict.1

pub IsLess-right : (x : Entry) (xs ys : List Entry) → IsLess x (xs ++ ys) → IsLess x ys
IsLess-right x [] ys less = less
IsLess-right x (z ∷ xs) ys less = IsLess-right x xs ys less.1

pub AreApart-right : (done xs ys : List Entry) → AreApart done (xs ++ ys) → AreApart done ys
AreApart-right done [] ys apart = apart
AreApart-right done (x ∷ xs) ys apart = AreApart-right done xs ys apart.1

-- ---- crowds

first_less : (r s : Ordering) → ordering_then r s ≡ Less → r ≢ Equal → r ≡ Less
first_less Less s e other = refl
first_less Equal s e other = absurd (other refl)
first_less Greater s e other = cc

first_at_most : (r s : Ordering) → ordering_then r s ≡ Less → r ≢ Greater
first_at_most Less s e = λ g. cc
first_at_most Equal s e = λ g. cc
first_at_most Greater s e = λ g. cc

less_or_equal : (c x y : List ℕ) → by_bytes c x ≡ Less → by_bytes x y ≢ Greater → by_bytes c y ≡ Less
less_or_equal c x y less most =
    elim (by_bytes x y) as (λ r. by_bytes x y ≡ r → r ≢ Greater → by_bytes c y ≡ Less) [
      | Less ↦ λ e isnt. nat_list_cmp_total.trans c x y less e
      | Equal ↦ λ e isnt. sym (alike_right nat_list_cmp_total x y c e) ∙ less
      | Greater ↦ λ e isnt. absurd (isnt refl)
    ] refl most

module _ (c : List ℕ) (x : Entry) (is : x.crowd ≡ c) where
  more_crowds : (low : List ℕ) (zs : List Entry) → by_bytes c low ≡ Less → (z : Entry) → z.crowd ≡ low → IsLess z zs → AreMore c zs
  more_crowds low [] less z at behind = tt
  more_crowds low (y ∷ ys) less z at behind = (
    less_or_equal c low y.crowd less (subst (λ k. by_bytes k y.crowd ≢ Greater) at (first_at_most (by_bytes z.crowd y.crowd) (by_key z y) behind.0)),
    more_crowds low ys less z at behind.1,
  )

  -- behind a crowd's entries come those of later crowds
  pub AreMore-behind : (zs : List Entry) → IsLess x zs → AreStrict zs → ((z : Entry) (rest : List Entry) → zs ≡ z ∷ rest → z.crowd ≢ c) → AreMore c zs
  AreMore-behind [] less strict other = tt
  AreMore-behind (z ∷ zs) less strict other =
      let first : by_bytes c z.crowd ≡ Less = subst (λ k. by_bytes k z.crowd ≡ Less) is (first_less (by_bytes x.crowd z.crowd) (by_key x z) less.0 (λ e. other z zs refl (sym (names_apart x.crowd z.crowd e) ∙ is))) in
      (first, more_crowds z.crowd zs first z refl strict.0)

apart_from : (x y : List ℕ) → by_bytes x y ≡ Less → bytes_eq y x ≡ false
apart_from x y less = sym (bytes_tie x y) ∙ ap is_eq less

apart_back : (x y : List ℕ) → by_bytes x y ≡ Less → bytes_eq x y ≡ false
apart_back x y less = sym (bytes_tie y x) ∙ ap is_eq (nat_list_cmp_total.antisymm y x) ∙ ap (λ r. is_eq (ordering_reverse r)) less

pub NoneOf-more : (c : List ℕ) (zs : List Entry) → AreMore c zs → NoneOf c zs
NoneOf-more c [] more = tt
NoneOf-more c (z ∷ zs) more = (apart_from c z.crowd more.0, NoneOf-more c zs more.1)

none_of_run : (c y : List ℕ) (run : List Entry) → AreOf c run → by_bytes c y ≡ Less → NoneOf y run
none_of_run c y [] all less = tt
none_of_run c y (o ∷ run) all less = (ap (λ k. bytes_eq k y) all.0 ∙ apart_back c y less, none_of_run c y run all.1 less)

pub AreApart-more : (c : List ℕ) (done run zs : List Entry) → AreOf c run → AreMore c zs → AreApart done zs → AreApart (done ++ run) zs
AreApart-more c done run [] all more apart = tt
AreApart-more c done run (y ∷ ys) all more apart = (NoneOf-append y.crowd done run apart.0 (none_of_run c y.crowd run all more.0), AreApart-more c done run ys all more.1 apart.1)

-- ---- counts

same_bytes : (c : List ℕ) → bytes_eq c c ≡ true
same_bytes c = sym (bytes_tie c c) ∙ ap is_eq (tied_itself nat_list_cmp_total c)

second_of : (r s o : Ordering) → r ≡ Equal → ordering_then r s ≡ o → s ≡ o
second_of r s o equal is = sym (ap (λ t. ordering_then t s) equal) ∙ is

key_less : (x y : Entry) → x.crowd ≡ y.crowd → by_crowd x y ≡ Less → by_key x y ≡ Less
key_less x y same less = second_of (by_bytes x.crowd y.crowd) (by_key x y) Less (ap (λ c. by_bytes x.crowd c) (sym same) ∙ tied_itself nat_list_cmp_total x.crowd) less

precedes_yes : (o e : Entry) → o.crowd ≡ e.crowd → by_crowd o e ≡ Less → precedes o e ≡ true
precedes_yes o e same less = (λ i. bytes_eq (same i) e.crowd && is_lt (key_less o e same less i)) ∙ ap (λ b. b && true) (same_bytes e.crowd)

and_false : (b : Bool) → b && false ≡ false
and_false true = refl
and_false false = refl

precedes_not : (o e : Entry) → o.crowd ≡ e.crowd → by_crowd e o ≡ Less → precedes o e ≡ false
precedes_not o e same less =
    ap (λ r. bytes_eq o.crowd e.crowd && is_lt r) (keys_total.antisymm o e ∙ ap ordering_reverse (key_less e o (sym same) less)) ∙ and_false (bytes_eq o.crowd e.crowd)

precedes_itself : (e : Entry) → precedes e e ≡ false
precedes_itself e = ap (λ r. bytes_eq e.crowd e.crowd && is_lt r) (tied_itself keys_total e) ∙ and_false (bytes_eq e.crowd e.crowd)

precedes_other : (o e : Entry) (c : List ℕ) → e.crowd ≡ c → bytes_eq o.crowd c ≡ false → precedes o e ≡ false
precedes_other o e c is other = ap (λ k. bytes_eq o.crowd k && is_lt (by_key o e)) is ∙ ap (λ b. b && is_lt (by_key o e)) other

no_count : {X : Type 0} (p : X → Bool) (x : X) (xs : List X) → p x ≡ false → count_by p xs ≡ 0 → count_by p (x ∷ xs) ≡ 0
no_count p x xs not none = count-cons p x xs ∙ ap (λ b. cond b 1 0 + count_by p xs) not ∙ ap (λ n. 0 + n) none

one_count : {X : Type 0} (p : X → Bool) (x : X) (xs : List X) (n : ℕ) → p x ≡ true → count_by p xs ≡ n → count_by p (x ∷ xs) ≡ suc n
one_count p x xs n passes many = count-cons p x xs ∙ ap (λ b. cond b 1 0 + count_by p xs) passes ∙ omega (arith, many)

ranks_none : (c : List ℕ) (e : Entry) (os : List Entry) → e.crowd ≡ c → NoneOf c os → count_by (λ o. precedes o e) os ≡ 0
ranks_none c e [] is none = refl
ranks_none c e (o ∷ os) is none = no_count (λ x. precedes x e) o os (precedes_other o e c is none.0) (ranks_none c e os is none.1)

ranks_before : (c : List ℕ) (e : Entry) (os : List Entry) → e.crowd ≡ c → AreOf c os → AreLess os e → count_by (λ o. precedes o e) os ≡ length os
ranks_before c e [] is all less = refl
ranks_before c e (o ∷ os) is all less = one_count (λ x. precedes x e) o os (length os) (precedes_yes o e (all.0 ∙ sym is) less.0) (ranks_before c e os is all.1 less.1)

ranks_behind : (c : List ℕ) (e : Entry) (os : List Entry) → e.crowd ≡ c → AreOf c os → IsLess e os → count_by (λ o. precedes o e) os ≡ 0
ranks_behind c e [] is all less = refl
ranks_behind c e (o ∷ os) is all less = no_count (λ x. precedes x e) o os (precedes_not o e (all.0 ∙ sym is) less.0) (ranks_behind c e os is all.1 less.1)

members_none : (c : List ℕ) (os : List Entry) → NoneOf c os → members os c ≡ 0
members_none c [] none = refl
members_none c (o ∷ os) none = no_count (λ (x : Entry). bytes_eq x.crowd c) o os none.0 (members_none c os none.1)

members_all : (c : List ℕ) (os : List Entry) → AreOf c os → members os c ≡ length os
members_all c [] all = refl
members_all c (o ∷ os) all = one_count (λ (x : Entry). bytes_eq x.crowd c) o os (length os) (ap (λ k. bytes_eq k c) all.0 ∙ same_bytes c) (members_all c os all.1)

-- ---- the kept ones of a crowd

nothing_left : (ok : Bool) (position n : ℕ) → false ≡ cond ok (stands_at position (drop n [])) false
nothing_left false position n = refl
nothing_left true position zero = refl
nothing_left true position (suc n) = refl

marked_step : (ok le : Bool) (rest : Bool) (d k position : ℕ) (e : Entry) (run : List Entry) → le ≡ nat_le d k
    → rest ≡ cond ok (stands_at position (drop (d - suc k) run)) false
    → ((e.position == position) && (le && ok)) || rest ≡ cond ok (stands_at position (drop (d - k) (e ∷ run))) false
marked_step false true rest d k position e run fits later = ap (λ b. b || rest) (and_false (e.position == position)) ∙ later
marked_step false false rest d k position e run fits later = ap (λ b. b || rest) (and_false (e.position == position)) ∙ later
marked_step true true rest d k position e run fits later =
    let low : d ≤ k = grind (arith, nat_tests) in
    let none : d - k ≡ 0 = omega arith in
    let none_more : d - suc k ≡ 0 = omega arith in
    ap (λ b. b || rest) (and_true (e.position == position))
    ∙ ap (λ b. (e.position == position) || b) (later ∙ ap (λ n. stands_at position (drop n run)) none_more)
    ∙ sym (ap (λ n. stands_at position (drop n (e ∷ run))) none)
  where
    and_true : (b : Bool) → b && true ≡ b
    and_true true = refl
    and_true false = refl
marked_step true false rest d k position e run fits later =
    let high : k < d = grind (arith, nat_tests) in
    let one_less : d - k ≡ suc (d - suc k) = omega arith in
    ap (λ b. b || rest) (and_false (e.position == position)) ∙ later ∙ sym (ap (λ n. stands_at position (drop n (e ∷ run))) one_less)

module _ (dropped : List ℕ → ℕ) (t : ℕ) (list : List Entry) where
  -- the list is these four parts, one behind another
  record Parts (done before run behind : List Entry) : Type 0 where
    counts : (p : Entry → Bool) → count_by p list ≡ count_by p done + (count_by p before + (count_by p run + count_by p behind))

  Parts-next : (done before run behind : List Entry) (e : Entry) → Parts done before (e ∷ run) behind → Parts done (before ++ e ∷ []) run behind
  Parts-next done before run behind e parts = record {
    counts = λ p. omega (arith, parts.counts p, count-cons p e run, sum_by_push (λ y. cond (p y) 1 0) before e);
  }

  rank_is : (c : List ℕ) (done before run behind : List Entry) (e : Entry) → Parts done before (e ∷ run) behind → NoneOf c done → NoneOf c behind
      → AreOf c before → AreOf c (e ∷ run) → AreLess before e → IsLess e run → rank list e ≡ length before
  rank_is c done before run behind e parts front back all run_all less more =
      let p : Entry → Bool = λ o. precedes o e in
      let here : ◌≡◌ {A = ℕ} (cond (precedes e e) 1 0) 0 = ap (λ b. cond b 1 0) (precedes_itself e) in
      omega (arith, parts.counts p, count-cons p e run, here, ranks_none c e done run_all.0 front, ranks_before c e before run_all.0 all less, ranks_behind c e run run_all.0 run_all.1 more, ranks_none c e behind run_all.0 back)

  kept_is : (c : List ℕ) (e : Entry) (k : ℕ) → e.crowd ≡ c → rank list e ≡ k → is_kept dropped t list e ≡ nat_le (dropped c) k && nat_le (dropped c + t) (members list c)
  kept_is c e k is ranked = λ i. nat_le (dropped (is i)) (ranked i) && nat_le (dropped (is i) + t) (members list (is i))

  kept_run : (c : List ℕ) (done before run behind : List Entry) (position : ℕ) → Parts done before run behind → NoneOf c done → NoneOf c behind
      → AreOf c before → AreOf c run → AreAbove before run → AreStrict run
      → kept_among dropped t list position run ≡ cond (nat_le (dropped c + t) (members list c)) (stands_at position (drop (dropped c - length before) run)) false
  kept_run c done before [] behind position parts front back all run_all above strict = nothing_left (nat_le (dropped c + t) (members list c)) position (dropped c - length before)
  kept_run c done before (e ∷ run) behind position parts front back all run_all above strict =
      let ranked = rank_is c done before run behind e parts front back all run_all above.0 strict.0 in
      let longer : length (before ++ e ∷ []) ≡ suc (length before) = longer_by before e in
      let later = kept_run c done (before ++ e ∷ []) run behind position (Parts-next done before run behind e parts) front back (AreOf-push c before e all run_all.0) run_all.1 (AreAbove-push before e run above.1 strict.0) strict.1 in
      ap (λ b. ((e.position == position) && b) || kept_among dropped t list position run) (kept_is c e (length before) run_all.0 ranked)
      ∙ marked_step (nat_le (dropped c + t) (members list c)) (nat_le (dropped c) (length before)) (kept_among dropped t list position run) (dropped c) (length before) position e run refl
      (later ∙ ap (λ n. cond (nat_le (dropped c + t) (members list c)) (stands_at position (drop (dropped c - n) run)) false) longer)
    where
      longer_by : (xs : List Entry) (x : Entry) → length (xs ++ x ∷ []) ≡ suc (length xs)
      longer_by [] x = refl
      longer_by (y ∷ xs) x = ap suc (longer_by xs x)

  split_counts : (done run behind : List Entry) → list ≡ done ++ (run ++ behind) → Parts done [] run behind
  split_counts done run behind split = record {
    counts = λ p. ap (count_by p) split ∙ sum_by-append (λ y. cond (p y) 1 0) done (run ++ behind) ∙ ap (λ n. count_by p done + n) (sum_by-append (λ y. cond (p y) 1 0) run behind ∙ plus_none (count_by p run + count_by p behind));
  }
    where
      plus_none : (n : ℕ) → n ≡ 0 + n
      plus_none n = omega arith

  -- of a crowd's entries, one behind another, the first are dropped, and the others are kept where enough are left
  pub run_is : (c : List ℕ) (done run behind : List Entry) (position : ℕ) → list ≡ done ++ (run ++ behind) → NoneOf c done → NoneOf c behind → AreOf c run → AreStrict run
      → kept_among dropped t list position run ≡ cond (nat_le (dropped c + t) (length run)) (stands_at position (drop (dropped c) run)) false
  run_is c done run behind position split front back run_all strict =
      let parts = split_counts done run behind split in
      let many : members list c ≡ length run = omega (arith, parts.counts (λ (x : Entry). bytes_eq x.crowd c), members_none c done front, members_all c run run_all, members_none c behind back) in
      let all : dropped c - 0 ≡ dropped c = omega arith in
      kept_run c done [] run behind position parts front back tt run_all (AreAbove-none run) strict
      ∙ (λ i. cond (nat_le (dropped c + t) (many i)) (stands_at position (drop (all i) run)) false)

-- what is kept doesn't see the order of the entries
pub kept_at-permutation : (dropped : List ℕ → ℕ) (t : ℕ) (xs ys : List Entry) (position : ℕ) → IsPermutation xs ys → kept_at dropped t ys position ≡ kept_at dropped t xs position
kept_at-permutation dropped t xs ys position moved =
    let same : (e : Entry) → is_kept dropped t ys e ≡ is_kept dropped t xs e = λ e i. nat_le (dropped e.crowd) (sum_by-IsPermutation (λ o. cond (precedes o e) 1 0) xs ys moved i) && nat_le (dropped e.crowd + t) (sum_by-IsPermutation (λ (o : Entry). cond (bytes_eq o.crowd e.crowd) 1 0) xs ys moved i) in
    (λ i. list_any (λ (e : Entry). e.position == position && same e i) ys)
    ∙ sym (list_any-IsPermutation (λ (e : Entry). e.position == position && is_kept dropped t xs e) xs ys moved)
