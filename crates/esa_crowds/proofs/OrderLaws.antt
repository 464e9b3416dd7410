-- Counting doesn't see the order: of a list in another order the same inner envelopes are forwarded.
use Rattle.std.proofs.Common.{◌≡◌, ℕ, suc, ◌+◌, ◌-◌, ◌<◌, ◌≤◌, Bool, true, false, ◌&&◌, cond, List, [], ◌∷◌, ◌++◌, map, refl, sym, ap, subst, ◌∙◌, arith, Option, Some, None}
use Rattle.std.specs.Prelude.{nat_le, filter, filter_map, count_by, bytes_eq}
use Rattle.std.specs.List.{cons_option, sum_by}
use Rattle.std.specs.List.Sorted.{IsPermutation}
use Rattle.std.specs.declared.cmp.Ordering.{Ordering}
use Rattle.std.specs.declared.cmp.Ordering.TheVariants.{Less, Equal, Greater}
use Rattle.std.specs.Ordering.{nat_cmp, is_lt, is_eq, eq_by_cmp, ordering_then, then_cmp, on}
use Rattle.std.specs.Cmp.{IsTotalOrder}
use Rattle.std.specs.FinMap.{IsAntisymmetric}
use Rattle.std.proofs.lemmas.Cmp.{tied_itself, nat_list_cmp_total, on_total, then_total, eq_by_cmp_equiv}
use Rattle.std.proofs.lemmas.Bool.Decides.{nat_tests}
use Rattle.std.proofs.lemmas.List.Sums.{sum_by-cons, sum_by_push}
use Rattle.std.proofs.lemmas.List.Sorted.{sum_by-IsPermutation, IsPermutation-map}
use Rattle.esa_lists.specs.Tally.{times}
use Rattle.esa_lists.proofs.FilesLaws.{names_apart}
use Rattle.esa_lists.proofs.OrderedLaws.{times-cons, IsPermutation-from_counts}
use Rattle.esa_hmac.specs.Hmac.{hmac}
use Rattle.esa_params.specs.declared.form.Form.{Form}
use Rattle.esa_report.specs.declared.item.Item.{Item}
use Rattle.esa_report.specs.declared.item.Kind.{Kind}
use Rattle.esa_report.specs.declared.item.Kind.TheVariants.{Dummy, Real, Malformed}
use Rattle.esa_analyser.proofs.KeyRuns.{bytes_tie}
use Rattle.esa_crowds.specs.Entries.{Entry, crowd_in, inner_in, entry_in, if_real, entries_from, entries}
use Rattle.esa_crowds.specs.Kept.{by_bytes, precedes, rank, members, is_kept, drops_in, forward}

-- ---- an entry without its position

abbrev pub Pair : Type 0
Pair = List ℕ × List ℕ

abbrev pub pair_of : Entry → Pair
pair_of entry = (entry.crowd, entry.inner)

abbrev pub by_pair : Pair → Pair → Ordering
by_pair = then_cmp (on (λ (pair : Pair). pair.0) by_bytes) (on (λ (pair : Pair). pair.1) by_bytes)

pub pairs_total : IsTotalOrder by_pair
pairs_total = then_total (on_total (λ (pair : Pair). pair.0) nat_list_cmp_total) (on_total (λ (pair : Pair). pair.1) nat_list_cmp_total)

both_equal : (r s : Ordering) → ordering_then r s ≡ Equal → (r ≡ Equal) × (s ≡ Equal)
both_equal Less s e = cc
both_equal Equal s e = (refl, e)
both_equal Greater s e = cc

pub pairs_apart : IsAntisymmetric by_pair
pairs_apart x y e =
    let both = both_equal (by_bytes x.0 y.0) (by_bytes x.1 y.1) e in
    let first = names_apart x.0 y.0 both.0 in
    let second = names_apart x.1 y.1 both.1 in
    λ i. (first i, second i)

same_pair : (q x : Pair) → eq_by_cmp by_pair q x ≡ true → q ≡ x
same_pair q x ties = elim (by_pair q x) as (λ r. by_pair q x ≡ r → is_eq r ≡ true → q ≡ x) [ Less ↦ λ e t. cc | Equal ↦ λ e t. pairs_apart q x e | Greater ↦ λ e t. cc ] refl ties

eq_then : (r s : Ordering) → is_eq (ordering_then r s) ≡ is_eq r && is_eq s
eq_then Less s = refl
eq_then Equal s = refl
eq_then Greater s = refl

-- two entries are of one crowd and have one inner envelope
is_pair : (e o : Entry) → eq_by_cmp by_pair (pair_of e) (pair_of o) ≡ bytes_eq o.crowd e.crowd && is_eq (by_bytes o.inner e.inner)
is_pair e o =
    eq_then (by_bytes e.crowd o.crowd) (by_bytes e.inner o.inner)
    ∙ (λ i. bytes_tie e.crowd o.crowd i && (eq_by_cmp_equiv nat_list_cmp_total).symm e.inner o.inner i)

-- ---- the test of a rank, by whether the position is lower

earlier_by : (a : Bool) (r s p : Ordering) → p ≡ Less → (s ≡ Equal → r ≡ Equal)
    → cond (a && is_lt (ordering_then r (ordering_then s p))) 1 0 ≡ cond (a && is_lt (ordering_then r s)) 1 0 + cond (a && is_eq s) 1 0
earlier_by false r s p less one = refl
earlier_by true Less Less p less one = refl
earlier_by true Less Equal p less one = cc (one refl)
earlier_by true Less Greater p less one = refl
earlier_by true Equal Less p less one = refl
earlier_by true Equal Equal p less one = ap (λ o. cond (is_lt o) 1 0) less
earlier_by true Equal Greater p less one = refl
earlier_by true Greater Less p less one = refl
earlier_by true Greater Equal p less one = cc (one refl)
earlier_by true Greater Greater p less one = refl

later_by : (a : Bool) (r s p : Ordering) → is_lt p ≡ false
    → ◌≡◌ {A = ℕ} (cond (a && is_lt (ordering_then r (ordering_then s p))) 1 0) (cond (a && is_lt (ordering_then r s)) 1 0)
later_by false r s p isnt = refl
later_by true Less s p isnt = refl
later_by true Equal Less p isnt = refl
later_by true Equal Equal p isnt = ap (λ b. cond b 1 0) isnt
later_by true Equal Greater p isnt = refl
later_by true Greater s p isnt = refl

less_position : (x y : ℕ) → x < y → nat_cmp x y ≡ Less
less_position x y less = grind (arith, nat_tests)

no_less_position : (x y : ℕ) → y ≤ x → is_lt (nat_cmp x y) ≡ false
no_less_position x y least = grind (arith, nat_tests)

count-cons : {X : Type 0} (p : X → Bool) (x : X) (xs : List X) → count_by p (x ∷ xs) ≡ cond (p x) 1 0 + count_by p xs
count-cons p x xs = sum_by-cons (λ y. cond (p y) 1 0) x xs

plus_none : (n : ℕ) → n ≡ 0 + n
plus_none n = omega arith

-- ---- lists of entries, each with its tag

module _ (tag : List ℕ → List ℕ) where
  -- a pair is of the crowd, and its tag and inner envelope come before
  abbrev pub is_below : Pair → Pair → Bool
  is_below q x = bytes_eq x.0 q.0 && is_lt (ordering_then (by_bytes (tag x.1) (tag q.1)) (by_bytes x.1 q.1))

  -- the positions are below
  abbrev pub AreBefore : ℕ → List Entry → Type 0
  AreBefore high [] = Unit {0}
  AreBefore high (o ∷ os) = (o.position < high) × ((o.tag ≡ tag o.inner) × AreBefore high os)

  -- the positions are no lower
  abbrev pub AreBehind : ℕ → List Entry → Type 0
  AreBehind low [] = Unit {0}
  AreBehind low (o ∷ os) = (low ≤ o.position) × ((o.tag ≡ tag o.inner) × AreBehind low os)

  -- the positions rise
  abbrev pub AreRising : ℕ → List Entry → Type 0
  AreRising low [] = Unit {0}
  AreRising low (o ∷ os) = (low ≤ o.position) × ((o.tag ≡ tag o.inner) × AreRising (suc o.position) os)

  AreBehind-rising : (low least : ℕ) (os : List Entry) → least ≤ low → AreRising low os → AreBehind least os
  AreBehind-rising low least [] fits up = tt
  AreBehind-rising low least (o ∷ os) fits up = (omega (arith, up.0), (up.1.0, AreBehind-rising (suc o.position) least os (omega (arith, up.0)) up.1.1))

  pub AreRising-lower : (low least : ℕ) (os : List Entry) → least ≤ low → AreRising low os → AreRising least os
  AreRising-lower low least [] fits up = tt
  AreRising-lower low least (o ∷ os) fits up = (omega (arith, up.0), up.1)

  AreBefore-higher : (low high : ℕ) (os : List Entry) → low ≤ high → AreBefore low os → AreBefore high os
  AreBefore-higher low high [] fits before = tt
  AreBefore-higher low high (o ∷ os) fits before = (omega (arith, before.0), (before.1.0, AreBefore-higher low high os fits before.1.1))

  AreBefore-push : (low : ℕ) (os : List Entry) (e : Entry) → low ≤ e.position → e.tag ≡ tag e.inner → AreBefore low os → AreBefore (suc e.position) (os ++ e ∷ [])
  AreBefore-push low [] e fits is before = (omega arith, (is, tt))
  AreBefore-push low (o ∷ os) e fits is before = (omega (arith, before.0), (before.1.0, AreBefore-push low os e fits is before.1.1))

  tags : (o e : Entry) → o.tag ≡ tag o.inner → e.tag ≡ tag e.inner → by_bytes o.tag e.tag ≡ by_bytes (tag o.inner) (tag e.inner)
  tags o e o_is e_is = λ i. by_bytes (o_is i) (e_is i)

  one_tag : (x y : List ℕ) → by_bytes x y ≡ Equal → by_bytes (tag x) (tag y) ≡ Equal
  one_tag x y e = ap (λ z. by_bytes (tag x) (tag z)) (sym (names_apart x y e)) ∙ tied_itself nat_list_cmp_total (tag x)

  earlier : (o e : Entry) → o.position < e.position → o.tag ≡ tag o.inner → e.tag ≡ tag e.inner
      → cond (precedes o e) 1 0 ≡ cond (is_below (pair_of e) (pair_of o)) 1 0 + cond (eq_by_cmp by_pair (pair_of e) (pair_of o)) 1 0
  earlier o e below o_is e_is =
      let a = bytes_eq o.crowd e.crowd in
      let s = by_bytes o.inner e.inner in
      ap (λ r. cond (a && is_lt (ordering_then r (ordering_then s (nat_cmp o.position e.position)))) 1 0) (tags o e o_is e_is)
      ∙ earlier_by a (by_bytes (tag o.inner) (tag e.inner)) s (nat_cmp o.position e.position) (less_position o.position e.position below) (one_tag o.inner e.inner)
      ∙ ap (λ b. cond (is_below (pair_of e) (pair_of o)) 1 0 + cond b 1 0) (sym (is_pair e o))

  later : (o e : Entry) → e.position ≤ o.position → o.tag ≡ tag o.inner → e.tag ≡ tag e.inner
      → ◌≡◌ {A = ℕ} (cond (precedes o e) 1 0) (cond (is_below (pair_of e) (pair_of o)) 1 0)
  later o e behind o_is e_is =
      let a = bytes_eq o.crowd e.crowd in
      let s = by_bytes o.inner e.inner in
      ap (λ r. cond (a && is_lt (ordering_then r (ordering_then s (nat_cmp o.position e.position)))) 1 0) (tags o e o_is e_is)
      ∙ later_by a (by_bytes (tag o.inner) (tag e.inner)) s (nat_cmp o.position e.position) (no_less_position o.position e.position behind)

  ranks_before : (e : Entry) (os : List Entry) → e.tag ≡ tag e.inner → AreBefore e.position os
      → count_by (λ o. precedes o e) os ≡ count_by (is_below (pair_of e)) (map pair_of os) + count_by (eq_by_cmp by_pair (pair_of e)) (map pair_of os)
  ranks_before e [] is before = refl
  ranks_before e (o ∷ os) is before =
      let here = earlier o e before.0 before.1.0 is in
      let rest = ranks_before e os is before.1.1 in
      let one = count-cons (λ x. precedes x e) o os in
      let two = count-cons (is_below (pair_of e)) (pair_of o) (map pair_of os) in
      let three = count-cons (eq_by_cmp by_pair (pair_of e)) (pair_of o) (map pair_of os) in
      omega (arith, here, rest, one, two, three)

  ranks_behind : (e : Entry) (os : List Entry) → e.tag ≡ tag e.inner → AreBehind e.position os
      → count_by (λ o. precedes o e) os ≡ count_by (is_below (pair_of e)) (map pair_of os)
  ranks_behind e [] is behind = refl
  ranks_behind e (o ∷ os) is behind =
      let here = later o e behind.0 behind.1.0 is in
      let rest = ranks_behind e os is behind.1.1 in
      let one = count-cons (λ x. precedes x e) o os in
      let two = count-cons (is_below (pair_of e)) (pair_of o) (map pair_of os) in
      omega (arith, here, rest, one, two)

  -- ---- how often a pair is kept

  module _ (dropped : List ℕ → ℕ) (t : ℕ) where
    -- as many pairs come below, are this pair, and are of its crowd
    abbrev pub kept_number : ℕ → ℕ → ℕ → ℕ → ℕ
    kept_number d below these all = cond (nat_le (d + t) all) (these - (d - below)) 0

    keep_yes : (le ok : Bool) (d below before behind n : ℕ) → le ≡ nat_le d (below + before)
        → n + cond ok (before + 1 - (d - below)) 0 ≡ cond ok (before + 1 + behind - (d - below)) 0
        → cond (le && ok) 1 0 + n + cond ok (before - (d - below)) 0 ≡ cond ok (before + (1 + behind) - (d - below)) 0
    keep_yes true true d below before behind n le so_far = let fits : d ≤ below + before = grind (arith, nat_tests) in omega (arith, so_far, fits)
    keep_yes false true d below before behind n le so_far = let few : below + before < d = grind (arith, nat_tests) in omega (arith, so_far, few)
    keep_yes true false d below before behind n le so_far = omega (arith, so_far)
    keep_yes false false d below before behind n le so_far = omega (arith, so_far)

    not_here : (ok : Bool) (n before behind short : ℕ) → n + cond ok (before + 0 - short) 0 ≡ cond ok (before + 0 + behind - short) 0
        → 0 + n + cond ok (before - short) 0 ≡ cond ok (before + (0 + behind) - short) 0
    not_here true n before behind short now = omega (arith, now)
    not_here false n before behind short now = omega (arith, now)

    nothing_more : (ok : Bool) (before short : ℕ) → 0 + cond ok (before - short) 0 ≡ cond ok (before + 0 - short) 0
    nothing_more true before short = omega arith
    nothing_more false before short = omega arith

    from_none : (ok : Bool) (n these short : ℕ) → n + cond ok (0 - short) 0 ≡ cond ok (0 + these - short) 0 → n ≡ cond ok (these - short) 0
    from_none true n these short all = omega (arith, all)
    from_none false n these short all = omega (arith, all)

    module _ (list : List Entry) where
      abbrev at_pair : Pair → Entry → Bool
      at_pair q e = eq_by_cmp by_pair q (pair_of e) && is_kept dropped t list e

      abbrev enough : Pair → Bool
      enough q = nat_le (dropped q.0 + t) (members list q.0)

      abbrev short : Pair → ℕ
      short q = dropped q.0 - count_by (is_below q) (map pair_of list)

      -- the list is some entries, and others behind them
      record Splits (before behind : List Entry) : Type 0 where
        counts : (p : Entry → Bool) → count_by p list ≡ count_by p before + count_by p behind
        pairs : (p : Pair → Bool) → count_by p (map pair_of list) ≡ count_by p (map pair_of before) + count_by p (map pair_of behind)

      count-push : (p : Pair → Bool) (before : List Entry) (e : Entry) → count_by p (map pair_of (before ++ e ∷ [])) ≡ count_by p (map pair_of before) + cond (p (pair_of e)) 1 0
      count-push p [] e = refl
      count-push p (o ∷ os) e =
          let rest = count-push p os e in
          let one = count-cons p (pair_of o) (map pair_of (os ++ e ∷ [])) in
          let two = count-cons p (pair_of o) (map pair_of os) in
          omega (arith, rest, one, two)

      Splits-next : (before behind : List Entry) (e : Entry) → Splits before (e ∷ behind) → Splits (before ++ e ∷ []) behind
      Splits-next before behind e split = record {
        counts = λ p. omega (arith, split.counts p, count-cons p e behind, sum_by_push (λ y. cond (p y) 1 0) before e);
        pairs = λ p. omega (arith, split.pairs p, count-cons p (pair_of e) (map pair_of behind), count-push p before e);
      }

      -- the rank of an entry: the pairs below it, and those like it that stand before it
      rank_is : (before behind : List Entry) (e : Entry) → Splits before (e ∷ behind) → e.tag ≡ tag e.inner → AreBefore e.position before → AreBehind e.position behind
          → rank list e ≡ count_by (is_below (pair_of e)) (map pair_of list) + count_by (eq_by_cmp by_pair (pair_of e)) (map pair_of before)
      rank_is before behind e split is early late =
          let whole = split.counts (λ o. precedes o e) in
          let front = ranks_before e before is early in
          let here = later e e (omega arith) is is in
          let back = ranks_behind e behind is late in
          let one = count-cons (λ o. precedes o e) e behind in
          let pairs = split.pairs (is_below (pair_of e)) in
          let two = count-cons (is_below (pair_of e)) (pair_of e) (map pair_of behind) in
          omega (arith, whole, front, here, back, one, pairs, two)

      -- one entry further
      one_more : (q : Pair) (before behind : List Entry) (e : Entry) (n : ℕ) → Splits before (e ∷ behind) → e.tag ≡ tag e.inner → AreBefore e.position before → AreBehind e.position behind
          → n + cond (enough q) (count_by (eq_by_cmp by_pair q) (map pair_of (before ++ e ∷ [])) - short q) 0
          ≡ cond (enough q) (count_by (eq_by_cmp by_pair q) (map pair_of (before ++ e ∷ [])) + count_by (eq_by_cmp by_pair q) (map pair_of behind) - short q) 0
          → cond (at_pair q e) 1 0 + n + cond (enough q) (count_by (eq_by_cmp by_pair q) (map pair_of before) - short q) 0
          ≡ cond (enough q) (count_by (eq_by_cmp by_pair q) (map pair_of before) + (cond (eq_by_cmp by_pair q (pair_of e)) 1 0 + count_by (eq_by_cmp by_pair q) (map pair_of behind)) - short q) 0
      one_more q before behind e n split is early late so_far =
          let now = subst (λ m. n + cond (enough q) (m - short q) 0 ≡ cond (enough q) (m + count_by (eq_by_cmp by_pair q) (map pair_of behind) - short q) 0) (count-push (eq_by_cmp by_pair q) before e) so_far in
          by_case (eq_by_cmp by_pair q (pair_of e)) refl now
        where
          by_case : (b : Bool) → eq_by_cmp by_pair q (pair_of e) ≡ b
              → n + cond (enough q) (count_by (eq_by_cmp by_pair q) (map pair_of before) + cond b 1 0 - short q) 0
              ≡ cond (enough q) (count_by (eq_by_cmp by_pair q) (map pair_of before) + cond b 1 0 + count_by (eq_by_cmp by_pair q) (map pair_of behind) - short q) 0
              → cond (b && is_kept dropped t list e) 1 0 + n + cond (enough q) (count_by (eq_by_cmp by_pair q) (map pair_of before) - short q) 0
              ≡ cond (enough q) (count_by (eq_by_cmp by_pair q) (map pair_of before) + (cond b 1 0 + count_by (eq_by_cmp by_pair q) (map pair_of behind)) - short q) 0
          by_case false is_not now =
              not_here (enough q) n (count_by (eq_by_cmp by_pair q) (map pair_of before)) (count_by (eq_by_cmp by_pair q) (map pair_of behind)) (short q) now
          by_case true is_this now =
              let this : q ≡ pair_of e = same_pair q (pair_of e) is_this in
              let ranked : rank list e ≡ count_by (is_below q) (map pair_of list) + count_by (eq_by_cmp by_pair q) (map pair_of before)
              = rank_is before behind e split is early late ∙ (λ i. count_by (is_below (sym this i)) (map pair_of list) + count_by (eq_by_cmp by_pair (sym this i)) (map pair_of before)) in
              let least : nat_le (dropped e.crowd) (rank list e) ≡ nat_le (dropped q.0) (count_by (is_below q) (map pair_of list) + count_by (eq_by_cmp by_pair q) (map pair_of before))
              = (λ i. nat_le (dropped (sym this i).0) (ranked i)) in
              ap (λ b. cond (nat_le (dropped e.crowd) (rank list e) && b) 1 0 + n + cond (enough q) (count_by (eq_by_cmp by_pair q) (map pair_of before) - short q) 0) (λ i. enough (sym this i))
              ∙ keep_yes (nat_le (dropped e.crowd) (rank list e)) (enough q) (dropped q.0) (count_by (is_below q) (map pair_of list)) (count_by (eq_by_cmp by_pair q) (map pair_of before)) (count_by (eq_by_cmp by_pair q) (map pair_of behind)) n least now

      kept_behind : (q : Pair) (low : ℕ) (before behind : List Entry) → Splits before behind → AreBefore low before → AreRising low behind
          → count_by (at_pair q) behind + cond (enough q) (count_by (eq_by_cmp by_pair q) (map pair_of before) - short q) 0
          ≡ cond (enough q) (count_by (eq_by_cmp by_pair q) (map pair_of before) + count_by (eq_by_cmp by_pair q) (map pair_of behind) - short q) 0
      kept_behind q low before [] split early up = nothing_more (enough q) (count_by (eq_by_cmp by_pair q) (map pair_of before)) (short q)
      kept_behind q low before (e ∷ behind) split early up =
          let rest = kept_behind q (suc e.position) (before ++ e ∷ []) behind (Splits-next before behind e split) (AreBefore-push low before e up.0 up.1.0 early) up.1.1 in
          let late = AreBehind-rising (suc e.position) e.position behind (omega arith) up.1.1 in
          ap (λ m. m + cond (enough q) (count_by (eq_by_cmp by_pair q) (map pair_of before) - short q) 0) (count-cons (at_pair q) e behind)
          ∙ one_more q before behind e (count_by (at_pair q) behind) split up.1.0 (AreBefore-higher low e.position before up.0 early) late rest
          ∙ ap (λ m. cond (enough q) (count_by (eq_by_cmp by_pair q) (map pair_of before) + m - short q) 0) (sym (count-cons (eq_by_cmp by_pair q) (pair_of e) (map pair_of behind)))

      -- how many entries of a pair are kept, by counts over the pairs alone
      pub kept_is : (q : Pair) (low : ℕ) → AreRising low list
          → count_by (at_pair q) list ≡ kept_number (dropped q.0) (count_by (is_below q) (map pair_of list)) (count_by (eq_by_cmp by_pair q) (map pair_of list)) (members list q.0)
      kept_is q low up =
          from_none (enough q) (count_by (at_pair q) list) (count_by (eq_by_cmp by_pair q) (map pair_of list)) (short q)
          (kept_behind q low [] list (record { counts = λ p. plus_none (count_by p list); pairs = λ p. plus_none (count_by p (map pair_of list)) }) tt up)

-- ---- the entries of a list

pub AreRising-entries : (form : Form) (key : List ℕ) (position : ℕ) (items : List Item) → AreRising (hmac key) position (entries_from form key position items)
AreRising-entries form key position [] = tt
AreRising-entries form key position (item ∷ items) = step item.kind (AreRising-entries form key (suc position) items)
  where
    step : (kind : Kind) → AreRising (hmac key) (suc position) (entries_from form key (suc position) items)
        → AreRising (hmac key) position (cons_option (if_real kind (entry_in form key position item.body)) (entries_from form key (suc position) items))
    step Real rest = (omega arith, (refl, rest))
    step Dummy rest = AreRising-lower (hmac key) (suc position) position (entries_from form key (suc position) items) (omega arith) rest
    step Malformed rest = AreRising-lower (hmac key) (suc position) position (entries_from form key (suc position) items) (omega arith) rest

abbrev pub pair_in : Form → Item → Option Pair
pair_in form item = if_real item.kind (crowd_in item.body, inner_in form item.body)

pub pairs-entries : (form : Form) (key : List ℕ) (position : ℕ) (items : List Item) → map pair_of (entries_from form key position items) ≡ filter_map (pair_in form) items
pairs-entries form key position [] = refl
pairs-entries form key position (item ∷ items) = step item.kind (pairs-entries form key (suc position) items)
  where
    step : (kind : Kind) → map pair_of (entries_from form key (suc position) items) ≡ filter_map (pair_in form) items
        → map pair_of (cons_option (if_real kind (entry_in form key position item.body)) (entries_from form key (suc position) items))
        ≡ cons_option (if_real kind (crowd_in item.body, inner_in form item.body)) (filter_map (pair_in form) items)
    step Real rest = ap (λ ps. (crowd_in item.body, inner_in form item.body) ∷ ps) rest
    step Dummy rest = rest
    step Malformed rest = rest

count-filter_map : {X Y : Type 0} (p : Y → Bool) (h : X → Option Y) (xs : List X) → count_by p (filter_map h xs) ≡ sum_by (λ x. count_by p (cons_option (h x) [])) xs
count-filter_map p h [] = refl
count-filter_map p h (x ∷ xs) = step (h x) ∙ ap (λ n. count_by p (cons_option (h x) []) + n) (count-filter_map p h xs) ∙ sym (sum_by-cons (λ y. count_by p (cons_option (h y) [])) x xs)
  where
    step : (o : Option _) → count_by p (cons_option o (filter_map h xs)) ≡ count_by p (cons_option o []) + count_by p (filter_map h xs)
    step None = plus_none (count_by p (filter_map h xs))
    step (Some y) = omega (arith, count-cons p y (filter_map h xs), count-cons p y [])

-- counts over the pairs don't see the order
counts-permuted : (form : Form) (key : List ℕ) (items others : List Item) → IsPermutation items others → (p : Pair → Bool)
    → count_by p (map pair_of (entries form key others)) ≡ count_by p (map pair_of (entries form key items))
counts-permuted form key items others moved p =
    ap (count_by p) (pairs-entries form key 0 others) ∙ count-filter_map p (pair_in form) others
    ∙ sum_by-IsPermutation (λ item. count_by p (cons_option (pair_in form item) [])) items others moved
    ∙ sym (ap (count_by p) (pairs-entries form key 0 items) ∙ count-filter_map p (pair_in form) items)

count-map : {X Y : Type 0} (p : Y → Bool) (f : X → Y) (xs : List X) → count_by p (map f xs) ≡ count_by (λ x. p (f x)) xs
count-map p f [] = refl
count-map p f (x ∷ xs) = omega (arith, count-map p f xs, count-cons p (f x) (map f xs), count-cons (λ y. p (f y)) x xs)

times-kept : (keep : Entry → Bool) (q : Pair) (xs : List Entry) → times by_pair q (map pair_of (filter keep xs)) ≡ count_by (λ e. eq_by_cmp by_pair q (pair_of e) && keep e) xs
times-kept keep q [] = refl
times-kept keep q (x ∷ xs) = step (keep x) ∙ ap (λ n. cond (eq_by_cmp by_pair q (pair_of x) && keep x) 1 0 + n) (times-kept keep q xs) ∙ sym (count-cons (λ e. eq_by_cmp by_pair q (pair_of e) && keep e) x xs)
  where
    and_true : (b : Bool) → b ≡ b && true
    and_true true = refl
    and_true false = refl

    and_false : (b : Bool) → ◌≡◌ {A = ℕ} (cond (b && false) 1 0) 0
    and_false true = refl
    and_false false = refl

    step : (b : Bool) → times by_pair q (map pair_of (cond b (x ∷ filter keep xs) (filter keep xs))) ≡ cond (eq_by_cmp by_pair q (pair_of x) && b) 1 0 + times by_pair q (map pair_of (filter keep xs))
    step true = times-cons by_pair q (pair_of x) (map pair_of (filter keep xs)) ∙ ap (λ b. cond b 1 0 + times by_pair q (map pair_of (filter keep xs))) (and_true (eq_by_cmp by_pair q (pair_of x)))
    step false = omega (arith, and_false (eq_by_cmp by_pair q (pair_of x)))

inners : (xs : List Entry) → map (λ (pair : Pair). pair.1) (map pair_of xs) ≡ map (λ (e : Entry). e.inner) xs
inners [] = refl
inners (x ∷ xs) = ap (λ ys. x.inner ∷ ys) (inners xs)

module _ (form : Form) (key drops : List ℕ) (t : ℕ) where
  abbrev kept_of : List Item → List Entry
  kept_of items = filter (is_kept (drops_in key drops) t (entries form key items)) (entries form key items)

  times-forward : (q : Pair) (items : List Item) → times by_pair q (map pair_of (kept_of items))
      ≡ kept_number (hmac key) (drops_in key drops) t (drops_in key drops q.0) (count_by (is_below (hmac key) q) (map pair_of (entries form key items))) (count_by (eq_by_cmp by_pair q) (map pair_of (entries form key items))) (members (entries form key items) q.0)
  times-forward q items = times-kept (is_kept (drops_in key drops) t (entries form key items)) q (entries form key items) ∙ kept_is (hmac key) (drops_in key drops) t (entries form key items) q 0 (AreRising-entries form key 0 items)

  members-permuted : (items others : List Item) → IsPermutation items others → (crowd : List ℕ) → members (entries form key others) crowd ≡ members (entries form key items) crowd
  members-permuted items others moved crowd =
      sym (count-map (λ (x : Pair). bytes_eq x.0 crowd) pair_of (entries form key others))
      ∙ counts-permuted form key items others moved (λ x. bytes_eq x.0 crowd)
      ∙ count-map (λ (x : Pair). bytes_eq x.0 crowd) pair_of (entries form key items)

  pub forward-permutation : (items others : List Item) → IsPermutation items others → IsPermutation (forward form key drops t items) (forward form key drops t others)
  forward-permutation items others moved =
      let pairs : IsPermutation (map pair_of (kept_of items)) (map pair_of (kept_of others)) = IsPermutation-from_counts pairs_total pairs_apart _ _ (λ q.
      times-forward q items
      ∙ sym (λ i. kept_number (hmac key) (drops_in key drops) t (drops_in key drops q.0) (counts-permuted form key items others moved (is_below (hmac key) q) i) (counts-permuted form key items others moved (eq_by_cmp by_pair q) i) (members-permuted items others moved q.0 i))
      ∙ sym (times-forward q others)) in
      subst (λ xs. IsPermutation xs (forward form key drops t others)) (inners (kept_of items))
      (subst (λ ys. IsPermutation (map (λ (pair : Pair). pair.1) (map pair_of (kept_of items))) ys) (inners (kept_of others))
      (IsPermutation-map (λ (pair : Pair). pair.1) _ _ pairs))
