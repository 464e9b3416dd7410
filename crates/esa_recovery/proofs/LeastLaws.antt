-- The share records of a group, as they stand in a database: of each point the first has the least share, and the points
-- rise.
use Rattle.std.proofs.Common.{◌≡◌, ℕ, zero, suc, ◌<◌, ◌≤◌, Bool, true, false, cond, ◌||◌, nat_eq, nat_cmp, List, [], ◌∷◌, ◌++◌, map, length, take, drop, get_or, Option, Some, None, Less, Equal, Greater, refl, sym, ap, subst, ◌∙◌, arith, drop-drop}
use Rattle.std.specs.Prelude.{All, bytes_eq, if◌then◌else◌}
use Rattle.std.specs.declared.cmp.Ordering.{Ordering}
use Rattle.std.specs.Ordering.{is_eq, is_lt, ordering_reverse, ordering_then}
use Rattle.std.specs.Cmp.Lexicographic.{bytes_decides, nat_list_cmp_total}
use Rattle.std.specs.FinMap as finite
use Rattle.std.specs.FinMap.Entries.{put, by_order, below_all}
use Rattle.std.specs.List.{filter, list_any}
use Rattle.std.proofs.Math.Bool.{or-true}
use Rattle.std.proofs.lemmas.Bool.{and_parts, eq-eqb, ne_eqb, true≢false}
use Rattle.std.proofs.lemmas.Cmp.{nat_cmp_total, ranked, tied_itself}
use Rattle.std.proofs.lemmas.List.{drop_more, take-map}
use Rattle.std.proofs.lemmas.List.Elements.{All-cons, All-filter, All-head, All-nil, All-push, All-tail, All-weaker, filter_passes}
use Rattle.std.proofs.lemmas.List.Folds.{list_any-append}
use Rattle.esa_shares.specs.Share.{is_share}
use Rattle.esa_analyser.specs.Rows.{AreRising}
use Rattle.esa_recovery.specs.Meaning.{point_in, share_in, group_of, needed, belongs, members, lesser, least_shares, opening, opened}
use Rattle.esa_recovery.specs.Group.{is_seen, firsts, point_and_share, given_back}
use Rattle.esa_recovery.proofs.EntryLaws.{below-put, entries-none, find-front, less-than, put-front}
use Rattle.esa_recovery.proofs.GroupLaws.{share_tests}
use Rattle.esa_recovery.proofs.SortedLaws.{by_bytes}

-- ---- values that rise

-- each value is less than all that stand behind it
abbrev Rise : (List ℕ → List ℕ → Ordering) → List (List ℕ) → Type 0
Rise order [] = Unit {0}
Rise order (value ∷ values) = All (λ other. is_lt (order value other) ≡ true) values × Rise order values

less-trans : (x y z : List ℕ) → is_lt (by_bytes x y) ≡ true → is_lt (by_bytes y z) ≡ true → is_lt (by_bytes x z) ≡ true
less-trans x y z one two = ap is_lt (nat_list_cmp_total.trans x y z (less-than (by_bytes x y) one) (less-than (by_bytes y z) two))

above_all : (x : List ℕ) (rows : List (List ℕ × ℕ)) → AreRising (Some x) rows → All (λ value. is_lt (by_bytes x value) ≡ true) (map (λ row. row.0) rows)
above_all x [] rising = All-nil (λ value. is_lt (by_bytes x value) ≡ true)
above_all x (row ∷ rows) rising =
    All-cons (λ value. is_lt (by_bytes x value) ≡ true) row.0 (map (λ row. row.0) rows) rising.0
    (All-weaker (λ value. is_lt (by_bytes row.0 value) ≡ true) (λ value. is_lt (by_bytes x value) ≡ true) (λ value less. less-trans x row.0 value rising.0 less) (map (λ row. row.0) rows) (above_all row.0 rows rising.1))

rise-rows : (before : Option (List ℕ)) (rows : List (List ℕ × ℕ)) → AreRising before rows → Rise by_bytes (map (λ row. row.0) rows)
rise-rows before [] rising = tt
rise-rows before (row ∷ rows) rising = (above_all row.0 rows rising.1, rise-rows (Some row.0) rows rising.1)

rise-filter : (test : List ℕ → Bool) (values : List (List ℕ)) → Rise by_bytes values → Rise by_bytes (filter test values)
rise-filter test [] rise = tt
rise-filter test (value ∷ values) rise =
    elim (test value) as (λ b. Rise by_bytes (cond b (value ∷ filter test values) (filter test values))) [
      | true ↦ (All-filter test (λ other. is_lt (by_bytes value other) ≡ true) values rise.0, rise-filter test values rise.1)
      | false ↦ rise-filter test values rise.1
    ]

-- ---- records of one group

-- by their points, and of one point by their shares
abbrev by_point : List ℕ → List ℕ → Ordering
by_point value other = ordering_then (nat_cmp (point_in value) (point_in other)) (by_bytes (share_in value) (share_in other))

-- lists with one front are as what stands behind it
by_bytes-drop : (n : ℕ) (xs ys : List ℕ) → take n xs ≡ take n ys → by_bytes xs ys ≡ by_bytes (drop n xs) (drop n ys)
by_bytes-drop zero xs ys same = refl
by_bytes-drop (suc n) [] [] same = refl
by_bytes-drop (suc n) [] (y ∷ ys) same = cc
by_bytes-drop (suc n) (x ∷ xs) [] same = cc
by_bytes-drop (suc n) (x ∷ xs) (y ∷ ys) same =
    let head : x ≡ y = cc in
    let rest : take n xs ≡ take n ys = cc in
    ap (λ r. ordering_then r (by_bytes xs ys)) (ap (nat_cmp x) (sym head) ∙ tied_itself nat_cmp_total x) ∙ by_bytes-drop n xs ys rest

-- the first three bytes, and the others
three_first : (value : List ℕ) → 19 < length value → value ≡ get_or value 0 0 ∷ get_or value 1 0 ∷ get_or value 2 0 ∷ drop 3 value
three_first value long =
    drop_more value 0 0 (omega (arith, long)) ∙ ap (λ rest. get_or value 0 0 ∷ rest)
    (drop_more value 1 0 (omega (arith, long)) ∙ ap (λ rest. get_or value 1 0 ∷ rest) (drop_more value 2 0 (omega (arith, long))))

by_point-is : (group value other : List ℕ) → belongs group value ≡ true → belongs group other ≡ true → by_bytes value other ≡ by_point value other
by_point-is group value other one two =
    let parts = and_parts (is_share value) (bytes_eq (group_of value) group) one in
    let others = and_parts (is_share other) (bytes_eq (group_of other) group) two in
    let same : group_of value ≡ group_of other = (bytes_decides (group_of value) group).0 parts.1 ∙ sym ((bytes_decides (group_of other) group).0 others.1) in
    let byte : get_or value 0 0 ≡ get_or other 0 0 = (share_tests value parts.0).first ∙ sym (share_tests other others.0).first in
    let number : get_or value 1 0 ≡ get_or other 1 0 = cc in
    let mark : take 16 (drop 3 value) ≡ take 16 (drop 3 other) = cc in
    (λ i. by_bytes (three_first value (share_tests value parts.0).long i) (three_first other (share_tests other others.0).long i))
    ∙ (λ i. ordering_then (tied byte i) (ordering_then (tied number i) (ordering_then (nat_cmp (point_in value) (point_in other)) (behind mark i))))
  where
    tied : {x y : ℕ} → x ≡ y → nat_cmp x y ≡ Equal
    tied {x} {y} same = ap (nat_cmp x) (sym same) ∙ tied_itself nat_cmp_total x

    behind : take 16 (drop 3 value) ≡ take 16 (drop 3 other) → by_bytes (drop 3 value) (drop 3 other) ≡ by_bytes (share_in value) (share_in other)
    behind mark = by_bytes-drop 16 (drop 3 value) (drop 3 other) mark ∙ (λ i. by_bytes (drop-drop 16 3 value i) (drop-drop 16 3 other i))

rise-group : (group : List ℕ) (values : List (List ℕ)) → All (λ value. belongs group value ≡ true) values → Rise by_bytes values → Rise by_point values
rise-group group [] own rise = tt
rise-group group (value ∷ values) own rise =
    let here = All-head (λ value. belongs group value ≡ true) value values own in
    let rest = All-tail (λ value. belongs group value ≡ true) value values own in (
      λ k d below. ap is_lt (sym (by_point-is group value (get_or values k d) here (rest k d below))) ∙ rise.0 k d below,
      rise-group group values rest rise.1,
    )

-- the points rise with the records
point-le : (value other : List ℕ) → is_lt (by_point value other) ≡ true → point_in value ≤ point_in other
point-le value other less =
    elim (nat_cmp (point_in value) (point_in other)) as (λ r. nat_cmp (point_in value) (point_in other) ≡ r → is_lt (ordering_then r (by_bytes (share_in value) (share_in other))) ≡ true → point_in value ≤ point_in other) [
      | Less ↦ λ e _. let below : point_in value < point_in other = ranked (point_in value) (point_in other) Less (sym e) in omega arith
      | Equal ↦ λ e _. let same : point_in value ≡ point_in other = ranked (point_in value) (point_in other) Equal (sym e) in omega arith
      | Greater ↦ λ e no. absurd (true≢false (sym no))
    ] refl less

-- ---- the first record of each point

unseen : (points : List ℕ) (value : List ℕ) → All (λ point. point < point_in value) points → is_seen points value ≡ false
unseen [] value below = refl
unseen (point ∷ points) value below =
    let here : point < point_in value = All-head (λ point. point < point_in value) point points below in
    λ i. ne_eqb point (point_in value) (λ same. omega (arith, here, same)) i || unseen points value (All-tail (λ point. point < point_in value) point points below) i

seen-last : (points : List ℕ) (point : ℕ) (value : List ℕ) → point ≡ point_in value → is_seen (points ++ point ∷ []) value ≡ true
seen-last points point value same =
    list_any-append (λ point. nat_eq point (point_in value)) points (point ∷ [])
    ∙ ap (λ b. list_any (λ point. nat_eq point (point_in value)) points || (b || false)) (eq-eqb point (point_in value) same)
    ∙ or-true (list_any (λ point. nat_eq point (point_in value)) points)

firsts-new : (points : List ℕ) (value : List ℕ) (values : List (List ℕ)) → All (λ point. point < point_in value) points
    → firsts points (value ∷ values) ≡ value ∷ firsts (points ++ point_in value ∷ []) values
firsts-new points value values below = ap (λ b. cond b (firsts points values) (value ∷ firsts (points ++ point_in value ∷ []) values)) (unseen points value below)

-- ---- the least share of each point

abbrev entries : List (List ℕ) → List (ℕ × List ℕ)
entries values = finite.entries (least_shares values)

low-least : (low : ℕ) (values : List (List ℕ)) → All (λ value. low < point_in value) values → below_all nat_cmp low (entries values) ≡ true
low-least low [] above = ap (below_all nat_cmp low) (entries-none nat_cmp)
low-least low (value ∷ values) above =
    let least = lesser (finite.get (least_shares values) (point_in value)) (share_in value) in
    ap (below_all nat_cmp low) (finite.entries-insert nat_cmp_total (least_shares values) (point_in value) least)
    ∙ below-put nat_cmp low (point_in value) least (entries values) (is-less low (point_in value) (All-head (λ value. low < point_in value) value values above))
    (low-least low values (All-tail (λ value. low < point_in value) value values above))
  where
    is-less : (x y : ℕ) → x < y → is_lt (nat_cmp x y) ≡ true
    is-less x y less = grind (arith, less)

-- a record before others of greater points
least-front : (value : List ℕ) (values : List (List ℕ)) → All (λ other. point_in value < point_in other) values → entries (value ∷ values) ≡ point_and_share value ∷ entries values
least-front value values above =
    let below = low-least (point_in value) values above in
    let none : finite.get (least_shares values) (point_in value) ≡ None = finite.get-entries (least_shares values) (point_in value) ∙ find-front nat_cmp (point_in value) (entries values) below in
    finite.entries-insert nat_cmp_total (least_shares values) (point_in value) (lesser (finite.get (least_shares values) (point_in value)) (share_in value))
    ∙ put-front nat_cmp (point_in value) (lesser (finite.get (least_shares values) (point_in value)) (share_in value)) (entries values) below
    ∙ ap (λ there. (point_in value, lesser there (share_in value)) ∷ entries values) none

-- a record before one of its point, whose share is greater
least-again : (value other : List ℕ) (values : List (List ℕ)) (rest : List (ℕ × List ℕ)) → nat_cmp (point_in value) (point_in other) ≡ Equal → is_lt (by_bytes (share_in value) (share_in other)) ≡ true
    → entries (other ∷ values) ≡ point_and_share other ∷ rest → entries (value ∷ other ∷ values) ≡ point_and_share value ∷ rest
least-again value other values rest tied less is =
    let point = point_in value in
    let share = share_in value in
    let others = least_shares (other ∷ values) in
    let same : point ≡ point_in other = ranked point (point_in other) Equal (sym tied) in
    let there : finite.get others point ≡ Some (share_in other) =
    finite.get-entries others point ∙ ap (finite.find nat_cmp point) is ∙ ap (λ r. cond (is_eq r) (Some (share_in other)) (finite.find nat_cmp point rest)) tied in
    let back : by_bytes (share_in other) share ≡ Greater =
    nat_list_cmp_total.antisymm (share_in other) share ∙ ap ordering_reverse (less-than (by_bytes share (share_in other)) less) in
    let least : lesser (finite.get others point) share ≡ share = ap (λ o. lesser o share) there ∙ ap (λ r. if is_lt r then share_in other else share) back in
    finite.entries-insert nat_cmp_total others point (lesser (finite.get others point) share)
    ∙ (λ i. put nat_cmp point (least i) (is i))
    ∙ ap (λ r. by_order r ((point, share) ∷ point_and_share other ∷ rest) ((point_in other, share) ∷ rest) (point_and_share other ∷ put nat_cmp point share rest)) tied
    ∙ ap (λ p. (p, share) ∷ rest) (sym same)

firsts-least : (values : List (List ℕ)) (value : List ℕ) (points : List ℕ) → All (λ point. point < point_in value) points → Rise by_point (value ∷ values)
    → map point_and_share (firsts points (value ∷ values)) ≡ entries (value ∷ values)
firsts-least [] value points below rise =
    ap (map point_and_share) (firsts-new points value [] below)
    ∙ sym (least-front value [] (All-nil (λ other. point_in value < point_in other)) ∙ ap (λ rest. point_and_share value ∷ rest) (entries-none nat_cmp))
firsts-least (other ∷ values) value points below rise =
    let point = point_in value in
    let new = ap (map point_and_share) (firsts-new points value (other ∷ values) below) in
    elim (nat_cmp point (point_in other)) as (λ r. nat_cmp point (point_in other) ≡ r → is_lt (ordering_then r (by_bytes (share_in value) (share_in other))) ≡ true
    → map point_and_share (firsts points (value ∷ other ∷ values)) ≡ entries (value ∷ other ∷ values)) [
      | Less ↦ λ e _.
          let up : point < point_in other = ranked point (point_in other) Less (sym e) in
          new
          ∙ ap (λ rest. point_and_share value ∷ rest)
          (firsts-least values other (points ++ point ∷ [])
          (All-push (λ p. p < point_in other) points point (All-weaker (λ p. p < point) (λ p. p < point_in other) (λ p less. omega (arith, less, up)) points below) up) rise.1)
          ∙ sym (least-front value (other ∷ values) (All-cons (λ o. point < point_in o) other values up
          (All-weaker (λ o. is_lt (by_point other o) ≡ true) (λ o. point < point_in o) (λ o less. omega (arith, up, point-le other o less)) values rise.1.0)))
      | Equal ↦ λ e less.
          let same : point ≡ point_in other = ranked point (point_in other) Equal (sym e) in
          let again : All (λ p. p < point_in other) points = subst (λ n. All (λ p. p < n) points) same below in
          let rest = firsts (points ++ point_in other ∷ []) values in
          let after : entries (other ∷ values) ≡ point_and_share other ∷ map point_and_share rest =
          sym (firsts-least values other points again rise.1) ∙ ap (map point_and_share) (firsts-new points other values again) in
          new
          ∙ ap (λ b. point_and_share value ∷ map point_and_share (cond b (firsts (points ++ point ∷ []) values) (other ∷ firsts ((points ++ point ∷ []) ++ point_in other ∷ []) values))) (seen-last points point other same)
          ∙ ap (λ p. point_and_share value ∷ map point_and_share (firsts (points ++ p ∷ []) values)) same
          ∙ sym (least-again value other values (map point_and_share rest) e less after)
      | Greater ↦ λ _ no. absurd (true≢false (sym no))
    ] refl (All-head (λ o. is_lt (by_point value o) ≡ true) other values rise.0)

pairs-least : (values : List (List ℕ)) → Rise by_point values → map point_and_share (firsts [] values) ≡ entries values
pairs-least [] rise = sym (entries-none nat_cmp)
pairs-least (value ∷ values) rise = firsts-least values value [] (All-nil (λ point. point < point_in value)) rise

-- where the rows rise, the first records of a group open it to what its least shares do
pub given_back-least : (group : List ℕ) (rows : List (List ℕ × ℕ)) → AreRising None rows → given_back group (members group rows) ≡ opened group rows
given_back-least group rows rising =
    let values = map (λ (row : List ℕ × ℕ). row.0) rows in
    let rise = rise-group group (members group rows) (filter_passes (belongs group) values) (rise-filter (belongs group) values (rise-rows None rows rising)) in
    ap (opening group) (sym (take-map point_and_share (needed group) (firsts [] (members group rows))) ∙ ap (take (needed group)) (pairs-least (members group rows) rise))
