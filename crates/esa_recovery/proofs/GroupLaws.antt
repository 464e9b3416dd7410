-- One more share record of a group.
use Rattle.std.proofs.Common.{◌≡◌, ◌≢◌, ℕ, suc, ◌+◌, ◌-◌, ◌*◌, ◌<◌, ◌≤◌, Bool, true, false, cond, ◌||◌, ◌&&◌, ◌==◌, nat_eq, nat_lt, nat_le, List, [], ◌∷◌, ◌++◌, map, flat_map, length, drop, slice_index, Option, None, All, refl, sym, ap, subst, ◌∙◌, arith, append-nil, length-append, suc-mul}
use Rattle.std.specs.Prelude.{if◌then◌else◌}
use Rattle.std.specs.List.{IsDistinct, list_any}
use Rattle.std.proofs.lemmas.Bool.{lt-ltb, le-ltb, eq-eqb, eqb-true, ne_eqb, ltb-true, leb-true}
use Rattle.std.proofs.lemmas.Cmp.{nat_eq_equiv}
use Rattle.std.proofs.lemmas.Grind.{flat_map-append}
use Rattle.std.proofs.lemmas.List.{map-append, length-map}
use Rattle.std.proofs.lemmas.List.Elements.{All-append, All-cons}
use Rattle.std.proofs.lemmas.Map.Keys.{IsDistinct-push}
use Rattle.esa_shares.specs.Polynomial.{ArePoints, recovered}
use Rattle.esa_shares.specs.Share.{is_share}
use Rattle.esa_recovery.specs.Meaning.{point_in, share_in, needed, marked}
use Rattle.esa_recovery.specs.Group.{HasTaken, is_seen, opening_of, point_and_share, taken_with}

or_left : (a b : Bool) → a ≡ true → (a || b) ≡ true
or_left true b h = refl
or_left false b h = cc

or_right : (a b : Bool) → b ≡ true → (a || b) ≡ true
or_right true b h = refl
or_right false b h = h

or_neither : (a b : Bool) → a ≡ false → b ≡ false → (a || b) ≡ false
or_neither true b h g = cc
or_neither false b h g = g

switched : (points : List ℕ) (y : ℕ) → list_any (λ x. nat_eq x y) points ≡ list_any (nat_eq y) points
switched [] y = refl
switched (x ∷ xs) y = λ i. nat_eq_equiv.symm x y i || switched xs y i

points_of : (values : List (List ℕ)) → map (λ share. share.0) (map point_and_share values) ≡ map point_in values
points_of [] = refl
points_of (value ∷ values) = ap (λ rest. point_in value ∷ rest) (points_of values)

shares_of : (values : List (List ℕ)) → flat_map (λ share. share.1) (map point_and_share values) ≡ flat_map share_in values
shares_of [] = refl
shares_of (value ∷ values) = ap (λ rest. share_in value ++ rest) (shares_of values)

-- what the points and shares of so many records give back
abbrev opening_at : List ℕ → (count : ℕ) → (points shares : List ℕ) → Option (List ℕ)
opening_at group count points shares =
    if nat_lt count (needed group) then None else marked (drop 2 group) (recovered (slice_index group 1 - 19) points shares)

opening-records : (group : List ℕ) (values : List (List ℕ)) → opening_of group values ≡ opening_at group (length values) (map point_in values) (flat_map share_in values)
opening-records group values = λ i. opening_at group (length-map values point_and_share i) (points_of values i) (shares_of values i)

pub opening-few : (group : List ℕ) (values : List (List ℕ)) → length values < needed group → opening_of group values ≡ None
opening-few group values few =
    opening-records group values ∙ ap (λ b. cond b None (marked (drop 2 group) (recovered (slice_index group 1 - 19) (map point_in values) (flat_map share_in values)))) (lt-ltb (length values) (needed group) few)

pub opening-enough : (group : List ℕ) (values : List (List ℕ)) → needed group ≤ length values
    → opening_of group values ≡ marked (drop 2 group) (recovered (slice_index group 1 - 19) (map point_in values) (flat_map share_in values))
opening-enough group values enough =
    opening-records group values ∙ ap (λ b. cond b None (marked (drop 2 group) (recovered (slice_index group 1 - 19) (map point_in values) (flat_map share_in values)))) (le-ltb (length values) (needed group) (omega arith))

-- points with a new one
pub ArePoints-push : (points : List ℕ) (point : ℕ) → IsDistinct nat_eq points → All (λ x. 0 < x) points → list_any (λ x. nat_eq x point) points ≡ false → 0 < point → ArePoints (points ++ point ∷ [])
ArePoints-push points point distinct nonzero new some = record {
  distinct = IsDistinct-push nat_eq_equiv points point distinct (sym (switched points point) ∙ new);
  some = All-append (λ x. 0 < x) points (point ∷ []) nonzero (All-cons (λ x. 0 < x) point [] some (λ k d below. absurd (omega arith)));
}

module _ (group : List ℕ) (taken : List (List ℕ)) (value points shares : List ℕ) (has : HasTaken group taken points shares) where
  pub many : length points ≡ length taken
  many = ap length has.points_are ∙ length-map taken point_in

  none_taken : (length taken == needed group || is_seen (map point_in taken) value) ≡ true → HasTaken group (taken_with group taken value) points shares
  none_taken h = subst (λ t. HasTaken group t points shares) (sym (ap (λ b. cond b taken (taken ++ value ∷ [])) h)) has

  pub full-none : length points ≡ needed group → HasTaken group (taken_with group taken value) points shares
  full-none full = none_taken (or_left _ _ (eq-eqb (length taken) (needed group) (sym many ∙ full)))

  pub seen-none : is_seen points value ≡ true → HasTaken group (taken_with group taken value) points shares
  seen-none seen = none_taken (or_right (length taken == needed group) _ (ap (λ ps. is_seen ps value) (sym has.points_are) ∙ seen))

  -- a record is taken
  module _ (wanted : length points ≢ needed group) (new : is_seen points value ≡ false) (some : 0 < point_in value) (size : length (share_in value) ≡ slice_index group 1 - 19) where
    one_taken : taken_with group taken value ≡ taken ++ value ∷ []
    one_taken = ap (λ b. cond b taken (taken ++ value ∷ []))
        (or_neither _ _ (ne_eqb (length taken) (needed group) (λ full. wanted (many ∙ full))) (ap (λ ps. is_seen ps value) (sym has.points_are) ∙ new))

    points_push : ArePoints (points ++ point_in value ∷ [])
    points_push = ArePoints-push points (point_in value) has.distinct has.nonzero new some

    more : length (points ++ point_in value ∷ []) ≡ suc (length points)
    more = length-append points (point_in value ∷ []) ∙ omega arith

    one_more : length (taken ++ value ∷ []) ≡ suc (length taken)
    one_more = length-append taken (value ∷ []) ∙ omega arith

    few_more : length (taken ++ value ∷ []) ≤ needed group
    few_more = less (λ full. wanted (many ∙ full))
      where
        less : length taken ≢ needed group → length (taken ++ value ∷ []) ≤ needed group
        less apart = omega (arith, apart, one_more, has.few)

    pub one-kept : HasTaken group (taken_with group taken value) (points ++ point_in value ∷ []) (shares ++ share_in value)
    one-kept = subst (λ t. HasTaken group t (points ++ point_in value ∷ []) (shares ++ share_in value)) (sym one_taken) (record {
      points_are = ap (λ ps. ps ++ point_in value ∷ []) has.points_are ∙ sym (map-append point_in taken (value ∷ []));
      shares_are = ap (λ ss. ss ++ share_in value) has.shares_are ∙ ap (λ ss. flat_map share_in taken ++ ss) (sym (append-nil (share_in value))) ∙ sym (flat_map-append share_in taken (value ∷ []));
      few = few_more;
      distinct = points_push.distinct;
      nonzero = points_push.some;
      whole = length-append shares (share_in value)
          ∙ (λ i. has.whole i + size i) ∙ sym (suc-mul (length points) (slice_index group 1 - 19)) ∙ ap (λ n. n * (slice_index group 1 - 19)) (sym more);
    })

-- the tests of a share record
pub record IsShare (value : List ℕ) : Type 0 where
  pub long : 19 < length value
  pub first : slice_index value 0 ≡ 229
  pub needs : 2 ≤ slice_index value 1
  pub point : 0 < point_in value

pub share_tests : (value : List ℕ) → is_share value ≡ true → IsShare value
share_tests value is = all_hold (nat_lt 19 (length value)) (slice_index value 0 == 229) (nat_le 2 (slice_index value 1)) (nat_le (slice_index value 1) 16) (nat_lt 0 (slice_index value 2)) refl refl refl refl is
  where
    all_hold : (a b c d e : Bool) → nat_lt 19 (length value) ≡ a → (slice_index value 0 == 229) ≡ b → nat_le 2 (slice_index value 1) ≡ c → nat_lt 0 (slice_index value 2) ≡ e → (a && b && c && d && e) ≡ true → IsShare value
    all_hold true true true true true long first needs point h = record {
      long = ltb-true 19 (length value) long;
      first = eqb-true (slice_index value 0) 229 first;
      needs = leb-true 2 (slice_index value 1) needs;
      point = ltb-true 0 (slice_index value 2) point;
    }
    all_hold true true true true false long first needs point h = cc
    all_hold true true true false e long first needs point h = cc
    all_hold true true false d e long first needs point h = cc
    all_hold true false c d e long first needs point h = cc
    all_hold false b c d e long first needs point h = cc

-- where nothing was taken
pub HasTaken-empty : (group : List ℕ) → HasTaken group [] [] []
unfolding IsDistinct
HasTaken-empty group = record {
  points_are = refl;
  shares_are = refl;
  few = omega arith;
  distinct = tt;
  nonzero = λ k d below. absurd (omega arith);
  whole = omega arith;
}
