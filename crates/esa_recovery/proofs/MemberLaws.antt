-- The share records of a database, as they are found row by row and as they stand once they are sorted.
use Rattle.std.proofs.Common.{◌≡◌, ℕ, ◌+◌, ◌<◌, Bool, true, false, not, cond, ◌||◌, ◌&&◌, ◌==◌, List, [], ◌∷◌, ◌++◌, map, length, take, get_or, nat_cmp, Less, Equal, Greater, refl, sym, ap, subst, ◌∙◌, append-nil, arith}
use Rattle.std.specs.declared.cmp.Ordering.{Ordering}
use Rattle.std.specs.Ordering.{is_eq, is_lt, ordering_reverse}
use Rattle.std.specs.Cmp.Lexicographic.{slice_cmp, nat_list_cmp_total}
use Rattle.std.specs.List.Sorted.{IsStableByKey, ties}
use Rattle.std.proofs.lemmas.Bool.{eqb-true, eqb-false, eq-eqb, true≢false}
use Rattle.std.proofs.lemmas.Map.Text.{is_eq-slice_cmp}
use Rattle.std.specs.Prelude.{All, bytes_eq}
use Rattle.std.specs.List.{filter, list_any}
use Rattle.std.proofs.lemmas.List.{map-append, take_more}
use Rattle.std.proofs.lemmas.List.Elements.{filter-append, All-append, All-cons, All-nil}
use Rattle.std.proofs.lemmas.List.Folds.{list_any-append}
use Rattle.esa_shares.specs.Share.{is_share}
use Rattle.esa_recovery.specs.declared.members.Member.{Member}
use Rattle.esa_recovery.specs.Meaning.{group_of, belongs, members}
use Rattle.esa_recovery.specs.Members.{value_at, IsMember, values_at, is_of, AreMembers}

-- the share records of the first so many rows
pub record HasFound (rows : List (List ℕ × ℕ)) (number : ℕ) (found : List Member) : Type 0 where
  pub named : All (IsMember rows) found
  pub whole : (group : List ℕ) → values_at rows (filter (is_of group) found) ≡ members group (take number rows)
  pub all : (row : ℕ) → row < number → is_share (value_at rows row) ≡ true → list_any (λ member. member.row == row) found ≡ true

pub found-none : (rows : List (List ℕ × ℕ)) → HasFound rows 0 []
found-none rows = record {
  named = All-nil (IsMember rows);
  whole = λ group. refl;
  all = λ row below is. absurd (omega arith);
}

members-more : (group : List ℕ) (rows : List (List ℕ × ℕ)) (i : ℕ) → i < length rows
    → members group (take (i + 1) rows) ≡ members group (take i rows) ++ cond (belongs group (value_at rows i)) (value_at rows i ∷ []) []
members-more group rows i inside =
    ap (members group) (take_more rows i ([], 0) inside)
    ∙ ap (filter (belongs group)) (map-append (λ row. row.0) (take i rows) (get_or rows i ([], 0) ∷ []))
    ∙ filter-append (belongs group) (map (λ row. row.0) (take i rows)) (value_at rows i ∷ [])

map_one : {X Y : Type 0} (f : X → Y) (b : Bool) (x : X) → map f (cond b (x ∷ []) []) ≡ cond b (f x ∷ []) []
map_one f true x = refl
map_one f false x = refl

or_first : (a b : Bool) → a ≡ true → (a || b) ≡ true
or_first true b h = refl
or_first false b h = cc

or_second : (a b : Bool) → b ≡ true → (a || b) ≡ true
or_second true b h = refl
or_second false b h = h

-- a row that is no share record
pub found-other : (rows : List (List ℕ × ℕ)) (i : ℕ) (found : List Member) → i < length rows → is_share (value_at rows i) ≡ false → HasFound rows i found → HasFound rows (i + 1) found
found-other rows i found inside other has = record {
  named = has.named;
  whole = λ group. has.whole group ∙ sym (
      members-more group rows i inside
      ∙ ap (λ b. members group (take i rows) ++ cond (b && bytes_eq (group_of (value_at rows i)) group) (value_at rows i ∷ []) []) other
      ∙ append-nil (members group (take i rows)));
  all = λ row below is.
      elim (row == i) as (λ b. (row == i) ≡ b → list_any (λ member. member.row == row) found ≡ true) [
        | true ↦ λ same.
            let here : is_share (value_at rows i) ≡ true = subst (λ n. is_share (value_at rows n) ≡ true) (eqb-true row i same) is in
            absurd (true≢false (sym here ∙ other))
        | false ↦ λ apart. has.all row (omega (arith, below, eqb-false row i apart)) is
      ] refl;
}

-- a share record
pub found-share : (rows : List (List ℕ × ℕ)) (i : ℕ) (found : List Member) (member : Member) → i < length rows → member.row ≡ i → IsMember rows member → HasFound rows i found → HasFound rows (i + 1) (found ++ member ∷ [])
found-share rows i found member inside at is has = record {
  named = All-append (IsMember rows) found (member ∷ []) has.named (All-cons (IsMember rows) member [] is (All-nil (IsMember rows)));
  whole = λ group.
      ap (values_at rows) (filter-append (is_of group) found (member ∷ []))
      ∙ map-append (λ (member : Member). value_at rows member.row) (filter (is_of group) found) (filter (is_of group) (member ∷ []))
      ∙ (λ j. has.whole group j ++ map_one (λ (member : Member). value_at rows member.row) (is_of group member) member j)
      ∙ (λ j. members group (take i rows) ++ cond (bytes_eq (is.group j) group) (value_at rows member.row ∷ []) [])
      ∙ (λ j. members group (take i rows) ++ cond (sym is.share j && bytes_eq (group_of (value_at rows member.row)) group) (value_at rows member.row ∷ []) [])
      ∙ ap (λ n. members group (take i rows) ++ cond (belongs group (value_at rows n)) (value_at rows n ∷ []) []) at
      ∙ sym (members-more group rows i inside);
  all = λ row below share.
      list_any-append (λ (member : Member). member.row == row) found (member ∷ []) ∙
      elim (row == i) as (λ b. (row == i) ≡ b → (list_any (λ (member : Member). member.row == row) found || list_any (λ (member : Member). member.row == row) (member ∷ [])) ≡ true) [
        | true ↦ λ same. or_second (list_any (λ (member : Member). member.row == row) found) _
            (or_first (member.row == row) false (eq-eqb member.row row (at ∙ sym (eqb-true row i same))))
        | false ↦ λ apart. or_first _ (list_any (λ (member : Member). member.row == row) (member ∷ [])) (has.all row (omega (arith, below, eqb-false row i apart)) share)
      ] refl;
}

tied : (r : Ordering) → (not (is_lt (ordering_reverse r)) && not (is_lt r)) ≡ is_eq r
tied Less = refl
tied Equal = refl
tied Greater = refl

-- records tie where they are of one group
ties_is : (x y : Member) → ties (λ (x y : Member). is_lt (slice_cmp nat_cmp x.group y.group)) x y ≡ is_of x.group y
ties_is x y =
    ap (λ r. not (is_lt r) && not (is_lt (slice_cmp nat_cmp y.group x.group))) (nat_list_cmp_total.antisymm x.group y.group)
    ∙ tied (slice_cmp nat_cmp y.group x.group) ∙ is_eq-slice_cmp y.group x.group

-- a stable sort by groups keeps the records of each
pub whole-sorted : (rows : List (List ℕ × ℕ)) (found sorted : List Member) → IsStableByKey (λ (member : Member). member.group) (slice_cmp nat_cmp) found sorted
    → AreMembers rows found → AreMembers rows sorted
whole-sorted rows found sorted stable whole = λ group.
    let one : Member = record { group = group; row = 0 } in
    let alike : filter (is_of group) sorted ≡ filter (is_of group) found =
    (λ j. filter (λ y. sym (ties_is one y) j) sorted) ∙ stable one ∙ (λ j. filter (λ y. ties_is one y j) found) in
    ap (values_at rows) alike ∙ whole group
