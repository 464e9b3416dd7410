-- Runs of records of one group, in a list that is sorted by groups.
use Rattle.std.proofs.Common.{◌≡◌, ◌≢◌, ℕ, ◌+◌, ◌-◌, ◌<◌, ◌≤◌, Bool, true, false, cond, ◌||◌, ◌==◌, List, [], ◌∷◌, ◌++◌, length, take, drop, get_or, Option, None, Some, refl, sym, ap, subst, ◌∙◌, append-nil, arith, drop-drop, get_or-drop, get_or-take, length-append, length-drop, length-take-le, take-add, take_all, take-append-drop}
use Rattle.std.specs.Prelude.{All, bytes_eq, if◌then◌else◌, slice_index}
use Rattle.std.specs.List.{filter, list_any, slice_get}
use Rattle.std.specs.List.Sorted.{IsSortedByKey}
use Rattle.std.proofs.Math.Bool.{or-false}
use Rattle.std.proofs.lemmas.Bool.{eqb-true, true≢false}
use Rattle.std.proofs.lemmas.Option.{get_or_from_slice_get, slice_get-get_or, slice_get_within}
use Rattle.std.proofs.lemmas.List.{get_or_append_left, get_or_default, get_or_push}
use Rattle.std.proofs.lemmas.List.Elements.{All-drop, All-head, All-tail, All-take, filter-append}
use Rattle.std.proofs.lemmas.List.Folds.{Any-from_list_any, list_any-append}
use Rattle.esa_recovery.specs.declared.members.Member.{Member}
use Rattle.esa_analyser.specs.Rows.{AreRising}
use Rattle.esa_recovery.specs.Group.{given_back}
use Rattle.esa_recovery.specs.Meaning.{group_of, members, opened}
use Rattle.esa_recovery.specs.Members.{value_at, IsMember, values_at, is_of, AreMembers}
use Rattle.esa_recovery.specs.Groups.{OpensAt}
use Rattle.esa_recovery.proofs.LeastLaws.{given_back-least}
use Rattle.esa_recovery.proofs.SortedLaws.{by_bytes, apart_bytes, less-apart, past-run, same_bytes}

-- the end of a run, whatever stands for an element past the end of the list
pub run-end : (found : List Member) (n : ℕ) (e d : Member) → n < length found → 0 < length found → bytes_eq (get_or found n e).group (get_or found 0 e).group ≡ false
    → (get_or found n d).group ≢ (get_or found 0 d).group
run-end found n e d inside some apart = λ is.
    let here : (get_or found n e).group ≡ (get_or found 0 e).group =
    ap (λ (member : Member). member.group) (get_or_default found n e d inside) ∙ is ∙ ap (λ (member : Member). member.group) (get_or_default found 0 d e some) in
    true≢false (sym (same_bytes (get_or found n e).group (get_or found 0 e).group here) ∙ apart)

filter_all : {X : Type 0} (p : X → Bool) (xs : List X) → All (λ x. p x ≡ true) xs → filter p xs ≡ xs
filter_all p [] all = refl
filter_all p (x ∷ xs) all =
    ap (λ b. cond b (x ∷ filter p xs) (filter p xs)) (All-head (λ x. p x ≡ true) x xs all) ∙ ap (λ rest. x ∷ rest) (filter_all p xs (All-tail (λ x. p x ≡ true) x xs all))

filter_none : {X : Type 0} (p : X → Bool) (xs : List X) → All (λ x. p x ≡ false) xs → filter p xs ≡ []
filter_none p [] all = refl
filter_none p (x ∷ xs) all =
    ap (λ b. cond b (x ∷ filter p xs) (filter p xs)) (All-head (λ x. p x ≡ false) x xs all) ∙ filter_none p xs (All-tail (λ x. p x ≡ false) x xs all)

slice_get_push : {X : Type 0} (xs : List X) (x : X) → slice_get (xs ++ x ∷ []) (length xs) ≡ Some x
slice_get_push xs x =
    slice_get-get_or (xs ++ x ∷ []) (length xs) x (omega (arith, length-append xs (x ∷ []))) ∙ ap Some (get_or_push xs x x (length xs) refl)

slice_get_kept : {X : Type 0} (xs : List X) (x : X) (k : ℕ) (y : X) → slice_get xs k ≡ Some y → slice_get (xs ++ x ∷ []) k ≡ Some y
slice_get_kept xs x k y is =
    let inside : k < length xs = slice_get_within xs k y is in
    slice_get-get_or (xs ++ x ∷ []) k y (omega (arith, inside, length-append xs (x ∷ []))) ∙ ap Some (get_or_append_left xs (x ∷ []) y k inside ∙ get_or_from_slice_get xs k y y is)

-- What is known before a run: for each record from there on, those of its group stand from there on; and the rows of the
-- records before it have their numbers.
pub record IsOpened (rows : List (List ℕ × ℕ)) (found : List Member) (start : ℕ) (values : List (Option (List ℕ))) (numbers : List ℕ) : Type 0 where
  pub inside : start ≤ length found
  pub whole : All (λ (member : Member). filter (is_of member.group) (drop start found) ≡ filter (is_of member.group) found) (drop start found)
  pub done : (row : ℕ) → list_any (λ (member : Member). member.row == row) (take start found) ≡ true → OpensAt rows values numbers row

pub opened-none : (rows : List (List ℕ × ℕ)) (found : List Member) (numbers : List ℕ) → IsOpened rows found 0 [] numbers
opened-none rows found numbers = record {
  inside = omega arith;
  whole = λ k d below. refl;
  done = λ row is. absurd (true≢false (sym is));
}

module _ (rows : List (List ℕ × ℕ)) (found : List Member) (start n : ℕ) (d : Member)
    (sorted : IsSortedByKey (λ (member : Member). member.group) by_bytes found) (some : 0 < n) (fits : n ≤ length (drop start found))
    (one : (k : ℕ) (e : Member) → k < n → (get_or (drop start found) k e).group ≡ (get_or (drop start found) 0 e).group)
    (end : (e : Member) → n < length (drop start found) → (get_or (drop start found) n e).group ≢ (get_or (drop start found) 0 e).group) where
  abbrev rest : List Member
  rest = drop start found

  abbrev run : List Member
  run = take n rest

  abbrev key : List ℕ
  key = (get_or rest 0 d).group

  key-any : (e : Member) → (get_or rest 0 e).group ≡ key
  key-any e = ap (λ (member : Member). member.group) (get_or_default rest 0 e d (omega (arith, some, fits)))

  -- the records of a run are of its group
  pub run-own : All (λ (member : Member). member.group ≡ key) run
  run-own k e below =
      let inside : k < n = omega (arith, below, length-take-le n rest fits) in
      ap (λ (member : Member). member.group) (get_or-take n rest k e inside) ∙ one k e inside ∙ key-any e

  -- and those behind it are not
  run-others : All (λ (member : Member). bytes_eq member.group key ≡ false) (drop n rest)
  run-others k e below =
      let long : length rest ≡ length found - start = length-drop start found in
      let more : length (drop n rest) ≡ length rest - n = length-drop n rest in
      let at_0 : get_or rest 0 e ≡ get_or found start e = get_or-drop start found 0 e ∙ ap (λ i. get_or found i e) (omega arith) in
      let at_n : get_or rest n e ≡ get_or found (start + n) e = get_or-drop start found n e in
      let at_k : get_or (drop n rest) k e ≡ get_or found (start + (n + k)) e = get_or-drop n rest k e ∙ get_or-drop start found (n + k) e in
      let apart : (get_or found (start + n) e).group ≢ (get_or found start e).group =
      λ is. end e (omega (arith, below, more)) ((λ i. (at_n i).group) ∙ is ∙ sym (λ i. (at_0 i).group)) in
      apart_bytes (get_or (drop n rest) k e).group key
      (λ is. less-apart (get_or found start e).group (get_or found (start + (n + k)) e).group
      (past-run (λ (member : Member). member.group) found start n e sorted (omega (arith, below, more, long)) apart (start + (n + k)) (omega arith) (omega (arith, below, more, long)))
      (sym (λ i. (at_k i).group) ∙ is ∙ sym (key-any e) ∙ (λ i. (at_0 i).group)))

  run-filter : filter (is_of key) rest ≡ run
  run-filter =
      ap (filter (is_of key)) (sym (take-append-drop n rest)) ∙ filter-append (is_of key) run (drop n rest)
      ∙ (λ i. filter_all (is_of key) run (λ k e below. same_bytes (get_or run k e).group key (run-own k e below)) i ++ filter_none (is_of key) (drop n rest) run-others i)
      ∙ append-nil run

  module _ (values : List (Option (List ℕ))) (numbers : List ℕ) (before : IsOpened rows found start values numbers) where
    -- a run is all of its group
    pub run-members : AreMembers rows found → values_at rows run ≡ members key rows
    run-members are = ap (values_at rows) (sym run-filter ∙ before.whole 0 d (omega (arith, some, fits))) ∙ are key

    whole-behind : All (λ (member : Member). filter (is_of member.group) (drop n rest) ≡ filter (is_of member.group) found) (drop n rest)
    whole-behind k e below =
        let group = (get_or (drop n rest) k e).group in
        let none : filter (is_of group) run ≡ [] =
        filter_none (is_of group) run (λ j f inside. apart_bytes (get_or run j f).group group
        (λ is. absurd (true≢false (sym (same_bytes group key (sym is ∙ run-own j f inside)) ∙ run-others k e below)))) in
        ap (λ front. front ++ filter (is_of group) (drop n rest)) (sym none) ∙ sym (filter-append (is_of group) run (drop n rest))
        ∙ ap (filter (is_of group)) (take-append-drop n rest)
        ∙ All-drop (λ (member : Member). filter (is_of member.group) rest ≡ filter (is_of member.group) found) n rest before.whole k e below

    whole-next : All (λ (member : Member). filter (is_of member.group) (drop (start + n) found) ≡ filter (is_of member.group) found) (drop (start + n) found)
    whole-next =
        subst (λ left. All (λ (member : Member). filter (is_of member.group) left ≡ filter (is_of member.group) found) left) (drop-drop n start found) whole-behind

    module _ (rising : AreRising None rows) (named : All (IsMember rows) found) (are : AreMembers rows found) (value : Option (List ℕ)) (given : value ≡ given_back key (values_at rows run)) where
      -- a row of a record of the run
      row-of-run : (row : ℕ) → list_any (λ (member : Member). member.row == row) run ≡ true → value ≡ opened (group_of (value_at rows row)) rows
      row-of-run row is =
          let here = Any-from_list_any (λ (member : Member). member.row == row) run is in
          let k = here.0 in
          let at : (get_or run k here.1).row ≡ row = ap (λ (member : Member). member.row) here.3 ∙ eqb-true here.1.row row here.4 in
          let known = All-take (IsMember rows) n rest (All-drop (IsMember rows) start found named) k here.1 here.2 in
          let group : key ≡ group_of (value_at rows row) = sym (run-own k here.1 here.2) ∙ known.group ∙ ap (λ r. group_of (value_at rows r)) at in
          given ∙ ap (given_back key) (run-members are) ∙ given_back-least key rows rising ∙ ap (λ g. opened g rows) group

      pub opened-more : (numbers' : List ℕ)
          → ((row : ℕ) → slice_index numbers' row ≡ (if list_any (λ (member : Member). member.row == row) run then length values else slice_index numbers row))
          → IsOpened rows found (start + n) (values ++ value ∷ []) numbers'
      opened-more numbers' written = record {
        inside = omega (arith, fits, length-drop start found, before.inside);
        whole = whole-next;
        done = λ row is.
            let parts : (list_any (λ (member : Member). member.row == row) (take start found) || list_any (λ (member : Member). member.row == row) run) ≡ true =
            sym (list_any-append (λ (member : Member). member.row == row) (take start found) run) ∙ ap (list_any (λ (member : Member). member.row == row)) (sym (take-add start n found)) ∙ is in
            elim (list_any (λ (member : Member). member.row == row) run) as (λ b. list_any (λ (member : Member). member.row == row) run ≡ b
            → slice_index numbers' row ≡ (if b then length values else slice_index numbers row)
            → (list_any (λ (member : Member). member.row == row) (take start found) || b) ≡ true
            → OpensAt rows (values ++ value ∷ []) numbers' row) [
              | true ↦ λ in_run at _. ap (slice_get (values ++ value ∷ [])) at ∙ slice_get_push values value ∙ ap Some (row-of-run row in_run)
              | false ↦ λ _ at front.
                  let had = before.done row (sym (or-false (list_any (λ (member : Member). member.row == row) (take start found))) ∙ front) in
                  ap (slice_get (values ++ value ∷ [])) at ∙ slice_get_kept values value (slice_index numbers row) (opened (group_of (value_at rows row)) rows) had
            ] refl (written row) parts;
      }

-- the same, of a list that is what stands from there on
abbrev Step : List (List ℕ × ℕ) → List Member → ℕ → ℕ → List Member → Type 0
Step rows found start n rest =
    (e : Member) → 0 < n → n ≤ length rest
    → ((k : ℕ) (d : Member) → k < n → (get_or rest k d).group ≡ (get_or rest 0 d).group)
    → ((d : Member) → n < length rest → (get_or rest n d).group ≢ (get_or rest 0 d).group)
    → (value : Option (List ℕ)) → value ≡ given_back (get_or rest 0 e).group (values_at rows (take n rest))
    → (values : List (Option (List ℕ))) (numbers numbers' : List ℕ)
    → ((row : ℕ) → slice_index numbers' row ≡ (if list_any (λ (member : Member). member.row == row) (take n rest) then length values else slice_index numbers row))
    → IsOpened rows found start values numbers → IsOpened rows found (start + length (take n rest)) (values ++ value ∷ []) numbers'

pub opened-step : (rows : List (List ℕ × ℕ)) (found : List Member) (start n : ℕ) (left : List Member) → left ≡ drop start found
    → AreRising None rows → IsSortedByKey (λ (member : Member). member.group) by_bytes found → All (IsMember rows) found → AreMembers rows found
    → Step rows found start n left
opened-step rows found start n left is rising sorted named are = subst (Step rows found start n) (sym is)
    (λ e some fits one end value given values numbers numbers' written before.
    subst (λ m. IsOpened rows found (start + m) (values ++ value ∷ []) numbers') (sym (length-take-le n (drop start found) fits))
    (opened-more rows found start n e sorted some fits one end values numbers before rising named are value given numbers' written))

-- at the end all rows of share records have their numbers
pub opened-all : (rows : List (List ℕ × ℕ)) (found : List Member) (start : ℕ) (values : List (Option (List ℕ))) (numbers : List ℕ) → length found ≤ start
    → IsOpened rows found start values numbers → (row : ℕ) → list_any (λ (member : Member). member.row == row) found ≡ true → OpensAt rows values numbers row
opened-all rows found start values numbers end opened row is =
    opened.done row (ap (list_any (λ (member : Member). member.row == row)) (take_all start found end) ∙ is)
