-- The lists of a history when it goes on.
use Rattle.std.proofs.Common.{◌≡◌, ◌≢◌, ℕ, zero, suc, ◌+◌, ◌-◌, ◌≤◌, ◌<◌, Bool, true, false, cond, ◌==◌, List, [], ◌∷◌, ◌++◌, length, get_or, take, drop, refl, sym, ◌∙◌, ap, arith, length-append, length-drop, length-take}
use Rattle.std.specs.List.{onto_first}
use Rattle.std.proofs.lemmas.Bool.{eq-eqb}
use Rattle.std.proofs.lemmas.List.{take-append-le, drop-append-le, take_all, get_or_push, take_more, get_or-drop, drop_all}
use Rattle.std.proofs.lemmas.List.Splits.{length-slice_split}
use Rattle.std.proofs.lemmas.List.Sums.{sum_by_push}
use Rattle.esa_laws.proofs.Tests.{bit, unequal}
use Rattle.esa_spec.specs.Histories.{parts, lists, latest, begun}

abbrev is_owner : ℕ → ℕ → Bool
is_owner owner entry = entry == owner

-- a part is there, also of the empty history
record Some_part (qs : List (List ℕ)) : Type 0 where
  first : List ℕ
  others : List (List ℕ)
  is : qs ≡ first ∷ others

parts-cons : (owner x : ℕ) (h : List ℕ) (c : Bool) → Some_part (parts owner h) → Some_part (cond c ([] ∷ parts owner h) (onto_first x (parts owner h)))
parts-cons owner x h true s = record { first = []; others = parts owner h; is = refl }
parts-cons owner x h false s = record { first = x ∷ s.first; others = s.others; is = ap (onto_first x) s.is }

some-part : (owner : ℕ) (h : List ℕ) → Some_part (parts owner h)
some-part owner [] = record { first = []; others = []; is = refl }
some-part owner (x ∷ h) = parts-cons owner x h (x == owner) (some-part owner h)

-- an entry behind the last part
abbrev onto_last : ℕ → List (List ℕ) → List (List ℕ)
onto_last y [] = []
onto_last y (q ∷ []) = (q ++ y ∷ []) ∷ []
onto_last y (q ∷ r ∷ qs) = q ∷ onto_last y (r ∷ qs)

onto-both : (x y : ℕ) (q : List ℕ) (qs : List (List ℕ)) → onto_first x (onto_last y (q ∷ qs)) ≡ onto_last y ((x ∷ q) ∷ qs)
onto-both x y q [] = refl
onto-both x y q (r ∷ qs) = refl

onto-behind : (y : ℕ) (q r : List ℕ) (qs : List (List ℕ)) → onto_last y (q ∷ r ∷ qs) ≡ q ∷ onto_last y (r ∷ qs)
onto-behind y q r qs = refl

length-onto_last : (y : ℕ) (qs : List (List ℕ)) → length (onto_last y qs) ≡ length qs
length-onto_last y [] = refl
length-onto_last y (q ∷ []) = refl
length-onto_last y (q ∷ r ∷ qs) = ap suc (length-onto_last y (r ∷ qs))

module _ (owner : ℕ) where
  -- an entry of the owner begins a new part
  owner-by : (x : ℕ) (h : List ℕ) (c : Bool) → Some_part (parts owner h)
      → cond c ([] ∷ (parts owner h ++ [] ∷ [])) (onto_first x (parts owner h ++ [] ∷ [])) ≡ cond c ([] ∷ parts owner h) (onto_first x (parts owner h)) ++ [] ∷ []
  owner-by x h true s = refl
  owner-by x h false s = ap (λ y. onto_first x (y ++ [] ∷ [])) s.is ∙ sym (ap (λ y. onto_first x y ++ [] ∷ []) s.is)

  parts-owner : (h : List ℕ) → parts owner (h ++ owner ∷ []) ≡ parts owner h ++ [] ∷ []
  parts-owner [] = ap (λ c. cond c ([] ∷ [] ∷ []) ((owner ∷ []) ∷ [])) (eq-eqb owner owner refl)
  parts-owner (x ∷ h) =
      ap (λ y. cond (x == owner) ([] ∷ y) (onto_first x y)) (parts-owner h) ∙ owner-by x h (x == owner) (some-part owner h)

  -- any other entry goes behind the last part
  worker-by : (x y : ℕ) (h : List ℕ) (c : Bool) → Some_part (parts owner h)
      → cond c ([] ∷ onto_last y (parts owner h)) (onto_first x (onto_last y (parts owner h))) ≡ onto_last y (cond c ([] ∷ parts owner h) (onto_first x (parts owner h)))
  worker-by x y h true s = ap (λ q. [] ∷ onto_last y q) s.is ∙ sym (ap (λ q. onto_last y ([] ∷ q)) s.is)
  worker-by x y h false s =
      ap (λ q. onto_first x (onto_last y q)) s.is ∙ onto-both x y s.first s.others ∙ sym (ap (λ q. onto_last y (onto_first x q)) s.is)

  parts-worker : (h : List ℕ) (w : ℕ) → w ≢ owner → parts owner (h ++ w ∷ []) ≡ onto_last w (parts owner h)
  parts-worker [] w ne = let other = unequal w owner ne in ap (λ c. cond c ([] ∷ [] ∷ []) ((w ∷ []) ∷ [])) other
  parts-worker (x ∷ h) w ne =
      ap (λ y. cond (x == owner) ([] ∷ y) (onto_first x y)) (parts-worker h w ne) ∙ worker-by x w h (x == owner) (some-part owner h)

  length-parts : (h : List ℕ) → length (parts owner h) ≡ begun owner h + 1
  length-parts h = length-slice_split (λ entry. entry == owner) h

-- the last part and those between
abbrev last_of : List (List ℕ) → List ℕ
last_of qs = get_or qs (length qs - 1) []

abbrev between : List (List ℕ) → List (List ℕ)
between qs = take (length qs - 2) (drop 1 qs)

last-cons : (q : List ℕ) (qs : List (List ℕ)) → 1 ≤ length qs → last_of (q ∷ qs) ≡ last_of qs
last-cons q qs some = let behind : length (q ∷ qs) - 1 ≡ suc (length qs - 1) = omega arith in ap (λ y. get_or (q ∷ qs) y []) behind

last-onto : (y : ℕ) (q : List ℕ) (qs : List (List ℕ)) → last_of (onto_last y (q ∷ qs)) ≡ last_of (q ∷ qs) ++ y ∷ []
last-onto y q [] = refl
last-onto y q (r ∷ qs) =
    last-cons q (onto_last y (r ∷ qs)) (omega (arith, length-onto_last y (r ∷ qs))) ∙ last-onto y r qs
    ∙ ap (λ z. z ++ y ∷ []) (sym (last-cons q (r ∷ qs) (omega arith)))

take-onto : (y k : ℕ) (qs : List (List ℕ)) → k < length qs → take k (onto_last y qs) ≡ take k qs
take-onto y k [] k_in = refl
take-onto y zero (q ∷ []) k_in = refl
take-onto y (suc k) (q ∷ []) k_in = absurd (omega arith)
take-onto y zero (q ∷ r ∷ qs) k_in = refl
take-onto y (suc k) (q ∷ r ∷ qs) k_in = ap (λ z. q ∷ z) (take-onto y k (r ∷ qs) (omega arith))

between-onto : (y : ℕ) (qs : List (List ℕ)) → between (onto_last y qs) ≡ between qs
between-onto y [] = refl
between-onto y (q ∷ []) = refl
between-onto y (q ∷ r ∷ qs) =
    let long : length (q ∷ onto_last y (r ∷ qs)) ≡ length (q ∷ r ∷ qs) = ap suc (length-onto_last y (r ∷ qs)) in
    ap (λ n. take (n - 2) (onto_last y (r ∷ qs))) long ∙ take-onto y (length (q ∷ r ∷ qs) - 2) (r ∷ qs) (omega arith)

between-owner : (qs : List (List ℕ)) → 1 ≤ length qs → between (qs ++ [] ∷ []) ≡ drop 1 qs
between-owner qs some =
    let count : length (qs ++ [] ∷ []) - 2 ≡ length qs - 1 = omega (arith, length-append qs ([] ∷ [])) in
    ap (λ n. take n (drop 1 (qs ++ [] ∷ []))) count
    ∙ ap (take (length qs - 1)) (drop-append-le 1 qs ([] ∷ []) some)
    ∙ take-append-le (length qs - 1) (drop 1 qs) ([] ∷ []) (omega (arith, length-drop 1 qs))
    ∙ take_all (length qs - 1) (drop 1 qs) (omega (arith, length-drop 1 qs))

behind-first : (qs : List (List ℕ)) → 2 ≤ length qs → drop 1 qs ≡ between qs ++ last_of qs ∷ []
behind-first qs two =
    let m = length qs - 2 in
    let all : m + 1 ≡ length (drop 1 qs) = omega (arith, length-drop 1 qs) in
    let last : 1 + m ≡ length qs - 1 = omega arith in
    sym (take_all (m + 1) (drop 1 qs) (omega (arith, all)))
    ∙ take_more (drop 1 qs) m [] (omega (arith, all))
    ∙ ap (λ y. take m (drop 1 qs) ++ y ∷ []) (get_or-drop 1 qs m [] ∙ ap (λ y. get_or qs y []) last)

module _ (owner : ℕ) (h : List ℕ) where
  pub lists-worker : (w : ℕ) → w ≢ owner → lists owner (h ++ w ∷ []) ≡ lists owner h
  lists-worker w ne = ap between (parts-worker owner h w ne) ∙ between-onto w (parts owner h)

  pub latest-worker : (w : ℕ) → w ≢ owner → latest owner (h ++ w ∷ []) ≡ latest owner h ++ w ∷ []
  latest-worker w ne =
      let s = some-part owner h in
      ap last_of (parts-worker owner h w ne) ∙ ap (λ y. last_of (onto_last w y)) s.is ∙ last-onto w s.first s.others ∙ sym (ap (λ y. last_of y ++ w ∷ []) s.is)

  pub lists-owner : 1 ≤ begun owner h → lists owner (h ++ owner ∷ []) ≡ lists owner h ++ latest owner h ∷ []
  lists-owner some =
      ap between (parts-owner owner h) ∙ between-owner (parts owner h) (omega (arith, length-parts owner h))
      ∙ behind-first (parts owner h) (omega (arith, length-parts owner h))

  pub lists-first : begun owner h ≡ 0 → lists owner (h ++ owner ∷ []) ≡ []
  lists-first none =
      ap between (parts-owner owner h) ∙ between-owner (parts owner h) (omega (arith, length-parts owner h))
      ∙ drop_all 1 (parts owner h) (omega (arith, length-parts owner h))

  pub latest-owner : latest owner (h ++ owner ∷ []) ≡ []
  latest-owner =
      let count : length (parts owner h ++ [] ∷ []) - 1 ≡ length (parts owner h) = omega (arith, length-append (parts owner h) ([] ∷ [])) in
      ap last_of (parts-owner owner h) ∙ ap (λ y. get_or (parts owner h ++ [] ∷ []) y []) count ∙ get_or_push (parts owner h) [] [] (length (parts owner h)) refl

  pub length-lists : length (lists owner h) ≡ begun owner h - 1
  length-lists = omega (arith, length-take (length (parts owner h) - 2) (drop 1 (parts owner h)), length-drop 1 (parts owner h), length-parts owner h)

pub begun-owner : (owner : ℕ) (h : List ℕ) → begun owner (h ++ owner ∷ []) ≡ begun owner h + 1
begun-owner owner h = sum_by_push (λ entry. bit (entry == owner)) h owner ∙ ap (λ y. begun owner h + y) (ap bit (eq-eqb owner owner refl))

pub begun-worker : (owner : ℕ) (h : List ℕ) (w : ℕ) → w ≢ owner → begun owner (h ++ w ∷ []) ≡ begun owner h
begun-worker owner h w ne =
    let other = unequal w owner ne in
    sum_by_push (λ entry. bit (entry == owner)) h w ∙ omega (arith, ap bit other)
