-- Lists made from ranges of numbers: one number more, and functions that agree on a range.
use Rattle.std.proofs.Common.{◌≡◌, ℕ, zero, suc, ◌+◌, ◌<◌, Bool, cond, List, [], ◌∷◌, ◌++◌, map, refl, sym, ◌∙◌, ap, add-one, arith, add-zero, append-nil, append_assoc}
use Rattle.std.specs.List.{range_with_len, sum_by, count_by, find}
use Rattle.std.specs.Prelude.{Some, None}
use Rattle.std.specs.Option.{option_or}
use Rattle.std.proofs.lemmas.List.{map-id, map-append}
use Rattle.std.proofs.lemmas.List.FromFn.{map-range_with_len_more}
use Rattle.std.proofs.lemmas.List.Sums.{sum_by_push}
use Rattle.std.proofs.lemmas.List.Folds.{find-append}
use Rattle.esa_params.specs.Sizes.{below}

-- one number more
pub below-suc : (n : ℕ) → below (suc n) ≡ below n ++ n ∷ []
below-suc n =
    ap below (sym (add-one n)) ∙ sym (map-id (below (n + 1))) ∙ map-range_with_len_more (λ (y : ℕ). y) 0 n n (omega arith)
    ∙ ap (λ y. y ++ n ∷ []) (map-id (below n))

pub below-add-one : (n : ℕ) → below (n + 1) ≡ below n ++ n ∷ []
below-add-one n = ap below (add-one n) ∙ below-suc n

-- a range that goes on
pub range-suc : (a n : ℕ) → range_with_len a (suc n) ≡ range_with_len a n ++ (a + n) ∷ []
range-suc a n =
    ap (range_with_len a) (sym (add-one n)) ∙ sym (map-id (range_with_len a (n + 1))) ∙ map-range_with_len_more (λ (y : ℕ). y) a n (a + n) refl
    ∙ ap (λ y. y ++ (a + n) ∷ []) (map-id (range_with_len a n))

-- a list of numbers in two parts
pub range-add : (a m n : ℕ) → range_with_len a (m + n) ≡ range_with_len a m ++ range_with_len (a + m) n
range-add a m zero = ap (range_with_len a) (add-zero m) ∙ sym (append-nil (range_with_len a m))
range-add a m (suc n) =
    let next : m + suc n ≡ suc (m + n) = omega arith in
    let last : a + (m + n) ≡ a + m + n = omega arith in
    ap (range_with_len a) next ∙ range-suc a (m + n) ∙ ap (λ (l : List ℕ). l ++ (a + (m + n)) ∷ []) (range-add a m n)
    ∙ append_assoc (range_with_len a m) (range_with_len (a + m) n) ((a + (m + n)) ∷ [])
    ∙ ap (λ (k : ℕ). range_with_len a m ++ (range_with_len (a + m) n ++ k ∷ [])) last
    ∙ ap (λ (l : List ℕ). range_with_len a m ++ l) (sym (range-suc (a + m) n))

pub below-add : (m n : ℕ) → below (m + n) ≡ below m ++ range_with_len m n
below-add m zero = ap below (add-zero m) ∙ sym (append-nil (below m))
below-add m (suc n) =
    let next : m + suc n ≡ suc (m + n) = omega arith in
    ap below next ∙ below-suc (m + n) ∙ ap (λ y. y ++ (m + n) ∷ []) (below-add m n) ∙ append_assoc (below m) (range_with_len m n) ((m + n) ∷ [])
    ∙ ap (λ y. below m ++ y) (sym (range-suc m n))

module _ {Y : Type 0} where
  pub map-below-suc : (f : ℕ → Y) (n : ℕ) → map f (below (suc n)) ≡ map f (below n) ++ f n ∷ []
  map-below-suc f n = ap (map f) (below-suc n) ∙ map-append f (below n) (n ∷ [])

  pub map-below-same : (f g : ℕ → Y) (n : ℕ) → ((x : ℕ) → x < n → f x ≡ g x) → map f (below n) ≡ map g (below n)
  map-below-same f g zero same = refl
  map-below-same f g (suc n) same =
      map-below-suc f n
      ∙ ap (λ y. y ++ f n ∷ []) (map-below-same f g n (λ x h. same x (omega arith)))
      ∙ ap (λ y. map g (below n) ++ y ∷ []) (same n (omega arith))
      ∙ sym (map-below-suc g n)

pub sum-below-suc : (f : ℕ → ℕ) (n : ℕ) → sum_by f (below (suc n)) ≡ sum_by f (below n) + f n
sum-below-suc f n = ap (sum_by f) (below-suc n) ∙ sum_by_push f (below n) n

pub sum-below-same : (f g : ℕ → ℕ) (n : ℕ) → ((x : ℕ) → x < n → f x ≡ g x) → sum_by f (below n) ≡ sum_by g (below n)
sum-below-same f g zero same = refl
sum-below-same f g (suc n) same =
    omega (arith, sum-below-suc f n, sum-below-suc g n, sum-below-same f g n (λ x h. same x (omega arith)), same n (omega arith))

pub count-below-suc : (f : ℕ → Bool) (n : ℕ) → count_by f (below (suc n)) ≡ count_by f (below n) + cond (f n) 1 0
count-below-suc f n = sum-below-suc (λ x. cond (f x) 1 0) n

pub count-below-same : (f g : ℕ → Bool) (n : ℕ) → ((x : ℕ) → x < n → f x ≡ g x) → count_by f (below n) ≡ count_by g (below n)
count-below-same f g n same = sum-below-same (λ x. cond (f x) 1 0) (λ x. cond (g x) 1 0) n (λ x h. ap (λ y. cond y 1 0) (same x h))

pub find-below-suc : (f : ℕ → Bool) (n : ℕ) → find f (below (suc n)) ≡ option_or (find f (below n)) (cond (f n) (Some n) None)
find-below-suc f n = ap (find f) (below-suc n) ∙ find-append f (below n) (n ∷ [])

pub find-below-same : (f g : ℕ → Bool) (n : ℕ) → ((x : ℕ) → x < n → f x ≡ g x) → find f (below n) ≡ find g (below n)
find-below-same f g zero same = refl
find-below-same f g (suc n) same =
    find-below-suc f n
    ∙ ap (λ y. option_or y (cond (f n) (Some n) None)) (find-below-same f g n (λ x h. same x (omega arith)))
    ∙ ap (λ y. option_or (find g (below n)) (cond y (Some n) None)) (same n (omega arith))
    ∙ sym (find-below-suc g n)
