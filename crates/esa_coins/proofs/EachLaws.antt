-- Reading the elements of a list one after another.
use Rattle.std.proofs.Common.{◌≡◌, ℕ, suc, ◌+◌, ◌<◌, ◌≤◌, ◌⊎◌, inl, inr, Bool, true, List, [], ◌∷◌, ◌++◌, length, take, drop, get_or, map, Result, Ok, Err, refl, sym, ap, ◌∙◌, arith, add-zero}
use Rattle.std.specs.Cmp.Derive.{both_true}
use Rattle.std.specs.List.{list_all}
use Rattle.std.proofs.Math.Seq.{split_at}
use Rattle.std.proofs.lemmas.List.{take_more, take_all, length-take-le}
use Rattle.esa_coins.specs.Table.{before, each}
use Rattle.esa_coins.specs.declared.refused.CoinsRefused.{CoinsRefused}
use Rattle.esa_coins.specs.declared.refused.CoinsRefused.TheVariants.{OutOfMemory}

record Joined {T E : Type 0} (first : Result T E) (rest : Result (List T) E) (all : List T) : Type 0 where
  x : T
  xs : List T
  first_is : first ≡ Ok x
  rest_is : rest ≡ Ok xs
  all_is : all ≡ x ∷ xs

joined : {T E : Type 0} (first : Result T E) (rest : Result (List T) E) (all : List T) → before first rest ≡ Ok all → Joined first rest all
joined (Ok x) (Ok xs) all is = record { x = x; xs = xs; first_is = refl; rest_is = refl; all_is = cc }
joined (Ok x) (Err e) all is = cc
joined (Err e) rest all is = cc

module _ {T V E : Type 0} (read : ℕ → T → Result V E) where
  each-append : (k : ℕ) (xs : List T) (x : T) (ys : List V) (y : V) → each read k xs ≡ Ok ys → read (k + length xs) x ≡ Ok y → each read k (xs ++ x ∷ []) ≡ Ok (ys ++ y ∷ [])
  each-append k [] x ys y so_far more =
      let none : [] ≡ ys = cc in
      let here : read k x ≡ Ok y = ap (λ n. read n x) (sym (add-zero k)) ∙ more in
      ap (λ first. before first (Ok [])) here ∙ ap (λ list. Ok (list ++ y ∷ [])) none
  each-append k (z ∷ xs) x ys y so_far more =
      let j = joined (read k z) (each read (k + 1) xs) ys so_far in
      let later : read (k + 1 + length xs) x ≡ Ok y = ap (λ n. read n x) (omega arith) ∙ more in
      ap (λ first. before first (each read (k + 1) (xs ++ x ∷ []))) j.first_is
      ∙ ap (before (Ok j.x)) (each-append (k + 1) xs x j.xs y j.rest_is later)
      ∙ ap (λ list. Ok (list ++ y ∷ [])) (sym j.all_is)

  each-refused : (k : ℕ) (xs : List T) (x : T) (rest : List T) (ys : List V) (e : E) → each read k xs ≡ Ok ys → read (k + length xs) x ≡ Err e → each read k (xs ++ x ∷ rest) ≡ Err e
  each-refused k [] x rest ys e so_far refused =
      let here : read k x ≡ Err e = ap (λ n. read n x) (sym (add-zero k)) ∙ refused in
      ap (λ first. before first (each read (k + 1) rest)) here
  each-refused k (z ∷ xs) x rest ys e so_far refused =
      let j = joined (read k z) (each read (k + 1) xs) ys so_far in
      let later : read (k + 1 + length xs) x ≡ Err e = ap (λ n. read n x) (omega arith) ∙ refused in
      ap (λ first. before first (each read (k + 1) (xs ++ x ∷ rest))) j.first_is
      ∙ ap (before (Ok j.x)) (each-refused (k + 1) xs x rest j.xs e j.rest_is later)

  -- one element more, in a loop over the list
  pub each_more : (xs : List T) (i : ℕ) (x : T) (ys : List V) (y : V) → i < length xs → x ≡ get_or xs i x → each read 0 (take i xs) ≡ Ok ys → read i x ≡ Ok y → each read 0 (take (i + 1) xs) ≡ Ok (ys ++ y ∷ [])
  each_more xs i x ys y inside is so_far more =
      let here : read (0 + length (take i xs)) x ≡ Ok y = ap (λ n. read n x) (omega (arith, length-take-le i xs (omega arith))) ∙ more in
      ap (each read 0) (take_more xs i x inside ∙ ap (λ z. take i xs ++ z ∷ []) (sym is)) ∙ each-append 0 (take i xs) x ys y so_far here

  -- an element that is refused
  pub each_refused : (xs : List T) (i : ℕ) (x : T) (ys : List V) (e : E) → i < length xs → x ≡ get_or xs i x → each read 0 (take i xs) ≡ Ok ys → read i x ≡ Err e → each read 0 xs ≡ Err e
  each_refused xs i x ys e inside is so_far refused =
      let here : read (0 + length (take i xs)) x ≡ Err e = ap (λ n. read n x) (omega (arith, length-take-le i xs (omega arith))) ∙ refused in
      ap (each read 0) (split_at xs i x inside ∙ ap (λ z. take i xs ++ z ∷ drop (suc i) xs) (sym is))
      ∙ each-refused 0 (take i xs) x (drop (suc i) xs) ys e so_far here

  pub each_all : (xs : List T) (i : ℕ) (ys : List V) → length xs ≤ i → each read 0 (take i xs) ≡ Ok ys → each read 0 xs ≡ Ok ys
  each_all xs i ys whole so_far = ap (each read 0) (sym (take_all i xs whole)) ∙ so_far

  -- as many as there are
  pub length-each : (k : ℕ) (xs : List T) (ys : List V) → each read k xs ≡ Ok ys → length ys ≡ length xs
  length-each k [] ys is = let none : [] ≡ ys = cc in sym (ap length none)
  length-each k (x ∷ xs) ys is =
      let j = joined (read k x) (each read (k + 1) xs) ys is in
      ap length j.all_is ∙ ap suc (length-each (k + 1) xs j.xs j.rest_is)

  -- each passes what each that is read does
  pub list_all-each : (test : V → Bool) → ((i : ℕ) (x : T) (y : V) → read i x ≡ Ok y → test y ≡ true) → (k : ℕ) (xs : List T) (ys : List V) → each read k xs ≡ Ok ys → list_all test ys ≡ true
  list_all-each test passes k [] ys is = let none : [] ≡ ys = cc in sym (ap (list_all test) none)
  list_all-each test passes k (x ∷ xs) ys is =
      let j = joined (read k x) (each read (k + 1) xs) ys is in
      ap (list_all test) j.all_is ∙ both_true (passes k x j.x j.first_is) (list_all-each test passes (k + 1) xs j.xs j.rest_is)

-- ---- elements that are seen as something else

module _ {S T V E : Type 0} (read : ℕ → T → Result V E) (view : S → T) where
  each-map : (k : ℕ) (xs : List S) → each read k (map view xs) ≡ each (λ i x. read i (view x)) k xs
  each-map k [] = refl
  each-map k (x ∷ xs) = ap (before (read k (view x))) (each-map (k + 1) xs)

  pub seen_refused : (xs : List S) (i : ℕ) (x : S) (ys : List V) (e : E) → i < length xs → x ≡ get_or xs i x → each (λ n s. read n (view s)) 0 (take i xs) ≡ Ok ys → read i (view x) ≡ Err e → each read 0 (map view xs) ≡ Err e
  seen_refused xs i x ys e inside is so_far refused = each-map 0 xs ∙ each_refused (λ n s. read n (view s)) xs i x ys e inside is so_far refused

  pub seen_all : (xs : List S) (i : ℕ) (ys : List V) → length xs ≤ i → each (λ n s. read n (view s)) 0 (take i xs) ≡ Ok ys → each read 0 (map view xs) ≡ Ok ys
  seen_all xs i ys whole so_far = each-map 0 xs ∙ each_all (λ n s. read n (view s)) xs i ys whole so_far

-- ---- reading stops at the first element that is refused, or for want of memory

module _ {S T V : Type 0} (read : ℕ → T → Result V CoinsRefused) (view : S → T) where
  pub seen_stops : (xs : List S) (i : ℕ) (x : S) (ys : List V) (e : CoinsRefused) → i < length xs → x ≡ get_or xs i x → each (λ n s. read n (view s)) 0 (take i xs) ≡ Ok ys → (e ≡ OutOfMemory) ⊎ (read i (view x) ≡ Err e) → (e ≡ OutOfMemory) ⊎ (each read 0 (map view xs) ≡ Err e)
  seen_stops xs i x ys e inside is so_far (inl memory) = inl memory
  seen_stops xs i x ys e inside is so_far (inr refused) = inr (seen_refused read view xs i x ys e inside is so_far refused)
