-- Sort keys with how often each was reported: what is counted, its order, and its runs.
use Rattle.std.proofs.Common.{◌≡◌, ℕ, zero, suc, ◌+◌, ◌*◌, ◌<◌, ◌≤◌, true, false, List, [], ◌∷◌, ◌++◌, length, take, drop, set, map, get_or, replicate, refl, sym, ap, subst, ◌∙◌, arith}
use Rattle.std.specs.Prelude.{All, bytes_eq}
use Rattle.std.specs.List.{sum_by}
use Rattle.std.specs.List.Sorted.{IsSorted}
use Rattle.std.specs.declared.cmp.Ordering.{Ordering}
use Rattle.std.specs.declared.cmp.Ordering.TheVariants.{Less, Equal, Greater}
use Rattle.std.specs.Ordering.{nat_cmp, is_lt, ordering_then}
use Rattle.std.specs.Cmp.{tied_itself}
use Rattle.std.specs.FinMap as finite
use Rattle.std.proofs.lemmas.Cmp.{nat_list_cmp_total, nat_list_eq_equiv}
use Rattle.std.proofs.Math.Nat.{suc-mul, zero-mul}
use Rattle.std.proofs.lemmas.Slice.Eq.{bytes_eq-Decides}
use Rattle.std.proofs.lemmas.List.{take_more, take-append-drop, length-append, length-replicate, length-take, length-drop, length-map, get_or-map, get_or-replicate, get_or_append_left, get_or-append-add, get_or-take, get_or-drop, get_or_default, drop_at, replicate-append-replicate}
use Rattle.std.proofs.lemmas.List.Elements.{All-head, All-tail, All-get_or, All-append, All-replicate}
use Rattle.std.proofs.lemmas.List.Concat.{flat_map-append}
use Rattle.std.proofs.lemmas.List.Sums.{sum_by-cons, sum_by-set}
use Rattle.esa_lists.specs.Tally.{runs}
use Rattle.esa_lists.proofs.FilesLaws.{names_apart}
use Rattle.esa_lists.proofs.OrderedLaws.{NoneLess, Rises, Rises-from_sorted, IsSorted-from_rises}
use Rattle.esa_lists.proofs.TallyLaws.{tally-counts}
use Rattle.esa_analyser.specs.declared.repeated.Repeated.{Repeated}
use Rattle.esa_analyser.specs.Database.{rows_of}
use Rattle.esa_analyser.specs.SortKey.{key_value, IsSortKey}
use Rattle.esa_analyser.specs.Repeated.{all_keys, weighed, IsRepeated}
use Rattle.esa_analyser.proofs.KeyRuns.{by_bytes, run_at}

-- one more time
one_more_time : (n x : ℕ) → (n + 1) * x ≡ n * x + x
one_more_time n x = let more : n + 1 ≡ suc n = omega arith in ap (λ m. m * x) more ∙ suc-mul n x

-- one more at a place
pub weighed-more : {P : ℕ} (f : List ℕ → ℕ) (list : List (Repeated P)) (i : ℕ) (d : Repeated P) → i < length list
    → weighed f (set list i (record { key = (get_or list i d).key; times = (get_or list i d).times + 1 })) ≡ weighed f list + f (key_value (get_or list i d).key)
weighed-more {P} f list i d below =
    let one = get_or list i d in
    omega (arith, sum_by-set (λ (repeated : Repeated P). repeated.times * f (key_value repeated.key)) list i (record { key = one.key; times = one.times + 1 }) d below, one_more_time one.times (f (key_value one.key)))

-- the sum over the values of what is repeated
weighed-replicate : (f : List ℕ → ℕ) (n : ℕ) (key : List ℕ) (rest : List (List ℕ)) → sum_by f (map key_value (replicate n key ++ rest)) ≡ n * f (key_value key) + sum_by f (map key_value rest)
weighed-replicate f zero key rest = omega (arith, zero-mul (f (key_value key)))
weighed-replicate f (suc n) key rest =
    omega (arith, sum_by-cons f (key_value key) (map key_value (replicate n key ++ rest)), weighed-replicate f n key rest, suc-mul n (f (key_value key)))

pub weighed-all : {P : ℕ} (f : List ℕ → ℕ) (list : List (Repeated P)) → sum_by f (map key_value (all_keys list)) ≡ weighed f list
weighed-all f [] = refl
weighed-all {P} f (one ∷ list) =
    omega (arith, weighed-replicate f one.times one.key (all_keys list), weighed-all f list, sum_by-cons (λ (repeated : Repeated P). repeated.times * f (key_value repeated.key)) one list)

-- a list's length as a sum
length-sum : {X : Type 0} (xs : List X) → length xs ≡ sum_by (λ x. 1) xs
length-sum [] = refl
length-sum (x ∷ xs) = omega (arith, length-sum xs, sum_by-cons (λ x. 1) x xs)

-- lists over which all sums agree have one length and the same rows
pub length-alike : (xs ys : List (List ℕ)) → ((f : List ℕ → ℕ) → sum_by f xs ≡ sum_by f ys) → length xs ≡ length ys
length-alike xs ys same = length-sum xs ∙ same (λ x. 1) ∙ sym (length-sum ys)

pub rows_of-alike : (xs ys : List (List ℕ)) → ((f : List ℕ → ℕ) → sum_by f xs ≡ sum_by f ys) → rows_of xs ≡ rows_of ys
rows_of-alike xs ys same = ap finite.entries (tally-counts nat_list_cmp_total names_apart xs ys (λ q. same _))

pub length-all_keys : {P : ℕ} (list : List (Repeated P)) → length (all_keys list) ≡ weighed (λ value. 1) list
length-all_keys list = sym (length-map (all_keys list) key_value) ∙ length-sum (map key_value (all_keys list)) ∙ weighed-all (λ value. 1) list

-- each of the keys is a sort key
pub are_sort_keys : {P : ℕ} (list : List (Repeated P)) → All IsRepeated list → All (IsSortKey P) (all_keys list)
are_sort_keys [] each = λ k d below. absurd (omega arith)
are_sort_keys {P} (one ∷ list) each =
    let first = All-head IsRepeated one list each in
    All-append (IsSortKey P) (replicate one.times one.key) (all_keys list) (All-replicate (IsSortKey P) one.times one.key first.key) (are_sort_keys list (All-tail IsRepeated one list each))

-- the keys of a list are those of its front and of the rest
pub all_keys-parts : {P : ℕ} (n : ℕ) (list : List (Repeated P)) → all_keys list ≡ all_keys (take n list) ++ all_keys (drop n list)
all_keys-parts n list = ap all_keys (sym (take-append-drop n list)) ∙ flat_map-append (λ repeated. replicate repeated.times repeated.key) (take n list) (drop n list)

pub length-next : {P : ℕ} (list : List (Repeated P)) (i : ℕ) (d : Repeated P) → i < length list → length (all_keys (take (i + 1) list)) ≡ length (all_keys (take i list)) + (get_or list i d).times
length-next list i d below =
    let one = get_or list i d in
    ap (λ part. length (all_keys part)) (take_more list i d below)
    ∙ ap length (flat_map-append (λ repeated. replicate repeated.times repeated.key) (take i list) (one ∷ []))
    ∙ length-append (all_keys (take i list)) (replicate one.times one.key ++ [])
    ∙ omega (arith, length-append (replicate one.times one.key) [], length-replicate one.times one.key)

pub length-front : {P : ℕ} (list : List (Repeated P)) (n : ℕ) → length (all_keys (take n list)) ≤ length (all_keys list)
length-front list n = omega (arith, ap length (all_keys-parts n list), length-append (all_keys (take n list)) (all_keys (drop n list)))

pub length-back : {P : ℕ} (list : List (Repeated P)) (n : ℕ) → length (all_keys (drop n list)) ≤ length (all_keys list)
length-back list n = omega (arith, ap length (all_keys-parts n list), length-append (all_keys (take n list)) (all_keys (drop n list)))

-- rising keys rise, each as often as it was reported
NoneLess-all : {P : ℕ} (x : List ℕ) (list : List (Repeated P)) → NoneLess by_bytes x (map (λ repeated. repeated.key) list) → NoneLess by_bytes x (all_keys list)
NoneLess-all x [] none = tt
NoneLess-all x (one ∷ list) none = again one.times (NoneLess-all x list none.1)
  where
    again : (n : ℕ) → NoneLess by_bytes x (all_keys list) → NoneLess by_bytes x (replicate n one.key ++ all_keys list)
    again zero rest = rest
    again (suc n) rest = (none.0, again n rest)

NoneLess-own : (n : ℕ) (key : List ℕ) (rest : List (List ℕ)) → NoneLess by_bytes key rest → NoneLess by_bytes key (replicate n key ++ rest)
NoneLess-own zero key rest none = none
NoneLess-own (suc n) key rest none = (ap is_lt (tied_itself nat_list_cmp_total key), NoneLess-own n key rest none)

Rises-own : (n : ℕ) (key : List ℕ) (rest : List (List ℕ)) → NoneLess by_bytes key rest → Rises by_bytes rest → Rises by_bytes (replicate n key ++ rest)
Rises-own zero key rest none up = up
Rises-own (suc n) key rest none up = (NoneLess-own n key rest none, Rises-own n key rest none up)

Rises-all : {P : ℕ} (list : List (Repeated P)) → Rises by_bytes (map (λ repeated. repeated.key) list) → Rises by_bytes (all_keys list)
Rises-all [] up = tt
Rises-all (one ∷ list) up = Rises-own one.times one.key (all_keys list) (NoneLess-all one.key list up.0) (Rises-all list up.1)

-- what is in order by key and number is in order by key
key_first : (o p : Ordering) → is_lt (ordering_then o p) ≡ false → is_lt o ≡ false
key_first Less p h = h
key_first Equal p h = refl
key_first Greater p h = refl

pub IsSorted-all : {P : ℕ} (list : List (Repeated P)) → IsSorted (λ x y. ordering_then (by_bytes x.key y.key) (nat_cmp x.times y.times)) list → IsSorted by_bytes (all_keys list)
IsSorted-all list sorted =
    IsSorted-from_rises by_bytes (all_keys list) (Rises-all list (Rises-from_sorted nat_list_cmp_total (map (λ repeated. repeated.key) list) keys))
  where
    keys : IsSorted by_bytes (map (λ repeated. repeated.key) list)
    keys k d low below =
        let inside : k + 1 < length list = omega (arith, length-map list (λ repeated. repeated.key)) in
        let here : k < length list = omega arith in
        let one = get_or list 0 (record { key = d; times = 0 }) in
        (λ i. is_lt (by_bytes (get_or-map (λ repeated. repeated.key) list (k + 1) one d inside i) (get_or-map (λ repeated. repeated.key) list k one d here i)))
        ∙ key_first _ _ (sorted k one low inside)

-- keys of one kind
all_same : {P : ℕ} (key : List ℕ) (list : List (Repeated P)) → All (λ repeated. repeated.key ≡ key) list → all_keys list ≡ replicate (length (all_keys list)) key
all_same key [] same = refl
all_same {P} key (one ∷ list) same =
    let n = length (all_keys list) in
    let head : one.key ≡ key = All-head (λ (repeated : Repeated P). repeated.key ≡ key) one list same in
    let rest : all_keys list ≡ replicate n key = all_same key list (All-tail (λ (repeated : Repeated P). repeated.key ≡ key) one list same) in
    let number : one.times + n ≡ length (replicate one.times one.key ++ all_keys list) = omega (arith, length-append (replicate one.times one.key) (all_keys list), length-replicate one.times one.key) in
    (λ i. replicate one.times (head i) ++ rest i)
    ∙ replicate-append-replicate one.times n key
    ∙ ap (λ m. replicate m key) number

-- the first key of a list
first_key : {P : ℕ} (list : List (Repeated P)) (d : Repeated P) → All IsRepeated list → 0 < length list → get_or (all_keys list) 0 [] ≡ (get_or list 0 d).key
first_key [] d each some = absurd (omega arith)
first_key (one ∷ list) d each some =
    let reported = (All-head IsRepeated one list each).some in
    get_or_append_left (replicate one.times one.key) (all_keys list) [] 0 (omega (arith, length-replicate one.times one.key))
    ∙ get_or-replicate one.times 0 one.key [] reported

-- equal keys before others
run_of : (n : ℕ) (key : List ℕ) (rest : List (List ℕ)) → 0 < n → (0 < length rest → bytes_eq (get_or rest 0 []) key ≡ false) → runs by_bytes (replicate n key ++ rest) ≡ (key, n) ∷ runs by_bytes rest
run_of n key rest some ends =
    let keys = replicate n key ++ rest in
    let long : length (replicate n key) ≡ n = length-replicate n key in
    let all : length keys ≡ n + length rest = omega (arith, length-append (replicate n key) rest, long) in
    let at : (k : ℕ) → k < n → get_or keys k [] ≡ key = λ k below. get_or_append_left (replicate n key) rest [] k (omega (arith, long)) ∙ get_or-replicate n k key [] below in
    let place : n ≡ length (replicate n key) + 0 = omega (arith, long) in
    let next : get_or keys n [] ≡ get_or rest 0 [] = ap (λ m. get_or keys m []) place ∙ get_or-append-add (replicate n key) rest 0 [] in
    run_at keys n some (omega (arith, all))
    (λ k below. (λ i. bytes_eq (at k below i) (at 0 some i)) ∙ nat_list_eq_equiv.refl key)
    (λ below. (λ i. bytes_eq (next i) (at 0 some i)) ∙ ends (omega (arith, all)))
    ∙ (λ i. (at 0 some i, n) ∷ runs by_bytes (drop_at (replicate n key) rest n long i))

-- the run at the front, by what a walk found
pub run_in : {P : ℕ} (list : List (Repeated P)) (n : ℕ) (first : Repeated P) → All IsRepeated list → 0 < n → n ≤ length list
    → ((k : ℕ) (d : Repeated P) → k < n → bytes_eq (get_or list k d).key (get_or list 0 d).key ≡ true)
    → (n < length list → bytes_eq (get_or list n first).key (get_or list 0 first).key ≡ false)
    → runs by_bytes (all_keys list) ≡ ((get_or list 0 first).key, length (all_keys (take n list))) ∷ runs by_bytes (all_keys (drop n list))
run_in {P} list n first each some inside same ends =
    let key = (get_or list 0 first).key in
    let number = length (all_keys (take n list)) in
    let front : All (λ (repeated : Repeated P). repeated.key ≡ key) (take n list) =
    λ k d below.
    let low : k < n = omega (arith, length-take n list) in
    ap (λ (repeated : Repeated P). repeated.key) (get_or-take n list k d low)
    ∙ (bytes_eq-Decides (get_or list k d).key (get_or list 0 d).key).0 (same k d low)
    ∙ ap (λ (repeated : Repeated P). repeated.key) (get_or_default list 0 d first (omega arith)) in
    let whole : all_keys list ≡ replicate number key ++ all_keys (drop n list) = all_keys-parts n list ∙ ap (λ keys. keys ++ all_keys (drop n list)) (all_same key (take n list) front) in
    let one : length (all_keys (take (0 + 1) list)) ≡ length (all_keys (take 0 list)) + (get_or list 0 first).times = length-next list 0 first (omega arith) in
    let times : 0 < (get_or list 0 first).times = (All-get_or IsRepeated list 0 first (omega arith) each).some in
    ap (runs by_bytes) whole
    ∙ run_of number key (all_keys (drop n list)) (omega (arith, positive list n first each some inside))
    (λ later.
    let further : n < length list = behind list n later in
    (λ i. bytes_eq (next_key list n first each further i) key) ∙ ends further)
  where
    positive : {P : ℕ} (list : List (Repeated P)) (n : ℕ) (first : Repeated P) → All IsRepeated list → 0 < n → n ≤ length list → 0 < length (all_keys (take n list))
    positive list zero first each some inside = absurd (omega arith)
    positive [] (suc n) first each some inside = absurd (omega arith)
    positive (one ∷ list) (suc n) first each some inside =
        omega (arith, (All-head IsRepeated one list each).some, length-append (replicate one.times one.key) (all_keys (take n list)), length-replicate one.times one.key)

    behind : {P : ℕ} (list : List (Repeated P)) (n : ℕ) → 0 < length (all_keys (drop n list)) → n < length list
    behind list zero later = more list later
      where
        more : {P : ℕ} (list : List (Repeated P)) → 0 < length (all_keys list) → 0 < length list
        more [] later = absurd (omega arith)
        more (one ∷ list) later = omega arith
    behind [] (suc n) later = absurd (omega arith)
    behind (one ∷ list) (suc n) later = omega (arith, behind list n later)

    next_key : {P : ℕ} (list : List (Repeated P)) (n : ℕ) (first : Repeated P) → All IsRepeated list → n < length list → get_or (all_keys (drop n list)) 0 [] ≡ (get_or list n first).key
    next_key {P} list n first each further =
        let place : n + 0 ≡ n = omega arith in
        first_key (drop n list) first (λ k d below. subst IsRepeated (sym (get_or-drop n list k d)) (each (n + k) d (omega (arith, length-drop n list)))) (omega (arith, length-drop n list))
        ∙ ap (λ (repeated : Repeated P). repeated.key) (get_or-drop n list 0 first ∙ ap (λ m. get_or list m first) place)
