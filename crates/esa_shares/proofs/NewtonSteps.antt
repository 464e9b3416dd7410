-- One step of each recursion over rows, column by column.
use Rattle.std.proofs.Common.{◌≡◌, ◌≢◌, ◌∙◌, ℕ, zero, suc, ◌+◌, ◌-◌, ◌*◌, ◌/◌, ◌<◌, List, [], ◌∷◌, ◌++◌, length, map, take, drop, get_or, refl, sym, ap, ap₂, subst, arith}
use Rattle.std.specs.Prelude.{All, flat_map, nat_eq}
use Rattle.std.specs.Int.RustNames.{bit_xor}
use Rattle.std.proofs.lemmas.Nat.{div-mul-add}
use Rattle.std.proofs.lemmas.Map.Keys.{IsDistinct-head, IsDistinct-tail}
use Rattle.std.proofs.lemmas.List.{get_or-take, length-take-le, length-drop, length-append, take-append-drop}
use Rattle.std.proofs.lemmas.Grind.{same_number_lists}
use Rattle.esa_shares.specs.Field.{times, inverse}
use Rattle.esa_shares.specs.Polynomial.{value, column, evaluated, ArePoints}
use Rattle.esa_shares.specs.Newton.{slopes, expanded, interpolated}
use Rattle.esa_shares.proofs.PolynomialLaws.{AreUnits, AreBytes, Misses, misses, heads, interpolates, through_zero, slopes_bytes, slopes_length}
use Rattle.esa_shares.proofs.SecretLaws.{units, column_first, column_bytes, column_length, column_evaluated, evaluated_length}

cons : {a b : ℕ} {xs ys : List ℕ} → a ≡ b → xs ≡ ys → (a ∷ xs) ≡ (b ∷ ys)
cons one more = ap₂ (λ (n : ℕ) (ns : List ℕ). n ∷ ns) one more

pub all_behind : (P : ℕ → Type 0) (x : ℕ) (xs points : List ℕ) → points ≡ x ∷ xs → All P points → All P xs
all_behind P x xs points are all = λ k d less. subst (All P) are all (suc k) d (omega (arith, less))

pub points_behind : (x : ℕ) (xs points : List ℕ) → points ≡ x ∷ xs → ArePoints points → ArePoints xs
points_behind x xs points are ok =
    let here = subst ArePoints are ok in
    record { distinct = IsDistinct-tail nat_eq x xs here.distinct; some = all_behind (λ z. 0 < z) x xs (x ∷ xs) refl here.some }

all_from : (x : ℕ) (xs : List ℕ) → Misses x xs → (k d : ℕ) → k < length xs → get_or xs k d ≢ x
all_from x [] misses k d less = absurd (omega (arith, less))
all_from x (z ∷ xs) misses zero d less = misses.0
all_from x (z ∷ xs) misses (suc k) d less = all_from x xs misses.1 k d (omega (arith, less))

pub head_of : (P : ℕ → Type 0) (x : ℕ) (xs points : List ℕ) → points ≡ x ∷ xs → All P points → P x
head_of P x xs points are all = subst (All P) are all 0 0 (omega arith)

pub head_small : (x : ℕ) (xs points : List ℕ) → points ≡ x ∷ xs → ((i : ℕ) → get_or points i 0 < 256) → x < 256
head_small x xs points are small = subst (λ ps. (i : ℕ) → get_or ps i 0 < 256) are small 0

-- a point is none of those behind it
pub head_apart : (x : ℕ) (xs points : List ℕ) → points ≡ x ∷ xs → ArePoints points → All (λ z. z ≢ x) xs
head_apart x xs points are ok = all_from x xs (misses x xs (IsDistinct-head nat_eq x xs (subst ArePoints are ok).distinct))

-- the rows behind the first
pub rows_behind : (size : ℕ) (others points old back : List ℕ) → length others + 1 ≡ length points → length old ≡ length points * size → back ≡ drop size old
    → length back ≡ length others * size
rows_behind size others points old back more whole is =
    let all : length old ≡ (length others + 1) * size = whole ∙ ap (λ n. n * size) (sym more) in
    ap length is ∙ length-drop size old ∙ omega (arith, all)

-- ---- slopes

pub slopes_none : (size y x f : ℕ) (points rows : List ℕ) → length points ≡ 0 → column size y (length points) rows ≡ slopes x f points (column size y (length points) rows)
unfolding slopes
slopes_none size y x f [] rows none = refl
slopes_none size y x f (p ∷ ps) rows none = cc

pub slopes_step : (size y x f point : ℕ) (others points old front back row rest : List ℕ) → points ≡ point ∷ others → y < size
    → front ≡ take size old → back ≡ drop size old → length row ≡ size
    → get_or row y 0 ≡ times (bit_xor (get_or front y 0) f) (inverse (bit_xor point x))
    → column size y (length others) rest ≡ slopes x f others (column size y (length others) back)
    → column size y (length points) (row ++ rest) ≡ slopes x f points (column size y (length points) old)
unfolding slopes
slopes_step size y x f point others points old front back row rest are less is_front is_back whole here behind =
    let first = ap (λ xs. get_or xs y 0) is_front ∙ get_or-take size old y 0 less in
    let step : column size y (suc (length others)) (row ++ rest) ≡ slopes x f (point ∷ others) (column size y (suc (length others)) old) =
    column_first size y (length others) row rest whole less
    ∙ cons (here ∙ ap (λ n. times (bit_xor n f) (inverse (bit_xor point x))) first)
    (behind ∙ ap (λ xs. slopes x f others (column size y (length others) xs)) is_back) in
    subst (λ ps. column size y (length ps) (row ++ rest) ≡ slopes x f ps (column size y (length ps) old)) (sym are) step

-- ---- products with a difference

pub expanded_none : (size y x behind : ℕ) (rows : List ℕ) → behind ≡ 0 → column size y (behind + 1) rows ≡ expanded x (column size y (behind + 1) rows)
unfolding expanded
expanded_none size y x behind rows none =
    subst (λ n. column size y (n + 1) rows ≡ expanded x (column size y (n + 1) rows)) (sym none) refl

pub expanded_more : (size y x behind : ℕ) (old front back row rest : List ℕ) → behind ≢ 0 → y < size
    → front ≡ take size old → back ≡ drop size old → length row ≡ size
    → get_or row y 0 ≡ bit_xor (get_or front y 0) (times (get_or (take size back) y 0) x)
    → column size y (behind - 1 + 1) rest ≡ expanded x (column size y (behind - 1 + 1) back)
    → column size y (behind + 1) (row ++ rest) ≡ expanded x (column size y (behind + 1) old)
unfolding expanded
expanded_more size y x zero old front back row rest some less is_front is_back whole here tail = absurd (some refl)
expanded_more size y x (suc m) old front back row rest some less is_front is_back whole here tail =
    let less_one : suc m - 1 + 1 ≡ suc m = omega arith in
    let one_more : suc m + 1 ≡ suc (suc m) = omega arith in
    let first = ap (λ xs. get_or xs y 0) is_front ∙ get_or-take size old y 0 less in
    let second = get_or-take size back y 0 less ∙ ap (λ xs. get_or xs y 0) is_back in
    let tail_here = subst (λ n. column size y n rest ≡ expanded x (column size y n back)) less_one tail ∙ ap (λ xs. expanded x (column size y (suc m) xs)) is_back in
    let step : column size y (suc (suc m)) (row ++ rest) ≡ expanded x (column size y (suc (suc m)) old) =
    column_first size y (suc m) row rest whole less
    ∙ cons (here ∙ ap₂ (λ a b. bit_xor a (times b x)) first second) tail_here in
    subst (λ n. column size y n (row ++ rest) ≡ expanded x (column size y n old)) (sym one_more) step

-- ---- interpolation

pub interpolated_none : (size y : ℕ) (points rows : List ℕ) → length points ≡ 0 → column size y (length points) rows ≡ interpolated points (column size y (length points) rows)
unfolding interpolated
interpolated_none size y [] rows none = refl
interpolated_none size y (p ∷ ps) rows none = cc

pub interpolated_step : (size y x : ℕ) (others points old front back sloped rest new : List ℕ) → points ≡ x ∷ others → y < size
    → front ≡ take size old → back ≡ drop size old → length front ≡ size
    → column (length front) y (length others) sloped ≡ slopes x (get_or front y 0) others (column (length front) y (length others) back)
    → column size y (length others) rest ≡ interpolated others (column size y (length others) sloped)
    → column size y (length others + 1) new ≡ expanded x (column size y (length others + 1) (front ++ rest))
    → column size y (length points) new ≡ interpolated points (column size y (length points) old)
unfolding interpolated
interpolated_step size y x others points old front back sloped rest new are less is_front is_back whole slope solved expand =
    let more : length others + 1 ≡ suc (length others) = omega arith in
    let first = ap (λ xs. get_or xs y 0) is_front ∙ get_or-take size old y 0 less in
    let sloping : column size y (length others) sloped ≡ slopes x (get_or front y 0) others (column size y (length others) back) =
    subst (λ n. column n y (length others) sloped ≡ slopes x (get_or front y 0) others (column n y (length others) back)) whole slope in
    let step : column size y (suc (length others)) new ≡ interpolated (x ∷ others) (column size y (suc (length others)) old) =
    subst (λ n. column size y n new ≡ expanded x (column size y n (front ++ rest))) more expand
    ∙ ap (expanded x) (column_first size y (length others) front rest whole less
    ∙ cons first (solved ∙ ap (interpolated others) (sloping ∙ ap₂ (λ a xs. slopes x a others (column size y (length others) xs)) first is_back))) in
    subst (λ ps. column size y (length ps) new ≡ interpolated ps (column size y (length ps) old)) (sym are) step

-- ---- the shares that the coefficients give

pub same_columns : (size n : ℕ) (xs ys : List ℕ) → length xs ≡ n * size → length ys ≡ n * size → ((y : ℕ) → y < size → column size y n xs ≡ column size y n ys) → xs ≡ ys
same_columns size zero xs ys of_xs of_ys same = same_number_lists xs ys (omega (arith, of_xs, of_ys)) (λ k less. absurd (omega (arith, less, of_xs)))
same_columns size (suc n) xs ys of_xs of_ys same =
    let front : take size xs ≡ take size ys =
    same_number_lists _ _ (length-take-le size xs (omega (arith, of_xs)) ∙ sym (length-take-le size ys (omega (arith, of_ys))))
    (λ k less.
    let inside : k < size = omega (arith, less, length-take-le size xs (omega (arith, of_xs))) in
    get_or-take size xs k 0 inside ∙ (heads (same k inside)).0 ∙ sym (get_or-take size ys k 0 inside)) in
    let back = same_columns size n (drop size xs) (drop size ys) (length-drop size xs ∙ omega (arith, of_xs)) (length-drop size ys ∙ omega (arith, of_ys))
    (λ y less. (heads (same y less)).1) in
    sym (take-append-drop size xs) ∙ ap₂ (λ (a b : List ℕ). a ++ b) front back ∙ take-append-drop size ys

evaluated_all : (secret coefs points : List ℕ) → length (flat_map (evaluated secret coefs) points) ≡ length points * length secret
evaluated_all secret coefs [] = omega arith
evaluated_all secret coefs (x ∷ xs) =
    length-append (evaluated secret coefs x) (flat_map (evaluated secret coefs) xs)
    ∙ ap₂ (λ a b. a + b) (evaluated_length secret coefs x) (evaluated_all secret coefs xs) ∙ omega arith

gives : (secret coefs points vs : List ℕ) (y : ℕ) → get_or secret y 0 < 256 → AreUnits points → AreBytes vs → length points ≡ length vs
    → column (length secret) y (length coefs / length secret) coefs ≡ interpolated points (slopes 0 (get_or secret y 0) points vs)
    → map (value (get_or secret y 0 ∷ column (length secret) y (length coefs / length secret) coefs)) points ≡ vs
gives secret coefs points vs y small units bytes same is =
    let first = get_or secret y 0 in
    let slope = slopes 0 first points vs in
    through_zero first _ points vs small units.0 bytes same
    (ap (λ q. map (value q) points) is ∙ interpolates points slope units (slopes_bytes 0 first points vs) (sym (slopes_length 0 first points vs same)))

pub explained : (secret points shares sloped coefs : List ℕ) → 0 < length secret → ArePoints points
    → ((i : ℕ) → get_or points i 0 < 256) → ((i : ℕ) → get_or secret i 0 < 256) → ((i : ℕ) → get_or shares i 0 < 256)
    → length shares ≡ length points * length secret → length coefs ≡ length shares
    → ((y : ℕ) → y < length secret → column (length secret) y (length points) sloped ≡ slopes 0 (get_or secret y 0) points (column (length secret) y (length points) shares))
    → ((y : ℕ) → y < length secret → column (length secret) y (length points) coefs ≡ interpolated points (column (length secret) y (length points) sloped))
    → flat_map (evaluated secret coefs) points ≡ shares
explained secret points shares sloped coefs some are small_points small_secret small_shares whole same slope solved =
    let size = length secret in
    let n = length points in
    let all : length coefs ≡ n * size + 0 = same ∙ whole ∙ omega arith in
    let number : length coefs / size ≡ n = ap (λ k. k / size) all ∙ div-mul-add n size 0 some in
    same_columns size n (flat_map (evaluated secret coefs) points) shares (evaluated_all secret coefs points) whole
    (λ y less.
    column_evaluated secret coefs y less points
    ∙ gives secret coefs points (column size y n shares) y (small_secret y) (units points are small_points) (column_bytes size y n shares small_shares)
    (sym (column_length size y n shares))
    (ap (λ k. column size y k coefs) number ∙ solved y less ∙ ap (interpolated points) (slope y less)))
