-- Lagrange's interpolation at 0 gives back the constant of a polynomial, and Newton's gives a polynomial.
use Rattle.std.proofs.Common.{◌≡◌, ◌≢◌, ◌∙◌, ℕ, zero, suc, ◌+◌, ◌<◌, ◌≤◌, false, List, [], ◌∷◌, length, map, refl, sym, ap, ap₂, subst, arith}
use Rattle.std.specs.Prelude.{nat_eq, cond}
use Rattle.std.specs.Int.RustNames.{bit_xor}
use Rattle.std.specs.List.{IsDistinct, AllByRecursion}
use Rattle.std.proofs.lemmas.Bool.{eq-eqb, eqb-false, ne_eqb}
use Rattle.std.proofs.lemmas.Nat.{xor_comm, xor_of_8}
use Rattle.std.proofs.lemmas.Map.Keys.{IsDistinct-head, IsDistinct-tail}
use lib.Bits.{xor_assoc, xor_self, xor_zero_r}
use Rattle.esa_shares.specs.Field.{times, inverse}
use Rattle.esa_shares.specs.Polynomial.{value, factor, weight, combined}
use Rattle.esa_shares.specs.Newton.{slopes, expanded, interpolated}
use Rattle.esa_shares.proofs.FieldLaws.{swapped, times_below, times_comm, times_assoc, sum_times, times_sum, times_one, one_times, times_zero, zero_times, times_turned, times_inverse, inverse_below}

-- an element with an inverse
pub record IsUnit (x : ℕ) : Type 0 where
  pub some : 0 < x
  pub small : x < 256

pub xor_back : (a b : ℕ) → bit_xor (bit_xor a b) b ≡ a
xor_back a b = xor_assoc a b b ∙ ap (bit_xor a) (xor_self b) ∙ xor_zero_r a

-- two elements that differ have a difference with an inverse
pub differ : (a b : ℕ) → a < 256 → b < 256 → a ≢ b → IsUnit (bit_xor a b)
differ a b small_a small_b apart = record { small = xor_of_8 a b small_a small_b; some = some (bit_xor a b) refl } where
  some : (n : ℕ) → bit_xor a b ≡ n → 0 < n
  some zero is = absurd (apart (sym (xor_back a b) ∙ ap (λ d. bit_xor d b) is))
  some (suc n) is = omega arith

-- ---- factors

pub factor_apart : (x other : ℕ) → other ≢ x → factor x other ≡ times other (inverse (bit_xor other x))
factor_apart x other apart = ap (λ same. cond same 1 (times other (inverse (bit_xor other x)))) (ne_eqb other x apart)

pub factor_same : (x : ℕ) → factor x x ≡ 1
factor_same x = ap (λ same. cond same 1 (times x (inverse (bit_xor x x)))) (eq-eqb x x refl)

-- two inverses multiply to the inverse of the sum times their sum
inverses : (u v : ℕ) → IsUnit u → IsUnit v → IsUnit (bit_xor u v)
    → times (inverse u) (inverse v) ≡ times (inverse (bit_xor u v)) (bit_xor (inverse u) (inverse v))
inverses u v is_u is_v is_s =
    let i = inverse u in
    let j = inverse v in
    let s = bit_xor u v in
    let first : times u (times i j) ≡ j =
    sym (times_assoc u i j) ∙ ap (λ n. times n j) (times_inverse u is_u.small is_u.some) ∙ times_one j (inverse_below v) in
    let second : times v (times i j) ≡ i =
    times_turned v i j ∙ ap (times i) (times_inverse v is_v.small is_v.some) ∙ one_times i (inverse_below u) in
    let both : times s (times i j) ≡ bit_xor i j = sum_times u v (times i j) ∙ ap₂ bit_xor first second ∙ xor_comm j i in
    sym (ap (times (inverse s)) (sym both) ∙ sym (times_assoc (inverse s) s (times i j))
    ∙ ap (λ n. times n (times i j)) (times_comm (inverse s) s ∙ times_inverse s is_s.small is_s.some) ∙ times_one (times i j) (times_below i j))

-- the fractions of two points in one
fractions : (a x y : ℕ) → a < 256 → x < 256 → y < 256 → x ≢ a → y ≢ x → y ≢ a
    → times (factor a x) (factor x y) ≡ times (factor a y) (bit_xor (factor a x) (factor y x))
fractions a x y small_a small_x small_y x_a y_x y_a =
    let u = bit_xor x a in
    let v = bit_xor y x in
    let sum : bit_xor u v ≡ bit_xor y a = xor_comm u v ∙ xor_assoc y x u ∙ ap (bit_xor y) (sym (xor_assoc x x a) ∙ ap (λ n. bit_xor n a) (xor_self x)) in
    let is_u = differ x a small_x small_a x_a in
    let is_v = differ y x small_y small_x y_x in
    let is_s = subst IsUnit (sym sum) (differ y a small_y small_a y_a) in
    let i = inverse u in
    let j = inverse v in
    let k = inverse (bit_xor y a) in
    let one : times i j ≡ times k (bit_xor i j) = inverses u v is_u is_v is_s ∙ ap (λ n. times (inverse n) (bit_xor i j)) sum in
    let left : times (factor a x) (factor x y) ≡ times x (times y (times i j)) =
    ap₂ times (factor_apart a x x_a) (factor_apart x y y_x) ∙ times_assoc x i (times y j) ∙ ap (times x) (times_turned i y j) in
    let x_y : x ≢ y = λ is. y_x (sym is) in
    let turned : factor y x ≡ times x j = factor_apart y x x_y ∙ ap (λ n. times x (inverse n)) (xor_comm x y) in
    let right : times (factor a y) (bit_xor (factor a x) (factor y x)) ≡ times y (times x (times k (bit_xor i j))) =
    ap₂ times (factor_apart a y y_a) (ap₂ bit_xor (factor_apart a x x_a) turned ∙ sym (times_sum x i j))
    ∙ times_assoc y k (times x (bit_xor i j)) ∙ ap (times y) (times_turned k x (bit_xor i j)) in
    left ∙ times_turned x y (times i j) ∙ ap (λ n. times y (times x n)) one ∙ sym right

-- ---- sums over points

pub weight_below : (x : ℕ) (points : List ℕ) → weight x points < 256
weight_below x [] = omega arith
weight_below x (point ∷ points) = times_below (factor x point) (weight x points)

-- the sum over xs of a function's values, each times the weight of its point
pub spread : List ℕ → List ℕ → (ℕ → ℕ) → ℕ
spread points [] f = 0
spread points (x ∷ xs) f = bit_xor (times (f x) (weight x points)) (spread points xs f)

pub combined_spread : (points xs : List ℕ) (f : ℕ → ℕ) → combined points xs (map f xs) ≡ spread points xs f
unfolding spread
combined_spread points [] f = refl
combined_spread points (x ∷ xs) f = ap (bit_xor (times (f x) (weight x points))) (combined_spread points xs f)

spread_same : (points : List ℕ) (f g : ℕ → ℕ) (xs : List ℕ) → AllByRecursion (λ x. f x ≡ g x) xs → spread points xs f ≡ spread points xs g
unfolding spread
spread_same points f g [] same = refl
spread_same points f g (x ∷ xs) same = ap₂ bit_xor (ap (λ n. times n (weight x points)) same.0) (spread_same points f g xs same.1)

spread_more : (point : ℕ) (points : List ℕ) (f : ℕ → ℕ) (xs : List ℕ) → spread (point ∷ points) xs f ≡ spread points xs (λ x. times (f x) (factor x point))
unfolding spread
spread_more point points f [] = refl
spread_more point points f (x ∷ xs) = ap₂ bit_xor (sym (times_assoc (f x) (factor x point) (weight x points))) (spread_more point points f xs)

spread_scaled : (points : List ℕ) (c : ℕ) (f : ℕ → ℕ) (xs : List ℕ) → spread points xs (λ x. times c (f x)) ≡ times c (spread points xs f)
unfolding spread
spread_scaled points c f [] = sym (times_zero c)
spread_scaled points c f (x ∷ xs) =
    ap₂ bit_xor (times_assoc c (f x) (weight x points)) (spread_scaled points c f xs)
    ∙ sym (times_sum c (times (f x) (weight x points)) (spread points xs f))

spread_sum : (points : List ℕ) (f g : ℕ → ℕ) (xs : List ℕ) → spread points xs (λ x. bit_xor (f x) (g x)) ≡ bit_xor (spread points xs f) (spread points xs g)
unfolding spread
spread_sum points f g [] = refl
spread_sum points f g (x ∷ xs) =
    let w = weight x points in
    ap₂ bit_xor (sum_times (f x) (g x) w) (spread_sum points f g xs)
    ∙ swapped (times (f x) w) (times (g x) w) (spread points xs f) (spread points xs g)

-- ---- partial fractions

-- units, no two of them equal
abbrev pub AreUnits : List ℕ → Type 0
AreUnits points = AllByRecursion IsUnit points × IsDistinct nat_eq points

-- a is none of the points
abbrev pub Misses : ℕ → List ℕ → Type 0
Misses a points = AllByRecursion (λ x. x ≢ a) points

pub misses : (a : ℕ) (points : List ℕ) → AllByRecursion (λ x. nat_eq a x ≡ false) points → Misses a points
misses a [] apart = tt
misses a (x ∷ xs) apart = ((λ is. eqb-false a x apart.0 (sym is)), misses a xs apart.1)

pub head_misses : (x : ℕ) (xs : List ℕ) → AreUnits (x ∷ xs) → Misses x xs
head_misses x xs are = misses x xs (IsDistinct-head nat_eq x xs are.1)

behind : (x : ℕ) (xs : List ℕ) → AreUnits (x ∷ xs) → AreUnits xs
behind x xs are = (are.0.1, IsDistinct-tail nat_eq x xs are.1)

fractions_each : (a y : ℕ) (xs : List ℕ) → a < 256 → y < 256 → y ≢ a → Misses a xs → Misses y xs → AllByRecursion IsUnit xs
    → AllByRecursion (λ x. times (factor a x) (factor x y) ≡ times (factor a y) (bit_xor (factor a x) (factor y x))) xs
fractions_each a y [] small_a small_y y_a of_a of_y units = tt
fractions_each a y (x ∷ xs) small_a small_y y_a of_a of_y units = (
  fractions a x y small_a units.0.small small_y of_a.0 (λ is. of_y.0 (sym is)) y_a,
  fractions_each a y xs small_a small_y y_a of_a.1 of_y.1 units.1,
)

weight_first : (x : ℕ) (xs : List ℕ) → weight x (x ∷ xs) ≡ weight x xs
weight_first x xs = ap (λ n. times n (weight x xs)) (factor_same x) ∙ times_one (weight x xs) (weight_below x xs)

-- the weight of a point more is the sum over the points of its fractions
partial : (a x : ℕ) (more : List ℕ) → a < 256 → Misses a (x ∷ more) → AreUnits (x ∷ more)
    → spread (x ∷ more) (x ∷ more) (factor a) ≡ weight a (x ∷ more)
unfolding spread
partial a x [] small others are = xor_zero_r _ ∙ ap (times (factor a x)) (weight_first x [])
partial a x (y ∷ more) small others are =
    let rest = y ∷ more in
    let f = factor a x in
    let of_a = weight a rest in
    let of_x = weight x rest in
    let units = behind x rest are in
    let apart = head_misses x rest are in
    let terms = spread_more x rest (factor a) rest
    ∙ spread_same rest _ _ rest (fractions_each a x rest small are.0.0.small others.0 others.1 apart are.0.1)
    ∙ spread_scaled rest f (λ z. bit_xor (factor a z) (factor x z)) rest
    ∙ ap (times f) (spread_sum rest (factor a) (factor x) rest
    ∙ ap₂ bit_xor (partial a y more small others.1 units) (partial x y more are.0.0.small apart units)) in
    ap₂ bit_xor (ap (times f) (weight_first x rest)) terms
    ∙ sym (times_sum f of_x (bit_xor of_a of_x))
    ∙ ap (times f) (xor_comm of_x (bit_xor of_a of_x) ∙ xor_back of_a of_x)

factor_at_zero : (x : ℕ) → IsUnit x → factor 0 x ≡ 1
factor_at_zero x is =
    let apart : x ≢ 0 = λ none. omega (arith, none, is.some) in
    factor_apart 0 x apart ∙ ap (λ n. times x (inverse n)) (xor_zero_r x) ∙ times_inverse x is.small is.some

units_miss_zero : (xs : List ℕ) → AllByRecursion IsUnit xs → Misses 0 xs
units_miss_zero [] are = tt
units_miss_zero (x ∷ xs) are = ((λ none. omega (arith, none, are.0.some)), units_miss_zero xs are.1)

weight_at_zero : (xs : List ℕ) → AllByRecursion IsUnit xs → weight 0 xs ≡ 1
weight_at_zero [] are = refl
weight_at_zero (x ∷ xs) are = ap₂ times (factor_at_zero x are.0) (weight_at_zero xs are.1) ∙ times_one 1 (omega arith)

ones_at_zero : (xs : List ℕ) → AllByRecursion IsUnit xs → AllByRecursion (λ x. 1 ≡ factor 0 x) xs
ones_at_zero [] are = tt
ones_at_zero (x ∷ xs) are = (sym (factor_at_zero x are.0), ones_at_zero xs are.1)

-- the weights add up to 1
weights_are_one : (x : ℕ) (more : List ℕ) → AreUnits (x ∷ more) → spread (x ∷ more) (x ∷ more) (λ z. 1) ≡ 1
weights_are_one x more are =
    spread_same (x ∷ more) (λ z. 1) (factor 0) (x ∷ more) (ones_at_zero (x ∷ more) are.0)
    ∙ partial 0 x more (omega arith) (units_miss_zero (x ∷ more) are.0) are
    ∙ weight_at_zero (x ∷ more) are.0

-- ---- division by x minus a point

abbrev pub AreBytes : List ℕ → Type 0
AreBytes xs = AllByRecursion (λ c. c < 256) xs

pub value_below : (p : List ℕ) (x : ℕ) → AreBytes p → value p x < 256
value_below [] x bytes = omega arith
value_below (c ∷ more) x bytes = xor_of_8 c (times x (value more x)) bytes.0 (times_below x (value more x))

pub quotient : ℕ → List ℕ → List ℕ
quotient x [] = []
quotient x (c ∷ []) = []
quotient x (c ∷ d ∷ more) = value (d ∷ more) x ∷ quotient x (d ∷ more)

quotient_shorter : (x c : ℕ) (more : List ℕ) → length (quotient x (c ∷ more)) ≤ length more
unfolding quotient
quotient_shorter x c [] = omega arith
quotient_shorter x c (d ∷ more) = let less = quotient_shorter x d more in omega (arith, less)

quotient_bytes : (x : ℕ) (p : List ℕ) → AreBytes p → AreBytes (quotient x p)
unfolding quotient
quotient_bytes x [] bytes = tt
quotient_bytes x (c ∷ []) bytes = tt
quotient_bytes x (c ∷ d ∷ more) bytes = (value_below (d ∷ more) x bytes.1, quotient_bytes x (d ∷ more) bytes.1)

-- the sums of one step: c + x (r + (x + a) q) is c + a r, and (x + a) (r + x q)
one_step : (c x a r q : ℕ) → bit_xor c (times x (bit_xor r (times (bit_xor x a) q))) ≡ bit_xor (bit_xor c (times a r)) (times (bit_xor x a) (bit_xor r (times x q)))
one_step c x a r q =
    let s = bit_xor x a in
    let left = times_sum x r (times s q) ∙ ap (bit_xor (times x r)) (times_turned x s q) in
    let right : times s (bit_xor r (times x q)) ≡ bit_xor (bit_xor (times x r) (times a r)) (times s (times x q)) =
    times_sum s r (times x q) ∙ ap (λ n. bit_xor n (times s (times x q))) (sum_times x a r) in
    let t = times s (times x q) in
    let gone : bit_xor (times a r) (bit_xor (bit_xor (times x r) (times a r)) t) ≡ bit_xor (times x r) t =
    sym (xor_assoc (times a r) (bit_xor (times x r) (times a r)) t)
    ∙ ap (λ n. bit_xor n t) (xor_comm (times a r) (bit_xor (times x r) (times a r)) ∙ xor_back (times x r) (times a r)) in
    ap (bit_xor c) (left ∙ sym gone ∙ ap (bit_xor (times a r)) (sym right)) ∙ sym (xor_assoc c (times a r) (times s (bit_xor r (times x q))))

pub divides : (a x : ℕ) (p : List ℕ) → value p x ≡ bit_xor (value p a) (times (bit_xor x a) (value (quotient a p) x))
unfolding quotient
divides a x [] = sym (times_zero (bit_xor x a))
divides a x (c ∷ []) =
    ap (bit_xor c) (times_zero x ∙ sym (times_zero a)) ∙ sym (ap (bit_xor (bit_xor c (times a 0))) (times_zero (bit_xor x a)) ∙ xor_zero_r (bit_xor c (times a 0)))
divides a x (c ∷ d ∷ more) =
    let r = value (d ∷ more) a in
    let q = value (quotient a (d ∷ more)) x in
    ap (λ n. bit_xor c (times x n)) (divides a x (d ∷ more)) ∙ one_step c x a r q

-- ---- Lagrange's interpolation at 0

cancelled : (y x q : ℕ) → IsUnit x → IsUnit y → y ≢ x → times (times (bit_xor x y) q) (factor x y) ≡ times y q
cancelled y x q is_x is_y apart =
    let s = bit_xor x y in
    let is = differ x y is_x.small is_y.small (λ same. apart (sym same)) in
    ap (times (times s q)) (factor_apart x y apart ∙ ap (λ n. times y (inverse n)) (xor_comm y x))
    ∙ times_turned (times s q) y (inverse s)
    ∙ ap (times y) (ap (λ n. times n (inverse s)) (times_comm s q) ∙ times_assoc q s (inverse s) ∙ ap (times q) (times_inverse s is.small is.some))
    ∙ ap (times y) (times_comm q 1) ∙ sym (times_assoc y 1 q) ∙ ap (λ n. times n q) (one_times y is_y.small)

cancelled_each : (y : ℕ) (f : ℕ → ℕ) (xs : List ℕ) → IsUnit y → Misses y xs → AllByRecursion IsUnit xs
    → AllByRecursion (λ x. times (times (bit_xor x y) (f x)) (factor x y) ≡ times y (f x)) xs
cancelled_each y f [] is_y apart units = tt
cancelled_each y f (x ∷ xs) is_y apart units =
    (cancelled y x (f x) units.0 is_y (λ same. apart.0 (sym same)), cancelled_each y f xs is_y apart.1 units.1)

fewer : (x : ℕ) (p : List ℕ) (n : ℕ) → length p ≤ n + 1 → length (quotient x p) ≤ n
unfolding quotient
fewer x [] n few = omega arith
fewer x (c ∷ more) n few = let less = quotient_shorter x c more in omega (arith, less, few)

divided_each : (a : ℕ) (p : List ℕ) → AreBytes p → (xs : List ℕ)
    → AllByRecursion (λ z. value p z ≡ bit_xor (times (value p a) 1) (times (bit_xor z a) (value (quotient a p) z))) xs
divided_each a p bytes [] = tt
divided_each a p bytes (x ∷ xs) = (
  divides a x p ∙ ap (λ r. bit_xor r (times (bit_xor x a) (value (quotient a p) x))) (sym (one_times (value p a) (value_below p a bytes))),
  divided_each a p bytes xs,
)

pub lagrange : (points p : List ℕ) → AreUnits points → AreBytes p → length p ≤ length points → spread points points (value p) ≡ value p 0
unfolding spread
lagrange [] [] are bytes few = refl
lagrange [] (c ∷ p) are bytes few = absurd (omega (arith, few))
lagrange (x ∷ rest) p are bytes few =
    let r = value p x in
    let q = quotient x p in
    let points = x ∷ rest in
    let one : spread points points (λ z. times r 1) ≡ r =
    spread_scaled points r (λ z. 1) points ∙ ap (times r) (weights_are_one x rest are) ∙ one_times r (value_below p x bytes) in
    let first : times (times (bit_xor x x) (value q x)) (weight x points) ≡ 0 =
    ap (λ n. times (times n (value q x)) (weight x points)) (xor_self x) ∙ ap (λ n. times n (weight x points)) (zero_times (value q x)) ∙ zero_times (weight x points) in
    let others : spread points rest (λ z. times (bit_xor z x) (value q z)) ≡ times x (value q 0) =
    spread_more x rest (λ z. times (bit_xor z x) (value q z)) rest
    ∙ spread_same rest _ _ rest (cancelled_each x (value q) rest are.0.0 (head_misses x rest are) are.0.1)
    ∙ spread_scaled rest x (value q) rest
    ∙ ap (times x) (lagrange rest q (behind x rest are) (quotient_bytes x p bytes) (fewer x p (length rest) (omega (arith, few)))) in
    spread_same points _ _ points (divided_each x p bytes points)
    ∙ spread_sum points (λ z. times r 1) (λ z. times (bit_xor z x) (value q z)) points
    ∙ ap₂ bit_xor one (ap₂ bit_xor first others)
    ∙ sym (divides x 0 p)

-- ---- Newton's interpolation

-- the sum of one step: (y + c x) + z (c + (z + x) q) is y + (z + x) (c + z q)
expanded_step : (x y z c q : ℕ) → bit_xor (bit_xor y (times c x)) (times z (bit_xor c (times (bit_xor z x) q))) ≡ bit_xor y (times (bit_xor z x) (bit_xor c (times z q)))
expanded_step x y z c q =
    ap (λ n. bit_xor (bit_xor y n) (times z (bit_xor c (times (bit_xor z x) q)))) (times_comm c x)
    ∙ xor_assoc y (times x c) (times z (bit_xor c (times (bit_xor z x) q)))
    ∙ ap (bit_xor y) (one_step (times x c) z x c q ∙ ap (λ n. bit_xor n (times (bit_xor z x) (bit_xor c (times z q)))) (xor_self (times x c)))

pub expanded_value : (x y z : ℕ) (q : List ℕ) → value (expanded x (y ∷ q)) z ≡ bit_xor y (times (bit_xor z x) (value q z))
unfolding expanded
expanded_value x y z [] = ap (bit_xor y) (times_zero z ∙ sym (times_zero (bit_xor z x)))
expanded_value x y z (c ∷ more) =
    ap (λ n. bit_xor (bit_xor y (times c x)) (times z n)) (expanded_value x c z more) ∙ expanded_step x y z c (value more z)

-- a value that a slope gives back
sloped : (x y z v : ℕ) → x < 256 → IsUnit z → z ≢ x → y < 256 → v < 256
    → bit_xor y (times (bit_xor z x) (times (bit_xor v y) (inverse (bit_xor z x)))) ≡ v
sloped x y z v small_x is_z apart small_y small_v =
    let s = bit_xor z x in
    let d = bit_xor v y in
    let is = differ z x is_z.small small_x apart in
    ap (bit_xor y) (times_turned s d (inverse s) ∙ ap (times d) (times_inverse s is.small is.some) ∙ one_times d (xor_of_8 v y small_v small_y))
    ∙ xor_comm y d ∙ xor_back v y

pub slopes_bytes : (x y : ℕ) (xs ys : List ℕ) → AreBytes (slopes x y xs ys)
unfolding slopes
slopes_bytes x y [] ys = tt
slopes_bytes x y (z ∷ xs) [] = tt
slopes_bytes x y (z ∷ xs) (v ∷ ys) = (times_below (bit_xor v y) (inverse (bit_xor z x)), slopes_bytes x y xs ys)

pub slopes_length : (x y : ℕ) (xs ys : List ℕ) → length xs ≡ length ys → length (slopes x y xs ys) ≡ length xs
unfolding slopes
slopes_length x y [] ys same = refl
slopes_length x y (z ∷ xs) [] same = cc
slopes_length x y (z ∷ xs) (v ∷ ys) same = ap suc (slopes_length x y xs ys (omega (arith, same)))

pub heads : {a b : ℕ} {xs ys : List ℕ} → (a ∷ xs) ≡ (b ∷ ys) → (a ≡ b) × (xs ≡ ys)
heads same = (cc, cc)

-- where the quotient has the slopes as values, the polynomial has the values
through : (x y : ℕ) (q : List ℕ) (xs ys : List ℕ) → IsUnit x → y < 256 → Misses x xs → AllByRecursion IsUnit xs → AreBytes ys → length xs ≡ length ys
    → map (value q) xs ≡ slopes x y xs ys → map (value (expanded x (y ∷ q))) xs ≡ ys
unfolding slopes
through x y q [] [] is_x small apart units bytes same slope = refl
through x y q [] (v ∷ ys) is_x small apart units bytes same slope = cc
through x y q (z ∷ xs) [] is_x small apart units bytes same slope = cc
through x y q (z ∷ xs) (v ∷ ys) is_x small apart units bytes same slope =
    let parts = heads slope in
    ap₂ (λ (n : ℕ) (ns : List ℕ). n ∷ ns)
    (expanded_value x y z q ∙ ap (λ n. bit_xor y (times (bit_xor z x) n)) parts.0 ∙ sloped x y z v is_x.small units.0 apart.0 small bytes.0)
    (through x y q xs ys is_x small apart.1 units.1 bytes.1 (omega (arith, same)) parts.1)

pub interpolates : (xs ys : List ℕ) → AreUnits xs → AreBytes ys → length xs ≡ length ys → map (value (interpolated xs ys)) xs ≡ ys
unfolding interpolated
interpolates [] [] are bytes same = refl
interpolates [] (v ∷ ys) are bytes same = cc
interpolates (x ∷ xs) [] are bytes same = cc
interpolates (x ∷ xs) (y ∷ ys) are bytes same =
    let less : length xs ≡ length ys = omega (arith, same) in
    let q = interpolated xs (slopes x y xs ys) in
    let at = interpolates xs (slopes x y xs ys) (behind x xs are) (slopes_bytes x y xs ys) (sym (slopes_length x y xs ys less)) in
    ap₂ (λ (n : ℕ) (ns : List ℕ). n ∷ ns)
    (expanded_value x y x q ∙ ap (λ n. bit_xor y (times n (value q x))) (xor_self x) ∙ ap (bit_xor y) (zero_times (value q x)) ∙ xor_zero_r y)
    (through x y q xs ys are.0.0 bytes.0 (head_misses x xs are) are.0.1 bytes.1 less at)

-- where a polynomial has the slopes from the value at 0, it is that of the further coefficients
pub through_zero : (y : ℕ) (q xs ys : List ℕ) → y < 256 → AllByRecursion IsUnit xs → AreBytes ys → length xs ≡ length ys
    → map (value q) xs ≡ slopes 0 y xs ys → map (value (y ∷ q)) xs ≡ ys
unfolding slopes
through_zero y q [] [] small units bytes same slope = refl
through_zero y q [] (v ∷ ys) small units bytes same slope = cc
through_zero y q (z ∷ xs) [] small units bytes same slope = cc
through_zero y q (z ∷ xs) (v ∷ ys) small units bytes same slope =
    let parts = heads slope in
    let apart : z ≢ 0 = λ none. omega (arith, none, units.0.some) in
    ap₂ (λ (n : ℕ) (ns : List ℕ). n ∷ ns)
    (ap (bit_xor y) (ap₂ times (sym (xor_zero_r z)) parts.0) ∙ sloped 0 y z v (omega arith) units.0 apart small bytes.0)
    (through_zero y q xs ys small units.1 bytes.1 (omega (arith, same)) parts.1)
