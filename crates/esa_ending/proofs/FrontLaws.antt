-- Lists that begin others, and what holds of each front of a computed trace.
use Rattle.std.proofs.Common.{inl, inr, ◌≡◌, ℕ, ◌+◌, ◌-◌, ◌*◌, ◌≤◌, ◌<◌, Bool, List, [], ◌∷◌, ◌++◌, length, map, take, refl, sym, ◌∙◌, ap, arith, append_assoc, append-nil, length-append, subst}
use Rattle.std.specs.Prelude.{◌⊎◌}
use Rattle.std.specs.List.{count_by, range_with_len}
use Rattle.std.proofs.lemmas.List.{map-append, length-map, take_at}
use Rattle.std.proofs.lemmas.List.FromFn.{length-range_with_len}
use Rattle.std.proofs.lemmas.List.Sums.{sum_by-append}
use Rattle.std.proofs.lemmas.List.Elements.{filter_map-append}
use Rattle.esa_params.specs.Sizes.{Sizes, below}
use Rattle.esa_params.specs.Slots.{greatest_trace}
use Rattle.esa_params.specs.declared.slot.Access.{Access}
use Rattle.esa_laws.proofs.FileLaws.{length-trace}
use Rattle.esa_laws.proofs.LengthLaws.{trace-le}
use Rattle.esa_laws.proofs.Ranges.{below-add}
use Rattle.esa_laws.proofs.Tests.{bit}
use Rattle.esa_spec.specs.Draws.{Draw}
use Rattle.esa_spec.specs.Files.{trace_bytes}
use Rattle.esa_spec.specs.Traces.{attempts, good_attempt, load, scans, trace, written_input, written_nonce, written_nonces}
use Rattle.esa_spec.specs.Fronts.{Begins}

pub whole : {X : Type 0} (xs ys : List X) → xs ≡ ys → Begins xs ys
whole xs ys same = ([], sym same ∙ sym (append-nil xs))

pub onward : {X : Type 0} (xs ys zs : List X) → Begins xs ys → Begins ys zs → Begins xs zs
onward xs ys zs b c = (b.0 ++ c.0, c.1 ∙ ap (λ y. y ++ c.0) b.1 ∙ append_assoc xs b.0 c.0)

pub joined-front : {X : Type 0} (xs ys : List X) → Begins xs (xs ++ ys)
joined-front xs ys = (ys, refl)

pub behind : {X : Type 0} (front xs ys : List X) → Begins xs ys → Begins (front ++ xs) (front ++ ys)
behind front xs ys b = (b.0, ap (λ y. front ++ y) b.1 ∙ sym (append_assoc front xs b.0))

-- the first element of a list, and the others
abbrev head-of : {X : Type 0} (d : X) → List X → X
head-of d [] = d
head-of d (x ∷ xs) = x

abbrev tail-of : {X : Type 0} → List X → List X
tail-of [] = []
tail-of (x ∷ xs) = xs

-- of two fronts of a list one begins the other
pub both-begin : {X : Type 0} (xs ys rest more : List X) → xs ++ rest ≡ ys ++ more → Begins xs ys ⊎ Begins ys xs
both-begin [] ys rest more e = inl (ys, refl)
both-begin (x ∷ xs) [] rest more e = inr (x ∷ xs, refl)
both-begin {X} (x ∷ xs) (y ∷ ys) rest more e =
    let heads : x ≡ y = ap (head-of x) e in
    let tails : xs ++ rest ≡ ys ++ more = ap tail-of e in
    by (both-begin xs ys rest more tails) heads
  where
    by : Begins xs ys ⊎ Begins ys xs → x ≡ y → Begins (x ∷ xs) (y ∷ ys) ⊎ Begins (y ∷ ys) (x ∷ xs)
    by (inl b) same = inl (b.0, ap (λ z. y ∷ z) b.1 ∙ ap (λ z. z ∷ xs ++ b.0) (sym same))
    by (inr b) same = inr (b.0, ap (λ z. x ∷ z) b.1 ∙ ap (λ z. z ∷ ys ++ b.0) same)

-- counts over a front
pub fewer : {X : Type 0} (f : X → Bool) (xs ys : List X) → Begins xs ys → count_by f xs ≤ count_by f ys
fewer f xs ys b = omega (arith, ap (count_by f) b.1, sum_by-append (λ x. bit (f x)) xs b.0)

pub shorter : {X : Type 0} (xs ys : List X) → Begins xs ys → length xs ≤ length ys
shorter xs ys b = omega (arith, ap length b.1, length-append xs b.0)

pub nonces-front : (xs ys : List Access) → Begins xs ys → Begins (written_nonces xs) (written_nonces ys)
nonces-front xs ys b = (written_nonces b.0, ap written_nonces b.1 ∙ filter_map-append written_nonce xs b.0)

-- the load, bucket by bucket
pub map-front : {X : Type 0} (f : ℕ → X) (m n : ℕ) → m ≤ n → Begins (map f (below m)) (map f (below n))
map-front f m n m_in =
    let sum : m + (n - m) ≡ n = omega arith in
    let more = range_with_len m (n - m) in
    (map f more, ap (λ y. map f (below y)) (sym sum) ∙ ap (map f) (below-add m (n - m)) ∙ map-append f (below m) more)

-- what begins the images of the first numbers is the images of the first of them
pub image-front : {X : Type 0} (f : ℕ → X) (n : ℕ) (xs : List X) → Begins xs (map f (below n)) → xs ≡ map f (below (length xs))
image-front f n xs b =
    let m = length xs in
    let few : m ≤ n = omega (arith, ap length b.1, length-append xs b.0, length-map (below n) f, length-range_with_len 0 n) in
    let images = map-front f m n few in
    let m_long : length (map f (below m)) ≡ m = length-map (below m) f ∙ length-range_with_len 0 m in
    sym (take_at xs b.0 m refl)
    ∙ ap (take m) (sym b.1 ∙ images.1)
    ∙ take_at (map f (below m)) images.0 m m_long

module _ (p : Sizes) (ds : ℕ → Draw) (hs : List (List ℕ)) where
  pub load-begins : Begins (load p) (trace p ds hs)
  load-begins = (attempts p ds 0 hs ++ scans p (good_attempt p ds 0 hs), append_assoc (load p) (attempts p ds 0 hs) (scans p (good_attempt p ds 0 hs)))

  pub load-front : (bucket : ℕ) (xs : List Access) → bucket < p.b → xs ≡ map (written_input p) (below bucket) → Begins xs (trace p ds hs)
  load-front bucket xs there e =
      subst (λ y. Begins y (trace p ds hs)) (sym e)
      (onward (map (written_input p) (below bucket)) (load p) (trace p ds hs) (map-front (written_input p) bucket p.b (omega arith)) load-begins)

  pub file-short : (xs : List Access) → length hs ≤ p.attempts → Begins xs (trace p ds hs) → length (trace_bytes xs) ≤ 9 + 19 * greatest_trace p
  file-short xs few b =
      let room = trace-le p ds hs few in
      let short = shorter xs (trace p ds hs) b in
      omega (arith, length-trace xs, room, short)
