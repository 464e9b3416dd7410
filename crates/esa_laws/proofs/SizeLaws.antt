-- The buckets cover all places, and so do the targets.
use Rattle.std.proofs.Common.{◌≡◌, ℕ, zero, suc, ◌+◌, ◌*◌, ◌≤◌, ◌<◌, true, List, [], ◌∷◌, ◌++◌, length, map, refl, sym, ◌∙◌, ap, arith, add-one, length-take}
use Rattle.std.specs.List.{count_by, sum_by, All}
use Rattle.std.specs.Prelude.{nat_lt}
use Rattle.std.proofs.lemmas.Bool.{lt-ltb}
use Rattle.std.proofs.lemmas.List.Sums.{sum_by-cons}
use Rattle.esa_laws.proofs.Tests.{bit}
use Rattle.esa_params.specs.Sizes.{Sizes, share, first, size, below}
use Rattle.esa_laws.proofs.LineLaws.{length-batches}
use Rattle.esa_laws.proofs.QueueLaws.{batch, leaving-more}
use Rattle.esa_laws.proofs.Ranges.{sum-below-suc, sum-below-same}
use Rattle.esa_laws.proofs.Sums.{sum-of-map, sum-of-flat_map}
use Rattle.esa_spec.specs.Draws.{Draw, IsDrawn}
use Rattle.esa_spec.specs.Lines.{batches, chunk}
use Rattle.esa_spec.specs.Queue.{queue}
use Rattle.esa_spec.specs.Verdicts.{is_below, reached}

pub first-zero : (p : Sizes) → first p 0 ≡ 0
first-zero p = omega arith

pub first-more : (p : Sizes) (j : ℕ) → first p (j + 1) ≡ first p j + size p j
first-more p j = omega arith

pub first-all : (p : Sizes) → 1 ≤ p.b → first p p.b ≡ p.n
first-all p some = omega arith

-- no bucket has more places than the first one
pub size-first : (p : Sizes) (j : ℕ) → size p j ≤ size p 0
size-first p j =
    let next : (j + 1) * share p ≡ j * share p + share p = omega arith in
    let one : (0 + 1) * share p ≡ share p = omega arith in
    omega arith

sizes-sum : (p : Sizes) (m : ℕ) → sum_by (size p) (below m) ≡ first p m
sizes-sum p zero = sym (first-zero p)
sizes-sum p (suc m) = omega (arith, sum-below-suc (size p) m, sizes-sum p m, first-more p m, ap (first p) (add-one m))

-- where each element passes, as many pass as there are
all-pass : (b : ℕ) (ts : List ℕ) → All (λ t. t < b) ts → count_by (is_below b) ts ≡ length ts
all-pass b [] all = refl
all-pass b (t ∷ ts) all =
    let here : nat_lt t b ≡ true = lt-ltb t b (all 0 0 (omega arith)) in
    omega (arith, sum_by-cons (λ y. bit (is_below b y)) t ts, ap bit here, all-pass b ts (λ k d k_in. all (suc k) d (omega arith)))

pub reached-all : (p : Sizes) (d : Draw) → 1 ≤ p.b → IsDrawn p d → reached p d p.b ≡ p.n
reached-all p d some drawn =
    sum-of-flat_map (λ t. bit (is_below p.b t)) (λ e. e) (map d.targets (below p.b))
    ∙ sum-of-map (count_by (is_below p.b)) d.targets (below p.b)
    ∙ sum-below-same (λ j. count_by (is_below p.b) (d.targets j)) (size p) p.b
    (λ j j_in. all-pass p.b (d.targets j) (drawn.targets_below j j_in) ∙ drawn.target_for_each j j_in)
    ∙ sizes-sum p p.b ∙ first-all p some

-- a chunk has C places at most
pub chunk-le : (p : Sizes) (d : Draw) (o : List ℕ) (k i : ℕ) → k < length o → length (chunk p d o k i) ≤ p.c
chunk-le p d o k i k_in =
    let es = batches p d o i in
    let there : k < length es = omega (arith, length-batches p d o i) in
    omega (arith, ap length (leaving-more p.c es k there), length-take p.c (queue p.c es k ++ batch es k))
