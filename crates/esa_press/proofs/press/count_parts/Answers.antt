-- One chunk more.
use Rattle.std.proofs.Common.{◌≡◌, ℕ, suc, ◌+◌, List, [], ◌∷◌, ◌++◌, length, map, take, set, sym, ap, ◌∙◌, subst, arith, take_all}
use Rattle.std.proofs.lemmas.List.{length-set}
use Rattle.std.proofs.Math.Seq.{take-suc-set}
use Rattle.std.proofs.lemmas.List.FromFn.{map-range_with_len_more}
use Rattle.esa_floor.specs.Parts.{count_at}
use Rattle.esa_params.specs.Sizes.{Sizes, below}
use Rattle.esa_press.proofs.press.count_parts.Goals as goal

pub loop-bucket-preserved : goal.loop-bucket-preserved
loop-bucket-preserved g c =
    let b = c.args.plan.now.b in
    let f : ℕ → ℕ = λ (j : ℕ). count_at b c.args.floor.now.counts j c.args.target in
    let one : c.loop-bucket.bucket + 1 ≡ suc c.loop-bucket.bucket = omega arith in
    ap (λ (n : ℕ). take n (set c.loop-bucket.counts c.loop-bucket.bucket c.count.result)) one
    ∙ take-suc-set c.loop-bucket.counts c.loop-bucket.bucket c.count.result (omega (arith, c.requires.counts, c.loop-bucket.auto.counts, c.loop-bucket-test.true, c.b-bucket-end.ensures.value))
    ∙ ap (λ (xs : List ℕ). xs ++ c.count.result ∷ []) c.loop-bucket.invariant
    ∙ ap (λ (n : ℕ). map f (below c.loop-bucket.bucket) ++ n ∷ []) (c.count.ensures ∙ ap (λ (q : Sizes). count_at q.b c.args.floor.now.counts c.loop-bucket.bucket c.args.target) (sym c.requires.plan))
    ∙ sym (map-range_with_len_more f 0 c.loop-bucket.bucket c.loop-bucket.bucket (omega arith))

-- the last of them
last_set : (xs : List ℕ) (n x : ℕ) → length xs ≡ n + 1 → set xs n x ≡ take n xs ++ x ∷ []
last_set xs n x long =
    sym (take_all (suc n) (set xs n x) (omega (arith, length-set xs n x, long))) ∙ take-suc-set xs n x (omega arith)

pub returns : goal.returns
returns g c =
    let b = c.args.plan.now.b in
    let f : ℕ → ℕ = λ (j : ℕ). count_at b c.args.floor.now.counts j c.args.target in
    let last : c.loop-bucket.bucket ≡ b = omega (arith, c.loop-bucket-test.false, c.b-bucket-end.ensures.value, c.loop-bucket.auto.bucket-end) in
    ap (λ (n : ℕ). set c.loop-bucket.counts n c.args.tail) c.b.ensures.value
    ∙ last_set c.loop-bucket.counts b c.args.tail (c.loop-bucket.auto.counts ∙ c.requires.counts)
    ∙ ap (λ (xs : List ℕ). xs ++ c.args.tail ∷ []) (subst (λ (n : ℕ). take n c.loop-bucket.counts ≡ map f (below n)) last c.loop-bucket.invariant)
