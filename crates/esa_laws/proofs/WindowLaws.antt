-- The window's queue goes on by an import or by an output bucket, and tells the verdict of each step.
use Rattle.std.proofs.Common.{◌≡◌, ℕ, suc, ◌+◌, ◌-◌, ◌*◌, ◌≤◌, ◌<◌, ⊎_elim, cond, List, [], ◌∷◌, ◌++◌, length, take, drop, sym, ◌∙◌, ap, arith, add-one, append-nil, length-drop}
use Rattle.std.specs.List.{flat_map, range_with_len, sum_by}
use Rattle.std.specs.Prelude.{None, nat_lt}
use Rattle.std.proofs.lemmas.Bool.{cases_lt, lt-ltb, le-ltb}
use Rattle.std.proofs.lemmas.List.{drop-append-le, take-append-le, drop-drop}
use Rattle.std.proofs.lemmas.List.Concat.{flat_map-append}
use Rattle.esa_params.specs.Sizes.{Sizes, first, size, below}
use Rattle.esa_laws.proofs.PlaceLaws.{length-all_parts, length-imported, reached-arranged}
use Rattle.esa_laws.proofs.Ranges.{below-suc, below-add}
use Rattle.esa_laws.proofs.SizeLaws.{first-more}
use Rattle.esa_spec.specs.Draws.{Draw, IsDrawn}
use Rattle.esa_spec.specs.Lines.{backlog, chunk}
use Rattle.esa_spec.specs.Places.{exchange_of, arranged, places, window, output_places}
use Rattle.esa_spec.specs.Turns.{order, writes}
use Rattle.esa_spec.specs.Verdicts.{left, reached, imported, step_verdict, Import, Put}
use Rattle.esa_spec.specs.declared.event.Verdict.TheVariants.{Good, QueueOverflow, QueueStarved}

-- two tests that tell the same
pub same-test : (a b c d : ℕ) → (a < b → c < d) → (b ≤ a → d ≤ c) → nat_lt a b ≡ nat_lt c d
same-test a b c d below_too above_too = ⊎_elim
    (λ (less : a < b). lt-ltb a b less ∙ sym (lt-ltb c d (below_too less)))
    (λ (not_less : b ≤ a). le-ltb a b not_less ∙ sym (le-ltb c d (above_too not_less)))
    (cases_lt a b)

module _ (p : Sizes) (d : Draw) (h : List ℕ) (drawn : IsDrawn p d) (all : writes p.b h ≡ p.b * p.b) (fits : left p d (order p.b h) ≡ None) where
  length-before : (i : ℕ) → i ≤ p.b → length (flat_map (arranged p d (order p.b h)) (below i)) ≡ reached p d i
  length-before i i_in = length-imported p d h drawn all fits i i_in

  -- how many places are in the queue
  pub length-window : (j i : ℕ) → i ≤ p.b → length (window p d (order p.b h) j i) ≡ reached p d i - first p j
  length-window j i i_in = length-drop (first p j) (flat_map (arranged p d (order p.b h)) (below i)) ∙ ap (λ y. y - first p j) (length-before i i_in)

  pub window-parts : (j i : ℕ) → i ≤ p.b
      → length (window p d (order p.b h) j i)
      ≡ sum_by (λ t. sum_by (λ k. length (chunk p d (order p.b h) (exchange_of (order p.b h) k) t)) (below p.b) + backlog p d (order p.b h) p.b t) (below i) - first p j
  window-parts j i i_in =
      length-drop (first p j) (flat_map (arranged p d (order p.b h)) (below i)) ∙ ap (λ y. y - first p j) (length-all_parts p d h drawn all fits i i_in)

  -- an import
  pub import-verdict : (j i : ℕ) → i < p.b → first p j ≤ reached p d i
      → step_verdict p d (Import j i)
      ≡ cond (nat_lt p.q (length (window p d (order p.b h) j i) + length (arranged p d (order p.b h) i))) (QueueOverflow i) Good
  import-verdict j i i_in put =
      let more = reached-arranged p d h drawn all fits i i_in in
      let held = length-window j i (omega arith) in
      ap (λ c. cond c (QueueOverflow i) Good)
      (same-test (first p j + p.q) (reached p d (i + 1)) p.q (length (window p d (order p.b h) j i) + length (arranged p d (order p.b h) i))
      (λ less. omega (arith, more, held, put)) (λ less. omega (arith, more, held, put)))

  pub window-import : (j i : ℕ) → i < p.b → first p j ≤ reached p d i
      → window p d (order p.b h) j (i + 1) ≡ window p d (order p.b h) j i ++ arranged p d (order p.b h) i
  window-import j i i_in put =
      let o = order p.b h in
      let one : flat_map (arranged p d o) (below (i + 1)) ≡ flat_map (arranged p d o) (below i) ++ arranged p d o i =
      ap (flat_map (arranged p d o)) (ap below (add-one i) ∙ below-suc i) ∙ flat_map-append (arranged p d o) (below i) (i ∷ [])
      ∙ ap (λ y. flat_map (arranged p d o) (below i) ++ y) (append-nil (arranged p d o i)) in
      ap (drop (first p j)) one
      ∙ drop-append-le (first p j) (flat_map (arranged p d o) (below i)) (arranged p d o i) (omega (arith, put, length-before i (omega arith)))

  pub reached-le : (i : ℕ) → i < p.b → reached p d i ≤ reached p d (i + 1)
  reached-le i i_in = omega (arith, reached-arranged p d h drawn all fits i i_in)

  -- an output bucket
  pub put-verdict : (j : ℕ) → first p j ≤ reached p d (imported p (suc j)) → imported p (suc j) ≤ p.b
      → step_verdict p d (Put j) ≡ cond (nat_lt (length (window p d (order p.b h) j (imported p (suc j)))) (size p j)) (QueueStarved j) Good
  put-verdict j put in_range =
      let held = length-window j (imported p (suc j)) in_range in
      let next = first-more p j in
      ap (λ c. cond c (QueueStarved j) Good)
      (same-test (reached p d (imported p (suc j))) (first p (j + 1)) (length (window p d (order p.b h) j (imported p (suc j)))) (size p j)
      (λ less. omega (arith, held, next, put)) (λ less. omega (arith, held, next, put)))

  pub window-put : (j i : ℕ) → drop (size p j) (window p d (order p.b h) j i) ≡ window p d (order p.b h) (j + 1) i
  window-put j i =
      drop-drop (size p j) (first p j) (flat_map (arranged p d (order p.b h)) (below i))
      ∙ ap (λ y. drop y (flat_map (arranged p d (order p.b h)) (below i))) (sym (first-more p j))

  -- what is taken for an output bucket is its part of the places
  pub window-output : (j i : ℕ) → i ≤ p.b → first p (j + 1) ≤ reached p d i → take (size p j) (window p d (order p.b h) j i) ≡ output_places p d h j
  window-output j i i_in enough =
      let o = order p.b h in
      let front = flat_map (arranged p d o) (below i) in
      let back = flat_map (arranged p d o) (range_with_len i (p.b - i)) in
      let whole : i + (p.b - i) ≡ p.b = omega arith in
      let split : places p d h ≡ front ++ back =
      ap (λ n. flat_map (arranged p d o) (below n)) (sym whole) ∙ ap (flat_map (arranged p d o)) (below-add i (p.b - i))
      ∙ flat_map-append (arranged p d o) (below i) (range_with_len i (p.b - i)) in
      let short : first p j ≤ length front = omega (arith, length-before i i_in, enough, first-more p j) in
      let few : size p j ≤ length (drop (first p j) front) = omega (arith, length-drop (first p j) front, length-before i i_in, enough, first-more p j) in
      sym (ap (λ y. take (size p j) (drop (first p j) y)) split
      ∙ ap (take (size p j)) (drop-append-le (first p j) front back short)
      ∙ take-append-le (size p j) (drop (first p j) front) back few)
