-- What is left of batches that are merged.
use Rattle.std.proofs.Common.{◌≡◌, ℕ, zero, suc, ◌+◌, ◌<◌, ◌≤◌, List, [], ◌∷◌, ◌++◌, length, get_or, set, Option, Some, None, Ok, Err, true, cond, refl, sym, ap, ap₂, subst, ◌∙◌, arith}
use Rattle.std.specs.Prelude.{nat_lt, IsNone}
use Rattle.std.specs.List.Sorted.{IsPermutation}
use Rattle.std.proofs.lemmas.Bool.Decides.{nat_tests}
use Rattle.std.proofs.lemmas.List.{drop_more, drop_all}
use Rattle.std.proofs.lemmas.List.Sorted.{IsPermutation-refl, IsPermutation-trans, IsPermutation-middle, IsPermutation-append_right, length_permutation}
use Rattle.esa_batcher.specs.declared.refused.AddRefused.{AddRefused}
use Rattle.esa_batcher.specs.declared.refused.AddRefused.TheVariants.{TooMany}
use Rattle.esa_batcher.specs.Adding.{Gathered, put_in}
use Rattle.esa_gathering.specs.declared.merging.TextBatch.{TextBatch}
use Rattle.esa_gathering.specs.Merging.{next_of, left_of, all_left}

pub none_is : {X : Type 0} (found : Option X) → IsNone found → found ≡ None
none_is None none = refl
none_is (Some x) none = cc

-- where each batch is merged, nothing is left
pub none_left : (texts : List TextBatch) → ((place : ℕ) (d : TextBatch) → place < length texts → length (get_or texts place d).batch.list ≤ (get_or texts place d).merged) → all_left texts ≡ []
none_left [] each = refl
none_left (text ∷ texts) each =
    ap₂ (λ front back. front ++ back) (drop_all text.merged text.batch.list (each 0 text (omega arith))) (none_left texts (λ place d below. each (suc place) d (omega (arith, below))))

-- one envelope more is merged
pub one_less : (texts : List TextBatch) (place : ℕ) (d now : TextBatch) → place < length texts → (get_or texts place d).merged < length (get_or texts place d).batch.list
    → now ≡ record (get_or texts place d) { merged = (get_or texts place d).merged + 1 } → IsPermutation (all_left texts) (next_of (get_or texts place d) ∷ all_left (set texts place now))
one_less [] place d now inside left is = absurd (omega (arith, inside))
one_less (text ∷ texts) zero d now inside left is =
    let more : left_of text ≡ next_of text ∷ left_of now = drop_more text.batch.list text.merged [] left ∙ ap (λ now. next_of text ∷ left_of now) (sym is) in
    subst (IsPermutation (left_of text ++ all_left texts)) (ap (λ front. front ++ all_left texts) more) (IsPermutation-refl (left_of text ++ all_left texts))
one_less (text ∷ texts) (suc place) d now inside left is =
    let next = next_of (get_or texts place d) in
    let rest = all_left (set texts place now) in
    IsPermutation-trans (left_of text ++ all_left texts) (left_of text ++ next ∷ rest) (next ∷ (left_of text ++ rest))
    (IsPermutation-append_right (left_of text) (all_left texts) (next ∷ rest) (one_less texts place d now (omega (arith, inside)) left is)) (IsPermutation-middle (left_of text) next rest)

pub one_shorter : (texts : List TextBatch) (place : ℕ) (d now : TextBatch) → place < length texts → (get_or texts place d).merged < length (get_or texts place d).batch.list
    → now ≡ record (get_or texts place d) { merged = (get_or texts place d).merged + 1 } → length (all_left (set texts place now)) + 1 ≡ length (all_left texts)
one_shorter texts place d now inside left is =
    omega (arith, length_permutation (all_left texts) (next_of (get_or texts place d) ∷ all_left (set texts place now)) (one_less texts place d now inside left is))

pub some_left : (texts : List TextBatch) (place : ℕ) (d : TextBatch) → place < length texts → (get_or texts place d).merged < length (get_or texts place d).batch.list → 0 < length (all_left texts)
some_left texts place d inside left = omega (arith, one_shorter texts place d (record (get_or texts place d) { merged = (get_or texts place d).merged + 1 }) inside left refl)

-- ---- one more envelope

put_is : (gathered : Gathered) (envelope : List ℕ) → length gathered.list < 262144 → put_in gathered envelope ≡ Ok (record gathered { list = gathered.list ++ envelope ∷ [] })
put_is gathered envelope few =
    let room : nat_lt (length gathered.list) 262144 ≡ true = grind (arith, nat_tests, few) in
    ap (λ room. cond room (Ok (record gathered { list = gathered.list ++ envelope ∷ [] })) (Err (TooMany (262144 + 1)))) room

pub put_on : (gathered new : Gathered) (envelope : List ℕ) → length gathered.list < 262144 → put_in gathered envelope ≡ Ok new → (new.list ≡ gathered.list ++ envelope ∷ []) × (new.form ≡ gathered.form)
put_on gathered new envelope few is =
    let both : Ok (record gathered { list = gathered.list ++ envelope ∷ [] }) ≡ Ok new = sym (put_is gathered envelope few) ∙ is in
    let now : record gathered { list = gathered.list ++ envelope ∷ [] } ≡ new = cc in
    (sym (ap (λ g. g.list) now), sym (ap (λ g. g.form) now))

pub put_off : (gathered : Gathered) (envelope : List ℕ) (refused : AddRefused) → length gathered.list < 262144 → put_in gathered envelope ≡ Err refused → ⊥
put_off gathered envelope refused few is =
    let both : Ok (record gathered { list = gathered.list ++ envelope ∷ [] }) ≡ Err refused = sym (put_is gathered envelope few) ∙ is in cc
