-- A queue that is fed block by block is the list of places, and stops where the verdict says.
use Rattle.std.proofs.Common.{◌≡◌, ℕ, zero, suc, ◌+◌, ◌-◌, ◌*◌, ◌≤◌, ◌<◌, Bool, true, false, cond, List, [], ◌∷◌, ◌++◌, length, take, drop, map, refl, sym, ◌∙◌, ap, arith, add-one, append_assoc}
use Rattle.std.specs.List.{range_with_len, flat_map}
use Rattle.std.specs.Prelude.{None, nat_lt}
use Rattle.std.proofs.lemmas.List.{length-map}
use Rattle.esa_params.specs.Sizes.{Sizes, first, size, below}
use Rattle.esa_report.specs.declared.item.Item.{Item}
use Rattle.esa_laws.proofs.SizeLaws.{first-zero}
use Rattle.esa_laws.proofs.Tests.{not_above}
use Rattle.esa_laws.proofs.WalkLaws.{steps_verdict, steps_verdict-append}
use Rattle.esa_laws.proofs.WindowLaws.{length-window, reached-le}
use Rattle.esa_spec.specs.Draws.{Draw, IsDrawn}
use Rattle.esa_spec.specs.Places.{window, output_places}
use Rattle.esa_spec.specs.Turns.{order, writes}
use Rattle.esa_spec.specs.Verdicts.{Step, Import, Put, imported, steps_of, steps, left, reached, step_verdict, is_good}
use Rattle.esa_spec.specs.declared.event.Verdict.{Verdict}
use Rattle.esa_spec.specs.declared.event.Verdict.TheVariants.{Good, QueueStarved}
use Rattle.esa_compress.specs.Held.{is_held}
use Rattle.esa_compress.specs.Fed.{after, answer, given, fed_verdict, fed_outputs}
use Rattle.esa_compress.proofs.ImportLaws.{climbs, import-answer, queue-import, queue-put, queue-front, put-counted}

-- one part after another
module _ (record_of : ℕ → Item) (p : Sizes) (d : Draw) (o : List ℕ) where
  abbrev pub afters : List Item → List Step → List Item
  afters queue [] = queue
  afters queue (x ∷ xs) = afters (after record_of p d o queue x) xs

  stops-by : (v w rest : Verdict) (both : Verdict) (c : Bool) → is_good v ≡ c → both ≡ cond (is_good w) rest w
      → cond c both v ≡ cond (is_good (cond c w v)) rest (cond c w v)
  stops-by v w rest both true e is = is
  stops-by v w rest both false e is = sym (ap (λ y. cond y rest v) e)

  pub verdict-append : (queue : List Item) (xs ys : List Step)
      → fed_verdict record_of p d o queue (xs ++ ys)
      ≡ cond (is_good (fed_verdict record_of p d o queue xs)) (fed_verdict record_of p d o (afters queue xs) ys) (fed_verdict record_of p d o queue xs)
  verdict-append queue [] ys = refl
  verdict-append queue (x ∷ xs) ys =
      let next = after record_of p d o queue x in
      stops-by (answer record_of p d o queue x) (fed_verdict record_of p d o next xs) (fed_verdict record_of p d o (afters next xs) ys)
      (fed_verdict record_of p d o next (xs ++ ys)) (is_good (answer record_of p d o queue x)) refl (verdict-append next xs ys)

  pub outputs-append : (queue : List Item) (xs ys : List Step)
      → fed_outputs record_of p d o queue (xs ++ ys) ≡ fed_outputs record_of p d o queue xs ++ fed_outputs record_of p d o (afters queue xs) ys
  outputs-append queue [] ys = refl
  outputs-append queue (x ∷ xs) ys =
      let next = after record_of p d o queue x in
      ap (λ y. given record_of p d o queue x ++ y) (outputs-append next xs ys)
      ∙ sym (append_assoc (given record_of p d o queue x) (fed_outputs record_of p d o next xs) (fed_outputs record_of p d o (afters next xs) ys))

  pub afters-append : (queue : List Item) (xs ys : List Step) → afters queue (xs ++ ys) ≡ afters (afters queue xs) ys
  afters-append queue [] ys = refl
  afters-append queue (x ∷ xs) ys = afters-append (after record_of p d o queue x) xs ys

-- verdicts that are good
both-good : (v w : Verdict) (c : Bool) → is_good v ≡ c → is_good (cond c w v) ≡ true → (is_good v ≡ true) × (is_good w ≡ true)
both-good v w true e good = (e, good)
both-good v w false e good = absurd (cc)

one-good : (v : Verdict) (c : Bool) → is_good v ≡ c → is_good (cond c Good v) ≡ true → is_good v ≡ true
one-good v true e good = e
one-good v false e good = good

enough-by : (j : ℕ) (c : Bool) → is_good (cond c (QueueStarved j) Good) ≡ true → c ≡ false
enough-by j true good = absurd (cc)
enough-by j false good = refl

rest-good : (v w : Verdict) (c : Bool) → is_good v ≡ c → cond c w v ≡ Good → (is_good v ≡ true) × (w ≡ Good)
rest-good v w true e good = (e, good)
rest-good v w false e good = let yes_good = ap is_good good in absurd (cc)

imported-more : (p : Sizes) (j : ℕ) → imported p j ≤ imported p (suc j)
imported-more p zero = omega arith
imported-more p (suc j) = omega arith

module _ (p : Sizes) (d : Draw) (h : List ℕ) (drawn : IsDrawn p d) (all : writes p.b h ≡ p.b * p.b) (fits : left p d (order p.b h) ≡ None)
    (record_of : ℕ → Item) (held : (x : ℕ) → is_held (record_of x) ≡ true) where
  -- the records of the window
  abbrev records : ℕ → ℕ → List Item
  records j i = map record_of (window p d (order p.b h) j i)

  abbrev ends : List Item → List Step → Verdict
  ends queue xs = fed_verdict record_of p d (order p.b h) queue xs

  abbrev gives : List Item → List Step → List (List Item)
  gives queue xs = fed_outputs record_of p d (order p.b h) queue xs

  abbrev leaves : List Item → List Step → List Item
  leaves queue xs = afters record_of p d (order p.b h) queue xs

  -- imports before one output bucket
  record Imports (j i n : ℕ) : Type 0 where
    verdict : ends (records j i) (map (Import j) (range_with_len i n)) ≡ steps_verdict p d (map (Import j) (range_with_len i n))
    queue : leaves (records j i) (map (Import j) (range_with_len i n)) ≡ records j (i + n)
    nothing : gives (records j i) (map (Import j) (range_with_len i n)) ≡ []

  imports-made : (n j i : ℕ) → i + n ≤ p.b → first p j ≤ reached p d i → Imports j i n
  imports-made zero j i i_in put = record { verdict = refl; queue = let same : i ≡ i + 0 = omega arith in ap (records j) same; nothing = refl }
  imports-made (suc n) j i i_in put =
      let x = Import j i in
      let rest = map (Import j) (range_with_len (i + 1) n) in
      let here : i < p.b = omega arith in
      let s = imports-made n j (i + 1) (omega arith) (omega (arith, put, reached-le p d h drawn all fits i here)) in
      let next = queue-import p d h drawn all fits record_of held j i here put in
      let said = sym (import-answer p d h drawn all fits record_of held j i here put) in
      let v = step_verdict p d x in
      let end : i + 1 + n ≡ i + suc n = omega arith in
      record {
        verdict =
            ap (λ y. cond (is_good y) (ends (after record_of p d (order p.b h) (records j i) x) rest) y) said
            ∙ ap (λ q. cond (is_good v) (ends q rest) v) next
            ∙ ap (λ y. cond (is_good v) y v) s.verdict;
        queue = ap (λ q. leaves q rest) next ∙ s.queue ∙ ap (records j) end;
        nothing = ap (λ q. gives q rest) next ∙ s.nothing;
      }

  -- the steps of one output bucket
  record Bucket (j : ℕ) : Type 0 where
    verdict : ends (records j (imported p j)) (steps_of p j) ≡ steps_verdict p d (steps_of p j)
    queue : leaves (records j (imported p j)) (steps_of p j) ≡ records (j + 1) (imported p (suc j))
    out : gives (records j (imported p j)) (steps_of p j) ≡ take (size p j) (records j (imported p (suc j))) ∷ []
    enough : is_good (steps_verdict p d (steps_of p j)) ≡ true → first p (j + 1) ≤ reached p d (imported p (suc j))

  bucket-made : (j : ℕ) → first p j ≤ reached p d (imported p j) → Bucket j
  bucket-made j put =
      let i = imported p j in
      let n = imported p (suc j) - imported p j in
      let xs = map (Import j) (range_with_len i n) in
      let ys = Put j ∷ [] in
      let end : i + n ≡ imported p (suc j) = omega (arith, imported-more p j) in
      let in_range : i + n ≤ p.b = omega (arith, end) in
      let s = imports-made n j i in_range put in
      let reach : first p j ≤ reached p d (imported p (suc j)) = omega (arith, put, climbs p d h drawn all fits i n in_range, ap (reached p d) end) in
      let queue : leaves (records j i) xs ≡ records j (imported p (suc j)) = s.queue ∙ ap (records j) end in
      let long : length (records j (imported p (suc j))) ≡ reached p d (imported p (suc j)) - first p j =
      length-map (window p d (order p.b h) j (imported p (suc j))) record_of ∙ length-window p d h drawn all fits j (imported p (suc j)) (omega arith) in
      let said = sym (put-counted p d j (length (records j (imported p (suc j)))) reach long) in
      let sv = steps_verdict p d xs in
      record {
        verdict =
            verdict-append record_of p d (order p.b h) (records j i) xs ys
            ∙ ap (λ y. cond (is_good y) (ends (leaves (records j i) xs) ys) y) s.verdict
            ∙ ap (λ q. cond (is_good sv) (ends q ys) sv) queue
            ∙ ap (λ y. cond (is_good sv) (cond (is_good y) Good y) sv) said
            ∙ sym (steps_verdict-append p d xs ys);
        queue =
            afters-append record_of p d (order p.b h) (records j i) xs ys
            ∙ ap (drop (size p j)) queue
            ∙ queue-put p d h drawn all fits record_of j (imported p (suc j));
        out =
            outputs-append record_of p d (order p.b h) (records j i) xs ys
            ∙ ap (λ y. y ++ gives (leaves (records j i) xs) ys) s.nothing
            ∙ ap (λ q. take (size p j) q ∷ []) queue;
        enough = λ good.
            let parts = both-good sv (steps_verdict p d ys) (is_good sv) refl (sym (ap is_good (steps_verdict-append p d xs ys)) ∙ good) in
            let last = one-good (step_verdict p d (Put j)) (is_good (step_verdict p d (Put j))) refl parts.1 in
            not_above (reached p d (imported p (suc j))) (first p (j + 1))
            (enough-by j (nat_lt (reached p d (imported p (suc j))) (first p (j + 1))) last);
      }

  -- all steps from one output bucket on
  record Run (j m : ℕ) : Type 0 where
    verdict : ends (records j (imported p j)) (flat_map (steps_of p) (range_with_len j m)) ≡ steps_verdict p d (flat_map (steps_of p) (range_with_len j m))
    out : steps_verdict p d (flat_map (steps_of p) (range_with_len j m)) ≡ Good
        → gives (records j (imported p j)) (flat_map (steps_of p) (range_with_len j m)) ≡ map (λ x. map record_of (output_places p d h x)) (range_with_len j m)

  run-by : (j m : ℕ) (c : Bool) → is_good (steps_verdict p d (steps_of p j)) ≡ c → Bucket j
      → (first p (j + 1) ≤ reached p d (imported p (j + 1)) → Run (j + 1) m) → Run j (suc m)
  run-by j m true e s later =
      let xs = steps_of p j in
      let ys = flat_map (steps_of p) (range_with_len (j + 1) m) in
      let sv = steps_verdict p d xs in
      let here = ap (imported p) (sym (add-one j)) in
      let enough = s.enough e in
      let r = later (omega (arith, enough, ap (reached p d) here)) in
      let queue : leaves (records j (imported p j)) xs ≡ records (j + 1) (imported p (j + 1)) = s.queue ∙ ap (records (j + 1)) here in
      let whole = steps_verdict-append p d xs ys in
      record {
        verdict =
            verdict-append record_of p d (order p.b h) (records j (imported p j)) xs ys
            ∙ ap (λ y. cond (is_good y) (ends (leaves (records j (imported p j)) xs) ys) y) s.verdict
            ∙ ap (λ q. cond (is_good sv) (ends q ys) sv) queue
            ∙ ap (λ y. cond (is_good sv) y sv) r.verdict
            ∙ sym whole;
        out = λ good.
            let rest = rest-good sv (steps_verdict p d ys) (is_good sv) refl (sym whole ∙ good) in
            outputs-append record_of p d (order p.b h) (records j (imported p j)) xs ys
            ∙ ap (λ y. y ++ gives (leaves (records j (imported p j)) xs) ys) s.out
            ∙ ap (λ y. y ∷ gives (leaves (records j (imported p j)) xs) ys)
            (queue-front p d h drawn all fits record_of j (imported p (suc j)) (omega arith) enough)
            ∙ ap (λ q. map record_of (output_places p d h j) ∷ gives q ys) queue
            ∙ ap (λ y. map record_of (output_places p d h j) ∷ y) (r.out rest.1);
      }
  run-by j m false e s later =
      let xs = steps_of p j in
      let ys = flat_map (steps_of p) (range_with_len (j + 1) m) in
      let sv = steps_verdict p d xs in
      let whole = steps_verdict-append p d xs ys in
      record {
        verdict =
            verdict-append record_of p d (order p.b h) (records j (imported p j)) xs ys
            ∙ ap (λ y. cond (is_good y) (ends (leaves (records j (imported p j)) xs) ys) y) s.verdict
            ∙ ap (λ c. cond c (ends (leaves (records j (imported p j)) xs) ys) sv) e
            ∙ sym (whole ∙ ap (λ c. cond c (steps_verdict p d ys) sv) e);
        out = λ good. let rest = rest-good sv (steps_verdict p d ys) (is_good sv) refl (sym whole ∙ good) in absurd (contrary (is_good sv) rest.0 e);
      }
    where
      contrary : (c : Bool) → c ≡ true → c ≡ false → ⊥
      contrary c passes no_pass = cc

  run-made : (m j : ℕ) → first p j ≤ reached p d (imported p j) → Run j m
  run-made zero j put = record { verdict = refl; out = λ good. refl }
  run-made (suc m) j put =
      run-by j m (is_good (steps_verdict p d (steps_of p j))) refl (bucket-made j put) (λ next. run-made m (j + 1) next)

  empty : records 0 (imported p 0) ≡ []
  empty = ap (λ n. map record_of (drop n [])) (first-zero p)

  whole-run : Run 0 p.b
  whole-run = run-made p.b 0 (omega (arith, first-zero p))

  pub fed-ends : ends [] (steps p) ≡ steps_verdict p d (steps p)
  fed-ends = sym (ap (λ q. ends q (steps p)) empty) ∙ whole-run.verdict

  pub fed-gives : steps_verdict p d (steps p) ≡ Good → gives [] (steps p) ≡ map (λ x. map record_of (output_places p d h x)) (below p.b)
  fed-gives good = sym (ap (λ q. gives q (steps p)) empty) ∙ whole-run.out good
