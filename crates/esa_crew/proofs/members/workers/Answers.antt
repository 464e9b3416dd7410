-- One worker more is made.
use Rattle.std.proofs.Common.{◌≡◌, ℕ, ◌+◌, ◌<◌, List, [], ◌∷◌, ◌++◌, length, get_or, sym, ap, ◌∙◌, subst, inl, inr, arith}
use Rattle.std.proofs.lemmas.Bool.{cases_eq}
use Rattle.std.proofs.lemmas.List.{get_or_append_left, get_or_push, length-append}
use Rattle.esa_floor.specs.Working.{Working}
use Rattle.esa_crew.specs.Posts.{IsNewWorker}
use Rattle.esa_crew.proofs.members.workers.Goals as goal

one_more : {X : Type 0} (P : ℕ → X → Type 0) (xs : List X) (n : ℕ) (x : X) → length xs ≡ n
    → ((k : ℕ) (d : X) → k < n → P k (get_or xs k d)) → P n x → (k : ℕ) (d : X) → k < n + 1 → P k (get_or (xs ++ x ∷ []) k d)
one_more P xs n x long each last k d inside = elim (cases_eq k n) [
  | inl same ↦ subst (P k) (sym (get_or_push xs x d k (long ∙ sym same))) (subst (λ (k : ℕ). P k x) (sym same) last)
  | inr other ↦ subst (P k) (sym (get_or_append_left xs (x ∷ []) d k (let apart = other in omega (arith, apart, long, inside)))) (each k d (let apart = other in omega (arith, apart, inside)))
]

pub loop-number-preserved : goal.loop-number-preserved
loop-number-preserved g c =
    let inv = c.loop-number.invariant in
    let xs = c.loop-number.workers.items in
    let made = c.in_ok-make.ensures in
    let items = c.in_ok-push.ensures.items in
    let each = inv.each in
    record {
      each = ap length items ∙ length-append xs (c.in_ok-make.field-0 ∷ []) ∙ ap (λ (n : ℕ). n + 1) each;
      made = λ k w inside. subst (λ (ys : List (Working _)). IsNewWorker c.args.coins.now c.args.plan c.args.outer c.args.run k (get_or ys k w)) (sym items)
          (one_more (IsNewWorker c.args.coins.now c.args.plan c.args.outer c.args.run) xs c.loop-number.number c.in_ok-make.field-0 each inv.made
          (record { number = made.number; coins_are = made.coins; plan = made.plan; outer_are = made.outer; run_are = made.run; attempt = made.attempt; ready = made.ready }) k w inside);
    }
