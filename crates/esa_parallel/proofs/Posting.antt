-- A worker that was made, with a pass that was dealt, rests before the first attempt.
use Rattle.std.proofs.Common.{◌≡◌, ℕ, ◌+◌, ◌-◌, ◌*◌, ◌<◌, ◌≤◌, List, ◌++◌, refl, sym, ap, ◌∙◌, subst, arith, mul_comm}
use Rattle.std.proofs.Math.Nat.{mul-le-mul_right}
use Rattle.esa_params.specs.Sizes.{Sizes}
use Rattle.esa_spec.specs.Draws.{Draw, drawn}
use Rattle.esa_spec.specs.Histories.{begun}
use Rattle.esa_crew.specs.Posts.{IsNewWorker}
use Rattle.esa_floor.specs.Parts.{Parts}
use Rattle.esa_floor.specs.Working.{Working}
use Rattle.esa_floor.specs.declared.floor.Roots.{Roots}
use Rattle.esa_shuffle.proofs.Taking.{is_member}
use Rattle.esa_turnstile.specs.Passes.{IsNewPass, IsPassOf, left_of, number_of, opened_of, seen_of, tickets_of}
use Rattle.esa_turnstile.specs.declared.pass.Pass.{Pass}
use Rattle.esa_turnstile.specs.declared.turnstile.Turnstile.{Turnstile}
use Rattle.esa_workers.specs.Distributions.{Rests}
use Rattle.esa_workers.specs.Posts.{IsPlaced}
use Rattle.esa_workers.specs.Works.{most_turns}

pub rests_new : {V C : Type 0} (faults : V → ℕ) (ds : ℕ → Draw) (targets orders : C → ℕ → ℕ → List ℕ) (p : Sizes) (t : Turnstile (Parts V) Roots) (coins : C) (k mark : ℕ)
    (w : Working C) (pass : Pass (Parts V)) → (opened_of t).plan ≡ p → ((a : ℕ) → ds a ≡ drawn (targets coins) (orders coins) a) → k < p.workers
    → tickets_of t ≡ p.attempts * most_turns p → IsNewWorker coins p (opened_of t).outer (opened_of t).run k w → IsPassOf t pass → IsNewPass (tickets_of t) mark pass → number_of pass ≡ k
    → Rests faults ds targets p t (opened_of t) k (record { worker = w; pass = pass })
rests_new faults ds targets orders p t coins k mark w pass plan draws inside tickets made of new number =
    let member = is_member ds targets orders (opened_of t) coins p (opened_of t).outer (opened_of t).run k w plan refl refl draws inside made in
    record {
      manned = record { pass = of; outside = new.outside; number = number ∙ sym made.number; of = member.of; ready = made.ready };
      number_is = made.number;
      placed = subst (IsPlaced faults ds p pass w) (sym made.attempt) new.nothing_added;
      tickets =
          let none : begun p.workers (seen_of pass) ≡ 0 = ap (begun p.workers) new.nothing_seen in
          let all = new.all_left in
          subst (λ (n : ℕ). (p.attempts - n) * most_turns p ≤ left_of pass) (sym none) (subst (λ (n : ℕ). (p.attempts - 0) * most_turns p ≤ n) (sym (all ∙ tickets)) (whole p.attempts (most_turns p)));
      seen = ((opened_of t).history, ap (λ (l : List ℕ). l ++ (opened_of t).history) new.nothing_seen);
    }
  where
    whole : (a m : ℕ) → (a - 0) * m ≤ a * m
    whole a m = let same : a - 0 ≡ a = omega arith in subst (λ (x : ℕ). x * m ≤ a * m) (sym same) (omega arith)

-- there are tickets enough for the owner
pub enough : (a b : ℕ) → 1 ≤ a → 1 ≤ b → a + 1 ≤ a * (b * (b + 3) + 1)
enough a b some buckets =
    let rounds = mul-le-mul_right (b + 3) buckets in
    let two : 2 ≤ b * (b + 3) + 1 = omega (arith, rounds, buckets) in
    let most = mul-le-mul_right a two in
    let turned = mul_comm (b * (b + 3) + 1) a in
    omega (arith, some, most, turned)
