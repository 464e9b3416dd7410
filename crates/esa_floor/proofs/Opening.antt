-- A floor that was made stands for its history, which has no entry.
use Rattle.std.proofs.Common.{◌≡◌, ℕ, ◌+◌, ◌*◌, ◌<◌, ◌≤◌, List, [], length, Some, None, All, refl, sym, ap, ◌∙◌, subst, zero-add, arith}
use Rattle.std.specs.Prelude.{IsPermutation}
use Rattle.esa_device.specs.Recording.{Recorded}
use Rattle.esa_envelope.specs.declared.keys.Keys.{Keys}
use Rattle.esa_params.specs.Sizes.{Sizes, below, size}
use Rattle.esa_params.specs.Slots.{greatest_trace}
use Rattle.esa_spec.specs.Draws.{Draw, IsDrawn, drawn}
use Rattle.esa_spec.specs.Histories.{begun}
use Rattle.esa_stash.specs.Stash.{empty_stash}
use Rattle.esa_floor.specs.Exchanges.{Exchanges}
use Rattle.esa_floor.specs.Parts.{no_counts, nothing_counted}
use Rattle.esa_floor.specs.Standing.{Stands}

-- what coins of the plan draw is a draw for its sizes
pub all_drawn : (p plan : Sizes) (ds : ℕ → Draw) (target_list order_list : ℕ → ℕ → List ℕ) → p ≡ plan
    → ((a : ℕ) → ds a ≡ drawn target_list order_list a)
    → ((a j : ℕ) → a < plan.attempts → j < plan.b → length (target_list a j) ≡ size plan j)
    → ((a j : ℕ) → a < plan.attempts → j < plan.b → All (λ target. target < plan.b) (target_list a j))
    → ((a i : ℕ) → a < plan.attempts → i < plan.b → IsPermutation (below (plan.b * plan.c + plan.k)) (order_list a i))
    → (a : ℕ) → a < p.attempts → IsDrawn p (ds a)
all_drawn p plan ds target_list order_list same is each small permutes a inside =
    let within : a < plan.attempts = subst (λ (q : Sizes). a < q.attempts) same inside in
    subst (λ (q : Sizes). IsDrawn q (ds a)) (sym same)
    (subst (λ (d : Draw). IsDrawn plan d) (sym (is a)) (record {
      target_for_each = λ j bucket. each a j within bucket;
      targets_below = λ j bucket. small a j within bucket;
      orders_permute = λ i target. permutes a i within target;
    }))

pub stands_new : {V : Type 0} (faults : V → ℕ) (p plan : Sizes) (ds : ℕ → Draw) (outer run : Keys) (recorder : Recorded V) (count : ℕ) (history : List ℕ) (room : ℕ) (e : Exchanges)
    → e ≡ record { plan = plan; stash = empty_stash plan.b plan.c plan.s; counts = no_counts plan.b } → history ≡ [] → p ≡ plan
    → recorder.plan ≡ Some plan → recorder.trace ≡ [] → greatest_trace plan ≤ recorder.room → count ≡ faults recorder.device
    → ((a : ℕ) → a < p.attempts → IsDrawn p (ds a))
    → Stands faults p ds (record { plan = e.plan; outer = outer; run = run; recorder = recorder; faults = count; history = history; room = room; stash = e.stash; counts = e.counts; counted = nothing_counted; attempt = None; stop = None; outcome = None })
stands_new faults p plan ds outer run recorder count history room e is none same ready untouched fits counted drawn = record {
  of = record {
    plan = ap (λ (e : Exchanges). e.plan) is ∙ sym same;
    ready = ready ∙ ap Some (sym same);
    room = subst (λ (q : Sizes). greatest_trace q ≤ length recorder.trace + recorder.room) (sym same)
        (subst (λ (n : ℕ). greatest_trace plan ≤ n + recorder.room) (sym (ap length untouched))
        (subst (λ (n : ℕ). greatest_trace plan ≤ n) (sym (zero-add recorder.room)) fits));
    entries = let empty : length history ≡ 0 = ap length none in omega (arith, empty);
  };
  drawn = drawn;
  state = record {
    none_begun = ap (begun e.plan.workers) none;
    trace = untouched;
    queues = ap (λ (e : Exchanges). e.stash) is ∙ sym (ap (λ (e : Exchanges). empty_stash e.plan.b e.plan.c e.plan.s) is);
    counts = ap (λ (e : Exchanges). e.counts) is ∙ sym (ap (λ (e : Exchanges). no_counts e.plan.b) is);
    runs = refl;
    calm = sym counted;
  };
}
