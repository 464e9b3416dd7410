-- Workers that stand at their posts stand there after a turn.
use Rattle.std.proofs.Common.{◌≡◌, ◌≢◌, ℕ, ◌<◌, List, [], ◌∷◌, ◌++◌, length, get_or, set, sym, ap, ◌∙◌, subst, arith, inl, inr, length-set}
use Rattle.std.proofs.lemmas.Bool.{cases_eq}
use Rattle.std.proofs.lemmas.List.{get_or-set_other, get_or-set_same}
use Rattle.esa_laws.proofs.HistoryLaws.{latest-worker}
use Rattle.esa_spec.specs.Draws.{Draw}
use Rattle.esa_spec.specs.Histories.{latest}
use Rattle.esa_floor.specs.Marks.{roots_of}
use Rattle.esa_floor.specs.Parts.{Parts}
use Rattle.esa_floor.specs.Standing.{turns_made}
use Rattle.esa_floor.specs.Workers.{IsOfFloor}
use Rattle.esa_floor.specs.Working.{Working}
use Rattle.esa_floor.specs.declared.floor.Roots.{Roots}
use Rattle.esa_floor.specs.Keeping.{HoldsAfter}
use Rattle.esa_crew.specs.Posts.{AllHold, ArePosts, IsPost, KeepsRecords, OthersHoldAfter}

module _ {V : Type 0} (f g : Parts V) (origin : roots_of g ≡ roots_of f) where
  -- the turns of the attempt go on
  pub turns_on : (w : ℕ) → w < f.plan.workers → g.history ≡ f.history ++ w ∷ [] → turns_made g ≡ turns_made f ++ w ∷ []
  turns_on w few longer =
      ap (λ (r : Roots). latest r.plan.workers g.history) origin ∙ ap (latest f.plan.workers) longer
      ∙ latest-worker f.plan.workers f.history w (λ same. absurd (omega (arith, same, few)))

  pub of_on : {C : Type 0} (ds : ℕ → Draw) (target_list : ℕ → ℕ → List ℕ) (w : Working C) → IsOfFloor ds target_list f w → IsOfFloor ds target_list g w
  of_on ds target_list w of = record {
    number = subst (λ (r : Roots). w.number < r.plan.workers) (sym origin) of.number;
    plan = subst (λ (r : Roots). w.buffers.plan ≡ r.plan) (sym origin) of.plan;
    outer = subst (λ (r : Roots). w.outer ≡ r.outer) (sym origin) of.outer;
    run = subst (λ (r : Roots). w.run ≡ r.run) (sym origin) of.run;
    draws = subst (λ (r : Roots). (a j : ℕ) → a < r.plan.attempts → j < r.plan.b → target_list a j ≡ (ds a).targets j) (sym origin) of.draws;
  }

-- a worker with the same number, plan, keys and coins
pub of_same : {V C : Type 0} (f : Parts V) (ds : ℕ → Draw) (target_lists : C → ℕ → ℕ → List ℕ) (w new : Working C)
    → new.coins ≡ w.coins → new.number ≡ w.number → new.buffers.plan ≡ w.buffers.plan → new.outer ≡ w.outer → new.run ≡ w.run
    → IsOfFloor ds (target_lists w.coins) f w → IsOfFloor ds (target_lists new.coins) f new
of_same {C = C} f ds target_lists w new coins number plan outer run of = record {
  number = subst (λ (n : ℕ). n < f.plan.workers) (sym number) of.number;
  plan = plan ∙ of.plan;
  outer = outer ∙ of.outer;
  run = run ∙ of.run;
  draws = subst (λ (co : C). (a j : ℕ) → a < f.plan.attempts → j < f.plan.b → target_lists co a j ≡ (ds a).targets j) (sym coins) of.draws;
}

-- one of the workers was changed, and the others stand
pub posts_on : {V C : Type 0} (ds : ℕ → Draw) (target_lists : C → ℕ → ℕ → List ℕ) (f g : Parts V) (workers : List (Working C)) (n : ℕ) (new : Working C)
    → n < length workers → ArePosts ds target_lists f workers → IsPost ds target_lists g n new
    → ((k : ℕ) (other : Working C) → k ≢ n → IsPost ds target_lists f k other → IsPost ds target_lists g k other)
    → ArePosts ds target_lists g (set workers n new)
posts_on ds target_lists f g workers n new inside posts post others k d within = elim (cases_eq k n) [
  | inl same ↦ subst (λ (k : ℕ). IsPost ds target_lists g k (get_or (set workers n new) k d)) (sym same)
      (subst (IsPost ds target_lists g n) (sym (get_or-set_same workers n new d inside)) post)
  | inr other ↦ subst (IsPost ds target_lists g k) (sym (get_or-set_other workers n k new d other))
      (others k (get_or workers k d) other (posts k d (let long = length-set workers n new in omega (arith, long, within))))
]

-- the same of what they hold
pub all_hold : {V C : Type 0} (ds : ℕ → Draw) (f g : Parts V) (workers : List (Working C)) (n : ℕ) (new : Working C) → n < length workers → KeepsRecords ds g new
    → ((other : Working C) → KeepsRecords ds f other → KeepsRecords ds g other) → AllHold ds f workers → AllHold ds g (set workers n new)
all_hold ds f g workers n new inside here others all k d within = elim (cases_eq k n) [
  | inl same ↦ subst (λ (k : ℕ). KeepsRecords ds g (get_or (set workers n new) k d)) (sym same)
      (subst (λ (w : Working _). KeepsRecords ds g w) (sym (get_or-set_same workers n new d inside)) here)
  | inr other ↦ subst (λ (w : Working _). KeepsRecords ds g w) (sym (get_or-set_other workers n k new d other))
      (others (get_or workers k d) (all k d (let long = length-set workers n new in omega (arith, long, within))))
]

-- the workers that didn't have the turn
pub others_hold : {V C : Type 0} (ds : ℕ → Draw) (f g : Parts V) (h : List ℕ) (workers : List (Working C)) (n : ℕ) (new : Working C)
    → ((other : Working C) → KeepsRecords ds f other → HoldsAfter ds h g other) → AllHold ds f workers → OthersHoldAfter ds h n g (set workers n new)
others_hold ds f g h workers n new others all k d within other =
    subst (HoldsAfter ds h g) (sym (get_or-set_other workers n k new d other))
    (others (get_or workers k d) (all k d (let long = length-set workers n new in omega (arith, long, within))))
