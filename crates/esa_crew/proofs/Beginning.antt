-- A worker that has begun the floor's attempt stands for it.
use Rattle.std.proofs.Common.{◌≡◌, ℕ, ◌+◌, ◌<◌, List, [], length, get_or, set, refl, sym, ap, ◌∙◌, subst, arith, inl, inr, length-set}
use Rattle.std.proofs.Math.Nat.{mod-eq_of_lt}
use Rattle.std.proofs.lemmas.Bool.{cases_eq}
use Rattle.std.proofs.lemmas.List.{get_or-set_other, get_or-set_same}
use Rattle.esa_laws.proofs.HistoryLaws.{latest-owner}
use Rattle.esa_spec.specs.Draws.{Draw}
use Rattle.esa_floor.specs.Parts.{Parts, begun_as}
use Rattle.esa_floor.specs.Standing.{turns_made}
use Rattle.esa_floor.specs.Workers.{IsInRound, IsOfFloor}
use Rattle.esa_floor.specs.Working.{Working, begun_with}
use Rattle.esa_crew.specs.Posts.{AreMembers, KeepsRecords, IsMember, IsPost}

-- before its first turn it is in its round
first_round : {C : Type 0} (b a : ℕ) (w : Working C) → IsInRound b [] (begun_with w a)
first_round b a w = record {
  phase = sym (mod-eq_of_lt (omega arith));
  bucket = λ later. absurd (later refl);
  read = λ second inside. absurd (omega (arith, second));
  exchanged = λ third inside. absurd (omega (arith, third));
}

module _ {V C : Type 0} (ds : ℕ → Draw) (target_lists : C → ℕ → ℕ → List ℕ) (f g : Parts V) (a : ℕ) (is : g ≡ begun_as f a) where
  pub none_made : turns_made g ≡ []
  none_made = ap (λ (x : Parts V). turns_made x) is ∙ latest-owner f.plan.workers f.history

  of_begun : (tl : ℕ → ℕ → List ℕ) (w : Working C) → IsOfFloor ds tl f w → IsOfFloor ds tl g w
  of_begun tl w of = subst (λ (x : Parts V). IsOfFloor ds tl x w) (sym is) (record {
    number = of.number;
    plan = of.plan;
    outer = of.outer;
    run = of.run;
    draws = of.draws;
  })

  post : (k : ℕ) (w new : Working C) → new ≡ begun_with w a → IsMember ds target_lists f k w → IsPost ds target_lists g k new
  post k w new made member =
      let of = of_begun (target_lists w.coins) w member.of in
      subst (IsPost ds target_lists g k) (sym made) (record {
        number = member.number;
        of = record {
          number = of.number;
          plan = of.plan;
          outer = of.outer;
          run = of.run;
          draws = of.draws;
        };
        ready = tt;
        stands = record {
          attempt = sym (ap (λ (x : Parts V). x.attempt) is);
          round = λ runs. subst (λ (h : List ℕ). IsInRound g.plan.b h (begun_with w a)) (sym none_made) (first_round g.plan.b a w);
        };
      })

  -- one worker more has begun
  module _ (workers : List (Working C)) (n : ℕ) (old new : Working C) (inside : n < length workers) (members : AreMembers ds target_lists f workers)
      (made : new ≡ begun_with (get_or workers n old) a)
    where
      pub posts_more : ((k : ℕ) (w : Working C) → k < n → IsPost ds target_lists g k (get_or workers k w))
          → (k : ℕ) (w : Working C) → k < n + 1 → IsPost ds target_lists g k (get_or (set workers n new) k w)
      posts_more before k w within = elim (cases_eq k n) [
        | inl same ↦ subst (λ (k : ℕ). IsPost ds target_lists g k (get_or (set workers n new) k w)) (sym same)
            (subst (IsPost ds target_lists g n) (sym (get_or-set_same workers n new w inside)) (post n (get_or workers n old) new made (members n old inside)))
        | inr other ↦ subst (IsPost ds target_lists g k) (sym (get_or-set_other workers n k new w other))
            (before k w (let apart = other in omega (arith, within, apart)))
      ]

      begun_member : IsMember ds target_lists f n new
      begun_member =
          let member = members n old inside in
          subst (IsMember ds target_lists f n) (sym made) (record {
            number = member.number;
            of = record {
              number = member.of.number;
              plan = member.of.plan;
              outer = member.of.outer;
              run = member.of.run;
              draws = member.of.draws;
            };
          })

      pub members_more : AreMembers ds target_lists f (set workers n new)
      members_more k w within = elim (cases_eq k n) [
        | inl same ↦ subst (λ (k : ℕ). IsMember ds target_lists f k (get_or (set workers n new) k w)) (sym same)
            (subst (IsMember ds target_lists f n) (sym (get_or-set_same workers n new w inside)) begun_member)
        | inr other ↦ subst (IsMember ds target_lists f k) (sym (get_or-set_other workers n k new w other))
            (members k w (let long = length-set workers n new in omega (arith, long, within)))
      ]

-- a worker that has begun holds nothing yet
pub holds_more : {V C : Type 0} (ds : ℕ → Draw) (g : Parts V) (a : ℕ) (workers : List (Working C)) (n : ℕ) (old new : Working C) → n < length workers
    → new ≡ begun_with (get_or workers n old) a
    → ((k : ℕ) (w : Working C) → k < n → KeepsRecords ds g (get_or workers k w))
    → (k : ℕ) (w : Working C) → k < n + 1 → KeepsRecords ds g (get_or (set workers n new) k w)
holds_more ds g a workers n old new inside made before k w within = elim (cases_eq k n) [
  | inl same ↦ subst (λ (k : ℕ). KeepsRecords ds g (get_or (set workers n new) k w)) (sym same)
      (subst (λ (x : Working _). KeepsRecords ds g x) (sym (get_or-set_same workers n new w inside))
      (subst (λ (x : Working _). KeepsRecords ds g x) (sym made) (record {
        records = λ record_of input some runs second within. absurd (omega (arith, second));
        chunks = λ record_of input some runs third within. absurd (omega (arith, third));
      })))
  | inr other ↦ subst (λ (x : Working _). KeepsRecords ds g x) (sym (get_or-set_other workers n k new w other))
      (before k w (let apart = other in omega (arith, within, apart)))
]
