-- A floor that was loaded stands once its first attempt is begun.
use Rattle.std.proofs.Common.{◌≡◌, ℕ, zero, suc, ◌+◌, ◌-◌, ◌*◌, ◌<◌, List, [], ◌∷◌, ◌++◌, length, take, All, Option, Some, refl, sym, ap, ap₂, ◌∙◌, subst, arith, append-nil}
use Rattle.std.proofs.lemmas.List.{length-append}
use Rattle.std.proofs.lemmas.List.Elements.{All-nil, All-replicate}
use Rattle.esa_laws.proofs.HistoryLaws.{begun-owner, latest-owner, lists-first}
use Rattle.esa_params.specs.Sizes.{Sizes}
use Rattle.esa_params.specs.Slots.{item_length}
use Rattle.esa_spec.specs.Draws.{Draw}
use Rattle.esa_spec.specs.Histories.{begun, latest, lists}
use Rattle.esa_spec.specs.Traces.{all_failed, attempts, load, spread}
use Rattle.esa_stash.specs.Stash.{empty_stash, queue_at}
use Rattle.esa_vault.specs.Placed.{IsHeld, IsSpelled}
use Rattle.esa_floor.specs.Parts.{Parts, begun_as, no_counts, nothing_counted}
use Rattle.esa_floor.specs.Standing.{IsAt, IsAtWork, IsSpread, Stands}
use Rattle.esa_floor.specs.declared.turn.Outcome.{Outcome}
use Rattle.esa_crew.specs.Loads.{IsLoaded}

none_waits : (b c s i : ℕ) → length (queue_at (empty_stash b c s) i) ≡ 0
none_waits zero c s i = refl
none_waits (suc b) c s zero = refl
none_waits (suc b) c s (suc i) = none_waits b c s i

pub fresh : (p : Sizes) (d : Draw) → IsSpread p d [] (empty_stash p.b p.c p.s) (no_counts p.b) nothing_counted
fresh p d = record {
  runs = refl;
  waits = λ i inside. let none : 0 - (0 + 0 * p.c) ≡ 0 = omega arith in none_waits p.b p.c p.s i ∙ sym none;
  held = All-replicate (All IsHeld) p.b [] (All-nil IsHeld);
  spelled = All-replicate (All (IsSpelled (item_length p.form))) p.b [] (All-nil (IsSpelled (item_length p.form)));
  chunks = λ j i inside there. absurd (omega (arith, there));
  claims = omega arith;
  writes = refl;
}

module _ {V : Type 0} (faults : V → ℕ) (p : Sizes) (ds : ℕ → Draw) (f : Parts V) (loaded : IsLoaded faults p ds f) where
  abbrev owner : ℕ
  owner = f.plan.workers

  one_begun : begun owner (f.history ++ owner ∷ []) ≡ 1
  one_begun = begun-owner owner f.history ∙ ap (λ (n : ℕ). n + 1) loaded.none_begun

  none_made : latest owner (f.history ++ owner ∷ []) ≡ []
  none_made = latest-owner owner f.history

  none_before : lists owner (f.history ++ owner ∷ []) ≡ []
  none_before = lists-first owner f.history loaded.none_begun

  at_work : IsAtWork faults ds (begun_as f 0) 0
  at_work = record {
    done = 0;
    attempt = sym (ap (λ (n : ℕ). n - 1) one_begun);
    some_begun = let one = one_begun in omega (arith, one);
    planned = subst (λ (q : Sizes). 0 < q.attempts) (sym loaded.of.plan) loaded.attempts;
    earlier = ap (all_failed f.plan ds 0) none_before;
    traced = loaded.trace ∙ sym (append-nil (load f.plan)) ∙ sym (append-nil (load f.plan ++ []))
        ∙ ap₂ (λ (l : List (List ℕ)) (h : List ℕ). (load f.plan ++ attempts f.plan ds 0 l) ++ spread f.plan (ds 0) 0 (take 1 h)) (sym none_before) (sym none_made);
    spread = subst (λ (h : List ℕ). IsSpread f.plan (ds 0) (take 0 h) (empty_stash f.plan.b f.plan.c f.plan.s) (no_counts f.plan.b) nothing_counted) (sym none_made) (fresh f.plan (ds 0));
    stops = (sym (ap length none_made), loaded.calm);
  }

  pub first_begins : Stands faults p ds (begun_as f 0)
  first_begins = record {
    of = record {
      plan = loaded.of.plan;
      ready = loaded.of.ready;
      room = loaded.of.room;
      entries = let long = length-append f.history (owner ∷ []) in let room = loaded.room in omega (arith, long, room);
    };
    drawn = loaded.drawn;
    state = subst (λ (o : Option Outcome). IsAt faults ds (begun_as f 0) o (Some 0)) (sym loaded.goes_on) at_work;
  }
