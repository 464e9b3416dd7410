-- What tells how a shuffle went fits its files.
use Rattle.std.proofs.Common.{ℕ, ◌<◌, ◌≤◌, List, length, take, All, refl, ap, subst, ◌∙◌, arith}
use Rattle.std.proofs.lemmas.List.{take_at}
use Rattle.std.proofs.lemmas.List.Elements.{All-take}
use Rattle.esa_params.specs.Sizes.{Sizes, ArePlanned}
use Rattle.esa_params.specs.declared.slot.Access.{Access}
use Rattle.esa_spec.specs.Draws.{Draw}
use Rattle.esa_spec.specs.Fronts.{Begins}
use Rattle.esa_spec.specs.Traces.{trace}
use Rattle.esa_ending.proofs.FrontLaws.{shorter}
use Rattle.esa_trace.proofs.AttemptLaws.{attempts_fit}
use Rattle.esa_trace.proofs.NumberLaws.{number_fits}
use Rattle.esa_running.specs.RunWork.{FitFiles}
use Rattle.esa_taking.specs.StoredTurns.{IsHistory}

-- a front of the accesses of no more attempts than are planned
pub front_fits : (p : Sizes) (ds : ℕ → Draw) (hs : List (List ℕ)) (accesses : List Access) (history : List ℕ) → ArePlanned p → length hs ≤ p.attempts → Begins accesses (trace p ds hs) → IsHistory p.workers history
    → FitFiles p.workers accesses history
front_fits p ds hs accesses history planned few front turns = record {
  attempts = subst (λ xs. All (λ access. access.attempt < 256) xs) (ap (take (length accesses)) front.1 ∙ take_at accesses front.0 (length accesses) refl)
      (All-take (λ access. access.attempt < 256) (length accesses) (trace p ds hs) (attempts_fit p ds hs planned few));
  number = omega (arith, shorter accesses (trace p ds hs) front, number_fits p ds hs planned few);
  turns = turns;
}
