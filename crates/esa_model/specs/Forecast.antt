-- What a forecast says.
use Rattle.std.specs.Prelude.{ℕ, ◌+◌, if◌then◌else◌, List, [], ◌∷◌, map, slice_index_or}
use Rattle.esa_params.specs.Sizes.{Sizes, below}
use Rattle.esa_params.specs.Slots.{greatest_trace}
use Rattle.esa_params.specs.declared.slot.Access.{Access}
use Rattle.esa_spec.specs.Completion.{full}
use Rattle.esa_spec.specs.Draws.{Draw}
use Rattle.esa_spec.specs.Verdicts.{is_good, verdict}
use Rattle.esa_spec.specs.declared.event.Verdict.{Verdict}

-- the list that was handed in for an attempt, or the empty one
abbrev pub handed_in : List (List ℕ) → ℕ → List ℕ
handed_in turns a = slice_index_or turns a []

-- the turns of an attempt: its list, completed
abbrev pub made_in : Sizes → (ℕ → Draw) → List (List ℕ) → ℕ → List ℕ
made_in p ds turns a = full p (ds a) (handed_in turns a)

-- the turns of each planned attempt
abbrev pub made : Sizes → (ℕ → Draw) → List (List ℕ) → List (List ℕ)
made p ds turns = map (made_in p ds turns) (below p.attempts)

-- how the attempts from attempt a on end, up to the first that succeeds
abbrev pub verdicts : Sizes → (ℕ → Draw) → ℕ → List (List ℕ) → List Verdict
verdicts p ds a [] = []
verdicts p ds a (h ∷ hs) = verdict p (ds a) h ∷ (if is_good (verdict p (ds a) h) then [] else verdicts p ds (a + 1) hs)

-- the verdicts and the accesses of a forecast, and how many of each there is room for
pub record Foretold : Type 0 where
  pub verdicts : List Verdict
  pub most_verdicts : ℕ
  pub accesses : List Access
  pub most_accesses : ℕ

-- nothing is foretold, and there is room for the verdicts and accesses of a plan
abbrev pub nothing_foretold : Sizes → Foretold
nothing_foretold p = record { verdicts = []; most_verdicts = p.attempts; accesses = []; most_accesses = greatest_trace p }
