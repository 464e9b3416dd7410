-- How a list of turns is completed, so that each attempt comes to its end whatever turns are handed in.
use Rattle.std.specs.Prelude.{ℕ, zero, suc, ◌+◌, ◌*◌, Bool, true, ◌&&◌, unwrap_or, List, [], ◌∷◌, ◌++◌, length, take, find}
use Rattle.esa_params.specs.Sizes.{Sizes, below}
use Rattle.esa_spec.specs.Draws.{Draw}
use Rattle.esa_spec.specs.Verdicts.{is_finished}

-- a list n times over
abbrev pub again : ℕ → List ℕ → List ℕ
again zero xs = []
again (suc n) xs = xs ++ again n xs

-- the turns, and behind them the turns of all workers, one after another, as often as may be needed
abbrev pub completed : Sizes → List ℕ → List ℕ
completed p turns = turns ++ again (p.b * (p.b + 3)) (below p.workers)

-- the first n turns are finished
abbrev pub is_finished_at : Sizes → Draw → List ℕ → ℕ → Bool
is_finished_at p d h n = is_finished p d (take n h)

-- how many turns are made: the least number that is finished
abbrev pub turns_needed : Sizes → Draw → List ℕ → ℕ
turns_needed p d h = unwrap_or (find (is_finished_at p d h) (below (length h + 1))) (length h)

-- the shortest finished beginning of the completed turns
abbrev pub full : Sizes → Draw → List ℕ → List ℕ
full p d turns = take (turns_needed p d (completed p turns)) (completed p turns)

-- each of these attempts, from attempt a on, is finished
abbrev pub all_finished : Sizes → (ℕ → Draw) → ℕ → List (List ℕ) → Bool
all_finished p ds a [] = true
all_finished p ds a (h ∷ hs) = is_finished p (ds a) h && all_finished p ds (a + 1) hs

-- the lists of these attempts, each completed
abbrev pub completions : Sizes → (ℕ → Draw) → ℕ → List (List ℕ) → List (List ℕ)
completions p ds a [] = []
completions p ds a (h ∷ hs) = full p (ds a) h ∷ completions p ds (a + 1) hs
