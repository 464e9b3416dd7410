-- The lines of attempts.
use Rattle.std.specs.Prelude.{ℕ, ◌+◌, List, [], ◌∷◌, ◌++◌, codes, take}
use Rattle.esa_spec.specs.declared.event.Verdict.{Verdict}
use Rattle.esa_spec.specs.declared.event.Verdict.TheVariants as verdict
use Rattle.esa_refusal.specs.declared.failures.Failures.{Failures}
use Rattle.esa_refusal.specs.Refusal.{numbered}

-- the line of an attempt that ends so
abbrev pub verdict_text : ℕ → Verdict → List ℕ
verdict_text attempt verdict.Good = numbered (codes "attempt ") attempt ++ codes " good"
verdict_text attempt (verdict.StashOverflow bucket) = numbered (codes "attempt ") attempt ++ numbered (codes " stash-overflow ") bucket
verdict_text attempt (verdict.StashLeft target) = numbered (codes "attempt ") attempt ++ numbered (codes " stash-left ") target
verdict_text attempt (verdict.QueueOverflow bucket) = numbered (codes "attempt ") attempt ++ numbered (codes " queue-overflow ") bucket
verdict_text attempt (verdict.QueueStarved bucket) = numbered (codes "attempt ") attempt ++ numbered (codes " queue-starved ") bucket

-- a line for each attempt, from this one on
abbrev pub verdict_texts : ℕ → List Verdict → List (List ℕ)
verdict_texts attempt [] = []
verdict_texts attempt (verdict ∷ verdicts) = verdict_text attempt verdict ∷ verdict_texts (attempt + 1) verdicts

-- how the attempts that were made ended
abbrev pub verdicts_of : Failures → List Verdict
verdicts_of failures = take failures.count failures.verdicts
