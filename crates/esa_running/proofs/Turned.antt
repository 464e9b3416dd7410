-- Whose turns a shuffle is said by, and how many lists there are.
use Rattle.std.proofs.Common.{◌≡◌, inl, inr, ℕ, ◌+◌, ◌≤◌, true, false, List, length, sym, ap, subst, ◌∙◌, arith}
use Rattle.std.proofs.lemmas.Bool.{cases_Bool, cond-true, cond-false}
use Rattle.std.proofs.lemmas.List.{length-take}
use Rattle.esa_ending.specs.Seen.{Seen}
use Rattle.esa_envelope.specs.declared.keys.Keys.{Keys}
use Rattle.esa_floor.specs.declared.turn.Outcome.{Outcome}
use Rattle.esa_job.specs.Refusal.{runs_crew}
use Rattle.esa_model.specs.Forecast.{made}
use Rattle.esa_params.specs.Sizes.{Sizes}
use Rattle.esa_spec.specs.Histories.{lists}
use Rattle.esa_spec.specs.declared.event.Verdict.{Verdict}
use Rattle.esa_shuffle.specs.Runs.{EndWithCut, EndsRun, IsShuffled, opens_last}
use Rattle.esa_shuffling.proofs.Turning.{made_few}
use Rattle.esa_taking.specs.Run.{Asked}
use Rattle.esa_running.specs.RunOwes.{EndsShuffle}
use Rattle.esa_taking.specs.Wanted.{sizes_in, turns_by, block_keys, HasFewAttempts}

module _ (asked : Asked) where
  -- those of a crew
  by_crew : (history : List ℕ) → runs_crew asked.job ≡ true → turns_by asked history ≡ lists (sizes_in asked).workers history
  by_crew history crew = cond-true (runs_crew asked.job) (lists (sizes_in asked).workers history) (made (sizes_in asked) asked.draws asked.turns) crew

  -- those that are handed in
  by_turns : (history : List ℕ) → runs_crew asked.job ≡ false → turns_by asked history ≡ made (sizes_in asked) asked.draws asked.turns
  by_turns history none = cond-false (runs_crew asked.job) (lists (sizes_in asked).workers history) (made (sizes_in asked) asked.draws asked.turns) none

  pub handed_in_are : (p : Sizes) (history : List ℕ) → p ≡ sizes_in asked → runs_crew asked.job ≡ false → made p asked.draws asked.turns ≡ turns_by asked history
  handed_in_are p history plan none = ap (λ (q : Sizes). made q asked.draws asked.turns) plan ∙ sym (by_turns history none)

  pub stored_are : (p : Sizes) (history : List ℕ) → p ≡ sizes_in asked → runs_crew asked.job ≡ true → lists p.workers history ≡ turns_by asked history
  stored_are p history plan crew = ap (λ (q : Sizes). lists q.workers history) plan ∙ sym (by_crew history crew)

  -- turns that are handed in are completed for each planned attempt
  pub few_handed_in : (history : List ℕ) → runs_crew asked.job ≡ false → HasFewAttempts asked history
  few_handed_in history none = omega (arith, ap length (by_turns history none), made_few (sizes_in asked) asked.draws asked.turns)

  -- a crew takes no turns of attempts that are not planned
  pub few_stored : (history : List ℕ) → runs_crew asked.job ≡ true → length (lists (sizes_in asked).workers history) ≤ (sizes_in asked).attempts → HasFewAttempts asked history
  few_stored history crew few = omega (arith, ap length (by_crew history crew), few)

  -- nor does one whose shuffle succeeded, since the good attempt is the last one
  pub few_shuffled : (seen : Seen) (a : ℕ) → IsShuffled (sizes_in asked) asked.draws (turns_by asked seen.history) seen a → HasFewAttempts asked seen.history
  few_shuffled seen a s = elim (cases_Bool (runs_crew asked.job)) [
    | inl crew ↦
        few_stored seen.history crew (omega (arith, ap length s.turns, length-take (a + 1) (turns_by asked seen.history), s.planned))
    | inr none ↦ few_handed_in seen.history none
  ]

  -- a shuffle with these turns ended as is said of what was asked for
  module _ (p : Sizes) (keys : Keys) (seen : Seen) (last : List ℕ) (failures : List Verdict) (o : Outcome) (plan : p ≡ sizes_in asked) (run : keys ≡ block_keys asked) where
    ended_as : (hs : List (List ℕ)) → hs ≡ turns_by asked seen.history → EndsRun p asked.draws hs seen (opens_last p keys last) failures o
        → EndsRun (sizes_in asked) asked.draws (turns_by asked seen.history) seen (opens_last (sizes_in asked) (block_keys asked) last) failures o
    ended_as hs turns ends =
        subst (λ (x : Sizes × Keys × List (List ℕ)). EndsRun x.0 asked.draws x.2 seen (opens_last x.0 x.1 last) failures o) (λ i. (plan i, run i, turns i)) ends

    pub ended_by_turns : runs_crew asked.job ≡ false → EndsRun p asked.draws (made p asked.draws asked.turns) seen (opens_last p keys last) failures o
        → EndWithCut p (lists p.workers seen.history) (made p asked.draws asked.turns) seen.trace o → EndsShuffle asked seen last failures o
    ended_by_turns none ends cut = record {
      run = ended_as (made p asked.draws asked.turns) (handed_in_are p seen.history plan none) ends;
      cut = λ by. subst (λ (x : Sizes × List (List ℕ)). EndWithCut x.0 (lists x.0.workers seen.history) x.1 seen.trace o) (λ i. (plan i, handed_in_are p seen.history plan none i)) cut;
    }

    pub ended_by_crew : runs_crew asked.job ≡ true → EndsRun p asked.draws (lists p.workers seen.history) seen (opens_last p keys last) failures o → EndsShuffle asked seen last failures o
    ended_by_crew crew ends = record {
      run = ended_as (lists p.workers seen.history) (stored_are p seen.history plan crew) ends;
      cut = λ by. let clash : true ≡ false = sym crew ∙ by in absurd (cc clash);
    }
