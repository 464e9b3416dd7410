-- What is owed by the outcome of a shuffle, and that what tells of it fits its files.
use Rattle.std.proofs.Common.{◌≡◌, ℕ, ◌+◌, ◌≤◌, List, length, refl, sym, ap, subst, arith}
use Rattle.std.proofs.lemmas.List.{length-map, length-take}
use Rattle.std.proofs.lemmas.List.FromFn.{length-range_with_len}
use Rattle.esa_ending.specs.Endings.{Overflows}
use Rattle.esa_ending.specs.Seen.{Seen, stored, verdict_in}
use Rattle.esa_ending.proofs.FrontLaws.{whole, joined-front, load-front}
use Rattle.esa_floor.specs.declared.turn.Outcome.{Outcome}
use Rattle.esa_floor.specs.declared.turn.Outcome.TheVariants as outcome
use Rattle.esa_outside.specs.declared.Role.TheVariants as role
use Rattle.esa_params.specs.Sizes.{ArePlanned, below}
use Rattle.esa_spec.specs.Fronts.{Begins}
use Rattle.esa_spec.specs.Traces.{good_attempt, scans, shuffle_trace, trace}
use Rattle.esa_spec.specs.declared.event.Verdict.{Verdict}
use Rattle.esa_refusal.specs.declared.failures.Failures.{Failures}
use Rattle.esa_refusal.specs.declared.status.DeviceAt.TheVariants.{Slot as AtSlot}
use Rattle.esa_refusal.specs.declared.status.Status.TheVariants as status
use Rattle.esa_refusal.specs.Failures.{verdicts_of}
use Rattle.esa_shuffle.specs.Runs.{IsShuffled}
use Rattle.esa_command.specs.Doing.{failed_work}
use Rattle.esa_taking.specs.Run.{Asked}
use Rattle.esa_running.specs.RunOwes.{EndsShuffle, records_owed, where_made, HasOverflowed, HasFailedAt, IsTamperedAt, IsUnloaded}
use Rattle.esa_running.specs.RunWork.{FitFiles}
use Rattle.esa_taking.specs.StoredTurns.{IsHistory}
use Rattle.esa_taking.specs.Wanted.{sizes_in, turns_by, HasFewAttempts}
use Rattle.esa_running.proofs.Fitting.{front_fits}

module _ (asked : Asked) (seen : Seen) (last : List ℕ) (failures : List Verdict) where
  -- the shuffle ended so
  abbrev pub Ended : Outcome → Type 0
  Ended = EndsShuffle asked seen last failures

  -- ---- what is owed

  pub overflowed : (kept : Failures) → verdicts_of kept ≡ failures → Ended outcome.Overflow → HasOverflowed asked seen (failed_work (status.Overflow kept) (records_owed asked seen))
  overflowed kept is e = record { failures = kept; ends = subst (Overflows (sizes_in asked) asked.draws (turns_by asked seen.history) seen) (sym is) e.run.outcome; owed = refl }

  pub failed_at : (number : ℕ) → Ended (outcome.DeviceFault number) → HasFailedAt asked seen (failed_work (status.DeviceFault (AtSlot number)) (records_owed asked seen))
  failed_at number e = record { number = number; ends = e.run.outcome; turns = λ by. e.cut by e.run.outcome.access e.run.outcome.cut.last; owed = refl }

  pub tampered_at : (number : ℕ) → Ended (outcome.Tampered number) → IsTamperedAt asked seen last (failed_work (status.Tampered number) (records_owed asked seen))
  tampered_at number e = record { number = number; ends = e.run.outcome; turns = λ by. e.cut by e.run.outcome.access e.run.outcome.cut.last; owed = refl }

  pub unloaded : Ended outcome.BatchFailed → IsUnloaded asked seen (failed_work (status.OutsideFault role.Input) (where_made seen.trace (records_owed asked seen)))
  unloaded e = record { ends = e.run.outcome; owed = refl }

  -- no more attempts have failed than are planned
  pub few_failures : Ended outcome.Overflow → length failures ≤ (sizes_in asked).attempts
  few_failures e =
      omega (arith, ap length e.run.outcome.verdicts, length-map (below (sizes_in asked).attempts) (verdict_in (sizes_in asked) asked.draws (turns_by asked seen.history)), length-range_with_len 0 (sizes_in asked).attempts)

  -- ---- what tells of it fits its files

  -- the accesses of a shuffle that succeeded are a front of those of its stored turns
  stored_front : (a : ℕ) → IsShuffled (sizes_in asked) asked.draws (turns_by asked seen.history) seen a → Begins seen.trace (trace (sizes_in asked) asked.draws (stored (sizes_in asked) seen))
  stored_front a s =
      let p = sizes_in asked in
      let hs = stored p seen in
      subst (λ xs. Begins xs (trace p asked.draws hs)) (sym s.made) (joined-front (shuffle_trace p asked.draws hs) (scans p (good_attempt p asked.draws 0 hs)))

  few_stored : (a : ℕ) → IsShuffled (sizes_in asked) asked.draws (turns_by asked seen.history) seen a → length (stored (sizes_in asked) seen) ≤ (sizes_in asked).attempts
  few_stored a s = omega (arith, ap length s.turns, length-take (a + 1) (turns_by asked seen.history), s.planned)

  module _ (planned : ArePlanned (sizes_in asked)) (few : HasFewAttempts asked seen.history) where
    fits_by : Begins seen.trace (trace (sizes_in asked) asked.draws (turns_by asked seen.history)) → IsHistory (sizes_in asked).workers seen.history → FitFiles (sizes_in asked).workers seen.trace seen.history
    fits_by front turns =
        front_fits (sizes_in asked) asked.draws (turns_by asked seen.history) seen.trace seen.history planned few front turns

    pub ended_fits : (o : Outcome) → Ended o → FitFiles (sizes_in asked).workers seen.trace seen.history
    ended_fits (outcome.Shuffled a) e =
        front_fits (sizes_in asked) asked.draws (stored (sizes_in asked) seen) seen.trace seen.history planned (few_stored a e.run.outcome) (stored_front a e.run.outcome) e.run.outcome.history
    ended_fits outcome.Overflow e = fits_by (whole seen.trace (trace (sizes_in asked) asked.draws (turns_by asked seen.history)) e.run.outcome.whole) e.run.outcome.history
    ended_fits (outcome.DeviceFault number) e = fits_by e.run.outcome.cut.front e.run.outcome.cut.history
    ended_fits (outcome.Tampered number) e = fits_by e.run.outcome.cut.front e.run.outcome.cut.history
    ended_fits outcome.BatchFailed e =
        fits_by (load-front (sizes_in asked) asked.draws (turns_by asked seen.history) (length seen.trace) seen.trace e.run.outcome.there e.run.outcome.written) e.run.outcome.history
