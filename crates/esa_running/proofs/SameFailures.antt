-- What a crew's run leaves that failed in each attempt, and what a run leaves that is handed its turns.
use Rattle.std.proofs.Common.{◌≡◌, inl, inr, ℕ, Option, List, [], ◌∷◌, ◌++◌, sym, ap, ◌∙◌}
use Rattle.std.specs.Prelude.{codes}
use Rattle.esa_command.specs.Doing.{failed_work}
use Rattle.esa_command.specs.Work.{Work}
use Rattle.esa_device.specs.Recording.{Recorded}
use Rattle.esa_ending.specs.Seen.{Seen}
use Rattle.esa_job.specs.Request.{name_at}
use Rattle.esa_job.specs.declared.field.JobField.TheVariants as field
use Rattle.esa_outside.specs.declared.Role.TheVariants as role
use Rattle.esa_params.specs.declared.slot.Access.{Access}
use Rattle.esa_refusal.specs.Failures.{verdict_texts, verdicts_of}
use Rattle.esa_refusal.specs.declared.failures.Failures.{Failures}
use Rattle.esa_refusal.specs.declared.status.DeviceAt.TheVariants.{Lay, Slot as AtSlot}
use Rattle.esa_refusal.specs.declared.status.Status.TheVariants as status
use Rattle.esa_shuffle.specs.Runs.{seen_of}
use Rattle.esa_spec.specs.Files.{trace_bytes}
use Rattle.esa_spec.specs.declared.event.Verdict.{Verdict}
use Rattle.esa_taking.specs.Run.{Asked}
use Rattle.esa_running.specs.Replaying.{ActedRun, IsReplayed, LeaveTheSame, NamesTrace, is_output, is_trace, written_to}
use Rattle.esa_running.specs.RunOwes.{HasEnded, HasOverflowed, records_owed}
use Rattle.esa_running.specs.declared.purpose.Purpose.{Purpose}
use Rattle.esa_running.proofs.Replayed.{same-failures, same-overflow}
use Rattle.esa_running.proofs.SameOutput.{no-output, one-trace}

-- a run that ended so has failed in each attempt
module _ {V : Type 0} (purpose : Purpose) (told : V → Option (List (List ℕ))) (faults : V → ℕ) (asked : Asked) (given : List ℕ) (seen : Seen) (now : Recorded V) (work : Work) (f : Failures)
    (failed : work.ended ≡ status.Overflow f)
  where
    has-overflowed : HasEnded purpose told faults asked given seen now work → HasOverflowed asked seen work
    has-overflowed (inl s) = absurd (let is : status.Overflow f ≡ status.Ok = sym failed ∙ ap (λ (w : Work). w.ended) s.owed in cc is)
    has-overflowed (inr (inl o)) = o
    has-overflowed (inr (inr (inl d))) = absurd (let is : status.Overflow f ≡ status.DeviceFault (AtSlot d.number) = sym failed ∙ ap (λ (w : Work). w.ended) d.owed in cc is)
    has-overflowed (inr (inr (inr (inl t)))) = absurd (let is : status.Overflow f ≡ status.Tampered t.number = sym failed ∙ ap (λ (w : Work). w.ended) t.owed in cc is)
    has-overflowed (inr (inr (inr (inr (inl u))))) = absurd (let is : status.Overflow f ≡ status.OutsideFault role.Input = sym failed ∙ ap (λ (w : Work). w.ended) u.owed in cc is)
    has-overflowed (inr (inr (inr (inr (inr n))))) = absurd (let is : status.Overflow f ≡ status.DeviceFault Lay = sym failed ∙ ap (λ (w : Work). w.ended) n.owed in cc is)

-- what it leaves
module _ (asked : Asked) (seen : Seen) (f : Failures) where
  none-left : written_to is_output (failed_work (status.Overflow f) (records_owed asked seen)) ≡ []
  none-left = no-output (name_at asked.job field.Trace) (name_at asked.job field.TurnsOut) seen.trace _

  trace-left : NamesTrace asked → written_to is_trace (failed_work (status.Overflow f) (records_owed asked seen)) ≡ trace_bytes seen.trace ∷ []
  trace-left names = one-trace (name_at asked.job field.Trace) (name_at asked.job field.TurnsOut) seen.trace _ names

-- both runs
module _ {U V : Type 0} {purpose : Purpose} (one : ActedRun U purpose) (other : ActedRun V purpose) (f g : Failures) (is : IsReplayed one other) (failed : one.work.ended ≡ status.Overflow f)
    (failed_again : other.work.ended ≡ status.Overflow g)
  where
    abbrev seen : Seen
    seen = seen_of one.faults one.before one.taken.faults one.recorder one.history one.acted.faults

    abbrev seen_again : Seen
    seen_again = seen_of other.faults other.before other.taken.faults other.recorder other.history other.acted.faults

    abbrev this : HasOverflowed one.asked seen one.work
    this = has-overflowed purpose one.told one.faults one.asked one.owes.given seen one.recorder one.work f failed one.owes.ends

    abbrev that : HasOverflowed other.asked seen_again other.work
    that = has-overflowed purpose other.told other.faults other.asked other.owes.given seen_again other.recorder other.work g failed_again other.owes.ends

    accesses-same : other.recorder.trace ≡ one.recorder.trace
    accesses-same =
        same-overflow one.asked other.asked seen seen_again is.crew is.turned is.sizes is.draws is.turns (verdicts_of this.failures) (verdicts_of that.failures) this.ends that.ends

    failures-same : verdicts_of that.failures ≡ verdicts_of this.failures
    failures-same =
        same-failures one.asked other.asked seen seen_again is.crew is.turned is.sizes is.draws is.turns (verdicts_of this.failures) (verdicts_of that.failures) this.ends that.ends

    pub fail-alike : LeaveTheSame one other
    fail-alike = record {
      accesses = accesses-same;
      output =
          ap (written_to is_output) that.owed
          ∙ none-left other.asked seen_again that.failures
          ∙ sym (none-left one.asked seen this.failures)
          ∙ sym (ap (written_to is_output) this.owed);
      trace = λ names names_again.
          ap (written_to is_trace) that.owed
          ∙ trace-left other.asked seen_again that.failures names_again
          ∙ ap (λ (accesses : List Access). trace_bytes accesses ∷ []) accesses-same
          ∙ sym (trace-left one.asked seen this.failures names)
          ∙ sym (ap (written_to is_trace) this.owed);
      lines =
          ap (λ (work : Work). work.prints) that.owed
          ∙ ap (λ (verdicts : List Verdict). verdict_texts 0 verdicts ++ codes "overflow" ∷ []) failures-same
          ∙ sym (ap (λ (work : Work). work.prints) this.owed);
    }
