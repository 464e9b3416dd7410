-- What a crew's run puts out, and what a run puts out that is handed its turns.
use Rattle.std.proofs.Common.{◌≡◌, inl, inr, ℕ, cond, Option, Some, None, List, [], ◌∷◌, ◌++◌, length, take, refl, sym, ap, ◌∙◌}
use Rattle.std.specs.Prelude.{IsSome, slice_get, unwrap_or}
use Rattle.std.specs.List.{concat, filter_map}
use Rattle.esa_analyser.specs.Opened.{database_of}
use Rattle.esa_analyser.specs.Rows.{database_bytes}
use Rattle.esa_command.specs.Work.{Work, Write}
use Rattle.esa_crowds.specs.Kept.{forward}
use Rattle.esa_device.specs.Recording.{Recorded}
use Rattle.esa_ending.specs.Seen.{Seen, come_out, turns_in}
use Rattle.esa_envelope.specs.Keys.{record_keys}
use Rattle.esa_envelope.specs.declared.label.Label.TheVariants.{Inner, Outer}
use Rattle.esa_job.specs.Request.{name_at}
use Rattle.esa_job.specs.declared.field.JobField.TheVariants as field
use Rattle.esa_model.specs.Forecast.{made}
use Rattle.esa_outside.specs.declared.Role.TheVariants as role
use Rattle.esa_params.specs.Sizes.{Sizes, first}
use Rattle.esa_params.specs.declared.slot.Access.{Access}
use Rattle.esa_refusal.specs.declared.status.DeviceAt.TheVariants.{Lay, Slot as AtSlot}
use Rattle.esa_refusal.specs.declared.status.Status.TheVariants as status
use Rattle.esa_shuffle.specs.Records.{records_given}
use Rattle.esa_shuffle.specs.Runs.{seen_of}
use Rattle.esa_shuffling.specs.Plan.{trace_writes}
use Rattle.esa_spec.specs.Draws.{Draw}
use Rattle.esa_spec.specs.Files.{trace_bytes}
use Rattle.esa_threshold.specs.Forward.{forward_bytes}
use Rattle.esa_taking.specs.Run.{Asked}
use Rattle.esa_taking.specs.Wanted.{inner_keys, sizes_in, turns_by}
use Rattle.esa_running.specs.ComingOut.{AreOfBatch, IsBegun, batch_records, batch_told}
use Rattle.esa_running.specs.Replaying.{ActedRun, IsGivenBack, IsReplayed, LeaveTheSame, NamesTrace, is_output, is_trace, written_to}
use Rattle.esa_running.specs.RunOwes.{HasEnded, HasSucceeded}
use Rattle.esa_running.specs.RunWork.{holds_text, line_for, made_text, output_for, shuffled_text, success_work, turns_writes}
use Rattle.esa_running.specs.declared.purpose.Purpose.{Purpose}
use Rattle.esa_running.specs.declared.purpose.Purpose.TheVariants.{Count, HandOn}
use Rattle.esa_running.proofs.HandedIn.{handed-places}
use Rattle.esa_running.proofs.Replayed.{as-made, few, same-success}

-- ---- the ending

-- a run that ended well has succeeded
module _ {V : Type 0} (purpose : Purpose) (told : V → Option (List (List ℕ))) (faults : V → ℕ) (asked : Asked) (given : List ℕ) (seen : Seen) (now : Recorded V) (work : Work) (well : work.ended ≡ status.Ok)
  where
    has-succeeded : HasEnded purpose told faults asked given seen now work → HasSucceeded purpose told faults asked given seen now work
    has-succeeded (inl s) = s
    has-succeeded (inr (inl o)) = absurd (let is : status.Ok ≡ status.Overflow o.failures = sym well ∙ ap (λ (w : Work). w.ended) o.owed in cc is)
    has-succeeded (inr (inr (inl f))) = absurd (let is : status.Ok ≡ status.DeviceFault (AtSlot f.number) = sym well ∙ ap (λ (w : Work). w.ended) f.owed in cc is)
    has-succeeded (inr (inr (inr (inl t)))) = absurd (let is : status.Ok ≡ status.Tampered t.number = sym well ∙ ap (λ (w : Work). w.ended) t.owed in cc is)
    has-succeeded (inr (inr (inr (inr (inl u))))) = absurd (let is : status.Ok ≡ status.OutsideFault role.Input = sym well ∙ ap (λ (w : Work). w.ended) u.owed in cc is)
    has-succeeded (inr (inr (inr (inr (inr n))))) = absurd (let is : status.Ok ≡ status.DeviceFault Lay = sym well ∙ ap (λ (w : Work). w.ended) n.owed in cc is)

-- ---- what a run leaves that succeeded

pub no-output : (named left : Option (List ℕ)) (accesses : List Access) (turns : List (List ℕ))
    → filter_map (λ (write : Write). cond (is_output write.sink) (Some write.bytes) None) (trace_writes named accesses ++ turns_writes left turns) ≡ []
no-output None None accesses turns = refl
no-output None (Some left) accesses turns = refl
no-output (Some named) None accesses turns = refl
no-output (Some named) (Some left) accesses turns = refl

pub one-trace : (named left : Option (List ℕ)) (accesses : List Access) (turns : List (List ℕ)) → IsSome named
    → filter_map (λ (write : Write). cond (is_trace write.sink) (Some write.bytes) None) (trace_writes named accesses ++ turns_writes left turns) ≡ trace_bytes accesses ∷ []
one-trace None left accesses turns some = absurd (cc some)
one-trace (Some named) None accesses turns some = refl
one-trace (Some named) (Some left) accesses turns some = refl

module _ (purpose : Purpose) (asked : Asked) (a : ℕ) (envelopes : List (List ℕ)) (accesses : List Access) (history : List ℕ) where
  output-left : written_to is_output (success_work purpose asked a envelopes accesses history) ≡ output_for purpose asked envelopes ∷ []
  output-left =
      ap (λ (others : List (List ℕ)). output_for purpose asked envelopes ∷ others) (no-output (name_at asked.job field.Trace) (name_at asked.job field.TurnsOut) accesses _)

  trace-left : NamesTrace asked → written_to is_trace (success_work purpose asked a envelopes accesses history) ≡ trace_bytes accesses ∷ []
  trace-left names = one-trace (name_at asked.job field.Trace) (name_at asked.job field.TurnsOut) accesses _ names

-- ---- by what both are asked for

module _ (asked again : Asked) (batch : again.batch ≡ asked.batch) (keys : again.keys ≡ asked.keys) where
  inner-same : inner_keys again ≡ inner_keys asked
  inner-same = λ i. record_keys (batch i).form (batch i).epoch (unwrap_or (keys i).inner []) Inner

  output-same : (purpose : Purpose) (one other : List (List ℕ)) → other ≡ one → output_for purpose again other ≡ output_for purpose asked one
  output-same Count one other same = λ i. database_bytes (batch i).form (database_of (inner-same i) (same i))
  output-same HandOn one other same = λ i. forward_bytes (batch i).form (batch i).epoch (same i)

  line-same : (purpose : Purpose) (a e m n : ℕ) (one other : List (List ℕ)) → e ≡ a → n ≡ m → other ≡ one → line_for purpose again e other n ≡ line_for purpose asked a one m
  line-same Count a e m n one other attempt number same =
      λ i. shuffled_text (attempt i) (batch i).count (length (same i)) ++ (holds_text (database_of (inner-same i) (same i)) ++ made_text (number i))
  line-same HandOn a e m n one other attempt number same = λ i. shuffled_text (attempt i) (batch i).count (length (same i)) ++ made_text (number i)

-- ---- both runs

-- the load of a run that began an attempt was given all records that its cabinet tells
module _ {V : Type 0} {purpose : Purpose} (run : ActedRun V purpose) (records : List (List ℕ)) (begun : IsBegun run.asked run.history) (told : batch_told run.asked run.taken.told ≡ Some records) where
  given-all : run.owes.given ≡ concat (take (first (sizes_in run.asked) (sizes_in run.asked).b) records)
  given-all = run.owes.load.as_told records told ∙ ap (λ (n : ℕ). concat (take (first (sizes_in run.asked) n) records)) (run.owes.load.whole begun)

module _ {U V : Type 0} {purpose : Purpose} (one : ActedRun U purpose) (other : ActedRun V purpose) (records : List (List ℕ)) (sizes : sizes_in other.asked ≡ sizes_in one.asked) (begun : IsBegun one.asked one.history)
    (begun_again : IsBegun other.asked other.history) (told : batch_told one.asked one.taken.told ≡ Some records) (told_again : batch_told other.asked other.taken.told ≡ Some records)
  where
    pub given-the-same : other.owes.given ≡ one.owes.given
    given-the-same =
        given-all other records begun_again told_again
        ∙ ap (λ (p : Sizes). concat (take (first p p.b) records)) sizes
        ∙ sym (given-all one records begun told)

module _ {U V : Type 0} {purpose : Purpose} (one : ActedRun U purpose) (other : ActedRun V purpose) (is : IsReplayed one other) (back : IsGivenBack one) (back_again : IsGivenBack other) (well : one.work.ended ≡ status.Ok)
    (well_again : other.work.ended ≡ status.Ok)
  where
    abbrev p : Sizes
    p = sizes_in one.asked

    abbrev ds : ℕ → Draw
    ds = one.asked.draws

    abbrev hs : List (List ℕ)
    hs = turns_by one.asked one.history

    abbrev seen : Seen
    seen = seen_of one.faults one.before one.taken.faults one.recorder one.history one.acted.faults

    abbrev seen_again : Seen
    seen_again = seen_of other.faults other.before other.taken.faults other.recorder other.history other.acted.faults

    abbrev well_one : HasSucceeded purpose one.told one.faults one.asked one.owes.given seen one.recorder one.work
    well_one = has-succeeded purpose one.told one.faults one.asked one.owes.given seen one.recorder one.work well one.owes.ends

    abbrev well_other : HasSucceeded purpose other.told other.faults other.asked other.owes.given seen_again other.recorder other.work
    well_other = has-succeeded purpose other.told other.faults other.asked other.owes.given seen_again other.recorder other.work well_again other.owes.ends

    -- the attempt and the accesses
    same : (well_other.attempt ≡ well_one.attempt) × (other.recorder.trace ≡ one.recorder.trace)
    same = same-success one.asked other.asked seen seen_again is.crew is.turned is.sizes is.draws is.turns well_one.attempt well_other.attempt well_one.ends well_other.ends

    -- the records, by place
    records-same : batch_records other.asked other.owes.given ≡ batch_records one.asked one.owes.given
    records-same =
        λ i. records_given (is.sizes i) (record_keys (is.batch i).form (is.batch i).epoch (unwrap_or (is.keys i).outer []) Outer) (is.given i)

    of-batch : AreOfBatch one.asked well_one.attempt one.history one.owes.given well_one.forwards.forwarded.first well_one.forwards.forwarded.second well_one.envelopes
    of-batch = well_one.comes_out back

    of-batch-again : AreOfBatch other.asked well_other.attempt other.history other.owes.given well_other.forwards.forwarded.first well_other.forwards.forwarded.second well_other.envelopes
    of-batch-again = well_other.comes_out back_again

    -- the order in which they come out
    out-same : of-batch-again.out ≡ of-batch.out
    out-same =
        as-made one.asked other.asked seen seen_again is.crew is.turned is.sizes is.draws is.turns
        (λ q d ls. of-batch-again.out ≡ come_out q (d well_other.attempt) (turns_in ls well_other.attempt) (batch_records other.asked other.owes.given)) of-batch-again.order.order
        ∙ (λ i. come_out p (ds (same.0 i)) (turns_in (made p ds hs) (same.0 i)) (records-same i))
        ∙ ap (filter_map (slice_get (batch_records one.asked one.owes.given)))
        (handed-places p ds hs well_one.attempt (few one.asked other.asked seen seen_again is.crew is.turned is.sizes is.draws is.turns well_one.attempt well_one.ends) well_one.ends.good)
        ∙ sym of-batch.order.order

    -- what is kept of them
    envelopes-same : well_other.envelopes ≡ well_one.envelopes
    envelopes-same =
        of-batch-again.kept
        ∙ (λ i. forward (is.batch i).form (unwrap_or (is.keys i).drop_key []) (is.drops i) (is.threshold i) (out-same i))
        ∙ sym of-batch.kept

    pub leave-the-same : LeaveTheSame one other
    leave-the-same = record {
      accesses = same.1;
      output =
          ap (written_to is_output) well_other.owed
          ∙ output-left purpose other.asked well_other.attempt well_other.envelopes other.recorder.trace other.history
          ∙ ap (λ (bytes : List ℕ). bytes ∷ []) (output-same one.asked other.asked is.batch is.keys purpose well_one.envelopes well_other.envelopes envelopes-same)
          ∙ sym (output-left purpose one.asked well_one.attempt well_one.envelopes one.recorder.trace one.history)
          ∙ sym (ap (written_to is_output) well_one.owed);
      trace = λ names names_again.
          ap (written_to is_trace) well_other.owed
          ∙ trace-left purpose other.asked well_other.attempt well_other.envelopes other.recorder.trace other.history names_again
          ∙ ap (λ (accesses : List Access). trace_bytes accesses ∷ []) same.1
          ∙ sym (trace-left purpose one.asked well_one.attempt well_one.envelopes one.recorder.trace one.history names)
          ∙ sym (ap (written_to is_trace) well_one.owed);
      lines =
          ap (λ (work : Work). work.prints) well_other.owed
          ∙ ap (λ (line : List ℕ). line ∷ []) (line-same one.asked other.asked is.batch is.keys purpose well_one.attempt well_other.attempt (length one.recorder.trace) (length other.recorder.trace) well_one.envelopes well_other.envelopes
          same.0 (ap length same.1) envelopes-same)
          ∙ sym (ap (λ (work : Work). work.prints) well_one.owed);
    }
