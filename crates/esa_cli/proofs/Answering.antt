-- How a call ends, by how its command ended and what was told then.
use Rattle.std.proofs.Common.{◌≡◌, ◌⊎◌, inl, inr, ℕ, Bool, List, Option, Some, None, refl, sym, ap, subst, ◌∙◌}
use Rattle.std.specs.Prelude.{◌↔◌}
use Rattle.esa_lists.specs.Files.{Files}
use Rattle.esa_job.specs.declared.command.Command.{Command}
use Rattle.esa_job.specs.declared.command.Command.TheVariants as command
use Rattle.esa_outside.specs.Cause.{Rose}
use Rattle.esa_refusal.specs.declared.status.End.{End}
use Rattle.esa_refusal.specs.declared.status.Status.TheVariants as status
use Rattle.esa_refusal.specs.declared.stop.Stop.{Stop}
use Rattle.esa_refusal.specs.declared.stop.Stop.TheVariants.{Refused, Unread, OutOfMemory}
use Rattle.esa_refusal.specs.Status.{status_of, status_text}
use Rattle.esa_command.specs.Ends.{EndsBy}
use Rattle.esa_command.specs.Settled.{Went, whole, unwritten, unprinted, ending}
use Rattle.esa_command.specs.Stand.{Stand}
use Rattle.esa_command.specs.Step.{Step, Reads}
use Rattle.esa_command.specs.Telling.{status_in, Tells, TellsLine}
use Rattle.esa_command.specs.Work.{Work}
use Rattle.esa_cli.specs.Answers.{EndsAs, CallEnds, IsUnbuilt, IsExplained, IsComplete, IsPrinted, Answers}
use Rattle.esa_cli.specs.Explains.{Acts, Explains, EndCounted, ShowsLine, Shows}
use Rattle.esa_cli.specs.Meaning.{Used, Around, Meaning, IsUntouched, OwesAlone, IsDeviceless, IsOfShuffle, steps_of, meaning_of}
use Rattle.esa_cli.proofs.Acting.{well_or_stays, act_counted}
use Rattle.esa_cli.proofs.Explaining.{explains, completes}
use Rattle.esa_cli.proofs.Sound.{ActCounted, IsSound, sound_of}
use Rattle.esa_cli.proofs.Telling.{counted, shows, silent, middle_silent, tells_silent}

-- ---- the status of a command isn't Usage

stop_not_usage : (stop : Stop) → status_of stop ≡ status.Usage → ⊥
stop_not_usage (Refused refusal) is = cc
stop_not_usage (Unread source) is = cc
stop_not_usage OutOfMemory is = cc

went_not_usage : (went : Went) → status_in (ending status.Ok went) ≡ status.Usage → ⊥
went_not_usage whole is = cc
went_not_usage (unwritten sink) is = cc
went_not_usage unprinted is = cc

module _ {V : Type 0} (faults : V → ℕ) (m : Meaning) (around : Around V) (sound : IsSound faults m around.used) (middle : Stand (List ℕ)) (end : End) where
  not_usage : EndsAs m around.cabinet around.cabinet_now around.printer middle end → status_in end ≡ status.Usage → ⊥
  not_usage (inl stopped) is = stop_not_usage stopped.stop (sym (ap status_in stopped.ended) ∙ is)
  not_usage (inr works) is =
      let counts = act_counted faults m around sound middle end works in
      let went = works.settles.went in
      elim (well_or_stays works.work.ended works.work.writes around.cabinet.faults works.acted.faults (faults around.used.recorder.device) (faults around.used.recorder_now.device) counts) [
        | inl well ↦ went_not_usage went (sym (ap status_in (works.settles.ended ∙ ap (λ e. ending e went) well)) ∙ is)
        | inr all ↦
            subst (ActCounted around.cabinet.faults works.acted.faults (faults around.used.recorder.device) (faults around.used.recorder_now.device) works.work.writes)
            (sym (ap status_in (works.settles.ended ∙ all went)) ∙ is) counts
      ]

none_not_some : {A : Type 0} (value : A) → Some value ≡ None → ⊥
none_not_some value is = cc

-- ---- a command without a device

stop_not_shuffle : (stop : Stop) → IsOfShuffle (status_of stop) → ⊥
stop_not_shuffle (Refused refusal) of_shuffle = of_shuffle
stop_not_shuffle (Unread source) of_shuffle = of_shuffle
stop_not_shuffle OutOfMemory of_shuffle = of_shuffle

went_not_shuffle : (went : Went) → IsOfShuffle (status_in (ending status.Ok went)) → ⊥
went_not_shuffle whole of_shuffle = of_shuffle
went_not_shuffle (unwritten sink) of_shuffle = of_shuffle
went_not_shuffle unprinted of_shuffle = of_shuffle

ends_alone : {V : Type 0} (used : Used V) (steps : Reads → Step Work) (cabinet cabinet_now : Stand Files) (printer middle : Stand (List ℕ)) (end : End)
    → EndsBy (IsUntouched used) (OwesAlone used) steps cabinet cabinet_now printer middle end → IsUntouched used × ¬ IsOfShuffle (status_in end)
ends_alone used steps cabinet cabinet_now printer middle end (inl stopped) = (stopped.idles, λ of_shuffle. stop_not_shuffle stopped.stop (subst IsOfShuffle (ap status_in stopped.ended) of_shuffle))
ends_alone used steps cabinet cabinet_now printer middle end (inr works) = (
  works.owes.untouched,
  λ of_shuffle. went_not_shuffle works.settles.went (subst IsOfShuffle (ap status_in (works.settles.ended ∙ ap (λ e. ending e works.settles.went) works.owes.well)) of_shuffle),
)

-- ---- all of it

module _ {V : Type 0} (told : V → Option (List (List ℕ))) (faults : V → ℕ) (crews : Bool) (around : Around V) (middle : Stand (List ℕ)) (end : End) (tells : Tells end middle around.printer_now) (is : around.ended ≡ status_in end) where
  call_usage : (call : Option (Command × List ℕ)) → CallEnds (meaning_of told faults crews around.used) call around middle end → (around.ended ≡ status.Usage) ↔ (call ≡ None)
  call_usage None ends = (λ usage. refl, λ none. is ∙ ap status_in ends.ends)
  call_usage (Some call) ends = (
    λ usage. absurd (not_usage faults (meaning_of told faults crews around.used call) around (sound_of told faults crews around.used call) middle end ends (sym is ∙ usage)),
    λ none. absurd (none_not_some call none),
  )

  call_alone : (call : Option (Command × List ℕ)) → IsDeviceless call → CallEnds (meaning_of told faults crews around.used) call around middle end → IsUntouched around.used × ¬ IsOfShuffle (status_in end)
  call_alone None plain ends = (ends.untouched, λ of_shuffle. subst IsOfShuffle (ap status_in ends.ends) of_shuffle)
  call_alone (Some (command.Shuffle, name)) plain ends = absurd plain
  call_alone (Some (command.Run, name)) plain ends = absurd plain
  call_alone (Some call) plain ends = ends_alone around.used (steps_of crews call) around.cabinet around.cabinet_now around.printer middle end ends

  call_explained : (call : Option (Command × List ℕ)) → CallEnds (meaning_of told faults crews around.used) call around middle end → (files : Files) → around.cabinet.told ≡ Some files
      → IsExplained (meaning_of told faults crews around.used) call around files
  call_explained None ends files tells_files = (is ∙ ap status_in ends.ends, ap (λ c. c.told) ends.cabinet_stands ∙ tells_files)
  call_explained (Some call) ends files tells_files =
      let m = meaning_of told faults crews around.used call in
      subst (Explains m around files) (sym is) (explains faults m around (sound_of told faults crews around.used call) middle end files tells_files ends)

  call_complete : (call : Option (Command × List ℕ)) → CallEnds (meaning_of told faults crews around.used) call around middle end → (files : Files) → around.cabinet.told ≡ Some files
      → IsComplete (meaning_of told faults crews around.used) call around files
  call_complete None ends files tells_files = tt
  call_complete (Some call) ends files tells_files = λ wanted accepts still printer_still.
      let m = meaning_of told faults crews around.used call in
      subst (λ ended. (ended ≡ status.OutOfMemory) ⊎ Acts m around (λ work. ended ≡ work.ended)) (sym is)
      (completes faults m around (sound_of told faults crews around.used call) middle end files tells_files wanted ends tells accepts still printer_still)

  call_counted : (call : Option (Command × List ℕ)) → CallEnds (meaning_of told faults crews around.used) call around middle end → EndCounted faults around around.ended
  call_counted None ends = subst (EndCounted faults around) (sym (is ∙ ap status_in ends.ends)) (ap (λ c. c.faults) ends.cabinet_stands)
  call_counted (Some call) ends =
      subst (EndCounted faults around) (sym is) (counted faults (meaning_of told faults crews around.used call) around (sound_of told faults crews around.used call) middle end tells ends)

  call_printed : (call : Option (Command × List ℕ)) → CallEnds (meaning_of told faults crews around.used) call around middle end → (text : List ℕ) → around.printer.told ≡ Some text
      → IsPrinted (meaning_of told faults crews around.used) call around text
  call_printed None ends text tells_text =
      let line : TellsLine (status_text status.Usage) middle around.printer_now = subst (λ e. Tells e middle around.printer_now) ends.ends tells in
      let has : middle.told ≡ Some text = ap (λ p. p.told) ends.printer_stands ∙ tells_text in
      subst (λ s. ShowsLine around text (status_text s)) (sym (is ∙ ap status_in ends.ends))
      (record { front = line.front text has; all = λ still. line.whole text has (subst (λ n. ¬ Rose n around.printer_now.faults) (sym (ap (λ p. p.faults) ends.printer_stands)) still) })
  call_printed (Some call) ends text tells_text =
      let m = meaning_of told faults crews around.used call in
      subst (Shows m around text) (sym is) (shows faults m around (sound_of told faults crews around.used call) middle end tells ends text tells_text)

  call_silent : (call : Option (Command × List ℕ)) → CallEnds (meaning_of told faults crews around.used) call around middle end → around.cabinet.told ≡ None → around.cabinet_now.told ≡ None
  call_silent None ends none = ap (λ c. c.told) ends.cabinet_stands ∙ none
  call_silent (Some call) ends none = silent faults (meaning_of told faults crews around.used call) around (sound_of told faults crews around.used call) middle end tells ends none

  call_printer_silent : (call : Option (Command × List ℕ)) → CallEnds (meaning_of told faults crews around.used) call around middle end → around.printer.told ≡ None → around.printer_now.told ≡ None
  call_printer_silent None ends none = tells_silent end middle around.printer_now tells (ap (λ p. p.told) ends.printer_stands ∙ none)
  call_printer_silent (Some call) ends none =
      tells_silent end middle around.printer_now tells (middle_silent faults (meaning_of told faults crews around.used call) around (sound_of told faults crews around.used call) middle end tells ends none)

  pub answers : (call : Option (Command × List ℕ)) → CallEnds (meaning_of told faults crews around.used) call around middle end → IsUnbuilt call (status_in end) → Answers told faults crews call around
  answers call ends unbuilt = record {
    runs = record { end = end; middle = middle; ends = ends; tells = tells; status = is };
    usage = call_usage call ends;
    unbuilt = subst (IsUnbuilt call) (sym is) unbuilt;
    alone = λ plain. subst (λ ended. IsUntouched around.used × ¬ IsOfShuffle ended) (sym is) (call_alone call plain ends);
    explained = call_explained call ends;
    complete = call_complete call ends;
    counted = call_counted call ends;
    printed = call_printed call ends;
    silent = call_silent call ends;
    printer_silent = call_printer_silent call ends;
  }

-- the same of the call that the words ask for
pub answered : {V : Type 0} (told : V → Option (List (List ℕ))) (faults : V → ℕ) (crews : Bool) (around : Around V) (middle : Stand (List ℕ)) (end : End) (call asked : Option (Command × List ℕ)) → call ≡ asked → Tells end middle around.printer_now
    → around.ended ≡ status_in end → CallEnds (meaning_of told faults crews around.used) call around middle end → IsUnbuilt call (status_in end) → Answers told faults crews asked around
answered told faults crews around middle end call asked same tells is ends unbuilt =
    subst (λ call. Answers told faults crews call around) same (answers told faults crews around middle end tells is call ends unbuilt)
