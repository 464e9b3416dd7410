-- What follows of how a call ended, whatever is told: its counts, and what a printer tells.
use Rattle.std.proofs.Common.{◌≡◌, ◌⊎◌, inl, inr, ℕ, List, ◌++◌, length, flat_map, append-nil, Option, Some, None, refl, sym, ap, subst, ◌∙◌, arith}
use Rattle.std.specs.Prelude.{IsSome, is_some}
use Rattle.std.proofs.lemmas.List.{take_all}
use Rattle.esa_outside.specs.Cause.{Rose}
use Rattle.esa_outside.specs.Told.{AddsFront, line_of}
use Rattle.esa_outside.specs.declared.Role.TheVariants as role
use Rattle.esa_refusal.specs.declared.status.DeviceAt.TheVariants.{Lay, Slot}
use Rattle.esa_refusal.specs.declared.status.End.{End}
use Rattle.esa_refusal.specs.declared.status.End.TheVariants.{Stopped, Settled}
use Rattle.esa_refusal.specs.declared.status.Status.{Status}
use Rattle.esa_refusal.specs.declared.status.Status.TheVariants as status
use Rattle.esa_refusal.specs.declared.source.Sink.{Sink}
use Rattle.esa_refusal.specs.declared.source.Sink.TheVariants as sink
use Rattle.esa_refusal.specs.declared.source.Source.{Source}
use Rattle.esa_refusal.specs.declared.source.Source.TheVariants as source
use Rattle.esa_refusal.specs.declared.stop.Stop.{Stop}
use Rattle.esa_refusal.specs.declared.stop.Stop.TheVariants.{Refused, Unread, OutOfMemory}
use Rattle.esa_refusal.specs.Source.{role_of, role_of_sink}
use Rattle.esa_refusal.specs.Status.{status_of, status_text}
use Rattle.esa_command.specs.Ends.{Works, EndsBy}
use Rattle.esa_command.specs.Judged.{IsMissing, StopsBy}
use Rattle.esa_command.specs.Settled.{Went, whole, unwritten, unprinted, ending, Counts, Prints}
use Rattle.esa_command.specs.Stand.{Stand}
use Rattle.esa_command.specs.Step.{Step, Reads}
use Rattle.esa_command.specs.Telling.{status_in, Tells, TellsLine}
use Rattle.esa_command.specs.Work.{Write, Work}
use Rattle.esa_command.proofs.Agreeing.{reads_by, agree_by}
use Rattle.esa_cli.specs.Explains.{Acts, FaultCounted, EndCounted, ShowsLine, ShowsFailed, Shows}
use Rattle.esa_cli.specs.Meaning.{Around, CabinetRose, Meaning}
use Rattle.esa_cli.proofs.Sound.{ActCounted, IsSound}
use Rattle.esa_cli.proofs.Acting.{Stays, ok_gives_way, well_or_stays, acted_told, act_counted, break_rose, rose_by_now, acts}

-- ---- counts

module _ {V : Type 0} (faults : V → ℕ) (around : Around V) where
  unread_counted : (source : Source) → CabinetRose around ⊎ IsSome around.cabinet.told → FaultCounted around (role_of source)
  unread_counted source.Job why = why
  unread_counted source.Keys why = why
  unread_counted source.Drops why = why
  unread_counted source.Turns why = why
  unread_counted source.Input why = why
  unread_counted source.Coins why = why
  unread_counted (source.Inputs place) why = why

  some_missing : {A : Type 0} (steps : Reads → Step A) (source : Source) → CabinetRose around ⊎ IsMissing around.cabinet.told steps source → CabinetRose around ⊎ IsSome around.cabinet.told
  some_missing steps source (inl rose) = inl rose
  some_missing steps source (inr gone) = inr (ap is_some gone.1)

  stop_counted : {A : Type 0} (steps : Reads → Step A) (read : Reads) (stop : Stop) → StopsBy steps 0 22 around.cabinet around.cabinet_now stop read → EndCounted faults around (status_of stop)
  stop_counted steps read (Refused refusal) by = (by.1, by.2)
  stop_counted steps read (Unread source) by = unread_counted source (some_missing steps source by.3)
  stop_counted steps read OutOfMemory by = by

  -- a work that ends well
  well_counted : (went : Went) (acted printer_middle : ℕ) → acted ≡ around.cabinet.faults → faults around.used.recorder_now.device ≡ faults around.used.recorder.device
      → Counts acted around.cabinet_now.faults around.printer.faults printer_middle went → ((sink : Sink) → went ≡ unwritten sink → CabinetRose around)
      → (went ≡ whole → around.printer_now.faults ≡ printer_middle) → (went ≡ unprinted → around.printer_now.faults ≡ printer_middle) → EndCounted faults around (status_in (ending status.Ok went))
  well_counted whole acted printer_middle kept still counts rose quiet quiet_too = (counts.0 ∙ kept, quiet refl ∙ counts.1, still)
  well_counted (unwritten sink.Output) acted printer_middle kept still counts rose quiet quiet_too = rose sink.Output refl
  well_counted (unwritten sink.Trace) acted printer_middle kept still counts rose quiet quiet_too = rose sink.Trace refl
  well_counted (unwritten sink.TurnsOut) acted printer_middle kept still counts rose quiet quiet_too = rose sink.TurnsOut refl
  well_counted unprinted acted printer_middle kept still counts rose quiet quiet_too = (counts.0 ∙ kept, subst (λ n. Rose around.printer.faults n) (sym (quiet_too refl)) counts.1)

  -- a work whose status stays
  failed_counted : (ended : Status) (writes : List Write) (acted : ℕ) → ActCounted around.cabinet.faults acted (faults around.used.recorder.device) (faults around.used.recorder_now.device) writes ended → Stays ended
      → (Rose around.cabinet.faults acted → CabinetRose around) → EndCounted faults around ended
  failed_counted status.Ok writes acted counts all rose = absurd (ok_gives_way all)
  failed_counted (status.Overflow failures) writes acted counts all rose = counts.1
  failed_counted (status.Tampered slot) writes acted counts all rose = counts.1
  failed_counted (status.DeviceFault Lay) writes acted counts all rose = counts.1
  failed_counted (status.DeviceFault (Slot slot)) writes acted counts all rose = counts.1
  failed_counted (status.OutsideFault role.Input) writes acted counts all rose = inl (rose counts)
  failed_counted other writes acted counts all rose = absurd counts

-- ---- lines

shows_none : (text lines : List ℕ) (shown : Option (List ℕ)) → shown ≡ Some text → AddsFront text lines shown
shows_none text lines shown is = (0, omega arith, is ∙ ap Some (sym (append-nil text)))

shows_whole : (text lines : List ℕ) (shown : Option (List ℕ)) → shown ≡ Some (text ++ lines) → AddsFront text lines shown
shows_whole text lines shown is = (length lines, omega arith, is ∙ ap (λ all. Some (text ++ all)) (sym (take_all (length lines) lines (omega arith))))

module _ {V : Type 0} (faults : V → ℕ) (m : Meaning) (around : Around V) (sound : IsSound faults m around.used) (middle : Stand (List ℕ)) (end : End) (tells : Tells end middle around.printer_now) where
  -- it is all printed
  settled : (ended : Status) → end ≡ Settled ended → around.printer_now ≡ middle
  settled ended is = subst (λ e. Tells e middle around.printer_now) is tells

  pub counted : EndsBy m.Idle m.Owes m.steps around.cabinet around.cabinet_now around.printer middle end
      → EndCounted faults around (status_in end)
  counted (inl stopped) =
      let j = stopped.judged in
      let read = reads_by j.given in
      subst (EndCounted faults around) (sym (ap status_in stopped.ended))
      (stop_counted faults around m.steps read stopped.stop (j.answers read (agree_by 0 22 j.given j.once)))
  counted (inr works) =
      let counts = act_counted faults m around sound middle end works in
      let went = works.settles.went in
      subst (EndCounted faults around) (sym (ap status_in works.settles.ended))
      (elim (well_or_stays works.work.ended works.work.writes around.cabinet.faults works.acted.faults (faults around.used.recorder.device) (faults around.used.recorder_now.device) counts) [
        | inl is ↦
            let still : (works.acted.faults ≡ around.cabinet.faults) × (faults around.used.recorder_now.device ≡ faults around.used.recorder.device) =
            subst (ActCounted around.cabinet.faults works.acted.faults (faults around.used.recorder.device) (faults around.used.recorder_now.device) works.work.writes) is counts in
            subst (λ ended. EndCounted faults around (status_in (ending ended went))) (sym is)
            (well_counted faults around went works.acted.faults middle.faults still.0 still.1
            works.settles.counts (break_rose faults m around sound middle end works)
            (λ all. ap (λ p. p.faults) (settled status.Ok (works.settles.ended ∙ ap (λ e. ending e went) is ∙ ap (ending status.Ok) all)))
            (λ cut. ap (λ p. p.faults) (settled (status.OutsideFault role.Printer) (works.settles.ended ∙ ap (λ e. ending e went) is ∙ ap (ending status.Ok) cut))))
        | inr all ↦
            subst (EndCounted faults around) (sym (ap status_in (all went)))
            (failed_counted faults around works.work.ended works.work.writes works.acted.faults
            counts all (rose_by_now faults m around sound middle end works))
      ])

  -- ---- what is printed

  own_line : (status : Status) → end ≡ Stopped status → (text : List ℕ) → middle.told ≡ Some text → middle.faults ≡ around.printer.faults → ShowsLine around text (status_text status)
  own_line status is text told kept =
      let line : TellsLine (status_text status) middle around.printer_now = subst (λ e. Tells e middle around.printer_now) is tells in
      record { front = line.front text told; all = λ still. line.whole text told (subst (λ n. ¬ Rose n around.printer_now.faults) (sym kept) still) }

  stop_shows : (stop : Stop) → end ≡ Stopped (status_of stop) → (text : List ℕ) → middle.told ≡ Some text → middle.faults ≡ around.printer.faults
      → Shows m around text (status_of stop)
  stop_shows (Refused refusal) is text told kept = inl (own_line (status_of (Refused refusal)) is text told kept)
  stop_shows (Unread source.Job) is text told kept = inl (own_line (status_of (Unread source.Job)) is text told kept)
  stop_shows (Unread source.Keys) is text told kept = inl (own_line (status_of (Unread source.Keys)) is text told kept)
  stop_shows (Unread source.Drops) is text told kept = inl (own_line (status_of (Unread source.Drops)) is text told kept)
  stop_shows (Unread source.Turns) is text told kept = inl (own_line (status_of (Unread source.Turns)) is text told kept)
  stop_shows (Unread source.Input) is text told kept = inl (own_line (status_of (Unread source.Input)) is text told kept)
  stop_shows (Unread source.Coins) is text told kept = inl (own_line (status_of (Unread source.Coins)) is text told kept)
  stop_shows (Unread (source.Inputs place)) is text told kept = inl (own_line (status_of (Unread (source.Inputs place))) is text told kept)
  stop_shows OutOfMemory is text told kept = inl (own_line (status_of OutOfMemory) is text told kept)

  module _ (works : Works m.Owes m.steps around.cabinet around.cabinet_now around.printer middle end) (text : List ℕ) where
    acts_for : (P : Work → Type 0) → P works.work → Acts m around P
    acts_for P so = acts faults m around sound middle end works P so

    -- where a write failed no line was printed
    line_kept : (sink : Sink) → works.settles.went ≡ unwritten sink → middle.faults ≡ around.printer.faults
    line_kept sink is = (subst (Counts works.acted.faults around.cabinet_now.faults around.printer.faults middle.faults) is works.settles.counts).1

    shows_well : works.work.ended ≡ status.Ok → (went : Went) → works.settles.went ≡ went → end ≡ ending status.Ok went → Prints works.work.prints text middle.told went
        → Shows m around text (status_in (ending status.Ok went))
    shows_well is whole went ends prints = acts_for _ (is, ap (λ p. p.told) (settled status.Ok ends) ∙ prints)
    shows_well is (unwritten sink.Output) went ends prints = inl (own_line (status.OutsideFault (role_of_sink sink.Output)) ends text prints (line_kept sink.Output went))
    shows_well is (unwritten sink.Trace) went ends prints = inl (own_line (status.OutsideFault (role_of_sink sink.Trace)) ends text prints (line_kept sink.Trace went))
    shows_well is (unwritten sink.TurnsOut) went ends prints = inl (own_line (status.OutsideFault (role_of_sink sink.TurnsOut)) ends text prints (line_kept sink.TurnsOut went))
    shows_well is unprinted went ends prints =
        acts_for _ (is, subst (λ shown. AddsFront text (flat_map line_of works.work.prints) shown) (sym (ap (λ p. p.told) (settled (status.OutsideFault role.Printer) ends))) prints)

    -- a work whose status stays, where the line is the last that is printed
    lines_failed : around.printer_now ≡ middle → (went : Went) → works.settles.went ≡ went → Prints works.work.prints text middle.told went
        → ShowsFailed works.work.ended around text works.work
    lines_failed same whole went prints =
        let shown : around.printer_now.told ≡ Some (text ++ flat_map line_of works.work.prints) = ap (λ p. p.told) same ∙ prints in
        record { fails = refl; front = shows_whole text _ _ shown; all = λ still printer_still. shown }
    lines_failed same (unwritten sink) went prints = record {
      fails = refl;
      front = shows_none text _ _ (ap (λ p. p.told) same ∙ prints);
      all = λ still printer_still. absurd (still (break_rose faults m around sound middle end works sink went));
    }
    lines_failed same unprinted went prints = record {
      fails = refl;
      front = subst (λ shown. AddsFront text (flat_map line_of works.work.prints) shown) (sym (ap (λ p. p.told) same)) prints;
      all = λ still printer_still. absurd (printer_still (subst (λ n. Rose around.printer.faults n) (sym (ap (λ p. p.faults) same)) (subst (Counts works.acted.faults around.cabinet_now.faults around.printer.faults middle.faults) went works.settles.counts).1));
    }

    shows_failed : (ended : Status) → ActCounted around.cabinet.faults works.acted.faults (faults around.used.recorder.device) (faults around.used.recorder_now.device) works.work.writes ended → Stays ended
        → Acts m around (ShowsFailed ended around text)
        → Shows m around text ended
    shows_failed status.Ok counts all does = absurd (ok_gives_way all)
    shows_failed (status.Overflow failures) counts all does = does
    shows_failed (status.Tampered slot) counts all does = does
    shows_failed (status.DeviceFault at) counts all does = does
    shows_failed (status.OutsideFault role.Input) counts all does = inr does
    shows_failed other counts all does = absurd counts

  pub shows : EndsBy m.Idle m.Owes m.steps around.cabinet around.cabinet_now around.printer middle end → (text : List ℕ) → around.printer.told ≡ Some text
      → Shows m around text (status_in end)
  shows (inl stopped) text told =
      subst (Shows m around text) (sym (ap status_in stopped.ended))
      (stop_shows stopped.stop stopped.ended text (ap (λ p. p.told) stopped.printer_stands ∙ told) (ap (λ p. p.faults) stopped.printer_stands))
  shows (inr works) text told =
      let counts = act_counted faults m around sound middle end works in
      let went = works.settles.went in
      let prints = works.settles.prints text told in
      subst (Shows m around text) (sym (ap status_in works.settles.ended))
      (elim (well_or_stays works.work.ended works.work.writes around.cabinet.faults works.acted.faults (faults around.used.recorder.device) (faults around.used.recorder_now.device) counts) [
        | inl is ↦
            subst (λ ended. Shows m around text (status_in (ending ended went))) (sym is)
            (shows_well works text is went refl (works.settles.ended ∙ ap (λ e. ending e went) is) prints)
        | inr all ↦
            subst (Shows m around text) (sym (ap status_in (all went)))
            (shows_failed works text works.work.ended counts all (acts_for works text _ (lines_failed works text (settled works.work.ended (works.settles.ended ∙ all went)) went refl prints)))
      ])

  -- ---- what tells nothing

  pub silent : EndsBy m.Idle m.Owes m.steps around.cabinet around.cabinet_now around.printer middle end → around.cabinet.told ≡ None → around.cabinet_now.told ≡ None
  silent (inl stopped) none = stopped.judged.told ∙ none
  silent (inr works) none = works.settles.silent (acted_told faults m around sound middle end works ∙ none)

  pub middle_silent : EndsBy m.Idle m.Owes m.steps around.cabinet around.cabinet_now around.printer middle end → around.printer.told ≡ None → middle.told ≡ None
  middle_silent (inl stopped) none = ap (λ p. p.told) stopped.printer_stands ∙ none
  middle_silent (inr works) none = works.settles.printer_silent none

pub tells_silent : (end : End) (middle printer_now : Stand (List ℕ)) → Tells end middle printer_now → middle.told ≡ None → printer_now.told ≡ None
tells_silent (Stopped status) middle printer_now tells none = tells.silent none
tells_silent (Settled status) middle printer_now tells none = ap (λ p. p.told) tells ∙ none
