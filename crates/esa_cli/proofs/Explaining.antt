-- Why a call ended as it did, over a cabinet that tells its files.
use Rattle.std.proofs.Common.{◌≡◌, ◌⊎◌, inl, inr, ℕ, List, Some, refl, sym, ap, subst, ◌∙◌}
use Rattle.esa_lists.specs.Files.{Files}
use Rattle.esa_outside.specs.Cause.{Rose}
use Rattle.esa_outside.specs.declared.Role.TheVariants as role
use Rattle.esa_refusal.specs.declared.status.End.{End}
use Rattle.esa_refusal.specs.declared.status.Status.{Status}
use Rattle.esa_refusal.specs.declared.status.Status.TheVariants as status
use Rattle.esa_refusal.specs.declared.source.Sink.{Sink}
use Rattle.esa_refusal.specs.declared.source.Sink.TheVariants as sink
use Rattle.esa_refusal.specs.declared.source.Source.{Source}
use Rattle.esa_refusal.specs.declared.source.Source.TheVariants as source
use Rattle.esa_refusal.specs.declared.stop.Stop.{Stop}
use Rattle.esa_refusal.specs.declared.stop.Stop.TheVariants.{Refused, Unread, OutOfMemory}
use Rattle.esa_refusal.specs.Source.{role_of}
use Rattle.esa_refusal.specs.Status.{status_of}
use Rattle.esa_command.specs.Ends.{Works, EndsBy}
use Rattle.esa_command.specs.Judged.{IsMissing, StopsBy}
use Rattle.esa_command.specs.Settled.{Went, whole, unwritten, unprinted, ending, Leaves, Counts}
use Rattle.esa_command.specs.Stand.{Stand}
use Rattle.esa_command.specs.Step.{accepted, refused, missing, reads_of, without}
use Rattle.esa_command.specs.Telling.{status_in, Tells}
use Rattle.esa_command.specs.Work.{Work}
use Rattle.esa_cli.specs.Explains.{Acts, IsFailed, IsFault, Explains}
use Rattle.esa_cli.specs.Meaning.{Around, CabinetRose, PrinterRose, Meaning}
use Rattle.esa_cli.proofs.Sound.{ActCounted, IsSound}
use Rattle.esa_cli.proofs.Acting.{Stays, ok_gives_way, well_or_stays, acted_told, act_counted, break_rose, acts}

same_files : (one other : Files) → Some one ≡ Some other → one ≡ other
same_files one other is = cc

-- a line that failed is told of by no other line
quiet : (ended : Status) (end : End) (middle now : Stand (List ℕ)) → Tells end middle now → end ≡ ending ended unprinted → now.faults ≡ middle.faults
quiet status.Ok end middle now tells is = ap (λ p. p.faults) (subst (λ e. Tells e middle now) is tells)
quiet other end middle now tells is = ap (λ p. p.faults) (subst (λ e. Tells e middle now) is tells)

module _ {V : Type 0} (m : Meaning) (around : Around V) (files : Files) (told : around.cabinet.told ≡ Some files) where
  -- ---- a command that stopped

  unread : (source : Source) → m.steps (without source (reads_of files)) ≡ missing source → CabinetRose around ⊎ (m.steps (reads_of files) ≡ missing source) → around.cabinet_now.told ≡ Some files → IsFault m around files (role_of source)
  unread source.Job reached cause unchanged = record { reached = reached; cause = cause; unchanged = unchanged }
  unread source.Keys reached cause unchanged = record { reached = reached; cause = cause; unchanged = unchanged }
  unread source.Drops reached cause unchanged = record { reached = reached; cause = cause; unchanged = unchanged }
  unread source.Turns reached cause unchanged = record { reached = reached; cause = cause; unchanged = unchanged }
  unread source.Input reached cause unchanged = inl (record { reached = reached; cause = cause; unchanged = unchanged })
  unread source.Coins reached cause unchanged = record { reached = reached; cause = cause; unchanged = unchanged }
  unread (source.Inputs place) reached cause unchanged = inr (inl (place, record { reached = reached; cause = cause; unchanged = unchanged }))

  -- the file that isn't there is one of these
  lacks : (source : Source) → CabinetRose around ⊎ IsMissing around.cabinet.told m.steps source → CabinetRose around ⊎ (m.steps (reads_of files) ≡ missing source)
  lacks source (inl rose) = inl rose
  lacks source (inr gone) = inr (subst (λ held. m.steps (reads_of held) ≡ missing source) (same_files gone.0 files (sym gone.1 ∙ told)) gone.2)

  stopped_for : (stop : Stop) → StopsBy m.steps 0 22 around.cabinet around.cabinet_now stop (reads_of files) → around.cabinet_now.told ≡ Some files → Explains m around files (status_of stop)
  stopped_for (Refused refusal) by unchanged = (by.0, unchanged)
  stopped_for (Unread source) by unchanged = unread source by.2 (lacks source by.3) unchanged
  stopped_for OutOfMemory by unchanged = unchanged

  -- an accepted input isn't refused, and no file is missing
  no_stop : (stop : Stop) (wanted : m.Wanted) → StopsBy m.steps 0 22 around.cabinet around.cabinet_now stop (reads_of files) → m.steps (reads_of files) ≡ accepted wanted → ¬ CabinetRose around → status_of stop ≡ status.OutOfMemory
  no_stop (Refused refusal) wanted by accepts still = absurd (let never : refused refusal ≡ accepted wanted = sym by.0 ∙ accepts in cc)
  no_stop (Unread source) wanted by accepts still = elim (lacks source by.3) [
    | inl rose ↦ absurd (still rose)
    | inr gone ↦ absurd (let never : missing source ≡ accepted wanted = sym gone ∙ accepts in cc)
  ]
  no_stop OutOfMemory wanted by accepts still = refl

  -- ---- a command that acted

  module _ (work : Work) (acts_for : (P : Work → Type 0) → P work → Acts m around P) where
    -- the work ends well, if all is written and printed
    well : work.ended ≡ status.Ok → (went : Went) → Leaves work.writes files around.cabinet_now.told went → Explains m around files (status_in (ending status.Ok went))
    well is whole leaves = acts_for _ (is, leaves)
    well is (unwritten sink.Output) leaves = acts_for _ (is, leaves)
    well is (unwritten sink.Trace) leaves = acts_for _ (is, leaves)
    well is (unwritten sink.TurnsOut) leaves = acts_for _ (is, leaves)
    well is unprinted leaves = acts_for _ (is, leaves)

    -- its status stays
    failed : (went : Went) → ((sink : Sink) → went ≡ unwritten sink → CabinetRose around) → Leaves work.writes files around.cabinet_now.told went → IsFailed work.ended around files work
    failed whole rose leaves = (refl, inl leaves)
    failed (unwritten sink) rose leaves = (refl, inr (rose sink refl, sink, leaves))
    failed unprinted rose leaves = (refl, inl leaves)

    explained_failed : (ended : Status) (acted device_before device : ℕ) → ActCounted around.cabinet.faults acted device_before device work.writes ended → Stays ended → Acts m around (IsFailed ended around files) → Explains m around files ended
    explained_failed status.Ok acted device_before device counts all does = absurd (ok_gives_way all)
    explained_failed (status.Overflow failures) acted device_before device counts all does = does
    explained_failed (status.Tampered slot) acted device_before device counts all does = does
    explained_failed (status.DeviceFault at) acted device_before device counts all does = does
    explained_failed (status.OutsideFault role.Input) acted device_before device counts all does = inr (inr does)
    explained_failed other acted device_before device counts all does = absurd counts

    explained_as : (went : Went) (acted device_before device : ℕ) → ActCounted around.cabinet.faults acted device_before device work.writes work.ended → ((sink : Sink) → went ≡ unwritten sink → CabinetRose around)
        → Leaves work.writes files around.cabinet_now.told went → Explains m around files (status_in (ending work.ended went))
    explained_as went acted device_before device counts rose leaves = elim (well_or_stays work.ended work.writes around.cabinet.faults acted device_before device counts) [
      | inl is ↦ subst (λ ended. Explains m around files (status_in (ending ended went))) (sym is) (well is went leaves)
      | inr all ↦
          subst (Explains m around files) (sym (ap status_in (all went)))
          (explained_failed work.ended acted device_before device counts all (acts_for _ (failed went rose leaves)))
    ]

module _ {V : Type 0} (faults : V → ℕ) (m : Meaning) (around : Around V) (sound : IsSound faults m around.used) (middle : Stand (List ℕ)) (end : End) (files : Files) (told : around.cabinet.told ≡ Some files) where
  pub explains : EndsBy m.Idle m.Owes m.steps around.cabinet around.cabinet_now around.printer middle end → Explains m around files (status_in end)
  explains (inl stopped) =
      let j = stopped.judged in
      subst (Explains m around files) (sym (ap status_in stopped.ended))
      (stopped_for m around files told stopped.stop (j.answers (reads_of files) (j.tells files told)) (j.told ∙ told))
  explains (inr works) =
      subst (Explains m around files) (sym (ap status_in works.settles.ended))
      (explained_as m around files told works.work (acts faults m around sound middle end works)
      works.settles.went works.acted.faults (faults around.used.recorder.device) (faults around.used.recorder_now.device)
      (act_counted faults m around sound middle end works) (break_rose faults m around sound middle end works)
      (works.settles.files files (acted_told faults m around sound middle end works ∙ told)))

  -- ---- an accepted input, where no count rose

  -- the status of the work is that of the call
  kept : (works : Works m.Owes m.steps around.cabinet around.cabinet_now around.printer middle end) → ¬ CabinetRose around → ¬ PrinterRose around
      → (works.settles.went ≡ unprinted → around.printer_now.faults ≡ middle.faults) → (went : Went) → works.settles.went ≡ went → status_in (ending works.work.ended went) ≡ works.work.ended
  kept works still printer_still no_more whole is = refl
  kept works still printer_still no_more (unwritten sink) is = absurd (still (break_rose faults m around sound middle end works sink is))
  kept works still printer_still no_more unprinted is =
      absurd (printer_still (subst (λ n. Rose around.printer.faults n) (sym (no_more is)) (subst (Counts works.acted.faults around.cabinet_now.faults around.printer.faults middle.faults) is works.settles.counts).1))

  pub completes : (wanted : m.Wanted) → EndsBy m.Idle m.Owes m.steps around.cabinet around.cabinet_now around.printer middle end → Tells end middle around.printer_now → m.steps (reads_of files) ≡ accepted wanted
      → ¬ CabinetRose around → ¬ PrinterRose around → (status_in end ≡ status.OutOfMemory) ⊎ Acts m around (λ work. status_in end ≡ work.ended)
  completes wanted (inl stopped) tells accepts still printer_still =
      let j = stopped.judged in
      inl (ap status_in stopped.ended ∙ no_stop m around files told stopped.stop wanted (j.answers (reads_of files) (j.tells files told)) accepts still)
  completes wanted (inr works) tells accepts still printer_still =
      let no_more = λ (is : works.settles.went ≡ unprinted). quiet works.work.ended end middle around.printer_now tells (works.settles.ended ∙ ap (ending works.work.ended) is) in
      inr (acts faults m around sound middle end works _ (ap status_in works.settles.ended ∙ kept works still printer_still no_more works.settles.went refl))
