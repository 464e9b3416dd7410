-- What is known of a command that acted.
use Rattle.std.proofs.Common.{◌≡◌, ◌⊎◌, inl, inr, ℕ, List, [], refl, sym, subst, ◌∙◌, arith}
use Rattle.esa_outside.specs.Cause.{Rose}
use Rattle.esa_outside.specs.declared.Role.TheVariants as role
use Rattle.esa_refusal.specs.declared.source.Sink.{Sink}
use Rattle.esa_refusal.specs.declared.status.DeviceAt.TheVariants.{Lay, Slot}
use Rattle.esa_refusal.specs.declared.status.End.{End}
use Rattle.esa_refusal.specs.declared.status.End.TheVariants.{Settled}
use Rattle.esa_refusal.specs.declared.status.Status.{Status}
use Rattle.esa_refusal.specs.declared.status.Status.TheVariants as status
use Rattle.esa_command.specs.Ends.{Works}
use Rattle.esa_command.specs.Settled.{Went, whole, unwritten, unprinted, unwritten_as, unprinted_as, ending, Counts, BreakHeard, FilesHeard}
use Rattle.esa_command.specs.Stand.{Stand}
use Rattle.esa_command.specs.Step.{reads_of}
use Rattle.esa_command.specs.Work.{Write, Work}
use Rattle.esa_command.proofs.Agreeing.{reads_by, agree_by}
use Rattle.esa_outside.specs.Heard.{Event}
use Rattle.esa_cli.specs.Explains.{Acts}
use Rattle.esa_cli.specs.Meaning.{Around, CabinetRose, Meaning}
use Rattle.esa_cli.proofs.Sound.{ActCounted, IsSound}

pub rose_on : (before middle now : ℕ) → Rose before middle → Rose middle now → Rose before now
rose_on before middle now first then_rose = omega (arith, first, then_rose)

-- a count that has risen in the act has risen by now
rose_behind : (before acted now : ℕ) → Rose before acted → (now ≡ acted) ⊎ Rose acted now → Rose before now
rose_behind before acted now rose (inl same) = subst (λ n. Rose before n) (sym same) rose
rose_behind before acted now rose (inr more) = rose_on before acted now rose more

-- a write that fails is one of the work's
some_written : (sink : Sink) (writes : List Write) (before now : List Event) → BreakHeard sink writes before now → writes ≡ [] → ⊥
some_written sink writes before now breaks none = subst (λ w. BreakHeard sink w before now) none breaks

-- a write that failed has raised the count since before the act
rose_since : (ended : Status) (writes : List Write) (before acted now device_before device : ℕ) → ActCounted before acted device_before device writes ended → (writes ≡ [] → ⊥) → Rose acted now → Rose before now
rose_since status.Ok writes before acted now device_before device counts some rose = subst (λ n. Rose n now) counts.0 rose
rose_since (status.Overflow failures) writes before acted now device_before device counts some rose = subst (λ n. Rose n now) counts.0 rose
rose_since (status.Tampered slot) writes before acted now device_before device counts some rose = subst (λ n. Rose n now) counts.0 rose
rose_since (status.DeviceFault Lay) writes before acted now device_before device counts some rose = absurd (some counts.0)
rose_since (status.DeviceFault (Slot slot)) writes before acted now device_before device counts some rose = subst (λ n. Rose n now) counts.0 rose
rose_since (status.OutsideFault role.Input) writes before acted now device_before device counts some rose = rose_on before acted now counts rose
rose_since other writes before acted now device_before device counts some rose = absurd counts

behind_of : (went : Went) (acted now printer_before printer : ℕ) → Counts acted now printer_before printer went → (now ≡ acted) ⊎ Rose acted now
behind_of whole acted now printer_before printer counts = inl counts.0
behind_of (unwritten sink) acted now printer_before printer counts = inr counts.0
behind_of unprinted acted now printer_before printer counts = inl counts.0

-- ---- the status of a work

-- it keeps a status whatever becomes of its files and lines
abbrev pub Stays : Status → Type 0
Stays ended = (went : Went) → ending ended went ≡ Settled ended

stays : (ended : Status) → ((sink : Sink) → unwritten_as sink ended ≡ Settled ended) → unprinted_as ended ≡ Settled ended → Stays ended
stays ended broken cut whole = refl
stays ended broken cut (unwritten sink) = broken sink
stays ended broken cut unprinted = cut

-- it ends well, or stays
pub well_or_stays : (ended : Status) (writes : List Write) (before acted device_before device : ℕ) → ActCounted before acted device_before device writes ended → (ended ≡ status.Ok) ⊎ Stays ended
well_or_stays status.Ok writes before acted device_before device counts = inl refl
well_or_stays (status.Overflow failures) writes before acted device_before device counts = inr (stays _ (λ sink. refl) refl)
well_or_stays (status.Tampered slot) writes before acted device_before device counts = inr (stays _ (λ sink. refl) refl)
well_or_stays (status.DeviceFault at) writes before acted device_before device counts = inr (stays _ (λ sink. refl) refl)
well_or_stays (status.OutsideFault role.Input) writes before acted device_before device counts = inr (stays _ (λ sink. refl) refl)
well_or_stays other writes before acted device_before device counts = absurd counts

-- Ok doesn't stay
pub ok_gives_way : Stays status.Ok → ⊥
ok_gives_way all = let cut : Settled (status.OutsideFault role.Printer) ≡ Settled status.Ok = all unprinted in cc

module _ {V : Type 0} (faults : V → ℕ) (m : Meaning) (around : Around V) (sound : IsSound faults m around.used) (middle : Stand (List ℕ)) (end : End) (works : Works m.Owes m.steps around.cabinet around.cabinet_now around.printer middle end) where
  pub began : works.taken.faults ≡ around.cabinet.faults
  began = (works.judged.answers (reads_by works.judged.given) (agree_by 0 22 works.judged.given works.judged.once)).1

  pub acted_told : works.acted.told ≡ around.cabinet.told
  acted_told = sound.still works.asked works.taken works.acted works.work works.owes ∙ works.judged.told

  pub act_counted : ActCounted around.cabinet.faults works.acted.faults (faults around.used.recorder.device) (faults around.used.recorder_now.device) works.work.writes works.work.ended
  act_counted =
      subst (λ n. ActCounted n works.acted.faults (faults around.used.recorder.device) (faults around.used.recorder_now.device) works.work.writes works.work.ended) began
      (sound.counts works.asked works.taken works.acted works.work works.owes)

  pub behind : (around.cabinet_now.faults ≡ works.acted.faults) ⊎ Rose works.acted.faults around.cabinet_now.faults
  behind = behind_of works.settles.went works.acted.faults around.cabinet_now.faults around.printer.faults middle.faults works.settles.counts

  -- a write failed
  pub break_rose : (sink : Sink) → works.settles.went ≡ unwritten sink → CabinetRose around
  break_rose sink is =
      rose_since works.work.ended works.work.writes around.cabinet.faults works.acted.faults around.cabinet_now.faults (faults around.used.recorder.device) (faults around.used.recorder_now.device) act_counted
      (some_written sink works.work.writes works.acted.heard around.cabinet_now.heard (subst (FilesHeard works.work.writes works.acted.heard around.cabinet_now.heard) is works.settles.files_heard))
      (subst (Counts works.acted.faults around.cabinet_now.faults around.printer.faults middle.faults) is works.settles.counts).0

  pub rose_by_now : Rose around.cabinet.faults works.acted.faults → CabinetRose around
  rose_by_now rose = rose_behind around.cabinet.faults works.acted.faults around.cabinet_now.faults rose behind

  -- what holds of its work holds of what it acted for
  pub acts : (P : Work → Type 0) → P works.work → Acts m around P
  acts P so = record {
    wanted = works.asked;
    accepts = λ files told. (works.judged.answers (reads_of files) (works.judged.tells files told)).0;
    taken = works.taken;
    acted = works.acted;
    began = began;
    behind = behind;
    work = works.work;
    owes = works.owes;
    so = so;
  }
