-- How a command ends, by what its taking in, its act and its work answered.
use Rattle.std.proofs.Common.{◌≡◌, inl, inr, List, ℕ, Ok, Err, refl, ap, subst, arith}
use Rattle.esa_lists.specs.Files.{Files}
use Rattle.esa_refusal.specs.declared.status.End.{End}
use Rattle.esa_refusal.specs.declared.status.End.TheVariants.{Stopped}
use Rattle.esa_refusal.specs.declared.status.Status.{Status}
use Rattle.esa_refusal.specs.declared.stop.Stop.{Stop}
use Rattle.esa_refusal.specs.Status.{status_of}
use Rattle.esa_command.specs.Ends.{Works, EndsBy, OwesAsked, Ends}
use Rattle.esa_command.specs.Judged.{Judged}
use Rattle.esa_command.specs.Settled.{Settles}
use Rattle.esa_command.specs.Stand.{Stand}
use Rattle.esa_command.specs.Step.{Step, Reads}
use Rattle.esa_command.specs.Work.{Work}
use Rattle.esa_command.proofs.Composition.{judged_as, judged_err, judged_wider}

-- ---- a command that acts

module _ {X A : Type 0} (view : X → A) (idle : Type 0) (Owes : A → Stand Files → Stand Files → Work → Type 0) (steps : Reads → Step A) (cabinet : Stand Files) where
  -- nothing was taken in
  pub ends_idle_inputs : (now : Stand Files) (printer : Stand (List ℕ)) (stop : Stop) (status : Status) → status ≡ status_of stop → idle → Judged 0 22 view steps cabinet now (Err stop)
      → EndsBy idle Owes steps cabinet now printer printer (Stopped status)
  ends_idle_inputs now printer stop status is idles j = inl (record {
    stop = stop;
    ended = ap (λ s. Stopped s) is;
    judged = judged_err 0 22 view (λ (asked : A). asked) steps cabinet now stop j;
    printer_stands = refl;
    idles = idles;
  })

  -- all was taken in, the command acted, and the work that it owed is done
  pub ends_act_inputs : (taken acted now : Stand Files) (printer printer_now : Stand (List ℕ)) (end : End) (value : X) (work : Work) → Judged 0 22 view steps cabinet taken (Ok value)
      → Owes (view value) taken acted work → Settles work acted now printer printer_now end → EndsBy idle Owes steps cabinet now printer printer_now end
  ends_act_inputs taken acted now printer printer_now end value work j owes settles = inr (record {
    asked = view value;
    taken = taken;
    judged = judged_as 0 22 view (λ (asked : A). asked) steps cabinet taken value (view value) refl j;
    work = work;
    acted = acted;
    owes = owes;
    settles = settles;
  })

  -- the same where no more than the files of the six roles are read
  pub ends_idle : (now : Stand Files) (printer : Stand (List ℕ)) (stop : Stop) (status : Status) → status ≡ status_of stop → idle → Judged 0 6 view steps cabinet now (Err stop)
      → EndsBy idle Owes steps cabinet now printer printer (Stopped status)
  ends_idle now printer stop status is idles j = ends_idle_inputs now printer stop status is idles (judged_wider 0 6 22 view steps cabinet now (Err stop) (omega arith) j)

  pub ends_act : (taken acted now : Stand Files) (printer printer_now : Stand (List ℕ)) (end : End) (value : X) (work : Work) → Judged 0 6 view steps cabinet taken (Ok value)
      → Owes (view value) taken acted work → Settles work acted now printer printer_now end → EndsBy idle Owes steps cabinet now printer printer_now end
  ends_act taken acted now printer printer_now end value work j owes settles =
      ends_act_inputs taken acted now printer printer_now end value work (judged_wider 0 6 22 view steps cabinet taken (Ok value) (omega arith) j) owes settles

-- ---- a command without a device

module _ {X : Type 0} (view : X → Work) (steps : Reads → Step Work) (cabinet : Stand Files) where
  pub ends_stop_inputs : (now : Stand Files) (printer : Stand (List ℕ)) (stop : Stop) (status : Status) → status ≡ status_of stop → Judged 0 22 view steps cabinet now (Err stop) → Ends steps cabinet now printer printer (Stopped status)
  ends_stop_inputs now printer stop status is j = ends_idle_inputs view (Unit {0}) OwesAsked steps cabinet now printer stop status is tt j

  pub ends_work_inputs : (middle now : Stand Files) (printer printer_now : Stand (List ℕ)) (end : End) (value : X) → Judged 0 22 view steps cabinet middle (Ok value) → Settles (view value) middle now printer printer_now end → Ends steps cabinet now printer printer_now end
  ends_work_inputs middle now printer printer_now end value j settles =
      ends_act_inputs view (Unit {0}) OwesAsked steps cabinet middle middle now printer printer_now end value (view value) j (record { same = refl; still = refl }) settles

  pub ends_stop : (now : Stand Files) (printer : Stand (List ℕ)) (stop : Stop) (status : Status) → status ≡ status_of stop → Judged 0 6 view steps cabinet now (Err stop) → Ends steps cabinet now printer printer (Stopped status)
  ends_stop now printer stop status is j = ends_idle view (Unit {0}) OwesAsked steps cabinet now printer stop status is tt j

  pub ends_work : (middle now : Stand Files) (printer printer_now : Stand (List ℕ)) (end : End) (value : X) → Judged 0 6 view steps cabinet middle (Ok value) → Settles (view value) middle now printer printer_now end → Ends steps cabinet now printer printer_now end
  ends_work middle now printer printer_now end value j settles =
      ends_act view (Unit {0}) OwesAsked steps cabinet middle middle now printer printer_now end value (view value) j (record { same = refl; still = refl }) settles

-- It did the work that it was asked for, as soon as all was taken in.
pub record Does (steps : Reads → Step Work) (cabinet cabinet_now : Stand Files) (printer printer_now : Stand (List ℕ)) (end : End) : Type 0 where
  pub work : Work
  pub middle : Stand Files
  pub judged : Judged 0 22 (λ work. work) steps cabinet middle (Ok work)
  pub settles : Settles work middle cabinet_now printer printer_now end

pub does_asked : (steps : Reads → Step Work) (cabinet cabinet_now : Stand Files) (printer printer_now : Stand (List ℕ)) (end : End) → Works OwesAsked steps cabinet cabinet_now printer printer_now end
    → Does steps cabinet cabinet_now printer printer_now end
does_asked steps cabinet cabinet_now printer printer_now end done = record {
  work = done.asked;
  middle = done.taken;
  judged = done.judged;
  settles =
      subst (λ work. Settles work done.taken cabinet_now printer printer_now end) done.owes.same
      (subst (λ acted. Settles done.work acted cabinet_now printer printer_now end) done.owes.still done.settles);
}
