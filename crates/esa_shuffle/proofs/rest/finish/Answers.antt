-- A turn that failed ends the attempt.
use Rattle.std.proofs.Common.{◌≡◌, Option, Some, None, Ok, Err, refl, sym, ap, ◌∙◌, subst}
use Rattle.esa_floor.specs.Written.{GaveItsOwn, ReadsGave}
use Rattle.esa_floor.specs.declared.turn.Stop.{Stop}
use Rattle.esa_floor.specs.declared.turn.Stop.TheVariants as stop
use Rattle.esa_spec.specs.declared.event.Verdict.TheVariants as verdicts
use Rattle.esa_vault.specs.declared.fault.VaultFault.TheVariants as fault
use Rattle.esa_shuffle.specs.Attempts.{EndsByStop}
use Rattle.esa_shuffle.proofs.Stopped.{fault_end, overflow_end, tampered_end}
use Rattle.esa_shuffle.proofs.rest.finish.Goals as goal

pub returns-in-Some-StashOverflow-clause-ends : goal.returns-in-Some-StashOverflow-clause-ends
returns-in-Some-StashOverflow-clause-ends g c =
    overflow_end g.V.Device.faults g.G.Told.plan g.G.Told.draws c.args.floor.now c.args.attempt c.requires.stands c.requires.attempt c.requires.room c.in-Some-StashOverflow.bucket
    (sym c.stop.ensures ∙ c.in-Some-StashOverflow.is ∙ ap Some c.in-Some-StashOverflow.field-0-is)

pub returns-in-Some-DeviceFault-clause-ends : goal.returns-in-Some-DeviceFault-clause-ends
returns-in-Some-DeviceFault-clause-ends g c =
    fault_end g.V.Device.faults g.G.Told.plan g.G.Told.draws c.args.floor.now c.args.attempt c.requires.stands c.requires.attempt c.requires.room c.in-Some-DeviceFault.number
    (sym c.stop.ensures ∙ c.in-Some-DeviceFault.is ∙ ap Some c.in-Some-DeviceFault.field-0-is)

pub returns-in-Some-Tampered-clause-ends : goal.returns-in-Some-Tampered-clause-ends
returns-in-Some-Tampered-clause-ends g c =
    tampered_end g.V.Device.faults g.G.Told.plan g.G.Told.draws c.args.floor.now c.args.attempt c.requires.stands c.requires.attempt c.requires.room c.in-Some-Tampered.number
    (sym c.stop.ensures ∙ c.in-Some-Tampered.is ∙ ap Some c.in-Some-Tampered.field-0-is)

pub returns-in-None-clause-stopped : goal.returns-in-None-clause-stopped
returns-in-None-clause-stopped g c = subst (λ (s : Option Stop). EndsByStop s c.press_on.result) (sym (sym c.stop.ensures ∙ c.in-None.is)) tt

pub returns-in-Some-StashOverflow-clause-stopped : goal.returns-in-Some-StashOverflow-clause-stopped
returns-in-Some-StashOverflow-clause-stopped g c =
    subst (λ (s : Option Stop). EndsByStop s (Ok (verdicts.StashOverflow c.in-Some-StashOverflow.bucket)))
    (sym (sym c.stop.ensures ∙ c.in-Some-StashOverflow.is ∙ ap Some c.in-Some-StashOverflow.field-0-is)) refl

pub returns-in-Some-DeviceFault-clause-stopped : goal.returns-in-Some-DeviceFault-clause-stopped
returns-in-Some-DeviceFault-clause-stopped g c =
    subst (λ (s : Option Stop). EndsByStop s (Err (fault.Device c.in-Some-DeviceFault.number)))
    (sym (sym c.stop.ensures ∙ c.in-Some-DeviceFault.is ∙ ap Some c.in-Some-DeviceFault.field-0-is)) refl

pub returns-in-Some-Tampered-clause-stopped : goal.returns-in-Some-Tampered-clause-stopped
returns-in-Some-Tampered-clause-stopped g c =
    subst (λ (s : Option Stop). EndsByStop s (Err (fault.Tampered c.in-Some-Tampered.number)))
    (sym (sym c.stop.ensures ∙ c.in-Some-Tampered.is ∙ ap Some c.in-Some-Tampered.field-0-is)) refl

pub returns-in-None-clause-reads : goal.returns-in-None-clause-reads
returns-in-None-clause-reads g c = λ gave.
    let f = c.args.floor.now in
    c.press_on.ensures.reads
    (subst (λ (s : Option Stop). ReadsGave (GaveItsOwn g.G.Told.draws f) s f.recorder.log) (sym c.stop.ensures ∙ c.in-None.is) gave)

pub returns-in-Some-StashOverflow-clause-reads : goal.returns-in-Some-StashOverflow-clause-reads
returns-in-Some-StashOverflow-clause-reads g c = λ gave.
    let f = c.args.floor.now in
    subst (λ (s : Option Stop). ReadsGave (GaveItsOwn g.G.Told.draws f) s f.recorder.log)
    (sym c.stop.ensures ∙ c.in-Some-StashOverflow.is ∙ ap Some c.in-Some-StashOverflow.field-0-is) gave

pub returns-in-Some-DeviceFault-clause-reads : goal.returns-in-Some-DeviceFault-clause-reads
returns-in-Some-DeviceFault-clause-reads g c = λ gave.
    let f = c.args.floor.now in
    subst (λ (s : Option Stop). ReadsGave (GaveItsOwn g.G.Told.draws f) s f.recorder.log)
    (sym c.stop.ensures ∙ c.in-Some-DeviceFault.is ∙ ap Some c.in-Some-DeviceFault.field-0-is) gave

pub returns-in-Some-Tampered-clause-reads : goal.returns-in-Some-Tampered-clause-reads
returns-in-Some-Tampered-clause-reads g c = λ gave.
    let f = c.args.floor.now in
    subst (λ (s : Option Stop). ReadsGave (GaveItsOwn g.G.Told.draws f) s f.recorder.log)
    (sym c.stop.ensures ∙ c.in-Some-Tampered.is ∙ ap Some c.in-Some-Tampered.field-0-is) gave

pub returns-in-None-clause-behind : goal.returns-in-None-clause-behind
returns-in-None-clause-behind g c = λ runs. c.press_on.ensures.behind

pub returns-in-Some-StashOverflow-clause-behind : goal.returns-in-Some-StashOverflow-clause-behind
returns-in-Some-StashOverflow-clause-behind g c = λ runs. tt

pub returns-in-Some-DeviceFault-clause-behind : goal.returns-in-Some-DeviceFault-clause-behind
returns-in-Some-DeviceFault-clause-behind g c = λ runs.
    let clash : Some (stop.DeviceFault c.in-Some-DeviceFault.number) ≡ None = sym (sym c.stop.ensures ∙ c.in-Some-DeviceFault.is ∙ ap Some c.in-Some-DeviceFault.field-0-is) ∙ runs in
    absurd (cc clash)

pub returns-in-Some-Tampered-clause-behind : goal.returns-in-Some-Tampered-clause-behind
returns-in-Some-Tampered-clause-behind g c = λ runs.
    let clash : Some (stop.Tampered c.in-Some-Tampered.number) ≡ None = sym (sym c.stop.ensures ∙ c.in-Some-Tampered.is ∙ ap Some c.in-Some-Tampered.field-0-is) ∙ runs in
    absurd (cc clash)
