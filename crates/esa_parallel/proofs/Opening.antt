-- What is said of a run on the floor that a turnstile was opened on.
use Rattle.std.proofs.Common.{◌≡◌, ℕ, List, subst}
use Rattle.esa_device.specs.Recording.{Recorded}
use Rattle.esa_envelope.specs.declared.keys.Keys.{Keys}
use Rattle.esa_params.specs.Sizes.{Sizes}
use Rattle.esa_spec.specs.Draws.{Draw}
use Rattle.esa_spec.specs.Histories.{lists}
use Rattle.esa_spec.specs.declared.event.Verdict.{Verdict}
use Rattle.esa_floor.specs.declared.turn.Outcome.{Outcome}
use Rattle.esa_shuffle.specs.Runs.{EndsRun, opens_last, seen_of}

-- how a run ended is said of a plan, a key and a count of faults that are the floor's
pub ends_same : {V : Type 0} (faults : V → ℕ) (ds : ℕ → Draw) (p plan : Sizes) (run key : Keys) (count number before now : ℕ) (recorder : Recorded V) (history : List ℕ) (failures : List Verdict) (o : Outcome)
    → p ≡ plan → run ≡ key → count ≡ number
    → EndsRun p ds (lists p.workers history) (seen_of faults count before recorder history now) (opens_last p run recorder.last) failures o
    → EndsRun plan ds (lists plan.workers history) (seen_of faults number before recorder history now) (opens_last plan key recorder.last) failures o
ends_same faults ds p plan run key count number before now recorder history failures o same keys counts ends =
    subst (λ (q : Sizes). EndsRun q ds (lists q.workers history) (seen_of faults number before recorder history now) (opens_last q key recorder.last) failures o) same
    (subst (λ (k : Keys). EndsRun p ds (lists p.workers history) (seen_of faults number before recorder history now) (opens_last p k recorder.last) failures o) keys
    (subst (λ (n : ℕ). EndsRun p ds (lists p.workers history) (seen_of faults n before recorder history now) (opens_last p run recorder.last) failures o) counts ends))
