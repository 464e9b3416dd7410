use Rattle.std.proofs.Common.{◌≡◌, ◌≢◌, refl}
use Rattle.esa_refusal.specs.declared.status.End.TheVariants.{Settled}
use Rattle.esa_refusal.specs.declared.status.Status.{Status}
use Rattle.esa_refusal.specs.declared.status.Status.TheVariants as status
use Rattle.esa_command.specs.Settled.{Went, whole, unwritten, unprinted, ending}
use Rattle.esa_command.proofs.laws.failed_status_stays.Goals as goal

stays : (ended : Status) (went : Went) → ended ≢ status.Ok → ending ended went ≡ Settled ended
stays ended whole other = refl
stays status.Ok (unwritten sink) other = absurd (other refl)
stays (status.Overflow failures) (unwritten sink) other = refl
stays status.Usage (unwritten sink) other = refl
stays (status.Refused refusal) (unwritten sink) other = refl
stays (status.DeviceFault at) (unwritten sink) other = refl
stays (status.OutsideFault role) (unwritten sink) other = refl
stays status.OutOfMemory (unwritten sink) other = refl
stays (status.Tampered slot) (unwritten sink) other = refl
stays status.Ok unprinted other = absurd (other refl)
stays (status.Overflow failures) unprinted other = refl
stays status.Usage unprinted other = refl
stays (status.Refused refusal) unprinted other = refl
stays (status.DeviceFault at) unprinted other = refl
stays (status.OutsideFault role) unprinted other = refl
stays status.OutOfMemory unprinted other = refl
stays (status.Tampered slot) unprinted other = refl

pub returns : goal.returns
returns c = stays
