use Rattle.std.proofs.Common.{[], inr, ℕ, ◌≤◌, Err, refl, arith}
use Rattle.esa_device.specs.Laying.{Counted}
use Rattle.esa_device.specs.declared.device.LayRefused.TheVariants.{Failed}
use Rattle.esa_outside.specs.Cause.{Rose}
use Rattle.esa_refusal.specs.declared.status.DeviceAt.TheVariants.{Lay}
use Rattle.esa_refusal.specs.declared.status.Status.TheVariants.{DeviceFault}
use Rattle.esa_command.specs.Doing.{failed_work}
use Rattle.esa_command.specs.Stand.{stand}
use Rattle.esa_command.proofs.Settling.{none_written}
use Rattle.esa_taking.specs.RunTaken.{run_taken}
use Rattle.esa_taking.specs.Wanted.{sizes_in}
use Rattle.esa_running.proofs.ByCrew.{none_by_crew}
use Rattle.esa_running.proofs.Asking.{can_be_asked}
use Rattle.esa_running.proofs.ComingOut.{none_loaded, none_became, none_recorded}
use Rattle.esa_running.proofs.Turned.{few_stored}
use Rattle.esa_running.proofs.threaded.act_by_crew.Goals as goal

-- none are no more than are planned
none_few : (planned : ℕ) → 0 ≤ planned
none_few planned = omega arith

failed_cause : (before now : ℕ) → Counted {T = Unit {0}} before now (Err Failed) → Rose before now
failed_cause before now counted = counted.1

pub returns : goal.returns
returns g c =
    let cabinet = stand g.K.Cabinet.told g.K.Cabinet.faults g.K.Cabinet.heard c.args.cabinet.now in
    record {
      work = failed_work (DeviceFault Lay) [];
      acted = cabinet;
      owes = record {
        can = can_be_asked c.args.input.now c.requires.taken;
        given = [];
        load = none_loaded (run_taken c.args.input.now) cabinet;
        became = none_became (run_taken c.args.input.now) c.ready.new.self.log c.ready.ensures.log;
        few = few_stored (run_taken c.args.input.now) [] c.requires.mode (none_few (sizes_in (run_taken c.args.input.now)).attempts);
        crew = none_by_crew (run_taken c.args.input.now);
        ends = inr (inr (inr (inr (inr (record { trace = c.ready.ensures.trace; history = refl; cause = failed_cause _ _ (rw c.in-Err-Failed.field-0-is at c.in-Err-Failed.ensures.cause); batch = refl; owed = refl })))));
        recorder = none_recorded g.V.Device.told (sizes_in (run_taken c.args.input.now)) c.ready.new.self c.ready.ensures.trace c.ready.ensures.log c.ready.ensures.last;
        still = refl;
      };
      settles = c.settle_failed.ensures [] cabinet cabinet (none_written cabinet);
    }
