-- The buckets before this one are loaded.
use Rattle.std.proofs.Common.{◌≡◌, ℕ, List}
use Rattle.esa_load.specs.Loads.{AreGiven, written_blocks}
use Rattle.esa_load.proofs.loader.load_all.Given as goal

abbrev pub invariant-loop-bucket : goal.invariant-loop-bucket
invariant-loop-bucket g l =
    record {
      given : (given : List ℕ) × AreGiven l.plan (g.R.Records.told l.fn.batch) (g.R.Records.part (g.R.Records.grounds l.fn.batch)) l.bucket given (written_blocks l.plan l.run given l.bucket)
          l.fn.recorder l.recorder (record { faults = g.R.Records.faults l.fn.batch; heard = g.R.Records.heard l.fn.batch }) (record { faults = g.R.Records.faults l.batch; heard = g.R.Records.heard l.batch });
      device : g.V.Device.faults l.recorder.device ≡ g.V.Device.faults l.fn.recorder.device;
      calm : g.R.Records.faults l.batch ≡ g.R.Records.faults l.fn.batch;
      told : g.R.Records.told l.batch ≡ g.R.Records.told l.fn.batch;
      grounds : g.R.Records.grounds l.batch ≡ g.R.Records.grounds l.fn.batch;
      count : g.R.Records.count l.batch ≡ g.R.Records.count l.fn.batch;
      size : g.R.Records.size l.batch ≡ g.R.Records.size l.fn.batch;
    }
