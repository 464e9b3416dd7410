use Rattle.esa_shuffle.proofs.Output.{batch_comes_out}
use Rattle.esa_shuffle.proofs.outputs.scans_are_given_the_batch.Goals as goal

pub returns : goal.returns
returns g c = λ p ds hs a outer run key drops t n given sent old new planned within drawn good long stored done faithful.
    batch_comes_out g.V.Device.told g.V.Device.faults p ds hs a outer run planned within drawn good n given long old new stored faithful key drops t sent done
