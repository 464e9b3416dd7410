use Rattle.std.proofs.Common.{refl}
use Rattle.esa_floor.proofs.Faulting.{ended_gives}
use Rattle.esa_floor.proofs.Writing.{took-ended}
use Rattle.esa_floor.proofs.kept.ended_floors_are_kept.Goals as goal

pub returns : goal.returns
returns g c = λ p ds f outcome stands logged took failed gave. record {
  stands = stands;
  logged = logged;
  done = λ some. absurd (some refl);
  took = λ record_of items. took-ended ds record_of f outcome (took record_of items);
  failed = failed;
  reads = ended_gives ds f outcome gave;
}
