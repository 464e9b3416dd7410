use Rattle.std.proofs.Common.{[], take, drop, refl}
use Rattle.esa_params.specs.declared.slot.Op.TheVariants.{Read}
use Rattle.esa_params.specs.declared.slot.Region.TheVariants.{Mid}
use Rattle.esa_spec.specs.Cases.{accessed, base_trace}
use Rattle.esa_ending.proofs.cases.flip_at_eleven.Goals as goal

pub returns-clause-turns : goal.returns-clause-turns
returns-clause-turns c = refl

pub returns-clause-tampered : goal.returns-clause-tampered
returns-clause-tampered c = record {
  access = accessed Read Mid 0 0 177 2;
  cut = record {
    front = (drop 11 base_trace, refl);
    last = (take 10 base_trace, refl);
    turns = ([], refl);
    of_stored = (drop 11 base_trace, refl);
    history = refl;
  };
  slot = refl;
  reads = refl;
  closed = refl;
  calm = (refl, refl);
}
