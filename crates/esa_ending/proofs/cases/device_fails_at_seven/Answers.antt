use Rattle.std.proofs.Common.{[], ◌∷◌, replicate, take, drop, refl, arith}
use Rattle.esa_params.specs.declared.slot.Op.TheVariants.{Write}
use Rattle.esa_params.specs.declared.slot.Region.TheVariants.{Mid}
use Rattle.esa_spec.specs.Cases.{accessed, base_trace}
use Rattle.esa_ending.proofs.cases.device_fails_at_seven.Goals as goal

pub returns-clause-turns : goal.returns-clause-turns
returns-clause-turns c = (refl, record { before = replicate 8 0; worker = 0; turns = refl; made = refl })

pub returns-clause-fails : goal.returns-clause-fails
returns-clause-fails c = record {
  access = accessed Write Mid 0 2 177 4;
  cut = record {
    front = (drop 7 base_trace, refl);
    last = (take 6 base_trace, refl);
    turns = (0 ∷ [], refl);
    of_stored = ([], refl);
    history = refl;
  };
  slot = refl;
  cause = omega arith;
  batch = refl;
}
