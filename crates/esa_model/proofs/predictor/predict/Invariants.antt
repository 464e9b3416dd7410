use Rattle.std.proofs.Common.{◌≡◌, ◌+◌, ◌*◌, ◌≤◌, ◌++◌, length, map, true}
use Rattle.esa_params.specs.Sizes.{below}
use Rattle.esa_spec.specs.Draws.{drawn}
use Rattle.esa_spec.specs.Traces.{load, attempts, all_failed}
use Rattle.esa_model.specs.Forecast.{made_in, verdicts}
use Rattle.esa_model.specs.Ready.{IsReady}
use Rattle.esa_model.proofs.predictor.predict.Given as goal

abbrev pub invariant-loop-attempt : goal.invariant-loop-attempt
invariant-loop-attempt g l =
    let p = l.initial.distribution.lines.p in
    let ds = drawn (g.C.Coins.target_list l.coins) (g.C.Coins.order_list l.coins) in
    let hs = map (made_in p ds l.turns) (below l.attempt) in
    record {
      plan : l.distribution.lines.p ≡ p;
      ready : IsReady l.distribution l.forecast;
      failed : all_failed p ds 0 hs ≡ true;
      told : l.forecast.accesses ≡ load p ++ attempts p ds 0 hs;
      ended : l.forecast.verdicts ≡ verdicts p ds 0 hs;
      room : length l.forecast.accesses ≤ p.b + l.attempt * (2 * p.b * p.b + 4 * p.b);
      count : length l.forecast.verdicts ≡ l.attempt;
    }
