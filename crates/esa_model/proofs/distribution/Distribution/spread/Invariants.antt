use Rattle.std.proofs.Common.{◌≡◌, ℕ, ◌<◌, take, false}
use Rattle.esa_spec.specs.Completion.{completed}
use Rattle.esa_spec.specs.Draws.{drawn}
use Rattle.esa_spec.specs.Traces.{spread}
use Rattle.esa_spec.specs.Verdicts.{is_finished}
use Rattle.esa_model.specs.Recorded.{with_accesses}
use Rattle.esa_model.specs.Distributed.{IsOf, Stands}
use Rattle.esa_model.proofs.distribution.Distribution.spread.Given as goal

abbrev pub invariant-loop-made : goal.invariant-loop-made
invariant-loop-made g l =
    let p = l.initial.self.lines.p in
    let d = drawn (g.C.Coins.target_list l.coins) (g.C.Coins.order_list l.coins) l.attempt in
    record {
      sizes : IsOf p l.self;
      stands : Stands p d (take l.made (completed p l.turns)) l.self;
      unfinished : (x : ℕ) → x < l.made → is_finished p d (take x (completed p l.turns)) ≡ false;
      traced : l.trace ≡ with_accesses l.initial.trace (spread p d l.attempt (take l.made (completed p l.turns)));
    }
