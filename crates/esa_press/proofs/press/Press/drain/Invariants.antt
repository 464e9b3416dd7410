-- The targets before this one are drained.
use Rattle.std.proofs.Common.{◌≡◌, ◌<◌, ℕ, length}
use Rattle.std.specs.Prelude.{slice_index}
use Rattle.esa_stash.specs.Stash.{queue_at}
use Rattle.esa_press.specs.Drained.{AreDrained}
use Rattle.esa_press.proofs.press.Press.drain.Given as goal

abbrev pub invariant-loop-target : goal.invariant-loop-target
invariant-loop-target g l = record {
  drained : AreDrained g.V.Device.faults l.attempt l.target l.fn.floor l.floor;
  noted : (i : ℕ) → i < l.target → slice_index l.self.tails i ≡ length (queue_at l.fn.floor.stash i);
  others : l.self ≡ record l.fn.self { tails = l.self.tails };
}
