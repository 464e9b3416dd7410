use Rattle.std.proofs.Common.{◌++◌, length, map}
use Rattle.std.specs.Prelude.{All}
use Rattle.std.specs.List.Sorted.{IsPermutation}
use Rattle.esa_intake.specs.Standing.{IsSender, closed_of, closed_of_taker, AllBack}
use Rattle.esa_intake.proofs.intake.Intake.give_back.Given as goal

abbrev pub invariant-loop-sender : goal.invariant-loop-sender
invariant-loop-sender l = record {
  back : AllBack l.self l.fn.taker l.taker;
  each : All (IsSender l.self) l.left.items;
  closed : IsPermutation (closed_of_taker l.taker ++ map closed_of l.left.items) (map closed_of l.fn.senders.items);
}

abbrev pub decreases-loop-sender : goal.decreases-loop-sender
decreases-loop-sender l = length l.left.items
