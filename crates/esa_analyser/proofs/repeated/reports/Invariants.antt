use Rattle.std.proofs.Common.{◌≡◌, length, take}
use Rattle.esa_analyser.specs.Repeated.{all_keys}
use Rattle.esa_analyser.proofs.repeated.reports.Given as goal

abbrev pub invariant-loop-repeated : goal.invariant-loop-repeated
invariant-loop-repeated g l = record {
  counted : l.reports ≡ length (all_keys (take l.repeated-index l.list));
}
